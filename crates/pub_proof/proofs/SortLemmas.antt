-- The terms of a fact in the order of their nodes: what a stable sort by the node gives.
use Rattle.std.proofs.Common.{◌≡◌, ℕ, zero, suc, ◌+◌, ◌<◌, ◌≤◌, ◌==◌, ◌&&◌, ◌||◌, Bool, true, false, not, nat_lt, List, [], ◌∷◌, ◌++◌, length, map, unwrap_or, if◌then◌else◌, refl, sym, ap, ap₂, ◌∙◌, inl, inr, arith, append-nil, ne_eqb}
use Rattle.std.specs.List.{All, filter, flat_map}
use Rattle.std.specs.List.Sorted.{IsNonDecreasingBy, IsPermutation, IsSortedByKey, IsStableByKey, ties}
use Rattle.std.specs.Ordering.{is_lt, nat_cmp}
use Rattle.std.proofs.lemmas.Bool.{cases_Bool, eqb-true, false≢true, le-ltb, lt-ltb, ltb-true}
use Rattle.std.proofs.lemmas.List.Concat.{flat_map-append}
use Rattle.std.proofs.lemmas.List.Elements.{All-cons, All-head, All-tail}
use Rattle.std.proofs.lemmas.List.Sorted.{All-permutation, IsNonDecreasingBy-from_sort}
use Rattle.pub_set.specs.Choices.{no_choices, numbers_below}
use Rattle.pub_term.specs.NodeLaws.{node_eq}
use Rattle.pub_term.specs.declared.node.NodeName.{NodeName}
use Rattle.pub_term.specs.declared.term.Term.{Term}
use Rattle.pub_proof.specs.File.{NodeList, WrittenTerm, by_node, number_of, place_after, term_of}

-- ---- the terms of one node, in both lists

-- a term on a lesser node
abbrev is_before : Term → Term → Bool
is_before first second = is_lt (nat_cmp first.node second.node)

-- nodes that no order tells apart are one
tied_is_same : (m n : ℕ) → (not (is_lt (nat_cmp n m)) && not (is_lt (nat_cmp m n))) ≡ (m == n)
tied_is_same m n = grind arith

-- a term on a node, for its number alone
abbrev of_node : ℕ → Term
of_node number = record { node = number; choices = no_choices 0 }

-- a stable sort keeps the terms on each node in their order
same_of_node : (xs ys : List Term) → IsStableByKey (λ (term : Term). term.node) nat_cmp xs ys → (number : ℕ)
    → filter (λ (term : Term). term.node == number) ys ≡ filter (λ (term : Term). term.node == number) xs
same_of_node xs ys stable number =
    let same : (term : Term) → ties is_before (of_node number) term ≡ (term.node == number) = λ term. tied_is_same term.node number in
    sym (ap (λ (test : Term → Bool). filter test ys) (λ j term. same term j)) ∙ stable (of_node number) ∙ ap (λ (test : Term → Bool). filter test xs) (λ j term. same term j)

-- so what is gathered node by node stays the same
by_node-stable : (numbers : List ℕ) (xs ys : List Term) → IsStableByKey (λ (term : Term). term.node) nat_cmp xs ys → by_node numbers ys ≡ by_node numbers xs
by_node-stable numbers xs ys stable = ap (λ (of : ℕ → List Term). flat_map of numbers) (λ j number. same_of_node xs ys stable number j)

-- ---- a list in order

-- the nodes don't fall, from this number on
abbrev DoRise : ℕ → List Term → Type 0
DoRise low [] = Unit {0}
DoRise low (term ∷ terms) = (low ≤ term.node) × DoRise term.node terms

-- terms whose nodes don't fall rise from the first on
do_rise : (low : ℕ) (term : Term) (terms : List Term) → low ≤ term.node → IsNonDecreasingBy (λ (t : Term). t.node) (term ∷ terms) → DoRise low (term ∷ terms)
do_rise low term [] from up = (from, tt)
do_rise low term (next ∷ terms) from up =
    (from, do_rise term.node next terms (up 0 1 term (omega arith) (omega arith)) (λ i j d to below. up (suc i) (suc j) d (omega (arith, to)) (omega (arith, below))))

-- and so from 0 on
do_all_rise : (terms : List Term) → IsNonDecreasingBy (λ (t : Term). t.node) terms → DoRise 0 terms
do_all_rise [] up = tt
do_all_rise (term ∷ terms) up = do_rise 0 term terms (omega arith) up

-- the terms on lesser nodes
abbrev below : ℕ → List Term → List Term
below number terms = filter (λ (term : Term). nat_lt term.node number) terms

-- there are none below the least
none_below : (number low : ℕ) (terms : List Term) → number ≤ low → DoRise low terms → below number terms ≡ []
none_below number low [] from rise = refl
none_below number low (term ∷ terms) from rise =
    ap (λ (at : Bool). if at then term ∷ below number terms else below number terms) (le-ltb term.node number (omega (arith, from, rise.0)))
    ∙ none_below number term.node terms (omega (arith, from, rise.0)) rise.1

-- the step of one term, which is below, on the node, or above
one_step : (before here up : Bool) (term : Term) (xs ys zs : List Term) → xs ++ ys ≡ zs → up ≡ (before || here)
    → (before ≡ true → here ≡ false) → (here ≡ true → xs ≡ [])
    → (if before then term ∷ xs else xs) ++ (if here then term ∷ ys else ys) ≡ (if up then term ∷ zs else zs)
one_step true true up term xs ys zs more is apart none = absurd (false≢true (sym (apart refl)))
one_step true false up term xs ys zs more is apart none = ap (λ l. term ∷ l) more ∙ ap (λ (at : Bool). if at then term ∷ zs else zs) (sym is)
one_step false true up term xs ys zs more is apart none =
    ap (λ l. l ++ term ∷ ys) (none refl) ∙ ap (λ l. term ∷ l) (sym (ap (λ l. l ++ ys) (none refl)) ∙ more) ∙ ap (λ (at : Bool). if at then term ∷ zs else zs) (sym is)
one_step false false up term xs ys zs more is apart none = more ∙ ap (λ (at : Bool). if at then term ∷ zs else zs) (sym is)

-- those below a node and those on it are those below the next
one_more : (number low : ℕ) (terms : List Term) → DoRise low terms
    → below number terms ++ filter (λ (term : Term). term.node == number) terms ≡ below (suc number) terms
one_more number low [] rise = refl
one_more number low (term ∷ terms) rise =
    one_step (nat_lt term.node number) (term.node == number) (nat_lt term.node (suc number)) term (below number terms)
    (filter (λ (t : Term). t.node == number) terms) (below (suc number) terms) (one_more number term.node terms rise.1) (grind arith)
    (λ less. let lt = ltb-true term.node number less in ne_eqb term.node number (λ e. omega arith))
    (λ same. let e = eqb-true term.node number same in none_below number term.node terms (omega arith) rise.1)

-- so what is gathered up to a node is what is below it
by_node-below : (count : ℕ) (terms : List Term) → DoRise 0 terms → by_node (numbers_below count) terms ≡ below count terms
by_node-below zero terms rise = sym (none_below 0 0 terms (omega arith) rise)
by_node-below (suc count) terms rise =
    flat_map-append (λ number. filter (λ (term : Term). term.node == number) terms) (numbers_below count) (count ∷ [])
    ∙ ap₂ ◌++◌ (by_node-below count terms rise) (append-nil (filter (λ (term : Term). term.node == count) terms))
    ∙ one_more count 0 terms rise

-- all terms are below a node that is above all
all_below : (count : ℕ) (terms : List Term) → All (λ (term : Term). term.node < count) terms → below count terms ≡ terms
all_below count [] all = refl
all_below count (term ∷ terms) all =
    ap (λ (at : Bool). if at then term ∷ below count terms else below count terms) (lt-ltb term.node count (All-head (λ (t : Term). t.node < count) term terms all))
    ∙ ap (λ rest. term ∷ rest) (all_below count terms (All-tail (λ (t : Term). t.node < count) term terms all))

-- so sorted terms are the terms gathered node by node
pub by_node-sorted : (count : ℕ) (xs ys : List Term) → All (λ (term : Term). term.node < count) xs → IsPermutation xs ys
    → IsSortedByKey (λ (term : Term). term.node) nat_cmp ys → IsStableByKey (λ (term : Term). term.node) nat_cmp xs ys
    → ys ≡ by_node (numbers_below count) xs
by_node-sorted count xs ys all permutation sorted stable =
    sym (all_below count ys (All-permutation (λ (term : Term). term.node < count) xs ys permutation all))
    ∙ sym (by_node-below count ys (do_all_rise ys (IsNonDecreasingBy-from_sort (λ (term : Term). term.node) ys sorted)))
    ∙ by_node-stable (numbers_below count) xs ys stable

-- ---- the numbers of nodes

-- a place that is none is that behind the last
place_after-below : (place : ℕ) (nodes : List NodeName) (name : NodeName) → unwrap_or (place_after place nodes name) (place + length nodes) ≤ place + length nodes
place_after-below place [] name = omega arith
place_after-below place (node ∷ nodes) name =
    elim (cases_Bool (node_eq node name)) [
      | inl here ↦ rw here (omega arith)
      | inr other ↦ rw other (let rest = place_after-below (suc place) nodes name in grind (arith, rest))
    ]

-- the number of a name is below one more than the names
number_of-below : (nodes : NodeList) (name : NodeName) → number_of nodes name < suc (length nodes.names)
number_of-below nodes name = let least = place_after-below 0 nodes.names name in grind (arith, least)

-- and so are those of all terms
pub numbered_below : (nodes : NodeList) (written : List WrittenTerm) → All (λ (term : Term). term.node < suc (length nodes.names)) (map (term_of nodes) written)
numbered_below nodes [] = λ k d below. absurd (omega (arith, below))
numbered_below nodes (term ∷ written) =
    All-cons (λ (t : Term). t.node < suc (length nodes.names)) (term_of nodes term) (map (term_of nodes) written) (number_of-below nodes term.0) (numbered_below nodes written)
