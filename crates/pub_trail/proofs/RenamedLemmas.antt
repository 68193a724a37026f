-- A resolution under other numbers is the resolution of the two under those numbers.
use Rattle.std.proofs.Common.{◌≡◌, ◌≢◌, ℕ, ◌<◌, ◌≤◌, ◌==◌, true, false, ◌||◌, nat_lt, cond, List, [], ◌∷◌, ◌++◌, Option, Some, None, refl, sym, ap, ap₂, ◌∙◌, subst, inl, inr, arith, eqb-true, eq-eqb, ne_eqb, ltb-true, ltb-false}
use Rattle.std.proofs.lemmas.Bool.{cases_eq, cases_order, cond-false, cond-true, cond_both, false≢true, or_cases, or_from, or_left, or_right}
use Rattle.pub_set.specs.Choices.{ChoiceSet, is_among}
use Rattle.pub_term.specs.Resolvent.{insert_node, joined, nodes_of, resolvent, with_node}
use Rattle.pub_term.specs.Term.{AreNodesAscending, set_at}
use Rattle.pub_term.specs.declared.term.Term.{Term}
use Rattle.pub_term.proofs.AboveLemmas.{AreAbove, AreAbove-lower, AreAbove-tail, AreNodesAscending-cons, AreNodesAscending-tail, AreUp, AreUp-nodes_of, node_list, set_at-head, set_at-none, set_at-tail}
use Rattle.pub_term.proofs.ResolventLemmas.{AreNodesAscending-resolvent, set_of_both, terms_on}
use Rattle.pub_trail.specs.Renamed.{IsNumbering, insert_term, renamed}

-- ---- ascending terms are told by their sets

-- ascending terms with the same sets on each node are equal
pub terms_same : (xs ys : List Term) → AreNodesAscending xs → AreNodesAscending ys → ((node : ℕ) → set_at xs node ≡ set_at ys node) → xs ≡ ys
terms_same [] [] up_x up_y same = refl
terms_same [] (y ∷ ys) up_x up_y same =
    let e : None ≡ Some y.choices = same y.node ∙ set_at-head y ys y.node refl in
    cc
terms_same (x ∷ xs) [] up_x up_y same =
    let e : Some x.choices ≡ None = sym (set_at-head x xs x.node refl) ∙ same x.node in
    cc
terms_same (x ∷ xs) (y ∷ ys) up_x up_y same =
    elim (cases_order x.node y.node) [
      | inl equal ↦
          (let sets : Some x.choices ≡ Some y.choices
          = sym (set_at-head x xs x.node refl) ∙ same x.node ∙ set_at-head y ys x.node (sym equal) in
          let set : x.choices ≡ y.choices = cc in
          ap₂ ◌∷◌ (ap₂ term_at equal set)
          (terms_same xs ys (AreNodesAscending-tail x xs up_x) (AreNodesAscending-tail y ys up_y)
          (λ node.
          elim (cases_eq x.node node) [
            | inl here ↦
                set_at-none x.node xs node (omega arith) (AreAbove-tail x xs up_x)
                ∙ sym (set_at-none y.node ys node (omega arith) (AreAbove-tail y ys up_y))
            | inr other ↦
                sym (set_at-tail x xs node other) ∙ same node ∙ set_at-tail y ys node (λ e. other (equal ∙ e))
          ])))
      | inr apart ↦
          elim apart [
            | inl less ↦
                (let none : set_at (y ∷ ys) x.node ≡ None
                = set_at-tail y ys x.node (λ e. omega arith) ∙ set_at-none y.node ys x.node (omega arith) (AreAbove-tail y ys up_y) in
                let e : Some x.choices ≡ None = sym (set_at-head x xs x.node refl) ∙ same x.node ∙ none in
                cc)
            | inr more ↦
                (let none : set_at (x ∷ xs) y.node ≡ None
                = set_at-tail x xs y.node (λ e. omega arith) ∙ set_at-none x.node xs y.node (omega arith) (AreAbove-tail x xs up_x) in
                let e : Some y.choices ≡ None = sym (set_at-head y ys y.node refl) ∙ sym (same y.node) ∙ none in
                cc)
          ]
    ]
  where
    term_at : ℕ → ChoiceSet → Term
    term_at node set = record { node = node; choices = set }

-- ---- the sets of a resolution

-- a node below all others isn't among them
above_none : (low : ℕ) (nodes : List ℕ) (node : ℕ) → AreAbove low nodes → node ≤ low → is_among nodes node ≡ false
above_none low [] node above below = refl
above_none low (other ∷ others) node above below =
    or_from (other == node) (is_among others node) (ne_eqb other node (λ e. omega (arith, above.0))) (above_none low others node above.1 below)

-- the set that a node gets
set_at-with_node_same : (node : ℕ) (set : Option ChoiceSet) (rest : List Term) → set_at rest node ≡ None → set_at (with_node node set ++ rest) node ≡ set
set_at-with_node_same node None rest none = none
set_at-with_node_same node (Some set) rest none = cond-true (node == node) (Some set) (set_at rest node) (eq-eqb node node refl)

-- other nodes keep theirs
set_at-with_node_other : (other node : ℕ) (set : Option ChoiceSet) (rest : List Term) → other ≢ node → set_at (with_node other set ++ rest) node ≡ set_at rest node
set_at-with_node_other other node None rest differs = refl
set_at-with_node_other other node (Some set) rest differs = cond-false (other == node) (Some set) (set_at rest node) (ne_eqb other node differs)

-- the set of a node among those that are written
set_at-terms_on : (f : ℕ → Option ChoiceSet) (nodes : List ℕ) (node : ℕ) → AreUp nodes → set_at (terms_on f nodes) node ≡ cond (is_among nodes node) (f node) None
set_at-terms_on f [] node up = refl
set_at-terms_on f (other ∷ others) node up =
    let rest = set_at-terms_on f others node up.1 in
    elim (cases_eq other node) [
      | inl same ↦
          (let none : set_at (terms_on f others) node ≡ None
          = rest ∙ cond-false (is_among others node) (f node) None (above_none other others node up.0 (omega arith)) in
          subst (λ n. set_at (with_node n (f n) ++ terms_on f others) node ≡ f node) (sym same) (set_at-with_node_same node (f node) (terms_on f others) none)
          ∙ sym (cond-true (is_among (other ∷ others) node) (f node) None (or_left (other == node) (is_among others node) (eq-eqb other node same))))
      | inr differs ↦
          set_at-with_node_other other node (f other) (terms_on f others) differs ∙ rest
          ∙ ap (λ b. cond (b || is_among others node) (f node) None) (sym (ne_eqb other node differs))
    ]

-- a node that was put is there
among_new : (node : ℕ) (nodes : List ℕ) → is_among (insert_node node nodes) node ≡ true
among_new node [] = or_left (node == node) false (eq-eqb node node refl)
among_new node (other ∷ others) =
    cond_both (nat_lt node other) (node ∷ other ∷ others) (cond (node == other) (other ∷ others) (other ∷ insert_node node others))
    (λ nodes. is_among nodes node ≡ true)
    (λ _. or_left (node == node) (is_among (other ∷ others) node) (eq-eqb node node refl))
    (λ _.
    cond_both (node == other) (other ∷ others) (other ∷ insert_node node others) (λ nodes. is_among nodes node ≡ true)
    (λ same. or_left (other == node) (is_among others node) (eq-eqb other node (sym (eqb-true node other same))))
    (λ _. or_right (other == node) (is_among (insert_node node others) node) (among_new node others)))

-- and so are the others
among_old : (node : ℕ) (nodes : List ℕ) (k : ℕ) → is_among nodes k ≡ true → is_among (insert_node node nodes) k ≡ true
among_old node [] k here = absurd (false≢true here)
among_old node (other ∷ others) k here =
    cond_both (nat_lt node other) (node ∷ other ∷ others) (cond (node == other) (other ∷ others) (other ∷ insert_node node others))
    (λ nodes. is_among nodes k ≡ true)
    (λ _. or_right (node == k) (is_among (other ∷ others) k) here)
    (λ _.
    cond_both (node == other) (other ∷ others) (other ∷ insert_node node others) (λ nodes. is_among nodes k ≡ true)
    (λ _. here)
    (λ _.
    elim (or_cases (other == k) (is_among others k) here) [
      | inl same ↦ or_left (other == k) (is_among (insert_node node others) k) same
      | inr behind ↦ or_right (other == k) (is_among (insert_node node others) k) (among_old node others k behind)
    ]))

-- the nodes of the second terms are among those of both
among_second : (first second : List Term) (k : ℕ) (set : ChoiceSet) → set_at second k ≡ Some set → is_among (nodes_of first second) k ≡ true
among_second [] [] k set at = cc
among_second [] (term ∷ second) k set at =
    elim (cases_eq term.node k) [
      | inl same ↦ or_left (term.node == k) (is_among (node_list second) k) (eq-eqb term.node k same)
      | inr differs ↦
          or_right (term.node == k) (is_among (node_list second) k) (among_second [] second k set (sym (set_at-tail term second k differs) ∙ at))
    ]
among_second (term ∷ first) second k set at = among_old term.node (nodes_of first second) k (among_second first second k set at)

-- and so are those of the first
among_first : (first second : List Term) (k : ℕ) (set : ChoiceSet) → set_at first k ≡ Some set → is_among (nodes_of first second) k ≡ true
among_first [] second k set at = cc
among_first (term ∷ first) second k set at =
    elim (cases_eq term.node k) [
      | inl same ↦
          subst (λ n. is_among (insert_node term.node (nodes_of first second)) n ≡ true) same (among_new term.node (nodes_of first second))
      | inr differs ↦
          among_old term.node (nodes_of first second) k (among_first first second k set (sym (set_at-tail term first k differs) ∙ at))
    ]

-- a resolution's set on a node is the joint of both
pub set_at-resolvent : (first second : List Term) (on node : ℕ) → AreNodesAscending second
    → set_at (resolvent first second on) node ≡ joined (node == on) (set_at first node) (set_at second node)
set_at-resolvent first second on node up =
    set_at-terms_on (set_of_both first second on) (nodes_of first second) node (AreUp-nodes_of first second up)
    ∙ named (set_at first node) (set_at second node) refl refl
  where
    named : (a b : Option ChoiceSet) → set_at first node ≡ a → set_at second node ≡ b
        → cond (is_among (nodes_of first second) node) (joined (node == on) (set_at first node) (set_at second node)) None
        ≡ joined (node == on) (set_at first node) (set_at second node)
    named (Some a) b at_a at_b = cond-true (is_among (nodes_of first second) node) _ _ (among_first first second node a at_a)
    named None (Some b) at_a at_b = cond-true (is_among (nodes_of first second) node) _ _ (among_second first second node b at_b)
    named None None at_a at_b =
        let none : joined (node == on) (set_at first node) (set_at second node) ≡ None = ap₂ (joined (node == on)) at_a at_b in
        cond_both (is_among (nodes_of first second) node) (joined (node == on) (set_at first node) (set_at second node)) None
        (λ s. s ≡ joined (node == on) (set_at first node) (set_at second node)) (λ _. refl) (λ _. sym none)

-- ---- other numbers

-- the set of a term that was put
set_at-insert_same : (term : Term) (terms : List Term) (node : ℕ) → term.node ≡ node → set_at terms node ≡ None → set_at (insert_term term terms) node ≡ Some term.choices
set_at-insert_same term [] node same none = set_at-head term [] node same
set_at-insert_same term (other ∷ others) node same none =
    cond_both (nat_lt term.node other.node) (term ∷ other ∷ others) (other ∷ insert_term term others) (λ ts. set_at ts node ≡ Some term.choices)
    (λ _. set_at-head term (other ∷ others) node same)
    (λ _.
    elim (cases_eq other.node node) [
      | inl equal ↦ (let e : Some other.choices ≡ None = sym (set_at-head other others node equal) ∙ none in cc)
      | inr differs ↦
          set_at-tail other (insert_term term others) node differs
          ∙ set_at-insert_same term others node same (sym (set_at-tail other others node differs) ∙ none)
    ])

-- other terms keep theirs
set_at-insert_other : (term : Term) (terms : List Term) (node : ℕ) → term.node ≢ node → set_at (insert_term term terms) node ≡ set_at terms node
set_at-insert_other term [] node differs = set_at-tail term [] node differs
set_at-insert_other term (other ∷ others) node differs =
    cond_both (nat_lt term.node other.node) (term ∷ other ∷ others) (other ∷ insert_term term others) (λ ts. set_at ts node ≡ set_at (other ∷ others) node)
    (λ _. set_at-tail term (other ∷ others) node differs)
    (λ _.
    elim (cases_eq other.node node) [
      | inl equal ↦ set_at-head other (insert_term term others) node equal ∙ sym (set_at-head other others node equal)
      | inr apart ↦
          set_at-tail other (insert_term term others) node apart ∙ set_at-insert_other term others node differs
          ∙ sym (set_at-tail other others node apart)
    ])

-- a term above a node, put among those above it
above_insert : (low : ℕ) (term : Term) (terms : List Term) → low < term.node → AreAbove low (node_list terms) → AreAbove low (node_list (insert_term term terms))
above_insert low term [] below above = (below, tt)
above_insert low term (other ∷ others) below above =
    cond_both (nat_lt term.node other.node) (term ∷ other ∷ others) (other ∷ insert_term term others) (λ ts. AreAbove low (node_list ts))
    (λ _. (below, above)) (λ _. (above.0, above_insert low term others below above.1))

-- a term put among ascending ones
up_insert : (term : Term) (terms : List Term) → AreNodesAscending terms → set_at terms term.node ≡ None → AreNodesAscending (insert_term term terms)
up_insert term [] up none = tt
up_insert term (other ∷ others) up none =
    cond_both (nat_lt term.node other.node) (term ∷ other ∷ others) (other ∷ insert_term term others) AreNodesAscending
    (λ less.
    let below = ltb-true term.node other.node less in
    AreNodesAscending-cons term (other ∷ others) (below, AreAbove-lower term.node other.node (node_list others) (omega arith) (AreAbove-tail other others up)) up)
    (λ not_less.
    elim (cases_eq other.node term.node) [
      | inl equal ↦ (let e : Some other.choices ≡ None = sym (set_at-head other others term.node equal) ∙ none in cc)
      | inr apart ↦
          AreNodesAscending-cons other (insert_term term others)
          (above_insert other.node term others (omega (arith, ltb-false term.node other.node not_less, apart)) (AreAbove-tail other others up))
          (up_insert term others (AreNodesAscending-tail other others up) (sym (set_at-tail other others term.node apart) ∙ none))
    ])

-- a term under another number
abbrev under : (ℕ → ℕ) → Term → Term
under number term = record { node = number term.node; choices = term.choices }

-- the first node isn't named again
tail_none : (term : Term) (terms : List Term) → AreNodesAscending (term ∷ terms) → set_at terms term.node ≡ None
tail_none term terms up = set_at-none term.node terms term.node (omega arith) (AreAbove-tail term terms up)

-- a renumbered node keeps its set
pub set_at-renamed : (number : ℕ → ℕ) (terms : List Term) (node : ℕ) → IsNumbering number → AreNodesAscending terms
    → set_at (renamed number terms) (number node) ≡ set_at terms node
set_at-renamed number [] node apart up = refl
set_at-renamed number (term ∷ terms) node apart up =
    let rest = set_at-renamed number terms node apart (AreNodesAscending-tail term terms up) in
    elim (cases_eq term.node node) [
      | inl same ↦
          set_at-insert_same (under number term) (renamed number terms) (number node) (ap number same)
          (rest ∙ subst (λ n. set_at terms n ≡ None) same (tail_none term terms up))
          ∙ sym (set_at-head term terms node same)
      | inr differs ↦
          set_at-insert_other (under number term) (renamed number terms) (number node) (λ e. differs (apart term.node node e)) ∙ rest
          ∙ sym (set_at-tail term terms node differs)
    ]

-- renumbered terms ascend
pub AreNodesAscending-renamed : (number : ℕ → ℕ) (terms : List Term) → IsNumbering number → AreNodesAscending terms → AreNodesAscending (renamed number terms)
AreNodesAscending-renamed number [] apart up = tt
AreNodesAscending-renamed number (term ∷ terms) apart up =
    let tail = AreNodesAscending-tail term terms up in
    up_insert (under number term) (renamed number terms) (AreNodesAscending-renamed number terms apart tail)
    (set_at-renamed number terms term.node apart tail ∙ tail_none term terms up)

-- a node under the numbers is one of before
pub record IsOld (number : ℕ → ℕ) (terms : List Term) (node : ℕ) (set : ChoiceSet) : Type 0 where
  pub old : ℕ
  pub is : number old ≡ node
  pub at : set_at terms old ≡ Some set

-- a renumbered term comes from one
pub some_renamed : (number : ℕ → ℕ) (terms : List Term) (node : ℕ) (set : ChoiceSet) → IsNumbering number → AreNodesAscending terms
    → set_at (renamed number terms) node ≡ Some set → IsOld number terms node set
some_renamed number [] node set apart up at = cc
some_renamed number (term ∷ terms) node set apart up at =
    elim (cases_eq (number term.node) node) [
      | inl same ↦
          record {
            old = term.node;
            is = same;
            at = sym (set_at-renamed number (term ∷ terms) term.node apart up) ∙ ap (set_at (renamed number (term ∷ terms))) same ∙ at;
          }
      | inr differs ↦
          (let rest = some_renamed number terms node set apart (AreNodesAscending-tail term terms up)
          (sym (set_at-insert_other (under number term) (renamed number terms) node differs) ∙ at) in
          record {
            old = rest.old;
            is = rest.is;
            at = set_at-tail term terms rest.old (λ e. differs (ap number e ∙ rest.is)) ∙ rest.at;
          })
    ]

-- renumbering commutes with resolution
pub renamed-resolvent : (number : ℕ → ℕ) (first second : List Term) (on : ℕ) → IsNumbering number → AreNodesAscending first → AreNodesAscending second
    → renamed number (resolvent first second on) ≡ resolvent (renamed number first) (renamed number second) (number on)
renamed-resolvent number first second on apart up_first up_second =
    terms_same (renamed number (resolvent first second on)) (resolvent (renamed number first) (renamed number second) (number on))
    (AreNodesAscending-renamed number (resolvent first second on) apart up) (AreNodesAscending-resolvent (renamed number first) (renamed number second) (number on) renamed_up)
    (λ node. each node (set_at (renamed number (resolvent first second on)) node) refl (set_at (renamed number first) node) refl (set_at (renamed number second) node) refl)
  where
    up : AreNodesAscending (resolvent first second on)
    up = AreNodesAscending-resolvent first second on up_second

    renamed_up : AreNodesAscending (renamed number second)
    renamed_up = AreNodesAscending-renamed number second apart up_second

    same_test : (x y : ℕ) → (number x == number y) ≡ (x == y)
    same_test x y = elim (cases_eq x y) [
      | inl same ↦ eq-eqb (number x) (number y) (ap number same) ∙ sym (eq-eqb x y same)
      | inr differs ↦ ne_eqb (number x) (number y) (λ e. differs (apart x y e)) ∙ sym (ne_eqb x y differs)
    ]

    -- at the number of a node
    at_old : (old : ℕ) → set_at (renamed number (resolvent first second on)) (number old)
        ≡ set_at (resolvent (renamed number first) (renamed number second) (number on)) (number old)
    at_old old =
        set_at-renamed number (resolvent first second on) old apart up ∙ set_at-resolvent first second on old up_second
        ∙ ap (λ b. joined b (set_at first old) (set_at second old)) (sym (same_test old on))
        ∙ ap₂ (joined (number old == number on)) (sym (set_at-renamed number first old apart up_first)) (sym (set_at-renamed number second old apart up_second))
        ∙ sym (set_at-resolvent (renamed number first) (renamed number second) (number on) (number old) renamed_up)

    at_node : (node old : ℕ) → number old ≡ node → set_at (renamed number (resolvent first second on)) node
        ≡ set_at (resolvent (renamed number first) (renamed number second) (number on)) node
    at_node node old is =
        subst (λ n. set_at (renamed number (resolvent first second on)) n ≡ set_at (resolvent (renamed number first) (renamed number second) (number on)) n)
        is (at_old old)

    each : (node : ℕ) (whole : Option ChoiceSet) → set_at (renamed number (resolvent first second on)) node ≡ whole
        → (a : Option ChoiceSet) → set_at (renamed number first) node ≡ a → (b : Option ChoiceSet) → set_at (renamed number second) node ≡ b
        → set_at (renamed number (resolvent first second on)) node ≡ set_at (resolvent (renamed number first) (renamed number second) (number on)) node
    each node (Some set) at a at_a b at_b =
        let old = some_renamed number (resolvent first second on) node set apart up at in
        at_node node old.old old.is
    each node None at (Some a) at_a b at_b =
        let old = some_renamed number first node a apart up_first at_a in
        at_node node old.old old.is
    each node None at None at_a (Some b) at_b =
        let old = some_renamed number second node b apart up_second at_b in
        at_node node old.old old.is
    each node None at None at_a None at_b =
        at ∙ sym (set_at-resolvent (renamed number first) (renamed number second) (number on) node renamed_up ∙ ap₂ (joined (node == number on)) at_a at_b)
