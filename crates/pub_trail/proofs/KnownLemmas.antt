-- What is kept of the nodes, and what of it the definitions ask.
use Rattle.std.proofs.Common.{◌≡◌, ℕ, zero, suc, ◌+◌, ◌<◌, ◌==◌, Bool, true, false, not, ◌&&◌, ◌||◌, cond, List, [], ◌∷◌, ◌++◌, length, get_or, reverse, set, take, slice_index, refl, sym, ap, ap₂, ◌∙◌, subst, inl, inr, arith, eq-eqb, ne_eqb, lt-ltb, length-set}
use Rattle.std.specs.List.{filter}
use Rattle.std.proofs.lemmas.Bool.{cases_eq, cases_lt, false≢true}
use Rattle.std.proofs.lemmas.List.{get_or-set_other, get_or-set_same, get_or_append_left, get_or_push, get_or_read, length_push, reverse-append, take_more}
use Rattle.pub_set.specs.Choices.{ChoiceSet, has, intersection, is_within, no_choices, numbers_below, set_where}
use Rattle.pub_set.proofs.AscendingLemmas.{is_among-where}
use Rattle.pub_term.specs.Known.{AreKnown, known_at}
use Rattle.pub_term.specs.Known as kept
use Rattle.pub_term.specs.declared.term.Term.{Term}
use Rattle.pub_trail.specs.Invariant.{AreFormed, AreSized}
use Rattle.pub_trail.specs.KnownOf.{AreLeft, CanHold, IsEntry}
use Rattle.pub_trail.specs.Turn.{newest_from, or_some, when_true}
use Rattle.pub_trail.specs.Walk.{terms_of}
use Rattle.pub_term.specs.declared.term.Incompat.{Incompat}
use Rattle.std.specs.List.{All}
use Rattle.std.proofs.lemmas.List.Elements.{All-cons, All-nil}
use Rattle.pub_trail.specs.Trail.{accum, allows, holds}
use Rattle.pub_trail.specs.declared.trail.Assigned.{Assigned}

-- ---- sets by equal tests

-- equal tests keep the same numbers
filter_same : (p q : ℕ → Bool) (n : ℕ) → ((k : ℕ) → k < n → p k ≡ q k) → filter p (numbers_below n) ≡ filter q (numbers_below n)
filter_same p q zero same = refl
filter_same p q (suc n) same =
    filter_push p (numbers_below n) n ∙ ap₂ (λ (xs : List ℕ) b. xs ++ cond b (n ∷ []) []) (filter_same p q n (λ k below. same k (omega arith))) (same n (omega arith))
    ∙ sym (filter_push q (numbers_below n) n)
  where
    filter_push : (test : ℕ → Bool) (xs : List ℕ) (x : ℕ) → filter test (xs ++ x ∷ []) ≡ filter test xs ++ cond (test x) (x ∷ []) []
    filter_push test [] x = refl
    filter_push test (y ∷ ys) x = step (test y) (filter_push test ys x)
      where
        step : (b : Bool) → filter test (ys ++ x ∷ []) ≡ filter test ys ++ cond (test x) (x ∷ []) []
            → cond b (y ∷ filter test (ys ++ x ∷ [])) (filter test (ys ++ x ∷ [])) ≡ cond b (y ∷ filter test ys) (filter test ys) ++ cond (test x) (x ∷ []) []
        step true e = ap (λ zs. y ∷ zs) e
        step false e = e

-- and make the same set
pub where_same : (size : ℕ) (p q : ℕ → Bool) → ((k : ℕ) → k < size → p k ≡ q k) → set_where size p ≡ set_where size q
where_same size p q same = ap (λ (members : List ℕ). made members) (filter_same p q size same)
  where
    made : List ℕ → ChoiceSet
    made members = record { size = size; members = members }

-- ---- all choices

-- of no nodes nothing is kept
pub AreLeft-none : AreLeft [] [] []
AreLeft-none = record { nodes = refl; sets = λ node known. absurd (omega arith) }

-- one more node has all choices
pub AreLeft-whole : (sizes : List ℕ) (known : List ChoiceSet) (size : ℕ) (set : ChoiceSet) → AreLeft sizes [] known → set ≡ set_where size (λ choice. true)
    → AreLeft (sizes ++ size ∷ []) [] (known ++ set ∷ [])
AreLeft-whole sizes known size set left is = record {
  nodes = omega (arith, length_push known set, length_push sizes size, left.nodes);
  sets = λ node within.
      elim (cases_lt node (length sizes)) [
        | inl before ↦
            get_or_append_left known (set ∷ []) (no_choices 0) node (omega (arith, left.nodes)) ∙ left.sets node before
            ∙ ap (λ n. set_where n (λ choice. true)) (sym (get_or_append_left sizes (size ∷ []) 0 node before))
        | inr behind ↦
            (let last : length sizes ≡ node = omega (arith, length_push sizes size) in
            get_or_push known set (no_choices 0) node (left.nodes ∙ last) ∙ is
            ∙ ap (λ n. set_where n (λ choice. true)) (sym (get_or_push sizes size 0 node last)))
      ];
}

-- ---- one entry more

-- the test of the entry's own node
same_test : (same keeps rest : Bool) → same ≡ true → (rest && keeps) ≡ ((not same || keeps) && rest)
same_test true true true e = refl
same_test true true false e = refl
same_test true false true e = refl
same_test true false false e = refl
same_test false keeps rest e = absurd (false≢true e)

-- the test of another node
other_test : (same keeps rest : Bool) → same ≡ false → rest ≡ ((not same || keeps) && rest)
other_test false keeps rest e = refl
other_test true keeps rest e = absurd (false≢true (sym e))

-- an assignment leaves its node what both leave
pub narrowed : (sizes : List ℕ) (trail : List Assigned) (entry : Assigned)
    → intersection (accum sizes trail entry.node) entry.choices ≡ accum sizes (entry ∷ trail) entry.node
narrowed sizes trail entry =
    where_same (slice_index sizes entry.node) (λ choice. has (accum sizes trail entry.node) choice && has entry.choices choice)
    (allows (entry ∷ trail) entry.node)
    (λ k below.
    ap (λ b. b && has entry.choices k)
    (is_among-where (slice_index sizes entry.node) (allows trail entry.node) k ∙ ap (λ b. b && allows trail entry.node k) (lt-ltb k (slice_index sizes entry.node) below))
    ∙ same_test (entry.node == entry.node) (has entry.choices k) (allows trail entry.node k) (eq-eqb entry.node entry.node refl))

-- and each other node what it had
pub kept_other : (sizes : List ℕ) (trail : List Assigned) (entry : Assigned) (node : ℕ) → (entry.node ≡ node → ⊥)
    → accum sizes trail node ≡ accum sizes (entry ∷ trail) node
kept_other sizes trail entry node differs =
    where_same (slice_index sizes node) (allows trail node) (allows (entry ∷ trail) node)
    (λ k below. other_test (entry.node == node) (has entry.choices k) (allows trail node k) (ne_eqb entry.node node differs))

-- what is kept after one more assignment
pub AreLeft-more : (sizes : List ℕ) (trail : List Assigned) (known : List ChoiceSet) (entry : Assigned) → AreLeft sizes trail known → IsEntry sizes entry
    → AreLeft sizes (entry ∷ trail) (set known entry.node (intersection (known_at known entry.node) entry.choices))
AreLeft-more sizes trail known entry left is = record {
  nodes = length-set known entry.node (intersection (known_at known entry.node) entry.choices) ∙ left.nodes;
  sets = λ node within.
      elim (cases_eq node entry.node) [
        | inl same ↦
            subst (λ n. known_at (set known entry.node (intersection (known_at known entry.node) entry.choices)) n ≡ accum sizes (entry ∷ trail) n) (sym same)
            (get_or-set_same known entry.node (intersection (known_at known entry.node) entry.choices) (no_choices 0) (omega (arith, left.nodes, is.0))
            ∙ ap (λ s. intersection s entry.choices) (left.sets entry.node is.0) ∙ narrowed sizes trail entry)
        | inr differs ↦
            get_or-set_other known entry.node node (intersection (known_at known entry.node) entry.choices) (no_choices 0) differs
            ∙ left.sets node within ∙ kept_other sizes trail entry node (λ same. differs (sym same))
      ];
}

-- ---- what is asked of it

-- what is kept serves sized terms
pub AreKnown-left : (sizes : List ℕ) (trail : List Assigned) (known : List ChoiceSet) (terms : List Term) → AreLeft sizes trail known → AreSized sizes terms
    → AreKnown known terms
AreKnown-left sizes trail known [] left sized = tt
AreKnown-left sizes trail known (term ∷ terms) left sized = (
  omega (arith, left.nodes, sized.0.0),
  ap (λ (s : ChoiceSet). s.size) (left.sets term.node sized.0.0) ∙ sym sized.0.1,
  AreKnown-left sizes trail known terms left sized.1,
)

-- terms hold by what is kept as they do by the trail
pub holds-left : (sizes : List ℕ) (trail : List Assigned) (known : List ChoiceSet) (terms : List Term) → AreLeft sizes trail known → AreSized sizes terms
    → kept.holds known terms ≡ holds sizes trail terms
holds-left sizes trail known [] left sized = refl
holds-left sizes trail known (term ∷ terms) left sized =
    ap₂ (λ s b. is_within s term.choices && b) (left.sets term.node sized.0.0) (holds-left sizes trail known terms left sized.1)

-- the newest first: one more entry of a list that has the newest behind the others
pub reverse-take_more : {X : Type 0} (xs : List X) (i : ℕ) (x : X) → i < length xs → x ≡ get_or xs i x → reverse (take (i + 1) xs) ≡ x ∷ reverse (take i xs)
reverse-take_more xs i x within at =
    ap reverse (take_more xs i x within) ∙ reverse-append (take i xs) (get_or xs i x ∷ []) ∙ ap (λ y. y ∷ reverse (take i xs)) (sym at)

-- the same, from what is read, narrowed and written back
pub AreLeft-narrowed : (sizes : List ℕ) (trail : List Assigned) (known new : List ChoiceSet) (entry : Assigned) (old narrow : ChoiceSet) → AreLeft sizes trail known
    → IsEntry sizes entry → old ≡ get_or known entry.node old → narrow ≡ intersection old entry.choices → new ≡ set known entry.node narrow
    → AreLeft sizes (entry ∷ trail) new
AreLeft-narrowed sizes trail known new entry old narrow left is read narrowed_is written =
    let before : old ≡ known_at known entry.node
    = get_or_read known entry.node old (omega (arith, is.0, left.nodes)) read (no_choices 0) in
    subst (AreLeft sizes (entry ∷ trail)) (sym (written ∙ ap (set known entry.node) (narrowed_is ∙ ap (λ s. intersection s entry.choices) before)))
    (AreLeft-more sizes trail known entry left is)

-- ---- of all incompatibilities

-- what is kept serves all incompatibilities
pub can_hold : (sizes : List ℕ) (trail : List Assigned) (known : List ChoiceSet) (incompats : List Incompat) → AreLeft sizes trail known
    → AreFormed sizes (terms_of incompats) → All (λ (incompat : Incompat). CanHold known incompat) incompats
can_hold sizes trail known [] left formed = All-nil (CanHold known)
can_hold sizes trail known (incompat ∷ incompats) left formed =
    All-cons (CanHold known) incompat incompats (formed.0.incompat, AreKnown-left sizes trail known incompat.terms left formed.0.sized)
    (can_hold sizes trail known incompats left formed.1)

-- the newest that holds is the same
pub newest-left : (sizes : List ℕ) (trail : List Assigned) (known : List ChoiceSet) (number : ℕ) (incompats : List (List Term)) → AreLeft sizes trail known
    → AreFormed sizes incompats → newest_from (kept.holds known) number incompats ≡ newest_from (holds sizes trail) number incompats
newest-left sizes trail known number [] left formed = refl
newest-left sizes trail known number (terms ∷ others) left formed =
    ap₂ (λ rest b. or_some rest (when_true b number)) (newest-left sizes trail known (number + 1) others left formed.1)
    (holds-left sizes trail known terms left formed.0.sized)
