-- The newest of the incompatibilities that hold, or are almost satisfied.
use Rattle.std.proofs.Common.{◌≡◌, ◌≢◌, ℕ, zero, suc, ◌+◌, ◌<◌, Bool, true, false, not, List, [], ◌∷◌, length, slice_index, slice_index_or, Option, Some, None, refl, sym, ap, ap₂, ◌∙◌, subst, inl, inr, arith}
use Rattle.std.specs.List.{filter}
use Rattle.std.proofs.lemmas.Bool.{cases_Bool, cases_eq, cond-false, cond-true, false≢true, false_from_ne_true, not-true}
use Rattle.pub_set.specs.Choices.{ChoiceSet, do_meet, has}
use Rattle.pub_term.specs.Term.{AreNodesAscending, set_at}
use Rattle.pub_term.specs.declared.term.Term.{Term}
use Rattle.pub_term.proofs.AboveLemmas.{AreAbove-tail, AreNodesAscending-tail, set_at-head, set_at-none, set_at-tail}
use Rattle.pub_trail.specs.Invariant.{IsAlmost, IsFormed}
use Rattle.pub_trail.specs.Trail.{accum, allows, is_held}
use Rattle.pub_trail.specs.Turn.{Forced, almost, forced_by, newest_forced, newest_from, or_some, the_one, when_true}
use Rattle.pub_trail.specs.declared.trail.Assigned.{Assigned}
use Rattle.pub_trail.proofs.HeldLemmas.{Within-held, held-Within, term_of}
use Rattle.pub_trail.proofs.TestLemmas.{meets_from, meets_one, not_within}

-- ---- the newest that passes

-- the place of one that passes
pub record IsAt (test : List Term → Type 0) (from : ℕ) (incompats : List (List Term)) (number : ℕ) : Type 0 where
  pub place : ℕ
  pub is : number ≡ from + place
  pub within : place < length incompats
  pub passes : test (slice_index_or incompats place [])

-- the same with one more before it
is_behind : (test : List Term → Type 0) (from : ℕ) (terms : List Term) (others : List (List Term)) (number : ℕ) → IsAt test (from + 1) others number
    → IsAt test from (terms ∷ others) number
is_behind test from terms others number at = record { place = suc at.place; is = omega (arith, at.is); within = omega (arith, at.within); passes = at.passes }

-- the newest that passes does pass
pub newest_is : (test : List Term → Bool) (from : ℕ) (incompats : List (List Term)) (number : ℕ) → newest_from test from incompats ≡ Some number
    → IsAt (λ terms. test terms ≡ true) from incompats number
newest_is test from [] number found = cc
newest_is test from (terms ∷ others) number found =
    go (newest_from test (from + 1) others) (λ e. newest_is test (from + 1) others number e) refl found
  where
    here : (b : Bool) → test terms ≡ b → when_true b from ≡ Some number → IsAt (λ ts. test ts ≡ true) from (terms ∷ others) number
    here true passes at =
        let e : from ≡ number = cc in
        record { place = 0; is = omega arith; within = omega arith; passes = passes }
    here false fails at = cc

    go : (rest : Option ℕ)
        → (newest_from test (from + 1) others ≡ Some number → IsAt (λ ts. test ts ≡ true) (from + 1) others number)
        → newest_from test (from + 1) others ≡ rest → or_some rest (when_true (test terms) from) ≡ Some number
        → IsAt (λ ts. test ts ≡ true) from (terms ∷ others) number
    go None next at found = here (test terms) refl found
    go (Some other) next at found =
        let e : Some other ≡ Some number = found in
        is_behind (λ ts. test ts ≡ true) from terms others number (next (at ∙ e))

-- where none is found, none passes
pub newest_none : (test : List Term → Bool) (from : ℕ) (incompats : List (List Term)) → newest_from test from incompats ≡ None
    → (place : ℕ) → place < length incompats → test (slice_index_or incompats place []) ≡ false
newest_none test from [] none place within = absurd (omega arith)
newest_none test from (terms ∷ others) none zero within = first (newest_from test (from + 1) others) none
  where
    first : (rest : Option ℕ) → or_some rest (when_true (test terms) from) ≡ None → test terms ≡ false
    first None none = false_from_ne_true (test terms) (λ passes. let e : when_true true from ≡ None = sym (ap (λ b. when_true b from) passes) ∙ none in cc)
    first (Some other) none = cc
newest_none test from (terms ∷ others) none (suc place) within =
    newest_none test (from + 1) others (rest_none (newest_from test (from + 1) others) none) place (omega arith)
  where
    rest_none : (rest : Option ℕ) → or_some rest (when_true (test terms) from) ≡ None → rest ≡ None
    rest_none None none = refl
    rest_none (Some other) none = cc

-- ---- what is almost satisfied

-- where none of the terms passes, none on a node does
none_pass : (test : Term → Bool) (terms : List Term) (node : ℕ) (set : ChoiceSet) → filter test terms ≡ [] → set_at terms node ≡ Some set
    → test (term_of node set) ≡ false
none_pass test [] node set none at = cc
none_pass test (term ∷ terms) node set none at =
    elim (cases_Bool (test term)) [
      | inl passes ↦ (let e : term ∷ filter test terms ≡ [] = sym (cond-true (test term) (term ∷ filter test terms) (filter test terms) passes) ∙ none in cc)
      | inr fails ↦
          elim (cases_eq term.node node) [
            | inl same ↦
                (let head : Some term.choices ≡ Some set = sym (set_at-head term terms node same) ∙ at in
                let e : term.choices ≡ set = cc in
                ap₂ (λ n s. test (term_of n s)) (sym same) (sym e) ∙ fails)
            | inr differs ↦
                none_pass test terms node set (sym (cond-false (test term) (term ∷ filter test terms) (filter test terms) fails) ∙ none)
                (sym (set_at-tail term terms node differs) ∙ at)
          ]
    ]

-- the one term that passes
pub record IsOne (test : Term → Bool) (terms : List Term) (node : ℕ) (set : ChoiceSet) : Type 0 where
  pub at : set_at terms node ≡ Some set
  pub passes : test (term_of node set) ≡ true
  pub others : (other : ℕ) (its : ChoiceSet) → other ≢ node → set_at terms other ≡ Some its → test (term_of other its) ≡ false

-- what stands behind the first of ascending terms is on another node
pub behind_differs : (term : Term) (terms : List Term) (node : ℕ) (set : ChoiceSet) → AreNodesAscending (term ∷ terms) → set_at terms node ≡ Some set
    → term.node ≡ node → ⊥
behind_differs term terms node set up at same =
    let none : set_at terms node ≡ None = set_at-none term.node terms node (omega arith) (AreAbove-tail term terms up) in
    cc

-- the one that passes, and no other does
pub one_is : (test : Term → Bool) (terms : List Term) (term : Term) → AreNodesAscending terms → filter test terms ≡ term ∷ []
    → IsOne test terms term.node term.choices
one_is test [] term up one = cc
one_is test (head ∷ terms) term up one =
    elim (cases_Bool (test head)) [
      | inl passes ↦
          (let e : head ∷ filter test terms ≡ term ∷ [] = sym (cond-true (test head) (head ∷ filter test terms) (filter test terms) passes) ∙ one in
          let same : head ≡ term = cc in
          let none : filter test terms ≡ [] = cc in
          subst (λ t. IsOne test (head ∷ terms) t.node t.choices) same (record {
            at = set_at-head head terms head.node refl;
            passes = passes;
            others = λ other its differs at.
                none_pass test terms other its none (sym (set_at-tail head terms other (λ equal. differs (sym equal))) ∙ at);
          }))
      | inr fails ↦
          (let rest = one_is test terms term (AreNodesAscending-tail head terms up)
          (sym (cond-false (test head) (head ∷ filter test terms) (filter test terms) fails) ∙ one) in
          record {
            at = set_at-tail head terms term.node (behind_differs head terms term.node term.choices up rest.at) ∙ rest.at;
            passes = rest.passes;
            others = λ other its differs at.
                elim (cases_eq head.node other) [
                  | inl same ↦
                      (let first : Some head.choices ≡ Some its = sym (set_at-head head terms other same) ∙ at in
                      let e : head.choices ≡ its = cc in
                      ap₂ (λ n s. test (term_of n s)) (sym same) (sym e) ∙ fails)
                  | inr apart ↦ rest.others other its differs (sym (set_at-tail head terms other apart) ∙ at)
                ];
          })
    ]

-- where no set passes, none is kept
no_more : (test : Term → Bool) (terms : List Term) → AreNodesAscending terms
    → ((other : ℕ) (its : ChoiceSet) → set_at terms other ≡ Some its → test (term_of other its) ≡ false) → filter test terms ≡ []
no_more test [] up none = refl
no_more test (term ∷ terms) up none =
    cond-false (test term) (term ∷ filter test terms) (filter test terms) (none term.node term.choices (set_at-head term terms term.node refl))
    ∙ no_more test terms (AreNodesAscending-tail term terms up)
    (λ other its at. none other its (set_at-tail term terms other (behind_differs term terms other its up at) ∙ at))

-- and the other way round
pub one_from : (test : Term → Bool) (terms : List Term) (node : ℕ) (set : ChoiceSet) → AreNodesAscending terms → IsOne test terms node set
    → filter test terms ≡ term_of node set ∷ []
one_from test [] node set up one = cc (one.at)
one_from test (term ∷ terms) node set up one =
    elim (cases_eq term.node node) [
      | inl same ↦
          (let head : Some term.choices ≡ Some set = sym (set_at-head term terms node same) ∙ one.at in
          let e : term.choices ≡ set = cc in
          let here : test term ≡ true = ap₂ (λ n s. test (term_of n s)) same e ∙ one.passes in
          cond-true (test term) (term ∷ filter test terms) (filter test terms) here
          ∙ ap₂ (λ n s. term_of n s ∷ filter test terms) same e
          ∙ ap (λ rest. term_of node set ∷ rest)
          (no_more test terms (AreNodesAscending-tail term terms up)
          (λ other its at.
          let apart = behind_differs term terms other its up at in
          one.others other its (λ equal. apart (same ∙ sym equal)) (set_at-tail term terms other apart ∙ at))))
      | inr differs ↦
          cond-false (test term) (term ∷ filter test terms) (filter test terms)
          (one.others term.node term.choices differs (set_at-head term terms term.node refl))
          ∙ one_from test terms node set (AreNodesAscending-tail term terms up) (record {
            at = sym (set_at-tail term terms node differs) ∙ one.at;
            passes = one.passes;
            others = λ other its apart at.
                one.others other its apart (set_at-tail term terms other (behind_differs term terms other its up at) ∙ at);
          })
    ]

-- what is answered is the one that isn't held
the_one_is : (sizes : List ℕ) (trail : List Assigned) (terms : List Term) (term : Term) → the_one sizes trail terms ≡ Some term
    → (terms ≡ term ∷ []) × (do_meet (accum sizes trail term.node) term.choices ≡ true)
the_one_is sizes trail [] term one = cc
the_one_is sizes trail (head ∷ []) term one =
    elim (cases_Bool (do_meet (accum sizes trail head.node) head.choices)) [
      | inl meets ↦
          (let e : Some head ≡ Some term = sym (cond-true (do_meet (accum sizes trail head.node) head.choices) (Some head) None meets) ∙ one in
          let same : head ≡ term = cc in
          (ap (λ t. t ∷ []) same, subst (λ (t : Term). do_meet (accum sizes trail t.node) t.choices ≡ true) same meets))
      | inr apart ↦
          (let e : None ≡ Some term = sym (cond-false (do_meet (accum sizes trail head.node) head.choices) (Some head) None apart) ∙ one in cc)
    ]
the_one_is sizes trail (head ∷ next ∷ terms) term one = cc

-- what isn't false is true
not_false : (b : Bool) → not b ≡ false → b ≡ true
not_false true is = refl
not_false false is = absurd (false≢true (sym is))

-- what is almost satisfied is what its definition says
pub almost_is : (sizes : List ℕ) (trail : List Assigned) (terms : List Term) (term : Term) → IsFormed sizes terms → almost sizes trail terms ≡ Some term
    → IsAlmost sizes trail terms term.node term.choices
almost_is sizes trail terms term formed found =
    let open_terms = filter (λ t. not (is_held sizes trail t)) terms in
    let one = the_one_is sizes trail open_terms term found in
    let is = one_is (λ t. not (is_held sizes trail t)) terms term formed.incompat.ascending one.0 in
    let met = meets_one (slice_index sizes term.node) (allows trail term.node) term.choices one.1 in
    let lack = not_within (slice_index sizes term.node) (allows trail term.node) term.choices (not-true (is_held sizes trail term) is.passes) in
    record {
      at = is.at;
      others = λ other its differs at.
          Within-held sizes trail (term_of other its) (not_false (is_held sizes trail (term_of other its)) (is.others other its differs at));
      meets = record { choice = met.0; below = met.1; allowed = met.2; passes = met.3 };
      lacks = record { choice = lack.0; below = lack.1; allowed = lack.2; passes = ap not lack.3 };
    }

-- and the other way round
pub almost_from : (sizes : List ℕ) (trail : List Assigned) (terms : List Term) (node : ℕ) (set : ChoiceSet) → IsFormed sizes terms
    → IsAlmost sizes trail terms node set → almost sizes trail terms ≡ Some (term_of node set)
almost_from sizes trail terms node set formed is =
    ap (the_one sizes trail)
    (one_from (λ t. not (is_held sizes trail t)) terms node set formed.incompat.ascending (record {
      at = is.at;
      passes = ap not (false_from_ne_true (is_held sizes trail (term_of node set))
          (λ held.
          false≢true (sym (not-true (has set is.lacks.choice) is.lacks.passes)
          ∙ Within-held sizes trail (term_of node set) held is.lacks.choice is.lacks.below is.lacks.allowed)));
      others = λ other its differs at. ap not (held-Within sizes trail (term_of other its) (is.others other its differs at));
    }))
    ∙ cond-true (do_meet (accum sizes trail node) set) (Some (term_of node set)) None
    (meets_from (slice_index sizes node) (allows trail node) set is.meets.choice is.meets.below is.meets.allowed is.meets.passes)

-- ---- the newest that is almost satisfied

-- what is there is there
some_same : (first second : Forced) → Some first ≡ Some second → first ≡ second
some_same first second same = cc

-- what is forced stands at its place
pub forced_is : (sizes : List ℕ) (trail : List Assigned) (from : ℕ) (incompats : List (List Term)) (forced : Forced)
    → newest_forced sizes trail from incompats ≡ Some forced → IsAt (λ terms. almost sizes trail terms ≡ Some forced.term) from incompats forced.number
forced_is sizes trail from [] forced found = cc
forced_is sizes trail from (terms ∷ others) forced found =
    go (newest_forced sizes trail (from + 1) others) (λ e. forced_is sizes trail (from + 1) others forced e) refl found
  where
    here : (term : Option Term) → almost sizes trail terms ≡ term → forced_by from term ≡ Some forced
        → IsAt (λ ts. almost sizes trail ts ≡ Some forced.term) from (terms ∷ others) forced.number
    here (Some term) passes at =
        let e : record { number = from; term = term } ≡ forced = some_same (record { number = from; term = term }) forced at in
        let n : from ≡ forced.number = ap (λ (f : Forced). f.number) e in
        record { place = 0; is = omega arith; within = omega arith; passes = passes ∙ ap (λ (f : Forced). Some f.term) e }
    here None fails at = cc

    go : (rest : Option Forced)
        → (newest_forced sizes trail (from + 1) others ≡ Some forced → IsAt (λ ts. almost sizes trail ts ≡ Some forced.term) (from + 1) others forced.number)
        → newest_forced sizes trail (from + 1) others ≡ rest → or_some rest (forced_by from (almost sizes trail terms)) ≡ Some forced
        → IsAt (λ ts. almost sizes trail ts ≡ Some forced.term) from (terms ∷ others) forced.number
    go None next at found = here (almost sizes trail terms) refl found
    go (Some other) next at found =
        let e : Some other ≡ Some forced = found in
        is_behind (λ ts. almost sizes trail ts ≡ Some forced.term) from terms others forced.number (next (at ∙ e))

-- where nothing is forced, nothing is almost satisfied
pub forced_none : (sizes : List ℕ) (trail : List Assigned) (from : ℕ) (incompats : List (List Term)) → newest_forced sizes trail from incompats ≡ None
    → (place : ℕ) → place < length incompats → almost sizes trail (slice_index_or incompats place []) ≡ None
forced_none sizes trail from [] none place within = absurd (omega arith)
forced_none sizes trail from (terms ∷ others) none zero within = first (newest_forced sizes trail (from + 1) others) (almost sizes trail terms) none
  where
    first : (rest : Option Forced) (term : Option Term) → or_some rest (forced_by from term) ≡ None → term ≡ None
    first None None none = refl
    first None (Some term) none = cc
    first (Some other) term none = cc
forced_none sizes trail from (terms ∷ others) none (suc place) within =
    forced_none sizes trail (from + 1) others (rest_none (newest_forced sizes trail (from + 1) others) none) place (omega arith)
  where
    rest_none : (rest : Option Forced) → or_some rest (forced_by from (almost sizes trail terms)) ≡ None → rest ≡ None
    rest_none None none = refl
    rest_none (Some other) none = cc
