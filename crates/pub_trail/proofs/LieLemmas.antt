-- An assignment that violates no incompatibility and agrees with the decisions lies in every set of the trail.
use Rattle.std.proofs.Common.{◌≡◌, ℕ, zero, suc, ◌<◌, ◌==◌, Bool, true, false, not, ◌&&◌, ◌||◌, List, [], ◌∷◌, length, slice_index_or, Some, refl, sym, ap, ap₂, ◌∙◌, subst, inl, inr, arith, eqb-true}
use Rattle.std.proofs.lemmas.Bool.{and_from, cases_eq, false≢true, false_from_ne_true}
use Rattle.pub_set.specs.Choices.{ChoiceSet, has}
use Rattle.pub_term.specs.Term.{set_at, violates}
use Rattle.pub_term.specs.declared.term.Term.{Term}
use Rattle.pub_term.proofs.AboveLemmas.{set_at-head, set_at-tail}
use Rattle.pub_trail.specs.Invariant.{Agrees, AgreesAt, AreFormed, AreSized, IsAlmost, IsAssignment, IsFormed, IsReason, IsSized, IsTrail, LiesIn, ViolatesNone}
use Rattle.pub_trail.specs.Trail.{allows}
use Rattle.pub_trail.specs.declared.trail.Assigned.{Assigned}
use Rattle.pub_trail.specs.declared.trail.Reason.{Reason}
use Rattle.pub_trail.specs.declared.trail.Reason.TheVariants.{Decided, Derived}
use Rattle.pub_trail.proofs.HeldLemmas.{each_node}
use Rattle.pub_trail.proofs.TestLemmas.{has-opposite}

-- ---- reading the lists

-- a set of sized terms is sized
pub sized_at : (sizes : List ℕ) (terms : List Term) (node : ℕ) (set : ChoiceSet) → AreSized sizes terms → set_at terms node ≡ Some set
    → IsSized sizes node set
sized_at sizes [] node set sized at = cc
sized_at sizes (term ∷ terms) node set sized at =
    elim (cases_eq term.node node) [
      | inl same ↦
          (let head : Some term.choices ≡ Some set = sym (set_at-head term terms node same) ∙ at in
          let e : term.choices ≡ set = cc in
          subst (λ s. IsSized sizes node s) e (subst (λ n. IsSized sizes n term.choices) same sized.0))
      | inr differs ↦ sized_at sizes terms node set sized.1 (sym (set_at-tail term terms node differs) ∙ at)
    ]

-- each incompatibility is well formed
pub formed_at : (sizes : List ℕ) (incompats : List (List Term)) (number : ℕ) → AreFormed sizes incompats → number < length incompats
    → IsFormed sizes (slice_index_or incompats number [])
formed_at sizes [] number formed within = absurd (omega arith)
formed_at sizes (terms ∷ others) zero formed within = formed.0
formed_at sizes (terms ∷ others) (suc number) formed within = formed_at sizes others number formed.1 (omega arith)

-- and isn't violated
pub unviolated_at : (incompats : List (List Term)) (assignment : ℕ → ℕ) (number : ℕ) → ViolatesNone incompats assignment → number < length incompats
    → violates assignment (slice_index_or incompats number []) ≡ false
unviolated_at [] assignment number none within = absurd (omega arith)
unviolated_at (terms ∷ others) assignment zero none within = none.0
unviolated_at (terms ∷ others) assignment (suc number) none within = unviolated_at others assignment number none.1 (omega arith)

-- ---- the law

-- one more test of what is allowed
pub and_step : (same keeps rest : Bool) → (same ≡ true → keeps ≡ true) → rest ≡ true → ((not same || keeps) && rest) ≡ true
and_step true keeps rest here behind = and_from keeps rest (here refl) behind
and_step false keeps rest here behind = behind

-- what lies in each set is allowed
pub allows-LiesIn : (assignment : ℕ → ℕ) (trail : List Assigned) (node : ℕ) → LiesIn assignment trail → allows trail node (assignment node) ≡ true
allows-LiesIn assignment [] node lies = refl
allows-LiesIn assignment (entry ∷ before) node lies =
    and_step (entry.node == node) (has entry.choices (assignment node)) (allows before node (assignment node))
    (λ same. ap (λ n. has entry.choices (assignment n)) (sym (eqb-true entry.node node same)) ∙ lies.0)
    (allows-LiesIn assignment before node lies.1)

-- an almost satisfied incompatibility that isn't violated: the node's choice is outside its set
outside : (sizes : List ℕ) (before : List Assigned) (terms : List Term) (node : ℕ) (set : ChoiceSet) (assignment : ℕ → ℕ) → IsFormed sizes terms
    → IsAlmost sizes before terms node set → IsAssignment sizes assignment → LiesIn assignment before → violates assignment terms ≡ false
    → has set (assignment node) ≡ false
outside sizes before terms node set assignment formed almost is lies none =
    false_from_ne_true (has set (assignment node))
    (λ here.
    false≢true (sym none ∙ each_node (λ term. has term.choices (assignment term.node)) terms formed.incompat.ascending
    (λ other its at.
    elim (cases_eq other node) [
      | inl same ↦
          (let there : set_at terms other ≡ Some set = ap (set_at terms) same ∙ almost.at in
          let e : its ≡ set = cc in
          ap₂ (λ n s. has s (assignment n)) same e ∙ here)
      | inr differs ↦
          almost.others other its differs at (assignment other) (is other (sized_at sizes terms other its formed.sized at).0)
          (allows-LiesIn assignment before other lies)
    ])))

-- an unviolated assignment lies in one more set
lies_here : (reason : Reason) (sizes : List ℕ) (incompats : List (List Term)) (before : List Assigned) (entry : Assigned) (assignment : ℕ → ℕ)
    → AreFormed sizes incompats → IsReason reason sizes incompats before entry → IsAssignment sizes assignment → ViolatesNone incompats assignment
    → AgreesAt reason assignment entry → LiesIn assignment before → has entry.choices (assignment entry.node) ≡ true
lies_here Decided sizes incompats before entry assignment formed by is none agrees lies = agrees
lies_here (Derived number) sizes incompats before entry assignment formed by is none agrees lies =
    let terms = slice_index_or incompats number [] in
    let well = formed_at sizes incompats number formed by.0 in
    let sized = sized_at sizes terms entry.node by.1.set well.sized by.1.almost.at in
    ap (λ set. has set (assignment entry.node)) by.1.choices
    ∙ has-opposite by.1.set (assignment entry.node) (subst (λ size. assignment entry.node < size) (sym sized.1) (is entry.node sized.0))
    (outside sizes before terms entry.node by.1.set assignment well by.1.almost is lies (unviolated_at incompats assignment number none by.0))

-- and so in all sets of the trail
pub lies_in_trail : (sizes : List ℕ) (incompats : List (List Term)) (trail : List Assigned) (assignment : ℕ → ℕ) → AreFormed sizes incompats
    → IsTrail sizes incompats trail → IsAssignment sizes assignment → ViolatesNone incompats assignment → Agrees assignment trail
    → LiesIn assignment trail
lies_in_trail sizes incompats [] assignment formed trail is none agrees = tt
lies_in_trail sizes incompats (entry ∷ before) assignment formed trail is none agrees =
    let lies = lies_in_trail sizes incompats before assignment formed trail.1 is none agrees.1 in
    (lies_here entry.reason sizes incompats before entry assignment formed trail.0 is none agrees.0 lies, lies)
