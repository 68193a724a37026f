-- What conflicts and turns come to.
use Rattle.std.specs.Prelude.{◌≡◌, ℕ, ◌<◌, ◌≤◌, List, ◌++◌, length, true, false, slice_index}
use Rattle.pub_set.specs.Choices.{ChoiceSet}
use Rattle.pub_term.specs.Term.{violates}
use Rattle.pub_term.specs.declared.term.Term.{Term}
use Rattle.pub_trail.specs.Invariant.{AreFormed, Begins, IsAlmost, IsAssignment, IsFormed, IsState, IsTrail, ViolatesNone}
use Rattle.pub_trail.specs.Trail.{holds, level_of, up_to}
use Rattle.pub_trail.specs.Turn.{Conflict, Refutes, Learns, State, Turn, Went, Needs, TooWide, Selected, Refuted, is_refutation}
use Rattle.pub_trail.specs.declared.trail.Assigned.{Assigned}

-- whoever violates none of the incompatibilities doesn't violate these terms
abbrev pub Follows : List ℕ → List (List Term) → List Term → Type 0
Follows sizes incompats terms =
    (assignment : ℕ → ℕ) → IsAssignment sizes assignment → ViolatesNone incompats assignment → violates assignment terms ≡ false

-- what a conflict learns: it follows, and is almost satisfied at the lower level to go back to
pub record IsLearned (sizes : List ℕ) (incompats : List (List Term)) (trail : List Assigned) (terms : List Term) (level : ℕ) : Type 0 where
  pub formed : IsFormed sizes terms
  pub follows : Follows sizes incompats terms
  pub some : 1 ≤ level
  pub lower : level < level_of trail
  pub node : ℕ
  pub set : ChoiceSet
  pub almost : IsAlmost sizes (up_to level trail) terms node set

-- what a conflict refutes: it follows, and is on the root alone
pub record IsRefuted (sizes : List ℕ) (incompats : List (List Term)) (terms : List Term) : Type 0 where
  pub formed : IsFormed sizes terms
  pub follows : Follows sizes incompats terms
  pub root : is_refutation terms ≡ true

-- what a conflict comes to
abbrev pub IsOutcome : List ℕ → List (List Term) → List Assigned → Conflict → Type 0
IsOutcome sizes incompats trail (Refutes terms steps) = IsRefuted sizes incompats terms
IsOutcome sizes incompats trail (Learns terms steps level) = IsLearned sizes incompats trail terms level

-- what a conflict's walk keeps
pub record IsAsked (sizes : List ℕ) (incompats : List (List Term)) (trail : List Assigned) (terms : List Term) : Type 0 where
  pub some : (node : ℕ) → node < length sizes → 0 < slice_index sizes node
  pub all_formed : AreFormed sizes incompats
  pub stands : IsTrail sizes incompats trail
  pub begins : Begins trail
  pub formed : IsFormed sizes terms
  pub follows : Follows sizes incompats terms
  pub held : holds sizes trail terms ≡ true

-- what a turn leaves, where these are the facts so far: more of them, and a state as before; or terms on the root alone that follow
abbrev pub IsAfter : List (List Term) → State → Turn → Type 0
IsAfter facts state (Went next) = (more : List (List Term)) × IsState (facts ++ more) next
IsAfter facts state (Needs key) = Unit {0}
IsAfter facts state (TooWide wide) = Unit {0}
IsAfter facts state Selected = Unit {0}
IsAfter facts state (Refuted terms first steps) = IsRefuted state.sizes facts terms
