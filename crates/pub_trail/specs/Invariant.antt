-- What the trail of a solver is at each moment.
use Rattle.std.specs.Prelude.{◌≡◌, ◌≢◌, ℕ, ◌<◌, ◌≤◌, ◌+◌, ◌==◌, List, [], ◌∷◌, ◌++◌, length, Bool, true, false, not, slice_index, slice_index_or, Some, None}
use Rattle.pub_set.specs.Choices.{ChoiceSet, IsSet, has, opposite}
use Rattle.pub_term.specs.Term.{IsIncompat, set_at, violates}
use Rattle.pub_term.specs.declared.term.Term.{Term}
use Rattle.pub_trail.specs.declared.trail.Assigned.{Assigned}
use Rattle.pub_trail.specs.declared.trail.Reason.{Reason}
use Rattle.pub_trail.specs.declared.trail.Reason.TheVariants.{Decided, Derived}
use Rattle.pub_trail.specs.Turn.{Brings, Loaded, Next, Rules, State, newest_forced, newest_from, root_place}
use Rattle.pub_trail.specs.declared.trail.Place.{Place}
use Rattle.pub_trail.specs.Trail.{allows, holds, is_decided, level_of}

-- each choice that is left for the node is in the set
abbrev pub Within : List ℕ → List Assigned → ℕ → ChoiceSet → Type 0
Within sizes trail node set =
    (choice : ℕ) → choice < slice_index sizes node → allows trail node choice ≡ true → has set choice ≡ true

-- some choice that is left for the node passes the test
pub record Leaves (sizes : List ℕ) (trail : List Assigned) (node : ℕ) (test : ℕ → Bool) : Type 0 where
  pub choice : ℕ
  pub below : choice < slice_index sizes node
  pub allowed : allows trail node choice ≡ true
  pub passes : test choice ≡ true

-- The terms are almost satisfied on the node: all others are held, and some of the choices left are in its set.
pub record IsAlmost (sizes : List ℕ) (trail : List Assigned) (terms : List Term) (node : ℕ) (set : ChoiceSet) : Type 0 where
  pub at : set_at terms node ≡ Some set
  pub others : (other : ℕ) (its : ChoiceSet) → other ≢ node → set_at terms other ≡ Some its → Within sizes trail other its
  pub meets : Leaves sizes trail node (has set)
  pub lacks : Leaves sizes trail node (λ choice. not (has set choice))

-- the entry leaves its node the choices outside of the set that is almost satisfied, at the present level
pub record IsDerived (sizes : List ℕ) (terms : List Term) (before : List Assigned) (entry : Assigned) : Type 0 where
  pub set : ChoiceSet
  pub almost : IsAlmost sizes before terms entry.node set
  pub choices : entry.choices ≡ opposite set
  pub level : entry.level ≡ level_of before

-- the node has no decision yet, and is decided on a choice that is left for it
pub record IsDecided (sizes : List ℕ) (before : List Assigned) (entry : Assigned) : Type 0 where
  pub choice : ℕ
  pub known : entry.node < length sizes
  pub fresh : is_decided before entry.node ≡ false
  pub left : Leaves sizes before entry.node (λ other. other == choice)
  pub choices : (other : ℕ) → other < slice_index sizes entry.node → has entry.choices other ≡ (other == choice)
  pub level : entry.level ≡ level_of before + 1

-- an entry is what its reason says
abbrev pub IsReason : Reason → List ℕ → List (List Term) → List Assigned → Assigned → Type 0
IsReason Decided sizes incompats before entry = IsDecided sizes before entry
IsReason (Derived number) sizes incompats before entry =
    (number < length incompats) × IsDerived sizes (slice_index_or incompats number []) before entry

-- each entry is what its reason says, after those before it
abbrev pub IsTrail : List ℕ → List (List Term) → List Assigned → Type 0
IsTrail sizes incompats [] = Unit {0}
IsTrail sizes incompats (entry ∷ before) = IsReason entry.reason sizes incompats before entry × IsTrail sizes incompats before

-- the node is there, and the set has its size and is a set
abbrev pub IsSized : List ℕ → ℕ → ChoiceSet → Type 0
IsSized sizes node set = (node < length sizes) × (set.size ≡ slice_index sizes node) × IsSet set

-- each term is sized
abbrev pub AreSized : List ℕ → List Term → Type 0
AreSized sizes [] = Unit {0}
AreSized sizes (term ∷ terms) = IsSized sizes term.node term.choices × AreSized sizes terms

-- well formed terms: an incompatibility, whose sets are sets of their nodes' sizes
pub record IsFormed (sizes : List ℕ) (terms : List Term) : Type 0 where
  pub incompat : IsIncompat terms
  pub sized : AreSized sizes terms

-- each incompatibility is well formed
abbrev pub AreFormed : List ℕ → List (List Term) → Type 0
AreFormed sizes [] = Unit {0}
AreFormed sizes (terms ∷ others) = IsFormed sizes terms × AreFormed sizes others

-- each node has one of its choices
abbrev pub IsAssignment : List ℕ → (ℕ → ℕ) → Type 0
IsAssignment sizes assignment = (node : ℕ) → node < length sizes → assignment node < slice_index sizes node

-- no incompatibility is violated
abbrev pub ViolatesNone : List (List Term) → (ℕ → ℕ) → Type 0
ViolatesNone [] assignment = Unit {0}
ViolatesNone (terms ∷ others) assignment = (violates assignment terms ≡ false) × ViolatesNone others assignment

-- the assignment's choice is in the set of each decision of the trail
abbrev pub AgreesAt : Reason → (ℕ → ℕ) → Assigned → Type 0
AgreesAt Decided assignment entry = has entry.choices (assignment entry.node) ≡ true
AgreesAt (Derived number) assignment entry = Unit {0}

-- the assignment agrees with each decision
abbrev pub Agrees : (ℕ → ℕ) → List Assigned → Type 0
Agrees assignment [] = Unit {0}
Agrees assignment (entry ∷ before) = AgreesAt entry.reason assignment entry × Agrees assignment before

-- the assignment's choice is in each set of the trail
abbrev pub LiesIn : (ℕ → ℕ) → List Assigned → Type 0
LiesIn assignment [] = Unit {0}
LiesIn assignment (entry ∷ before) = (has entry.choices (assignment entry.node) ≡ true) × LiesIn assignment before

-- the first assignment is the root's, decided at level 1
abbrev pub IsFirst : Assigned → Type 0
IsFirst entry = (entry.node ≡ 0) × (entry.level ≡ 1) × (entry.reason ≡ Decided)

-- the oldest entry is the root's
abbrev pub Begins : List Assigned → Type 0
Begins [] = ⊥
Begins (entry ∷ []) = IsFirst entry
Begins (entry ∷ next ∷ before) = Begins (next ∷ before)

-- what a solver's three lists are at each moment
pub record IsState (facts : List (List Term)) (state : State) : Type 0 where
  -- each node has a choice
  pub some : (node : ℕ) → node < length state.sizes → 0 < slice_index state.sizes node
  pub formed : AreFormed state.sizes state.incompats
  pub stands : IsTrail state.sizes state.incompats state.trail
  pub begins : Begins state.trail
  -- whoever violates no fact violates none of the incompatibilities
  pub follows : (assignment : ℕ → ℕ) → IsAssignment state.sizes assignment → ViolatesNone facts assignment
      → ViolatesNone state.incompats assignment

-- none of the incompatibilities holds or is almost satisfied
pub record IsSettled (state : State) : Type 0 where
  pub none_holds : newest_from (holds state.sizes state.trail) 0 state.incompats ≡ None
  pub none_forces : newest_forced state.sizes state.trail 0 state.incompats ≡ None

-- how many nodes there may be, and choices of a node
pub record Limits : Type 0 where
  pub nodes : ℕ
  pub choices : ℕ

-- a place within the limits
abbrev pub IsWithin : Limits → Place → Type 0
IsWithin limits place = (place.node < limits.nodes) × (place.choice < limits.choices)

-- there are no more nodes than that, and no more choices of a node
pub record IsSmall (limits : Limits) (sizes : List ℕ) : Type 0 where
  pub nodes : length sizes ≤ limits.nodes
  pub choices : (node : ℕ) → node < length sizes → slice_index sizes node ≤ limits.choices

-- what is asked of the job and the replies at a state, where these are the facts of its loads
pub record AreRules (limits : Limits) (rules : Rules) (facts : List (List Term)) (state : State) : Type 0 where
  pub root : IsWithin limits root_place
  pub sizes : (place : Place) (loaded : Loaded) → rules.load state place ≡ Brings loaded
      → (node : ℕ) → node < length loaded.sizes → 0 < slice_index loaded.sizes node
  pub small : (place : Place) (loaded : Loaded) → rules.load state place ≡ Brings loaded → IsSmall limits (state.sizes ++ loaded.sizes)
  pub formed : (place : Place) (loaded : Loaded) → rules.load state place ≡ Brings loaded → AreFormed (state.sizes ++ loaded.sizes) loaded.facts
  pub caused : (place : Place) (loaded : Loaded) → rules.load state place ≡ Brings loaded → length loaded.causes ≡ length loaded.facts
  pub known : (next : Next) → IsSettled state → rules.next state ≡ Some next → next.node < length state.sizes
  pub fresh : (next : Next) → IsSettled state → rules.next state ≡ Some next → is_decided state.trail next.node ≡ false
  pub left : (next : Next) → IsSettled state → rules.next state ≡ Some next
      → Leaves state.sizes state.trail next.node (λ other. other == next.choice)
  pub places : (next : Next) → IsSettled state → IsSmall limits state.sizes → rules.next state ≡ Some next → IsWithin limits next.place
