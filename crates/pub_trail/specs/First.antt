-- What is asked of a selection: each decision is the first preferred choice that is left, and is asked by a fact of the decisions before.
use Rattle.std.specs.Prelude.{◌≡◌, ℕ, ◌<◌, ◌==◌, ◌&&◌, ◌||◌, List, [], ◌∷◌, Bool, true, false, slice_index, Contains, Some, None, if◌then◌else◌}
use Rattle.std.specs.List.{list_all, list_any}
use Rattle.pub_set.specs.Choices.{ChoiceSet, has}
use Rattle.pub_term.specs.Term.{set_at, violates}
use Rattle.pub_term.specs.declared.term.Term.{Term}
use Rattle.pub_trail.specs.Invariant.{Agrees, IsAssignment, IsSettled, ViolatesNone}
use Rattle.pub_trail.specs.Turn.{Brings, Loaded, Next, Rules, State}
use Rattle.pub_trail.specs.declared.trail.Place.{Place}
use Rattle.pub_trail.specs.Trail.{allows, by_reason, is_decided}
use Rattle.pub_trail.specs.declared.trail.Assigned.{Assigned}
use Rattle.pub_trail.specs.declared.trail.Reason.{Reason}
use Rattle.pub_trail.specs.declared.trail.Reason.TheVariants.{Decided, Derived}

-- the first of the numbers
abbrev pub first_or : List ℕ → ℕ → ℕ
first_or [] default = default
first_or (x ∷ xs) default = x

-- the decided choice of a node; 0, none or off, where it isn't decided
abbrev pub chosen : List Assigned → ℕ → ℕ
chosen [] node = 0
chosen (entry ∷ before) node =
    by_reason entry.reason (if entry.node == node then first_or entry.choices.members 0 else chosen before node) (λ number. chosen before node)

-- the term on another node has its node's decided choice
abbrev pub is_met : List Assigned → ℕ → Term → Bool
is_met trail node term = term.node == node || (is_decided trail term.node && has term.choices (chosen trail term.node))

-- the fact asks the node: it has a term on it that has 0, and all its other terms have the decided choices of their nodes
abbrev pub is_asked : List Assigned → ℕ → List Term → Bool
is_asked trail node terms = list_any (λ term. term.node == node && has term.choices 0) terms && list_all (is_met trail node) terms

-- of two choices of a node, whether the first is preferred
abbrev pub Preference : Type 0
Preference = ℕ → ℕ → ℕ → Bool

-- a choice that is preferred isn't left, and a fact asks the node
pub record IsFirstChoice (prefers : Preference) (sizes : List ℕ) (facts : List (List Term)) (before : List Assigned) (entry : Assigned) : Type 0 where
  pub skips : (other : ℕ) → other < slice_index sizes entry.node → prefers entry.node other (first_or entry.choices.members 0) ≡ true
      → allows before entry.node other ≡ false
  pub fact : List Term
  pub given : Contains facts fact
  pub asked : is_asked before entry.node fact ≡ true

-- the first assignment, of the root, is asked by nothing
abbrev pub IsChoice : Reason → Preference → List ℕ → List (List Term) → List Assigned → Assigned → Type 0
IsChoice Decided prefers sizes facts [] entry = Unit {0}
IsChoice Decided prefers sizes facts (next ∷ before) entry = IsFirstChoice prefers sizes facts (next ∷ before) entry
IsChoice (Derived number) prefers sizes facts before entry = Unit {0}

-- each decision is the first choice that is left
abbrev pub AreChoices : Preference → List ℕ → List (List Term) → List Assigned → Type 0
AreChoices prefers sizes facts [] = Unit {0}
AreChoices prefers sizes facts (entry ∷ before) = IsChoice entry.reason prefers sizes facts before entry × AreChoices prefers sizes facts before

-- at most one of a fact's terms has 0
pub record IsShaped (terms : List Term) : Type 0 where
  pub one : (node other : ℕ) (set its : ChoiceSet) → set_at terms node ≡ Some set → set_at terms other ≡ Some its
      → has set 0 ≡ true → has its 0 ≡ true → node ≡ other

-- each set of the trail has its node's size: what it has is below it
abbrev pub AreBound : List ℕ → List Assigned → Type 0
AreBound sizes [] = Unit {0}
AreBound sizes (entry ∷ before) = ((k : ℕ) → has entry.choices k ≡ true → k < slice_index sizes entry.node) × AreBound sizes before

-- what decisions and facts are at each moment
pub record IsChosen (prefers : Preference) (facts : List (List Term)) (state : State) : Type 0 where
  pub bound : AreBound state.sizes state.trail
  pub choices : AreChoices prefers state.sizes facts state.trail
  pub shaped : (fact : List Term) → Contains facts fact → IsShaped fact

-- what is asked of the next node and its choice at a state
pub record AreFirstRules (prefers : Preference) (rules : Rules) (facts : List (List Term)) (state : State) : Type 0 where
  pub shaped : (place : Place) (loaded : Loaded) → rules.load state place ≡ Brings loaded → (fact : List Term) → Contains loaded.facts fact → IsShaped fact
  pub skips : (next : Next) → IsSettled state → rules.next state ≡ Some next → (other : ℕ) → other < slice_index state.sizes next.node
      → prefers next.node other next.choice ≡ true → allows state.trail next.node other ≡ false
  -- some fact asks the node
  pub asked : (next : Next) → IsSettled state → rules.next state ≡ Some next
      → (fact : List Term) × Contains facts fact × (is_asked state.trail next.node fact ≡ true)
  -- and where there is none, each node that a fact asks is decided
  pub all : IsSettled state → rules.next state ≡ None → (fact : List Term) → Contains facts fact
      → (node : ℕ) → is_asked state.trail node fact ≡ true → is_decided state.trail node ≡ true

-- A selection: what is decided violates no fact, each decision is asked by those before it, and no choice that is preferred to it lies in an
-- assignment that violates no fact and agrees with the decisions before.
abbrev pub IsBest : Reason → Preference → List ℕ → List (List Term) → List Assigned → Assigned → Type 0
IsBest Decided prefers sizes facts [] entry = Unit {0}
IsBest Decided prefers sizes facts (next ∷ before) entry = (assignment : ℕ → ℕ) → IsAssignment sizes assignment → ViolatesNone facts assignment
    → Agrees assignment (next ∷ before) → prefers entry.node (assignment entry.node) (first_or entry.choices.members 0) ≡ false
IsBest (Derived number) prefers sizes facts before entry = Unit {0}

-- each decision is the best that lies in an unviolated assignment
abbrev pub NothingBetter : Preference → List ℕ → List (List Term) → List Assigned → Type 0
NothingBetter prefers sizes facts [] = Unit {0}
NothingBetter prefers sizes facts (entry ∷ before) = IsBest entry.reason prefers sizes facts before entry × NothingBetter prefers sizes facts before

-- a selection: it violates no fact, and is the first one
pub record IsSelection (prefers : Preference) (facts : List (List Term)) (state : State) : Type 0 where
  pub violates_none : (fact : List Term) → Contains facts fact → violates (chosen state.trail) fact ≡ false
  pub choices : AreChoices prefers state.sizes facts state.trail
  pub first : NothingBetter prefers state.sizes facts state.trail
