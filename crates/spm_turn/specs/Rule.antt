-- The rule of a lock's table: what holds between any two steps.
use Rattle.std.specs.Prelude.{◌≡◌, ℕ, ◌+◌, ◌^◌, ◌<◌, ◌≤◌, Bool, true, false, List, [], ◌∷◌, length, ◌⊎◌, Option, Some, None}
use mathlib.Core.Option.{some}
use mathlib.Core.Option as maybe
use lib.ListN.{get_elem?}
use Rattle.atomic_table.specs.Table.{State}
use Rattle.spm_turn.specs.declared.view.View.{View}
use Rattle.spm_turn.specs.declared.view.Stage.{Stage}
use Rattle.spm_turn.specs.declared.view.Stage.TheVariants.{Opening, Idle, Waits, Served, Counted, Met}
use Rattle.spm_turn.specs.Log.{has, StartsWith, OthersFollow, AreMarkedBelow, NoneShared}
use Rattle.spm_turn.specs.Views.{is_away, is_opening, is_served}

-- each of the numbers is below count
abbrev pub AreBelow : ℕ → List ℕ → Type 0
AreBelow count numbers = (n : ℕ) → has numbers n ≡ true → n < count

module _ {E C : Type 0} where
  -- the seat has this ticket
  abbrev pub HasTicket : ℕ → Stage E C → Type 0
  HasTicket k Opening = 0 ≡ k
  HasTicket k Idle = ⊥
  HasTicket k (Waits t) = t ≡ k
  HasTicket k (Served t base) = t ≡ k
  HasTicket k (Counted t base) = t ≡ k
  HasTicket k (Met c a na b nb) = ⊥

  -- two seats have one ticket or one number in common
  abbrev pub Clash : View E C → View E C → Type 0
  Clash v w = ((k : ℕ) × HasTicket k v.stage × HasTicket k w.stage) ⊎ ((n : ℕ) × (has v.numbers n ≡ true) × (has w.numbers n ≡ true))

  -- no two of the seats have a ticket or a number in common
  abbrev pub AreApart : List (View E C) → Type 0
  AreApart views = (i j : ℕ) (v w : View E C) → get_elem? views i ≡ some v → get_elem? views j ≡ some w → Clash v w → i ≡ j

  -- one of the seats is such
  abbrev pub SomeView : (View E C → Type 0) → List (View E C) → Type 0
  SomeView P views = (i : ℕ) × (v : View E C) × (get_elem? views i ≡ some v) × P v

  -- each of the seats is such
  abbrev pub EachView : (View E C → Type 0) → List (View E C) → Type 0
  EachView P views = (i : ℕ) (v : View E C) → get_elem? views i ≡ some v → P v

  module _ (by : E → ℕ) (log : List E) (tickets serving : ℕ) (numbers : List ℕ) (seen : List E) where
    -- what a seat knows as far as it has come
    abbrev pub Knows : Stage E C → Type 0
    -- the log is empty, and the ticket zero is served
    Knows Opening = OthersFollow by numbers seen log × (log ≡ []) × (serving ≡ 0) × (0 < tickets) × (0 < length numbers)
    -- the log goes on from what was seen by entries of others
    Knows Idle = OthersFollow by numbers seen log
    -- besides, its ticket was drawn and hasn't passed
    Knows (Waits t) = OthersFollow by numbers seen log × (serving ≤ t) × (t < tickets) × (0 < length numbers)
    -- its ticket is served, the base is the log, and no turn has brought more than one entry
    Knows (Served t base) = StartsWith log seen × (base ≡ log) × (t ≡ serving) × (t < tickets) × (0 < length numbers) × (length log ≤ serving)
    -- the same with the entry of this turn
    Knows (Counted t base) = StartsWith log seen × (base ≡ log) × (t ≡ serving) × (t < tickets) × (0 < length numbers) × (length log ≤ serving + 1)
    -- besides what it knows when it is idle, what it has seen goes on from what either had seen by entries of others, and the two had no number in common
    Knows (Met c a na b nb) = OthersFollow by numbers seen log × OthersFollow by na a seen × OthersFollow by nb b seen × NoneShared na nb

  -- a seat that was met had the terms of the one that it met
  abbrev pub MetWith : C → Stage E C → Type 0
  MetWith terms Opening = Unit {0}
  MetWith terms Idle = Unit {0}
  MetWith terms (Waits t) = Unit {0}
  MetWith terms (Served t base) = Unit {0}
  MetWith terms (Counted t base) = Unit {0}
  MetWith terms (Met c a na b nb) = terms ≡ c

  -- what is true of each seat
  pub record Fits (by : E → ℕ) (count : ℕ) (fixed : C) (log : List E) (tickets serving : ℕ) (v : View E C) : Type 0 where
    -- a seat that has a number has the terms of the state
    pub terms : (n : ℕ) → has v.numbers n ≡ true → v.terms ≡ fixed
    -- it was told of no more than there is
    pub told : v.told ≤ length log
    -- its numbers are the lock's
    pub numbers : AreBelow count v.numbers
    -- it knows what it may, as far as it has come
    pub knows : Knows by log tickets serving v.numbers v.seen v.stage
    -- two seats that met have the same terms
    pub partner : MetWith v.terms v.stage

-- the state is in its slot, with the log for its history and with its terms, and no seat has the turn
pub record IsHome {T E C : Type 0} (history : T → List E) (terms : T → C) (fixed : C) (log : List E) (serving : ℕ) (s : State (Option T) (View E C)) : Type 0 where
  pub state : T
  pub slot : s.homes ≡ some (Some state) ∷ []
  pub is : history state ≡ log
  pub kept : terms state ≡ fixed
  -- each ticket that has passed brought one entry at most
  pub room : length log ≤ serving
  pub none_away : EachView (λ v. is_away v.stage ≡ false) s.views

-- the state is not in its slot, which has this for a home, and some seat is at a stage that passes the test
pub record IsAway {T E C : Type 0} (test : Stage E C → Bool) (home : maybe.Option (Option T)) (s : State (Option T) (View E C)) : Type 0 where
  pub slot : s.homes ≡ home ∷ []
  pub one : SomeView (λ v. test v.stage ≡ true) s.views

-- the state is at home, or the slot is out with the seat that is served, or the lock was not opened and the slot is empty
abbrev pub IsSomewhere : {T E C : Type 0} → (T → List E) → (T → C) → C → List E → ℕ → State (Option T) (View E C) → Type 0
IsSomewhere history terms fixed log serving s = IsHome history terms fixed log serving s ⊎ (IsAway is_served maybe.none s ⊎ IsAway is_opening (some None) s)

-- the rule, of a state with these terms and of seats with the numbers below count
pub record IsKept {T E C : Type 0} (history : T → List E) (terms : T → C) (by : E → ℕ) (count : ℕ) (fixed : C) (s : State (Option T) (View E C)) : Type 0 where
  -- all entries, in the order of the turns that made them
  pub log : List E
  -- how many tickets were drawn
  pub tickets : ℕ
  -- the ticket that has the turn, or will have it first
  pub serving : ℕ
  -- these are the words, and the length of the log is the third
  pub words : s.words ≡ tickets ∷ serving ∷ length log ∷ []
  -- no turn passes before its ticket was drawn
  pub order : serving ≤ tickets
  -- no ticket is given twice
  pub top : tickets < 2 ^ 64
  -- each entry carries one of the lock's numbers
  pub marked : AreMarkedBelow by count log
  -- each seat knows what it may
  pub each : EachView (Fits by count fixed log tickets serving) s.views
  -- no ticket and no number is held twice
  pub apart : AreApart s.views
  -- each ticket that was drawn and hasn't passed is held
  pub tickets_held : (k : ℕ) → serving ≤ k → k < tickets → SomeView (λ v. HasTicket k v.stage) s.views
  -- each number is held
  pub numbers_held : (n : ℕ) → n < count → SomeView (λ v. has v.numbers n ≡ true) s.views
  -- where the state is
  pub where_is : IsSomewhere history terms fixed log serving s
