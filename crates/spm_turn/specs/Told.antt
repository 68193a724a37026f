-- What each step on a lock's table tells the seat that makes it.
use Rattle.std.specs.Prelude.{◌≡◌, ◌≢◌, ℕ, ◌≤◌, List, [], ◌∷◌, length, Option, Some, None}
use Rattle.atomic_table.specs.Table.{Me, Step}
use Rattle.spm_turn.specs.declared.view.View.{View}
use Rattle.spm_turn.specs.declared.view.Stage.TheVariants.{Idle, Waits, Served, Counted, Met}
use Rattle.spm_turn.specs.Log.{OthersFollow, AreMarkedBelow, NoneShared}
use Rattle.spm_turn.specs.Views.{at_stage, after_turn, told_of}

module _ {E C S : Type 0} where
  -- the ticket found is the seat's own, where nobody was before it
  abbrev pub drawn : Step S → Me S (View E C) → ℕ → Me S (View E C) → Type 0
  drawn s me found w = (found ≡ s.first → w ≡ (at_stage me.0 (Waits found), me.1)) × (found ≢ s.first → w ≡ me)

  -- the seat has seen the base, and the slot is at home
  abbrev pub passed : Step S → Me S (View E C) → ℕ → Me S (View E C) → Type 0
  passed s me found w = w ≡ (after_turn me.0, [])

  -- the seat is told of the length found
  abbrev pub rested : Step S → Me S (View E C) → ℕ → Me S (View E C) → Type 0
  rested s me found w = w ≡ (told_of me.0 found, me.1)

module _ {E C S : Type 0} (by : E → ℕ) where
  -- what was met goes on by entries of others alone; the two had one state's terms, and no number in common
  abbrev pub settled : Step S → Me S (View E C) → ℕ → Me S (View E C) → Type 0
  settled s me found w = (c : C) (a : List E) (na : List ℕ) (b : List E) (nb : List ℕ) → me.0.stage ≡ Met c a na b nb
      → (w ≡ (at_stage me.0 Idle, me.1)) × OthersFollow by na a me.0.seen × OthersFollow by nb b me.0.seen × NoneShared na nb × (me.0.terms ≡ c)

module _ {T E C : Type 0} where
  -- the empty slot goes out to the first seat, whose turn it is
  abbrev pub opened : Step (Option T) → Me (Option T) (View E C) → ℕ → Me (Option T) (View E C) → Type 0
  opened s me found w = w ≡ (at_stage me.0 (Served 0 []), (0, None) ∷ me.1)

module _ {T E C : Type 0} (history : T → List E) where
  -- the base becomes the history of the state that the seat holds
  abbrev pub counted : Step (Option T) → Me (Option T) (View E C) → ℕ → Me (Option T) (View E C) → Type 0
  counted s me found w = (t : ℕ) (base : List E) (state : T) → me.0.stage ≡ Served t base → me.1 ≡ (0, Some state) ∷ []
      → w ≡ (at_stage me.0 (Counted t (history state)), me.1)

  module _ (terms : T → C) (by : E → ℕ) (count : ℕ) where
    -- the slot goes out to the seat, with a state of the seat's terms, whose history goes on from what was seen by entries of others alone
    abbrev pub Serves : ℕ → Me (Option T) (View E C) → Me (Option T) (View E C) → Type 0
    Serves t me w =
        (state : T) × (w ≡ (at_stage me.0 (Served t (history state)), (0, Some state) ∷ me.1))
        × OthersFollow by me.0.numbers me.0.seen (history state) × (me.0.told ≤ length (history state))
        × (terms state ≡ me.0.terms) × AreMarkedBelow by count (history state)

    -- the seat is served where its ticket is found, and else nothing changes
    abbrev pub looked : Step (Option T) → Me (Option T) (View E C) → ℕ → Me (Option T) (View E C) → Type 0
    looked s me found w = (t : ℕ) → me.0.stage ≡ Waits t → (found ≡ t → Serves t me w) × (found ≢ t → w ≡ me)
