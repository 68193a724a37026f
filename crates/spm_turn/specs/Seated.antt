-- A seat's place at the table, and what contracts see of it.
use Rattle.std.specs.Prelude.{◌≡◌, ℕ, ◌<◌, List, [], ◌∷◌, length, Option, Some, None}
use Rattle.atomic_table.specs.declared.shared.Seat.{Seat}
use Rattle.spm_turn.specs.declared.view.View.{View}
use Rattle.spm_turn.specs.declared.view.Stage.{Stage}
use Rattle.spm_turn.specs.declared.view.Stage.TheVariants.{Opening, Idle, Waits, Served, Counted, Met}
use Rattle.spm_turn.specs.Sitting.{Sitting}
use Rattle.spm_turn.specs.Views.{reach_of}

module _ {E C : Type 0} where
  -- the history as the turn began, while the seat has it
  abbrev pub turn_base : Stage E C → Option (List E)
  turn_base Opening = None
  turn_base Idle = None
  turn_base (Waits t) = None
  turn_base (Served t base) = Some base
  turn_base (Counted t base) = Some base
  turn_base (Met c a na b nb) = None

  -- the stages between two calls
  abbrev pub IsBetween : Stage E C → Type 0
  IsBetween Opening = ⊥
  IsBetween Idle = Unit {0}
  IsBetween (Waits t) = ⊥
  IsBetween (Served t base) = Unit {0}
  IsBetween (Counted t base) = ⊥
  IsBetween (Met c a na b nb) = ⊥

  -- the slots that a seat holds between two calls
  abbrev pub slots_at : {T : Type 0} → Stage E C → List (ℕ × Option T)
  slots_at Opening = []
  slots_at Idle = []
  slots_at (Waits t) = []
  slots_at (Served t base) = (0, None) ∷ []
  slots_at (Counted t base) = (0, None) ∷ []
  slots_at (Met c a na b nb) = []

  -- what contracts see of a place
  abbrev pub sitting : {T : Type 0} → Seat (Option T) (View E C) → Sitting E C
  sitting p = record { of = p.table_id; terms = p.me.0.terms; seen = p.me.0.seen; numbers = p.me.0.numbers; told = p.me.0.told; base = turn_base p.me.0.stage }

  -- the place is that of a seat between two calls; count is the length of what was seen, or of the history as the turn began
  pub record IsSeated {T : Type 0} (p : Seat (Option T) (View E C)) (count : ℕ) : Type 0 where
    pub counted : count ≡ length (reach_of p.me.0.seen p.me.0.stage)
    pub numbered : 0 < length p.me.0.numbers
    pub between : IsBetween p.me.0.stage
    pub held : p.me.1 ≡ slots_at p.me.0.stage
