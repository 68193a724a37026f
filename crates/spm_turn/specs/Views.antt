-- The view of a seat, and what the steps make of it.
use Rattle.std.specs.Prelude.{ℕ, max, Bool, true, false, List, [], ◌∷◌, ◌++◌}
use Rattle.spm_turn.specs.declared.view.View.{View}
use Rattle.spm_turn.specs.declared.view.Stage.{Stage}
use Rattle.spm_turn.specs.declared.view.Stage.TheVariants.{Opening, Idle, Waits, Served, Counted, Met}
use Rattle.spm_turn.specs.Log.{below, without, longer}

module _ {E C : Type 0} where
  -- the first seat, with all numbers below count
  abbrev pub newcomer : ℕ → C → View E C
  newcomer count terms = record { terms = terms; seen = []; numbers = below count; told = 0; stage = Opening }

  -- a seat that is no more
  abbrev pub spent : C → View E C
  spent terms = record { terms = terms; seen = []; numbers = []; told = 0; stage = Idle }

  -- the seat, come so far
  abbrev pub at_stage : View E C → Stage E C → View E C
  at_stage v stage = record { terms = v.terms; seen = v.seen; numbers = v.numbers; told = v.told; stage = stage }

  -- the seat, told that the log is n long
  abbrev pub with_told : View E C → ℕ → View E C
  with_told v n = record { terms = v.terms; seen = v.seen; numbers = v.numbers; told = n; stage = v.stage }

  -- the same, if it wasn't told of more
  abbrev pub told_of : View E C → ℕ → View E C
  told_of v n = with_told v (max v.told n)

  -- the first seat has the ticket zero, and has not opened the lock
  abbrev pub is_opening : Stage E C → Bool
  is_opening Opening = true
  is_opening Idle = false
  is_opening (Waits t) = false
  is_opening (Served t base) = false
  is_opening (Counted t base) = false
  is_opening (Met c a na b nb) = false

  -- the seat has the turn
  abbrev pub is_served : Stage E C → Bool
  is_served Opening = false
  is_served Idle = false
  is_served (Waits t) = false
  is_served (Served t base) = true
  is_served (Counted t base) = true
  is_served (Met c a na b nb) = false

  -- the state is not in its slot
  abbrev pub is_away : Stage E C → Bool
  is_away Opening = true
  is_away Idle = false
  is_away (Waits t) = false
  is_away (Served t base) = true
  is_away (Counted t base) = true
  is_away (Met c a na b nb) = false

  -- the log, as a seat that has the turn knows it
  abbrev pub base_of : Stage E C → List E
  base_of Opening = []
  base_of Idle = []
  base_of (Waits t) = []
  base_of (Served t base) = base
  base_of (Counted t base) = base
  base_of (Met c a na b nb) = []

  -- what a seat has seen, and from when it is served the log
  abbrev pub reach_of : List E → Stage E C → List E
  reach_of seen Opening = seen
  reach_of seen Idle = seen
  reach_of seen (Waits t) = seen
  reach_of seen (Served t base) = base
  reach_of seen (Counted t base) = base
  reach_of seen (Met c a na b nb) = seen

  -- the seat after its turn: it has seen the base
  abbrev pub after_turn : View E C → View E C
  after_turn v = record { terms = v.terms; seen = base_of v.stage; numbers = v.numbers; told = v.told; stage = Idle }

  -- the seat that a number was taken from
  abbrev pub keeping : ℕ → View E C → View E C
  keeping n v = record { terms = v.terms; seen = v.seen; numbers = without n v.numbers; told = v.told; stage = v.stage }

  -- the seat that was made for this number
  abbrev pub giving : ℕ → View E C → View E C
  giving n v = record { terms = v.terms; seen = v.seen; numbers = n ∷ []; told = v.told; stage = Idle }

  -- one seat of two
  abbrev pub met : View E C → View E C → View E C
  met v w = record { terms = v.terms; seen = longer v.seen w.seen; numbers = v.numbers ++ w.numbers; told = max v.told w.told; stage = Met w.terms v.seen v.numbers w.seen w.numbers }
