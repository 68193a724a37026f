-- What a turn leaves of the origins and of the decisions.
use Rattle.std.specs.Prelude.{Bool, List, ◌++◌}
use Rattle.pub_term.specs.declared.cause.Cause.{Cause}
use Rattle.pub_term.specs.declared.term.Term.{Term}
use Rattle.pub_trail.specs.Derived.{IsEnd, IsHistory, derivation}
use Rattle.pub_trail.specs.First.{IsChosen, IsSelection, Preference}
use Rattle.pub_trail.specs.Turn.{State, Turn, Went, Needs, TooWide, Selected, Refuted}

-- a turn keeps the origins, and where it refutes, the lines behind the refutation are checked
abbrev pub IsHistoryAfter : (Cause → Cause → Bool) → List (List Term) → State → Turn → Type 0
IsHistoryAfter same facts state (Went next) = (more : List (List Term)) × IsHistory (facts ++ more) next
IsHistoryAfter same facts state (Needs key) = Unit {0}
IsHistoryAfter same facts state (TooWide wide) = Unit {0}
IsHistoryAfter same facts state Selected = Unit {0}
IsHistoryAfter same facts state (Refuted terms first steps) = IsEnd state.sizes facts terms (derivation same state first steps)

-- a turn keeps what decisions are, and where it selects, the selection is the first
abbrev pub IsChosenAfter : Preference → List (List Term) → State → Turn → Type 0
IsChosenAfter prefers facts state (Went next) = (more : List (List Term)) × IsChosen prefers (facts ++ more) next
IsChosenAfter prefers facts state (Needs key) = Unit {0}
IsChosenAfter prefers facts state (TooWide wide) = Unit {0}
IsChosenAfter prefers facts state Selected = IsSelection prefers facts state
IsChosenAfter prefers facts state (Refuted terms first steps) = Unit {0}
