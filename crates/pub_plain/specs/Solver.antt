-- A solver as its callers see it, and what its turns come to.
use Rattle.std.specs.Prelude.{◌≡◌, ℕ, ◌+◌, min, List, []}
use Rattle.pub_facts.specs.Catalogue.{Job}
use Rattle.pub_trail.specs.Turn.{Rules, State, Step, Turn, Went, Needs, TooWide, Selected, Refuted, turn_of}
use Rattle.pub_trail.specs.declared.turned.Turned.{Turned}
use Rattle.pub_trail.specs.declared.turned.Turned.TheVariants as turned
use Rattle.pub_term.specs.declared.term.Term.{Term}
use Rattle.pub_plain.specs.Answers.{Answers}
use Rattle.pub_plain.specs.Choosing.{Pins}
use Rattle.pub_plain.specs.Given.{Given, answers_in}
use Rattle.pub_plain.specs.Plain.{opening, rules_of}

pub record Solver : Type 0 where
  pub job : Job
  pub pins : Pins
  pub given : Given
  pub state : State
  -- how many turns were done
  pub turns : ℕ

-- what the replies that were given say
abbrev pub answers_now : Solver → Answers
answers_now solver = answers_in solver.given

abbrev pub rules_now : Solver → Rules
rules_now solver = rules_of solver.job solver.pins (answers_now solver)

-- what the next turn comes to
abbrev pub turn_now : Solver → Turn
turn_now solver = turn_of (rules_now solver) solver.state

-- one turn more; the count stops at the greatest number of 64 bits
abbrev pub counted : ℕ → ℕ
counted turns = min (turns + 1) 18446744073709551615

-- the solver at another state, after one turn more
abbrev pub went_to : Solver → State → Solver
went_to solver state = record { job = solver.job; pins = solver.pins; given = solver.given; state = state; turns = counted solver.turns }

-- what a turn answers and leaves: it is done, or nothing changes
abbrev pub Turns : Turned → Solver → Solver → Type 0
Turns (turned.Need asked) old new = (turn_now old ≡ Needs asked) × (new ≡ old)
Turns turned.Went old new = (state : State) × (turn_now old ≡ Went state) × (new ≡ went_to old state)
Turns turned.Selected old new = (turn_now old ≡ Selected) × (new ≡ old)
Turns turned.Refuted old new =
    (terms : List Term) × (first : ℕ) × (steps : List Step) × (turn_now old ≡ Refuted terms first steps) × (new ≡ old)
Turns (turned.TooWide wide) old new = (turn_now old ≡ TooWide wide) × (new ≡ old)

-- a solver at its opening, before any reply
abbrev pub opened : Job → Pins → Solver
opened job pins = record {
  job = job;
  pins = pins;
  given = record { lists = []; long = []; urls = []; manifests = [] };
  state = opening;
  turns = 0;
}
