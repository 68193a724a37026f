-- The plain solver: its rules, its turns, and what it comes to.
use Rattle.std.specs.Prelude.{ℕ, [], ◌∷◌}
use Rattle.pub_facts.specs.Catalogue.{Job}
use Rattle.pub_set.specs.Choices.{choices_of}
use Rattle.pub_term.specs.declared.node.NodeName.TheVariants.{Root}
use Rattle.pub_trail.specs.Invariant.{Limits}
use Rattle.pub_trail.specs.Turn.{Rules, State, Turn, Went, run_on}
use Rattle.pub_trail.specs.declared.trail.Assigned.{Assigned}
use Rattle.pub_trail.specs.declared.trail.Reason.TheVariants.{Decided}
use Rattle.pub_plain.specs.Answers.{Answers, lookups_by}
use Rattle.pub_plain.specs.Choosing.{Pins, next_in}
use Rattle.pub_plain.specs.Loading.{load_at, loading}

-- what a solver takes from its job, its pins, and what is said of keys
abbrev pub rules_of : Job → Pins → Answers → Rules
rules_of job pins answers = record {
  load = λ state place. loading job answers state.names (load_at state.names place);
  next = λ state. next_in pins (lookups_by answers) state;
}

-- at most 4,096 nodes, and 4,096 releases of a package beside none
abbrev pub plain_limits : Limits
plain_limits = record { nodes = 4096; choices = 4097 }

-- the root is chosen, at the first level
abbrev pub root_entry : Assigned
root_entry = record { node = 0; choices = choices_of 2 (1 ∷ []); level = 1; reason = Decided }

-- where a solver begins
abbrev pub opening : State
opening = record { names = Root ∷ []; sizes = 2 ∷ []; incompats = []; origins = []; loads = []; trail = root_entry ∷ [] }

-- after so many turns, as far as they go
abbrev pub plain_after : Job → Pins → Answers → ℕ → Turn
plain_after job pins answers n = run_on (rules_of job pins answers) n (Went opening)
