-- Where the fact lines of a derivation come from: each is a fact of a load that was done.
use Rattle.std.specs.Prelude.{◌<◌, List, length, Contains}
use Rattle.pub_facts.specs.Catalogue.{Job}
use Rattle.pub_facts.specs.Numbered.{number_in, numbered}
use Rattle.pub_proof.specs.declared.derivation.Line.{Line}
use Rattle.pub_proof.specs.declared.derivation.Line.TheVariants.{Fact, Resolve}
use Rattle.pub_term.specs.declared.cause.Cause.{Cause}
use Rattle.pub_term.specs.declared.node.NodeName.{NodeName}
use Rattle.pub_term.specs.declared.term.Incompat.{Incompat}
use Rattle.pub_trail.specs.Turn.{State}
use Rattle.pub_trail.specs.declared.trail.Place.{Place}
use Rattle.pub_plain.specs.Answers.{Answers, catalogue_by}
use Rattle.pub_plain.specs.Derivation.{ordered}
use Rattle.pub_plain.specs.Loading.{facts_at, load_at}

-- the facts of the load of a place with their causes, by the places of the nodes in node order
abbrev pub facts_in_order : Job → Answers → List NodeName → Place → List (Incompat × Cause)
facts_in_order job answers names place = numbered (number_in (ordered names)) (facts_at job (catalogue_by answers) (load_at names place))

-- one of the facts of a load that was done, of a node that is named
pub record IsLoadedFact (job : Job) (answers : Answers) (state : State) (incompat : Incompat) (cause : Cause) : Type 0 where
  pub place : Place
  pub known : place.node < length state.names
  pub done : Contains state.loads place
  pub given : Contains (facts_in_order job answers state.names place) (incompat, cause)

-- a fact line is one of them, with its cause; a resolution says nothing of its own
abbrev pub IsFactLine : Job → Answers → State → Line → Type 0
IsFactLine job answers state (Fact incompat cause) = IsLoadedFact job answers state incompat cause
IsFactLine job answers state (Resolve first second on) = Unit {0}
