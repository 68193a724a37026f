-- What the nodes and the texts of choices have to have, so that each line's text can be written.
use Rattle.std.specs.Prelude.{ℕ, ◌<◌, List}
use Rattle.pub_set.specs.declared.runs.Run.{Run}
use Rattle.pub_term.specs.Sized.{IsSized}
use Rattle.pub_term.specs.declared.term.Term.{Term}
use Rattle.pub_proof.specs.declared.derivation.Line.{Line}
use Rattle.pub_proof.specs.declared.derivation.Line.TheVariants.{Fact, Resolve}

-- the run's choices are below the size
abbrev pub IsRunBelow : ℕ → Run → Type 0
IsRunBelow size run = (run.first < size) × (run.last < size)

-- the term's node is there, and its set has the node's size
abbrev pub IsSizedTerm : List ℕ → Term → Type 0
IsSizedTerm sizes term = IsSized sizes term.node term.choices

-- the node on which the line resolves is one of so many
abbrev pub IsOnNode : ℕ → Line → Type 0
IsOnNode nodes (Fact incompat cause) = Unit {0}
IsOnNode nodes (Resolve first second on) = on < nodes
