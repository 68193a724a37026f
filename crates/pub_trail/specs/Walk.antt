-- What the walk of a conflict answers, as the definitions have it.
use Rattle.std.specs.Prelude.{List, map}
use Rattle.pub_term.specs.declared.term.Incompat.{Incompat}
use Rattle.pub_term.specs.declared.term.Term.{Term}
use Rattle.pub_trail.specs.Turn.{Conflict, Refutes, Learns}
use Rattle.pub_trail.specs.declared.walk.Ending.{Ending}
use Rattle.pub_trail.specs.declared.walk.Ending.TheVariants.{Refuted, Learned}

-- the terms of each incompatibility
abbrev pub terms_of : List Incompat → List (List Term)
terms_of incompats = map (λ incompat. incompat.terms) incompats

-- a conflict's end as the definitions have it
abbrev pub ending_of : Ending → Conflict
ending_of (Refuted incompat steps) = Refutes incompat.terms steps
ending_of (Learned incompat steps level) = Learns incompat.terms steps level
