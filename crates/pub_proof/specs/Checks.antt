-- What the checker answers: what the definition says, unless memory runs out.
use Rattle.std.specs.Prelude.{◌≡◌, List, [], ◌∷◌, map, Result, Ok, Err}
use Rattle.pub_term.specs.declared.term.Incompat.{Incompat}
use Rattle.pub_term.specs.declared.term.Term.{Term}
use Rattle.pub_proof.specs.Checked.{LineFault}
use Rattle.pub_proof.specs.declared.derivation.Line.{Line}
use Rattle.pub_proof.specs.declared.derivation.Line.TheVariants.{Fact, Resolve}
use Rattle.pub_proof.specs.declared.fault.ProofFault.{ProofFault}
use Rattle.pub_proof.specs.declared.fault.ProofFault.TheVariants.{At, Memory}

-- the terms of each incompatibility
abbrev pub terms_of : List Incompat → List (List Term)
terms_of incompats = map (λ incompat. incompat.terms) incompats

-- the facts of a derivation: the terms of its fact lines, in their order
abbrev pub own_facts : List Line → List (List Term)
own_facts [] = []
own_facts (Fact incompat cause ∷ lines) = incompat.terms ∷ own_facts lines
own_facts (Resolve first second on ∷ lines) = own_facts lines

abbrev pub Checks : Result Incompat ProofFault → Result (List Term) LineFault → Type 0
Checks (Ok last) checked = checked ≡ Ok last.terms
Checks (Err (At line kind)) checked = checked ≡ Err (record { line = line; kind = kind })
Checks (Err Memory) checked = Unit {0}

-- the same of all lines
abbrev pub ChecksAll : Result (List Incompat) ProofFault → Result (List (List Term)) LineFault → Type 0
ChecksAll (Ok all) checked = checked ≡ Ok (terms_of all)
ChecksAll (Err (At line kind)) checked = checked ≡ Err (record { line = line; kind = kind })
ChecksAll (Err Memory) checked = Unit {0}
