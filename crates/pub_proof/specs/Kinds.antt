-- How faults are printed.
use Rattle.std.specs.Prelude.{ℕ, List, ◌++◌, codes}
use Rattle.std.specs.Fmt.{decimal}
use Rattle.pub_proof.specs.declared.fault.ProofFault.{ProofFault}
use Rattle.pub_proof.specs.declared.fault.ProofFault.TheVariants.{At, Memory}
use Rattle.pub_proof.specs.declared.fault.ProofKind.{ProofKind}
use Rattle.pub_proof.specs.declared.fault.ProofKind.TheVariants.{NoSuchLine, NoSuchNode, BadSet, NotAFact, NotOn, NotARefutation}

abbrev pub kind_text : ProofKind → List ℕ
kind_text NoSuchLine = codes "no such line"
kind_text NoSuchNode = codes "no such node"
kind_text BadSet = codes "bad set"
kind_text NotAFact = codes "not a fact"
kind_text NotOn = codes "not on"
kind_text NotARefutation = codes "not a refutation"

abbrev pub fault_text : ProofFault → List ℕ
fault_text (At line kind) = codes "line " ++ (decimal line ++ (codes ": " ++ kind_text kind))
fault_text Memory = codes "no memory"
