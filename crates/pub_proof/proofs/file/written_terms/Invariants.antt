use Rattle.std.proofs.Common.{◌≡◌, map, take}
use Rattle.pub_proof.specs.File.{term_of}
use Rattle.pub_proof.proofs.file.written_terms.Given as goal

abbrev pub invariant-loop-next : goal.invariant-loop-next
invariant-loop-next l = l.terms.items ≡ map (term_of l.nodes) (take l.next-index l.written)
