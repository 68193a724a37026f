use Rattle.std.proofs.Common.{◌≡◌, map, take}
use Rattle.pub_proof.specs.File.{line_of}
use Rattle.pub_proof.proofs.file.lines.Given as goal

abbrev pub invariant-loop-next : goal.invariant-loop-next
invariant-loop-next l = l.lines ≡ map (line_of l.nodes) (take l.next-index l.written)
