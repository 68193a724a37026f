use Rattle.std.proofs.Common.{None, sym}
use Rattle.pub_proof.proofs.FileLemmas.{below_size}
use Rattle.pub_proof.proofs.file.set.Goals as goal

pub of-requires : goal.of-requires
of-requires c = below_size c.args.size None c.args.numbers.now (sym c.if-are_choices.ensures)
