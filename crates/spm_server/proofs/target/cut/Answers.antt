use Rattle.std.proofs.Common.{arith}
use Rattle.spm_server.proofs.TargetLemmas.{cut_first, cut_none}
use Rattle.spm_server.proofs.target.cut.Goals as goal

pub returns-in-Some : goal.returns-in-Some
returns-in-Some c =
    let cut = c.in-Some.ensures.byte (omega arith) (λ w o is. is) in
    cut_first c.args.path.now c.in-Some.part.now c.in-Some.rest.now cut.0 cut.1 cut.2

pub returns-in-None : goal.returns-in-None
returns-in-None c =
    let cut = c.in-None.ensures.byte (omega arith) (λ w o is. is) in
    cut_none c.args.path.now cut
