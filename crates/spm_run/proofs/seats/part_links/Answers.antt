use Rattle.std.proofs.Common.{rules}
use Rattle.spm_run.proofs.LinkLemmas.{turned_twice}
use Rattle.spm_run.proofs.seats.part_links.Goals as goal

-- src/seats.rt
pub returns-in-Err-clause-err : goal.returns-in-Err-clause-err
returns-in-Err-clause-err g c =
    let e = turned_twice c.args.roots c.args.workers c.args.links.now.items c.requires.links c.requires.few.0 c.requires.few.1 in
    search rules
