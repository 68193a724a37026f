use Rattle.std.proofs.Common.{rules, ◌+◌}
use Rattle.spm_run.proofs.PartLemmas.{length_fresh}
use Rattle.spm_run.proofs.stage.Stage.open.Goals as goal

-- src/stage.rt
pub returns : goal.returns
returns g c =
    let many = length_fresh c.in_ok-cache.cache.id c.args.roots c.args.workers 0 (c.args.roots + c.args.workers) in
    search rules
