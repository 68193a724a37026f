use Rattle.spm_server.proofs.TargetLemmas.{too_deep}
use Rattle.spm_server.proofs.target.package_key.Goals as goal

pub returns-in_default-Some : goal.returns-in_default-Some
returns-in_default-Some c =
    rw (c.in-Some.is, c.cut.ensures, c.in-Some-behind.is, c.cut-2.ensures, c.in_default-Some.is-1)
    (too_deep c.args.identity c.cut.result.0.now c.cut-2.result.0.now c.in_default-Some.field-0-1.now)
