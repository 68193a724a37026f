use Rattle.semver.proofs.Grammar.{version_parts-sound}
use Rattle.spm_version.proofs.ReadLemmas.{bad_exactly, version_parts-no_memory}
use Rattle.spm_version.proofs.release.Release.parse.Goals as goal

pub invariant_of-result : goal.invariant_of-result
invariant_of-result c = (version_parts-sound c.args.text.now _ c.in-Ok.ensures.ok).1

pub returns-in-Err-clause-bad : goal.returns-in-Err-clause-bad
returns-in-Err-clause-bad c =
    bad_exactly _ c.in-Err.e c.fault_of.result (version_parts-no_memory c.args.text.now) c.in-Err.ensures.err c.in-Err.ensures.refused c.fault_of.ensures
