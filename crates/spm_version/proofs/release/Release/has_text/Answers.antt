use Rattle.std.proofs.Common.{◌∙◌}
use Rattle.semver.specs.Identifiers.{parts_of}
use Rattle.spm_version.proofs.ReleaseLemmas.{release_eq-texts}
use Rattle.spm_version.proofs.release.Release.has_text.Goals as goal

pub returns : goal.returns
returns c =
    rw (← c.self.view_is, ← c.other.view_is)
    (c.eq.ensures ∙ release_eq-texts (parts_of c.self.inside.version) (parts_of c.other.inside.version) c.self.invariant c.other.invariant)
