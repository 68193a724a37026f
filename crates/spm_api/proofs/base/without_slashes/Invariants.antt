use denote.Shadow.{shadow}
use denote.Text.{Utf8}
use Rattle.std.proofs.Common.{◌≡◌, length}
use Rattle.spm_api.specs.Base.{without_slashes}
use Rattle.spm_api.proofs.base.without_slashes.Given as goal

abbrev pub invariant-loop-shorter : goal.invariant-loop-shorter
invariant-loop-shorter l = record {
  text : shadow (Utf8 l.rest);
  same : without_slashes l.rest ≡ without_slashes l.path;
}

abbrev pub decreases-loop-shorter : goal.decreases-loop-shorter
decreases-loop-shorter l = length l.rest
