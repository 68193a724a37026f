use Rattle.std.proofs.Common.{◌≡◌, None, drop}
use Rattle.spm_api.proofs.LeastLemmas.{least_after}
use Rattle.spm_api.proofs.bodies.least.Given as goal

abbrev pub invariant-loop-text : goal.invariant-loop-text
invariant-loop-text l = least_after l.least (drop l.text-index l.texts) ≡ least_after None l.texts
