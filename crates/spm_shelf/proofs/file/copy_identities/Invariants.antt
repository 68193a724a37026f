use Rattle.std.proofs.Common.{◌≡◌, take}
use Rattle.spm_shelf.proofs.file.copy_identities.Given as goal

abbrev pub invariant-loop-identity : goal.invariant-loop-identity
invariant-loop-identity l = l.copy.items ≡ take l.identity-index l.identities
