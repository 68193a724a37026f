use Rattle.std.proofs.Common.{◌≡◌, drop}
use Rattle.spm_api.specs.Bodies.{archive_checksum}
use Rattle.spm_api.proofs.bodies.first_checksum.Given as goal

abbrev pub invariant-loop-resource : goal.invariant-loop-resource
invariant-loop-resource l = archive_checksum (drop l.resource-index l.resources) ≡ archive_checksum l.resources
