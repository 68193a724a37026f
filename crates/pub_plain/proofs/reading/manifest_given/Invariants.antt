use Rattle.std.proofs.Common.{◌≡◌, drop}
use Rattle.pub_plain.specs.Given.{manifest_given}
use Rattle.pub_plain.proofs.reading.manifest_given.Given as goal

abbrev pub invariant-loop-one : goal.invariant-loop-one
invariant-loop-one l = manifest_given (drop l.one-index l.manifests) l.identity l.release ≡ manifest_given l.manifests l.identity l.release
