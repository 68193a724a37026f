use Rattle.std.proofs.Common.{◌≡◌, ◌++◌, ◌∷◌, drop, map}
use Rattle.std.specs.Prelude.{codes}
use Rattle.spm_version.specs.Release.{parts_text}
use Rattle.pub_plain.proofs.texts.package_texts.Given as goal

abbrev pub invariant-loop-release : goal.invariant-loop-release
invariant-loop-release l = l.texts ++ map parts_text (drop l.release-index l.list) ≡ codes "none" ∷ map parts_text l.list
