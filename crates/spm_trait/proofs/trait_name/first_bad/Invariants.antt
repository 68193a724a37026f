use Rattle.std.proofs.Common.{◌≡◌, length, drop}
use Rattle.std.specs.Str.{chars}
use Rattle.spm_trait.specs.TraitName.{first_bad}
use Rattle.spm_trait.proofs.Chars.{first_bad_from}
use Rattle.spm_trait.proofs.trait_name.first_bad.Given as goal

abbrev pub invariant-loop-place : goal.invariant-loop-place
invariant-loop-place l =
    (goal.iterator-loop-place).can_next l.place-iterator
    × (goal.iterator-loop-place).is_finite l.place-iterator
    × (first_bad_from (length l.yielded) (drop (length l.yielded) (chars l.text)) ≡ first_bad (chars l.text))
