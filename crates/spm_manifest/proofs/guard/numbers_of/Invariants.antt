use Rattle.std.proofs.Common.{◌≡◌, ℕ, List, drop}
use Rattle.std.specs.BTreeMap.{get_by_text}
use Rattle.spm_manifest.specs.Counted.{number_after, number_of}
use Rattle.spm_manifest.proofs.guard.numbers_of.Given as goal

abbrev pub invariant-loop-number : goal.invariant-loop-number
invariant-loop-number l = (identity : List ℕ) →
    number_after (get_by_text l.numbers identity) l.number identity (drop l.number l.dependencies) ≡ number_of l.dependencies identity
