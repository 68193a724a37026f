-- The count of faults: it rises where a call answers that it failed, and nowhere else.
use Rattle.std.specs.Prelude.{◌≡◌, ℕ, ◌-◌, ◌<◌, ◌^◌, ◌⊎◌, Result, Ok, Err}
use Rattle.spm_outside.specs.declared.fault.CallFault.{CallFault}
use Rattle.spm_outside.specs.declared.fault.CallFault.TheVariants.{Failed, Memory}

-- greater, or at the end of a u64, where a count stays
abbrev pub Rises : ℕ → ℕ → Type 0
Rises old new = (old < new) ⊎ ((old ≡ 2 ^ 64 - 1) × (new ≡ 2 ^ 64 - 1))

-- the count after a call, by its answer
abbrev pub FaultsAfter : {T : Type 0} → Result T CallFault → ℕ → ℕ → Type 0
FaultsAfter (Ok answer) old new = new ≡ old
FaultsAfter (Err Failed) old new = Rises old new
FaultsAfter (Err Memory) old new = new ≡ old
