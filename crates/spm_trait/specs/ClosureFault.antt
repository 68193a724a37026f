-- Why a closure is refused.
use Rattle.std.specs.Prelude.{ℕ, List}
use Rattle.spm_trait.specs.Closure.{IsLeastUnknown}
use Rattle.spm_trait.specs.declared.closures.ClosureFault.{ClosureFault}
use Rattle.spm_trait.specs.declared.closures.ClosureFault.TheVariants.{Unknown, Memory}
use Rattle.spm_trait.specs.declared.traits.TraitEntry.{TraitEntry}

-- a name that isn't declared, or want of memory, which is free
abbrev pub IsClosureFault : List TraitEntry → List (List ℕ) → ClosureFault → Type 0
IsClosureFault entries asked (Unknown name) = IsLeastUnknown entries asked name
IsClosureFault entries asked Memory = Unit {0}
