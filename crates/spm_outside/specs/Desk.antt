-- What the calls of a desk leave, by their answer.
use Rattle.std.specs.Prelude.{◌≡◌, ◌≢◌, ℕ, List, [], ◌∷◌, ◌++◌, Option, Some, None, Result, Ok, Err, option_map}
use Rattle.std.specs.FinMap as map
use Rattle.spm_outside.specs.Names.{FileMap}
use Rattle.spm_outside.specs.declared.fault.CallFault.{CallFault}
use Rattle.spm_outside.specs.declared.fault.CallFault.TheVariants.{Failed, Memory}

-- what a desk tells: its files, the names whose get or put failed, and the count of faults
pub record DeskState : Type 0 where
  pub files : Option FileMap
  pub failed : Option (List (List ℕ))
  pub faults : ℕ

-- the failed names after a call: the name joins them where the answer is Failed
abbrev pub failed_after : {T : Type 0} → Result T CallFault → List ℕ → Option (List (List ℕ)) → Option (List (List ℕ))
failed_after (Ok answer) name failed = failed
failed_after (Err Failed) name failed = option_map (λ names. names ++ name ∷ []) failed
failed_after (Err Memory) name failed = failed

-- every file but this one is as it was
abbrev pub OthersStay : List ℕ → Option FileMap → Option FileMap → Type 0
OthersStay name None None = Unit {0}
OthersStay name None (Some new) = ⊥
OthersStay name (Some old) None = ⊥
OthersStay name (Some old) (Some new) = (other : List ℕ) → other ≢ name → map.get new other ≡ map.get old other

-- the files after a put: that file has the bytes; where the put failed it is unknown
abbrev pub FilesAfterPut : {T : Type 0} → Result T CallFault → List ℕ → List ℕ → Option FileMap → Option FileMap → Type 0
FilesAfterPut (Ok answer) name bytes old new = new ≡ option_map (λ files. map.insert files name bytes) old
FilesAfterPut (Err Failed) name bytes old new = OthersStay name old new
FilesAfterPut (Err Memory) name bytes old new = new ≡ old
