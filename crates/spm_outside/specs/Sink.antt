-- What the call of a sink leaves, by its answer.
use Rattle.std.specs.Prelude.{◌≡◌, ℕ, ◌<◌, ◌≤◌, List, ◌++◌, length, take, Option, Result, Ok, Err, option_map, ⊤}
use Rattle.spm_outside.specs.declared.fault.CallFault.{CallFault}

-- what a sink tells: the bytes written, and the count of faults
pub record SinkState : Type 0 where
  pub written : Option (List ℕ)
  pub faults : ℕ

-- so many bytes of the piece were taken, and at least one if it has any
abbrev pub TakesOf : List ℕ → ℕ → Type 0
TakesOf piece count = (count ≤ length piece) × (0 < length piece → 0 < count)

-- what is written after a call: as many bytes of the piece more as were taken
abbrev pub written_after : Result ℕ CallFault → List ℕ → Option (List ℕ) → Option (List ℕ)
written_after (Ok count) piece written = option_map (λ bytes. bytes ++ take count piece) written
written_after (Err fault) piece written = written

-- After a put of all the bytes they are written. Where a call failed, some of them are, from the front on, and not all.
abbrev pub PutsAll : {E : Type 0} → Result ⊤ E → List ℕ → Option (List ℕ) → Option (List ℕ) → Type 0
PutsAll (Ok answer) bytes old new = new ≡ option_map (λ written. written ++ bytes) old
PutsAll (Err fault) bytes old new =
    (count : ℕ) × (count < length bytes) × (new ≡ option_map (λ written. written ++ take count bytes) old)
