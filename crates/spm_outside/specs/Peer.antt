-- What the calls of a peer leave, by their answer.
use Rattle.std.specs.Prelude.{◌≡◌, ℕ, ◌≤◌, List, ◌++◌, length, take, drop, Option, IfSome, Result, Ok, Err, option_map}
use Rattle.spm_outside.specs.Link.{HandsOver}
use Rattle.spm_outside.specs.declared.fault.CallFault.{CallFault}

-- what a peer tells: the bytes taken from it, those that are left, those written to it, and the count of faults
pub record PeerState : Type 0 where
  pub taken : Option (List ℕ)
  pub rest : Option (List ℕ)
  pub written : Option (List ℕ)
  pub faults : ℕ

-- a read: the piece as it is afterwards, and the bytes taken so far
abbrev pub taken_after : Result ℕ CallFault → List ℕ → Option (List ℕ) → Option (List ℕ)
taken_after (Ok count) piece taken = option_map (λ bytes. bytes ++ take count piece) taken
taken_after (Err fault) piece taken = taken

-- the bytes that are left, of which those handed over are gone; none are handed over only where none are left
abbrev pub LeftAfter : Result ℕ CallFault → List ℕ → Option (List ℕ) → Option (List ℕ) → Type 0
LeftAfter (Ok count) piece old new =
    (new ≡ option_map (λ rest. drop count rest) old) × (count ≤ length piece) × IfSome old (λ rest. HandsOver rest piece count)
LeftAfter (Err fault) piece old new = new ≡ old
