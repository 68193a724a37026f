-- The files that a run puts, and what they leave at the desk.
use Rattle.std.specs.Prelude.{◌≡◌, ℕ, List, [], ◌∷◌, Bool, true, false, Option, Some, None, Result, Ok, Err, option_map, if◌then◌else◌}
use Rattle.std.specs.FinMap as map
use Rattle.pub_plain.specs.Choosing.{Pins}
use Rattle.pub_proof.specs.ProofText.{proof_text}
use Rattle.spm_outside.specs.Desk.{OthersStay}
use Rattle.spm_outside.specs.Names.{FileMap}
use Rattle.spm_resolved.specs.Resolved.{resolved_text}
use Rattle.spm_session.specs.Archives.{Fingerprints}
use Rattle.spm_session.specs.declared.outcome.Outcome.{Outcome}
use Rattle.spm_session.specs.declared.outcome.Outcome.TheVariants as outcome
use Rattle.spm_trust.specs.TrustText.{trust_text}
use Rattle.spm_tool.specs.Words.{Order, lock_name, proof_name}
use Rattle.spm_tool.specs.declared.ending.Ending.{Ending}
use Rattle.spm_tool.specs.declared.ending.Ending.TheVariants as ending
use Rattle.spm_tool.specs.declared.ending.PutEnding.{PutEnding}
use Rattle.spm_tool.specs.declared.ending.PutEnding.TheVariants as put
use Rattle.spm_tool.specs.declared.ending.RootRun.{RootRun}

-- a file that is put: its name, its bytes, and how the put ended
pub record FilePut : Type 0 where
  pub name : List ℕ
  pub bytes : List ℕ
  pub ended : PutEnding

-- there is a put exactly where there is something to put
abbrev pub IsPut : Bool → PutEnding → Type 0
IsPut true put.Nothing = ⊥
IsPut true it = Unit {0}
IsPut false it = it ≡ put.Nothing

-- ---- of a root

-- the lock file of a root that was resolved, from this origin
abbrev pub lock_put : List ℕ → Option (List ℕ) → Pins → PutEnding → Option FilePut
lock_put root (Some origin) pins it = Some (record { name = lock_name root; bytes = resolved_text origin pins; ended = it })
lock_put root None pins it = None

-- or, where derivations are asked for, the derivation of one that has no selection
abbrev pub outcome_put : Bool → List ℕ → Option (List ℕ) → Outcome → PutEnding → Option FilePut
outcome_put proofs root origin (outcome.Resolved pins sums turns) it = lock_put root origin pins it
outcome_put proofs root origin (outcome.Refuted derivation texts turns) it =
    if proofs then Some (record { name = proof_name root; bytes = proof_text derivation; ended = it }) else None
outcome_put proofs root origin other it = None

abbrev pub root_put : Bool → List ℕ → RootRun → PutEnding → Option FilePut
root_put proofs root run it = outcome_put proofs root run.origin run.outcome it

abbrev pub with_put : Option FilePut → List FilePut → List FilePut
with_put (Some one) puts = one ∷ puts
with_put None puts = puts

-- one root after the other
abbrev pub root_puts : Bool → List (List ℕ) → List RootRun → List PutEnding → List FilePut
root_puts proofs (root ∷ roots) (run ∷ runs) (it ∷ others) = with_put (root_put proofs root run it) (root_puts proofs roots runs others)
root_puts proofs roots runs others = []

-- ---- of a run

-- the fingerprint file that gains some
abbrev pub fingerprints_put : Option (List ℕ) → Option Fingerprints → PutEnding → Option FilePut
fingerprints_put (Some name) (Some gained) it = Some (record { name = name; bytes = trust_text gained; ended = it })
fingerprints_put (Some name) None it = None
fingerprints_put None gained it = None

-- the fingerprint file, and then the files of the roots
abbrev pub puts_of : Order → Ending → List FilePut
puts_of order (ending.Roots runs puts gained it) =
    with_put (fingerprints_put order.fingerprints gained it) (root_puts order.proofs order.roots runs puts)
puts_of order other = []

-- ---- what they leave

-- one put: the file has the bytes; where it failed it is unknown, and where memory ran out as it was; no other file changes
abbrev pub LeavesBy : PutEnding → List ℕ → List ℕ → Option FileMap → Option FileMap → Type 0
LeavesBy put.Done name bytes old new = new ≡ option_map (λ files. map.insert files name bytes) old
LeavesBy put.Failed name bytes old new = OthersStay name old new
LeavesBy put.Memory name bytes old new = new ≡ old
LeavesBy put.Nothing name bytes old new = new ≡ old

abbrev pub PutLeaves : FilePut → Option FileMap → Option FileMap → Type 0
PutLeaves one old new = LeavesBy one.ended one.name one.bytes old new

-- one put after the other; no other file changes
abbrev pub PutsLeave : List FilePut → Option FileMap → Option FileMap → Type 0
PutsLeave [] old new = new ≡ old
PutsLeave (one ∷ puts) old new = (between : Option FileMap) × PutLeaves one old between × PutsLeave puts between new

-- the puts of the roots' run; none where memory ran out before
abbrev pub FilesOfRun : {E : Type 0} → Order → Result Ending E → Option FileMap → Option FileMap → Type 0
FilesOfRun order (Ok it) old new = PutsLeave (puts_of order it) old new
FilesOfRun order (Err want) old new = new ≡ old

-- ---- the files whose put failed

abbrev pub failed_name : PutEnding → List ℕ → List (List ℕ) → List (List ℕ)
failed_name put.Failed name names = name ∷ names
failed_name it name names = names

abbrev pub failed_puts : List FilePut → List (List ℕ)
failed_puts [] = []
failed_puts (one ∷ puts) = failed_name one.ended one.name (failed_puts puts)
