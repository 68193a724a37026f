-- What serving one connection leaves of its peer.
use Rattle.std.specs.Prelude.{◌≡◌, ℕ, ◌+◌, ◌<◌, ◌≤◌, ◌⊎◌, List, [], ◌++◌, length, take, Option, IfSome, Result, Ok, Err, option_map}
use Rattle.spm_http.specs.Request.{ReadsHead}
use Rattle.spm_http.specs.declared.request_head.HttpFault.{HttpFault}
use Rattle.spm_http.specs.declared.request_head.HttpFault.TheVariants as fault
use Rattle.spm_http.specs.declared.request_head.RequestHead.{RequestHead}
use Rattle.spm_outside.specs.Faults.{Rises}
use Rattle.spm_outside.specs.declared.fault.CallFault.{CallFault}
use Rattle.spm_outside.specs.declared.fault.CallFault.TheVariants as call
use Rattle.spm_shelf.specs.declared.file.ShelfFile.{ShelfFile}
use Rattle.spm_server.specs.Answer.{IsAnswer, answer_text}
use Rattle.spm_server.specs.declared.answering.AnswerParts.{AnswerParts}
use Rattle.spm_server.specs.declared.serving.ServeFault.{ServeFault}
use Rattle.spm_server.specs.declared.serving.ServeFault.TheVariants.{Peer, Memory}

-- a head, or none whatever follows
abbrev pub IsFinal : Result RequestHead HttpFault → Type 0
IsFinal (Ok head) = Unit {0}
IsFinal (Err fault.Partial) = ⊥
IsFinal (Err fault.Bad) = Unit {0}
IsFinal (Err fault.Memory) = ⊥

abbrev pub IsSettled : List ℕ → Type 0
IsSettled taken = (read : Result RequestHead HttpFault) × ReadsHead read taken × IsFinal read

-- What was taken is all that is looked at: more bytes change nothing of what is read, the peer has no more, or they are as many as a
-- head may have.
abbrev pub IsWhole : List ℕ → Option (List ℕ) → Type 0
IsWhole taken rest = IsSettled taken ⊎ IfSome rest (λ left. left ≡ []) ⊎ (length taken ≡ 65536)

-- No more is asked for than is needed: at most one piece was read behind bytes that were nothing, or an unfinished head.
abbrev pub StopsInTime : List ℕ → Type 0
StopsInTime taken = (start : ℕ) × (length taken ≤ start + 4096) × ((start ≡ 0) ⊎ ReadsHead (Err fault.Partial) (take start taken))

-- the whole answer was written
abbrev pub WritesAnswer : ShelfFile → List ℕ → ℕ → Option (List ℕ) → Option (List ℕ) → Type 0
WritesAnswer shelf taken status old new =
    (answer : AnswerParts) × IsAnswer shelf taken answer × (status ≡ answer.status) × (new ≡ option_map (λ bytes. bytes ++ answer_text answer) old)

-- a proper prefix of the answer to what was taken
abbrev pub WritesPrefix : ShelfFile → List ℕ → Option (List ℕ) → Option (List ℕ) → Type 0
WritesPrefix shelf taken old new = (answer : AnswerParts) → IsAnswer shelf taken answer
    → (count : ℕ) × (count < length (answer_text answer)) × (new ≡ option_map (λ bytes. bytes ++ take count (answer_text answer)) old)

abbrev pub ServeFaultsAfter : {T : Type 0} → Result T ServeFault → ℕ → ℕ → Type 0
ServeFaultsAfter (Ok answer) old new = new ≡ old
ServeFaultsAfter (Err Peer) old new = Rises old new
ServeFaultsAfter (Err Memory) old new = new ≡ old

-- what a fault of the peer is to who serves it
abbrev pub serve_fault : CallFault → ServeFault
serve_fault call.Failed = Peer
serve_fault call.Memory = Memory
