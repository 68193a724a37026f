-- What serving one connection leaves of its peer, from what its steps leave.
use Rattle.std.proofs.Common.{◌≡◌, ℕ, ◌<◌, ◌≤◌, ◌⊎◌, List, [], ◌++◌, length, take, Option, Some, None, Result, Ok, Err, IfErr, IfSome, option_map, refl, sym, ap, ◌∙◌, subst, arith, length-append, length-take, append-nil, inl, inr}
use Rattle.std.proofs.lemmas.List.{length-take-le, take_at}
use Rattle.spm_http.specs.Request.{ReadsHead}
use Rattle.spm_http.specs.declared.request_head.HttpFault.TheVariants as fault
use Rattle.spm_shelf.specs.declared.file.ShelfFile.{ShelfFile}
use Rattle.spm_server.specs.Answer.{IsAnswer, answer_text}
use Rattle.spm_server.specs.Serving.{IsWhole, StopsInTime, WritesAnswer, WritesPrefix}
use Rattle.spm_server.specs.declared.answering.AnswerParts.{AnswerParts}
use Rattle.spm_server.proofs.AnswerLaws.{one_answer}

-- an answer begins with the version of HTTP
has_bytes : (answer : AnswerParts) → 0 < length (answer_text answer)
has_bytes answer = omega (arith, length-append {A = ℕ})

-- no byte more is the same
none_more : (old : Option (List ℕ)) (text : List ℕ) → old ≡ option_map (λ bytes. bytes ++ take 0 text) old
none_more None text = refl
none_more (Some bytes) text = ap Some (sym (append-nil bytes))

-- where nothing is written, that is a proper prefix of any answer
pub nothing_written : {T E : Type 0} (result : Result T E) (shelf : ShelfFile) (taken old new : Option (List ℕ)) → new ≡ old
    → IfErr result (λ _. IfSome taken (λ request. WritesPrefix shelf request old new))
nothing_written (Ok value) shelf taken old new same = tt
nothing_written (Err fault) shelf None old new same = tt
nothing_written (Err fault) shelf (Some request) old new same = λ answer is. (0, has_bytes answer, same ∙ none_more old (answer_text answer))

-- where all of an answer is written, that is the answer
pub written_whole : (shelf : ShelfFile) (request : List ℕ) (answer : AnswerParts) (text : List ℕ) (status : ℕ) (before taken old between new : Option (List ℕ))
    → IsAnswer shelf request answer → text ≡ answer_text answer → status ≡ answer.status
    → IfSome before (λ bytes. bytes ≡ request) → taken ≡ before → between ≡ old → new ≡ option_map (λ bytes. bytes ++ text) between
    → IfSome taken (λ bytes. WritesAnswer shelf bytes status old new)
written_whole shelf request answer text status before None old between new is spelled said told stays unwritten sent = tt
written_whole shelf request answer text status before (Some bytes) old between new is spelled said told stays unwritten sent =
    let same : bytes ≡ request = subst (λ b. IfSome b (λ bytes. bytes ≡ request)) (sym stays) told in (
      answer,
      subst (λ r. IsAnswer shelf r answer) (sym same) is,
      said,
      sent ∙ ap (λ b. option_map (λ bytes. bytes ++ text) b) unwritten ∙ ap (λ t. option_map (λ bytes. bytes ++ t) old) spelled,
    )

-- where a proper prefix of one answer is written, it is that of each, since there is no other
pub cut_short : {T E : Type 0} (result : Result T E) (shelf : ShelfFile) (request : List ℕ) (answer : AnswerParts) (text : List ℕ)
    (before taken old between new : Option (List ℕ)) → IsAnswer shelf request answer → text ≡ answer_text answer
    → IfSome before (λ bytes. bytes ≡ request) → taken ≡ before → between ≡ old
    → (count : ℕ) × (count < length text) × (new ≡ option_map (λ bytes. bytes ++ take count text) between)
    → IfErr result (λ _. IfSome taken (λ bytes. WritesPrefix shelf bytes old new))
cut_short (Ok value) shelf request answer text before taken old between new is spelled told stays unwritten sent = tt
cut_short (Err fault) shelf request answer text before None old between new is spelled told stays unwritten sent = tt
cut_short (Err fault) shelf request answer text before (Some bytes) old between new is spelled told stays unwritten sent =
    let same : bytes ≡ request = subst (λ b. IfSome b (λ bytes. bytes ≡ request)) (sym stays) told in
    λ other is_other.
    let one = one_answer shelf request answer other is (subst (λ r. IsAnswer shelf r other) same is_other) in
    let spells = spelled ∙ ap (λ a. answer_text a) one in (
      sent.0,
      subst (λ t. sent.0 < length t) spells sent.1,
      sent.2
          ∙ ap (λ b. option_map (λ bytes. bytes ++ take sent.0 text) b) unwritten
          ∙ ap (λ t. option_map (λ bytes. bytes ++ take sent.0 t) old) spells,
    )

-- what was taken stays whole while the answer is written
pub stays_whole : (request : List ℕ) (before taken rest left : Option (List ℕ)) → IfSome before (λ bytes. bytes ≡ request) → IsWhole request rest
    → taken ≡ before → left ≡ rest → IfSome taken (λ bytes. IsWhole bytes left)
stays_whole request before None rest left told whole stays unread = tt
stays_whole request before (Some bytes) rest left told whole stays unread =
    let same : bytes ≡ request = subst (λ b. IfSome b (λ bytes. bytes ≡ request)) (sym stays) told in
    rw (same, unread) whole

-- ---- reading stops in time

-- nothing yet, or the beginning of a head
abbrev pub IsUnfinished : List ℕ → Type 0
IsUnfinished request = (length request ≡ 0) ⊎ ReadsHead (Err fault.Partial) request

-- one piece behind an unfinished head is in time
piece_more : (request bytes : List ℕ) → length bytes ≤ 4096 → IsUnfinished request → StopsInTime (request ++ bytes)
piece_more request bytes short unfinished = (
  length request,
  omega (arith, length-append request bytes, short),
  elim unfinished [
    | inl nothing ↦ inl nothing
    | inr partial ↦ inr (subst (ReadsHead (Err fault.Partial)) (sym (take_at request bytes (length request) refl)) partial)
  ],
)

-- after one more piece
pub in_time : (request bytes : List ℕ) (before after : Option (List ℕ)) → IfSome before (λ taken. taken ≡ request) → after ≡ option_map (λ taken. taken ++ bytes) before
    → length bytes ≤ 4096 → IsUnfinished request → IfSome after StopsInTime
in_time request bytes None after told is short unfinished = rw is tt
in_time request bytes (Some taken) after told is short unfinished = rw (is, told) (piece_more request bytes short unfinished)

-- after none
pub still_in_time : (request : List ℕ) (before after : Option (List ℕ)) → IfSome before (λ taken. taken ≡ request) → after ≡ before → IsUnfinished request → IfSome after StopsInTime
still_in_time request None after told is unfinished = rw is tt
still_in_time request (Some taken) after told is unfinished = rw (is, told, ← append-nil request) (piece_more request [] (omega arith) unfinished)

-- a piece is no longer than asked
pub one_piece : (count wanted : ℕ) (piece old : List ℕ) → count ≤ length piece → length piece ≡ length (take wanted old) → length old ≡ 4096 → length (take count piece) ≤ 4096
one_piece count wanted piece old within same long = omega (arith, length-take-le count piece within, within, same, length-take wanted old, long)

-- what was taken, with one more piece
pub told_more : (request bytes : List ℕ) (before after : Option (List ℕ)) → IfSome before (λ taken. taken ≡ request) → after ≡ option_map (λ taken. taken ++ bytes) before
    → IfSome after (λ taken. taken ≡ request ++ bytes)
told_more request bytes None after told is = rw is tt
told_more request bytes (Some taken) after told is = rw (is, told) refl
