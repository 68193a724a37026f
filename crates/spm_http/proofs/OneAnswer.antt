-- What is read, and what is heard, is one answer.
use Rattle.std.proofs.Common.{◌≡◌, ◌≢◌, ℕ, List, Bool, true, false, Result, Ok, Err, refl, sym, ap, ◌∙◌, inl, inr}
use Rattle.httparse.proofs.GrammarLemmas.{request_unique, response_unique}
use Rattle.httparse.specs.Grammar.{EndsInTarget}
use Rattle.spm_http.specs.Request.{ReadsHead, head_view}
use Rattle.spm_http.specs.Response.{Hears, IsHeardIn, IsHeardOf, heard_of}
use Rattle.spm_http.specs.declared.request_head.HttpFault.{HttpFault}
use Rattle.spm_http.specs.declared.request_head.HttpFault.TheVariants.{Partial, Bad, Memory}
use Rattle.spm_http.specs.declared.request_head.RequestHead.{RequestHead}
use Rattle.spm_http.specs.declared.response_head.Heard.{Heard}

-- bytes with a head are read as that head alone
pub one_head : (bytes : List ℕ) (head : RequestHead) (answer : Result RequestHead HttpFault) → ReadsHead (Ok head) bytes → ReadsHead answer bytes
    → answer ≢ Err Memory → answer ≡ Ok head
one_head bytes head (Ok other) a b _ =
    let same = request_unique bytes b.head a.head b.rest a.rest b.has.reads a.has.reads in
    ap Ok (b.is ∙ ap head_view same.0 ∙ sym a.is)
one_head bytes head (Err Partial) a b _ = absurd (b.0 a.head a.rest a.has)
one_head bytes head (Err Bad) a b _ = absurd (b.0 a.head a.rest a.has)
one_head bytes head (Err Memory) a b read = absurd (read refl)

-- bytes that don't end inside a target are read in one way
pub one_answer : (bytes : List ℕ) (first second : Result RequestHead HttpFault) → ¬ (EndsInTarget bytes) → ReadsHead first bytes → ReadsHead second bytes
    → first ≢ Err Memory → second ≢ Err Memory → first ≡ second
one_answer bytes (Ok head) second _ a b _ read = sym (one_head bytes head second a b read)
one_answer bytes first (Ok head) _ a b read _ = one_head bytes head first b a read
one_answer bytes (Err Partial) (Err Partial) _ a b _ _ = refl
one_answer bytes (Err Partial) (Err Bad) behind a b _ _ = elim a.2 [ inl prefix ↦ absurd (b.1 a.1 prefix) | inr inside ↦ absurd (behind inside) ]
one_answer bytes (Err Bad) (Err Partial) behind a b _ _ = elim b.2 [ inl prefix ↦ absurd (a.1 b.1 prefix) | inr inside ↦ absurd (behind inside) ]
one_answer bytes (Err Bad) (Err Bad) _ a b _ _ = refl
one_answer bytes (Err Memory) (Err second) _ a b read _ = absurd (read refl)
one_answer bytes (Err first) (Err Memory) _ a b _ read = absurd (read refl)

-- what is heard of a head is one
one_heard : (limit : ℕ) (bytes : List ℕ) (first second : Heard) → IsHeardOf limit bytes first → IsHeardOf limit bytes second → first ≡ second
one_heard limit bytes first second a b =
    let same = response_unique bytes a.head b.head a.rest b.rest a.has.reads b.has.reads in
    a.is ∙ (λ i. heard_of limit (same.0 i) (same.1 i)) ∙ sym b.is

-- what is heard of bytes is one, be they too long or not
one_way : (long : Bool) (limit : ℕ) (bytes : List ℕ) (first second : Heard) → IsHeardIn long limit bytes first → IsHeardIn long limit bytes second
    → first ≡ second
one_way true limit bytes first second a b = a ∙ sym b
one_way false limit bytes first second (inl of) (inl other) = one_heard limit bytes first second of other
one_way false limit bytes first second (inl of) (inr none) = absurd (none.0 of.head of.rest of.has)
one_way false limit bytes first second (inr none) (inl other) = absurd (none.0 other.head other.rest other.has)
one_way false limit bytes first second (inr none) (inr garbled) = none.1 ∙ sym garbled.1

-- what is heard of bytes is one
pub heard_unique : (limit : ℕ) (bytes : List ℕ) (first second : Heard) → Hears (Ok first) limit bytes → Hears (Ok second) limit bytes → first ≡ second
heard_unique limit bytes first second a b = one_way _ limit bytes first second a b
