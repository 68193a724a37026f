-- The head that stands in the bytes, and what is heard by the spans of its fields.
use Rattle.std.proofs.Common.{◌≡◌, ℕ, ◌+◌, ◌-◌, ◌<◌, List, [], ◌∷◌, ◌++◌, ◌*◌, false, inl, inr, nat_lt, map, IfOk, Result, Ok, Err, length, take, drop, refl, sym, ◌∙◌, ap, arith, codes, append_assoc, append-nil, drop_at, length-append, length-take, take-append-drop}
use Rattle.std.proofs.lemmas.List.{length-map}
use Rattle.std.proofs.Math.Seq.{take-append-add}
use Rattle.httparse.specs.declared.spans.HeaderSpan.{HeaderSpan}
use Rattle.httparse.specs.declared.spans.ResponseSpans.{ResponseSpans}
use Rattle.httparse.specs.Grammar as grammar
use Rattle.httparse.specs.Grammar.{Field, ReadsResponse, ResponseHead, print_response, status_code}
use Rattle.httparse.specs.Spans.{IsResponseAt, ResponseOverflows, header_bytes, name_and_value}
use Rattle.spm_http.specs.Response.{HasNoResponse, HasResponse, Hears, IsHeardIn, IsHeardOf, heard_of, values_of}
use Rattle.spm_http.specs.Named.{heard_by, values_in}
use Rattle.spm_http.specs.declared.response_head.Heard.{Heard}
use Rattle.spm_http.specs.declared.response_head.Heard.TheVariants.{Garbled}
use Rattle.std.specs.declared.alloc.AllocError.{AllocError}

-- ---- what is heard depends on the names and the values of the fields alone

-- the values of fields are those of their pairs
values_of_pairs : (name : List ℕ) (fields : List Field) → values_of name fields ≡ values_in name (map name_and_value fields)
values_of_pairs name [] = refl
values_of_pairs name (field ∷ fields) = rw (values_of_pairs name fields) refl

-- what is heard by the pairs is heard of the head
heard_by_pairs : (limit : ℕ) (head : ResponseHead) (rest : List ℕ)
    → heard_by limit (status_code head) (map name_and_value head.fields) rest ≡ heard_of limit head rest
heard_by_pairs limit head rest =
    rw (← values_of_pairs (codes "transfer-encoding") head.fields, ← values_of_pairs (codes "content-length") head.fields) refl

-- ---- a head in the bytes is one in the first 65,536

-- a head within the limit stands in the front
head_in_front : (bytes : List ℕ) (head : ResponseHead) (rest : List ℕ) → HasResponse bytes head rest
    → ReadsResponse (take 65536 bytes) head (take (65536 - length (print_response head)) rest)
head_in_front bytes head rest has =
    let printed = print_response head in
    let room : length printed + (65536 - length printed) ≡ 65536 = omega (arith, has.fits) in
    (has.reads.0, ap (take 65536) has.reads.1 ∙ ap (λ n. take n (printed ++ rest)) (sym room) ∙ take-append-add printed rest (65536 - length printed))

-- a front without a head has none behind it
pub no_head : (bytes : List ℕ) → grammar.HasNoResponse (take 65536 bytes) → HasNoResponse bytes
no_head bytes none head rest has = none head _ (head_in_front bytes head rest has)

-- nor has one whose fields have no room
pub no_room : (bytes : List ℕ) → ResponseOverflows 64 (take 65536 bytes) → HasNoResponse bytes
no_room bytes over head rest has =
    let front_rest = take (65536 - length (print_response head)) rest in
    let more : 64 < length head.fields = over [] head front_rest (rw append-nil (head_in_front bytes head rest has)) in
    omega (arith, more, has.fields)

-- ---- a head that is read

-- the head of the front is that of the bytes
head_read : (bytes : List ℕ) (fields : List HeaderSpan) (spans : ResponseSpans) (head : ResponseHead)
    → IsResponseAt (take 65536 bytes) fields spans head → length fields ≡ 64 → HasResponse bytes head (drop spans.len bytes)
head_read bytes fields spans head at room =
    let front = take 65536 bytes in
    let rest = drop spans.len front ++ drop 65536 bytes in
    let whole : bytes ≡ print_response head ++ rest =
    sym (take-append-drop 65536 bytes) ∙ ap (λ (t : List ℕ). t ++ drop 65536 bytes) at.reads.1
    ∙ append_assoc (print_response head) (drop spans.len front) (drop 65536 bytes) in
    let of_front : length front ≡ length (print_response head) + length (drop spans.len front) =
    ap length at.reads.1 ∙ length-append (print_response head) (drop spans.len front) in
    let left : drop spans.len bytes ≡ rest = ap (drop spans.len) whole ∙ drop_at (print_response head) rest spans.len (sym at.len) in
    let count : length (take spans.headers fields) ≡ length head.fields =
    sym (length-map (take spans.headers fields) (header_bytes front)) ∙ ap length at.fields ∙ length-map head.fields name_and_value in
    record {
      reads = (at.reads.0, whole ∙ ap (λ (t : List ℕ). print_response head ++ t) (sym left));
      fields = omega (arith, count, room, length-take spans.headers fields);
      fits = omega (arith, of_front, length-take 65536 bytes);
    }

-- what is heard by the spans is what is heard of the head
heard_behind : (limit : ℕ) (bytes : List ℕ) (fields : List HeaderSpan) (spans : ResponseSpans) (head : ResponseHead) (heard : Heard)
    → IsResponseAt (take 65536 bytes) fields spans head → length fields ≡ 64
    → heard ≡ heard_by limit spans.code (map (header_bytes (take 65536 bytes)) (take spans.headers fields)) (drop spans.len bytes)
    → IsHeardOf limit bytes heard
heard_behind limit bytes fields spans head heard at room by = record {
  head = head;
  rest = drop spans.len bytes;
  has = head_read bytes fields spans head at room;
  is = by ∙ rw (at.code, at.fields) (heard_by_pairs limit head (drop spans.len bytes));
}

-- ---- the answer of the whole

-- bytes that aren't too long are heard by the spans of their head
pub hears_behind : (result : Result Heard AllocError) (limit : ℕ) (bytes : List ℕ) (fields : List HeaderSpan) (spans : ResponseSpans) (head : ResponseHead)
    → nat_lt (2 * limit + 65536) (length bytes) ≡ false
    → IsResponseAt (take 65536 bytes) fields spans head → length fields ≡ 64
    → IfOk result (λ heard. heard ≡ heard_by limit spans.code (map (header_bytes (take 65536 bytes)) (take spans.headers fields)) (drop spans.len bytes))
    → Hears result limit bytes
hears_behind (Ok heard) limit bytes fields spans head short at room by = rw short (inl (heard_behind limit bytes fields spans head heard at room by))
hears_behind (Err no_memory) limit bytes fields spans head short at room by = tt

-- bytes that aren't too long and have no head are garbled
pub hears_garbled : (limit : ℕ) (bytes : List ℕ) → nat_lt (2 * limit + 65536) (length bytes) ≡ false → HasNoResponse bytes
    → IsHeardIn (nat_lt (2 * limit + 65536) (length bytes)) limit bytes Garbled
hears_garbled limit bytes short none = rw short (inr (none, refl))
