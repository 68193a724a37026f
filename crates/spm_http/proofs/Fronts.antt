-- What the first 65,536 bytes say of all of them.
use Rattle.std.proofs.Common.{◌≡◌, ℕ, List, [], ◌∷◌, ◌++◌, length, take, drop, sym, ap, ◌∙◌, subst, arith, length-append, length-take, length-drop, take-append-drop, inl, inr}
use Rattle.httparse.specs.Grammar.{RequestHead, print_request, ReadsRequest, HasNoRequest}
use Rattle.httparse.specs.Spans.{RequestOverflows, IsRequestWithin, IsRequestAt}
use Rattle.httparse.specs.declared.spans.HeaderSpan.{HeaderSpan}
use Rattle.httparse.specs.declared.spans.RequestSpans.{RequestSpans}
use Rattle.httparse.proofs.GrammarLemmas.{ReadsRequest-append}
use Rattle.spm_http.specs.declared.request_head.RequestHead.{RequestHead as ReadHead}
use Rattle.spm_http.proofs.Found.{fields_fit}
use Rattle.spm_http.specs.Request.{HasNoHead, IsProperPrefix, IsRead, head_view}
use Rattle.spm_http.proofs.Meet.{Meets, meets}

-- a head within the limits stands in the front
pub no_head : (bytes : List ℕ) → HasNoRequest (take 65536 bytes) → HasNoHead bytes
no_head bytes none head rest has =
    cut (meets (take 65536 bytes) (drop 65536 bytes) (print_request head) rest (take-append-drop 65536 bytes ∙ has.reads.1))
  where
    cut : Meets (take 65536 bytes) (drop 65536 bytes) (print_request head) rest → ⊥
    cut (inl m) = none head m.0 (has.reads.0, m.1)
    cut (inr m) =
        omega (
          arith,
          ap length m.2,
          ap length m.3,
          has.fits,
          length-take 65536 bytes,
          length-drop 65536 bytes,
          length-append (take 65536 bytes) (m.0 ∷ m.1),
          length-append (m.0 ∷ m.1) rest,
        )

-- bytes that have more fields than there is room for have no head
pub overflows_no_head : (bytes : List ℕ) → RequestOverflows 64 (take 65536 bytes) → HasNoHead bytes
overflows_no_head bytes over head rest has =
    let many = over (drop 65536 bytes) head rest
    (subst (λ (t : List ℕ). ReadsRequest t head rest) (sym (take-append-drop 65536 bytes)) has.reads) in
    omega (arith, many, has.fields)

-- and more bytes make them none
pub overflows_no_prefix : (bytes : List ℕ) → RequestOverflows 64 (take 65536 bytes) → take 65536 bytes ≡ bytes
    → IsProperPrefix bytes → ⊥
overflows_no_prefix bytes over e prefix =
    let many = over (prefix.next ∷ prefix.more) prefix.head []
    (subst (λ (t : List ℕ). ReadsRequest (t ++ prefix.next ∷ prefix.more) prefix.head []) (sym e) prefix.reads) in
    omega (arith, many, prefix.fields)

-- what was read of the front is read of all
pub is_read : (bytes front : List ℕ) (headers : List HeaderSpan) (spans : RequestSpans) (h : RequestHead) (found : ReadHead)
    → front ≡ take 65536 bytes → length headers ≡ 64 → IsRequestWithin front headers spans → IsRequestAt front headers spans h
    → found ≡ head_view h → IsRead bytes found
is_read bytes front headers spans h found e room within at is = record {
  head = h;
  rest = drop spans.len front ++ drop 65536 bytes;
  has = record {
    reads = subst (λ (t : List ℕ). ReadsRequest t h (drop spans.len front ++ drop 65536 bytes))
        (ap (λ (t : List ℕ). t ++ drop 65536 bytes) e ∙ take-append-drop 65536 bytes)
        (ReadsRequest-append front h (drop spans.len front) (drop 65536 bytes) at.reads);
    fields = omega (arith, fields_fit front headers spans h within at, room);
    fits = omega (arith, at.len, within.section.len_fits, ap length e, length-take 65536 bytes);
  };
  is = is;
}
