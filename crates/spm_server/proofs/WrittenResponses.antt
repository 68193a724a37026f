-- A response that was written is heard with its status and its body.
use Rattle.std.proofs.Common.{◌≡◌, ℕ, ◌+◌, ◌*◌, ◌<◌, ◌≤◌, ◌^◌, Bool, true, false, not, List, [], ◌∷◌, ◌++◌, length, take, nat_lt, nat_le, Some, Ok, refl, sym, ap, ◌∙◌, subst, arith, append_assoc, reverse, length-append, inl, take_all}
use Rattle.std.specs.Prelude.{codes, if◌then◌else◌, ◌&&◌, ◌||◌, ◌==◌}
use Rattle.std.specs.Fmt.{decimal}
use Rattle.std.specs.Char.{is_ascii_digit}
use Rattle.std.specs.List.{list_all}
use Rattle.std.specs.Str.Parse.{digits_value}
use Rattle.std.proofs.lemmas.Bool.{and_from, lt-ltb, le-leb, le-ltb, not-true}
use Rattle.std.proofs.lemmas.Fmt.{decimal_is_IsNumeral, decimal_nonempty, length-decimal-le}
use Rattle.std.proofs.lemmas.List.Elements.{All-nil, All-cons, All-head}
use Rattle.std.proofs.lemmas.List.Sums.{list_all-from_AllPass}
use Rattle.http.specs.StatusCode.{reason_phrase}
use Rattle.httparse.specs.Grammar.{AllPass, Field, IsField, IsResponseHead, crlf, ResponseHead, is_ows, is_token_byte, is_value_byte, print_end, print_field, print_response, print_section, skip_ows, trim_ows}
use Rattle.httparse.proofs.TrimLemmas.{AllPass-reverse, skip_ows_no, trim_ows_space}
use Rattle.spm_http.specs.Response.{HasResponse, Hears, IsHeardIn, body_of_length, by_encodings, by_lengths, heard_of, is_length, values_of}
use Rattle.spm_http.specs.Writing.{phrase_or_none, response_text}
use Rattle.spm_http.specs.declared.response_head.Heard.{Heard}
use Rattle.spm_http.specs.declared.response_head.Heard.TheVariants.{Whole, Garbled, TooLong}
use Rattle.spm_key.proofs.Classes.{decimal_class, decimal_digits}
use Rattle.spm_server.proofs.WrittenRequests.{field_prints, is_written_field, passes, section_prints, thrice, written_field}

-- the last two fields of a response
abbrev pub closing : ℕ → List Field
closing count = written_field (codes "Content-Length") (decimal count) ∷ written_field (codes "Connection") (codes "close") ∷ []

-- its fields
abbrev pub response_fields : List ℕ → ℕ → List Field
response_fields kind count = written_field (codes "Content-Version") (codes "1") ∷ written_field (codes "Content-Type") kind ∷ closing count

-- its head as it is written
abbrev pub written_response : ℕ → List ℕ → List ℕ → ℕ → ResponseHead
written_response status phrase kind count = record {
  blank = [];
  minor = 1;
  digits = decimal status;
  reason = Some phrase;
  line_end = crlf;
  fields = response_fields kind count;
  last = crlf;
}

-- the lines behind the first
abbrev pub lines_text : List ℕ → ℕ → List ℕ → List ℕ
lines_text kind count body = codes "Content-Version: 1\r\nContent-Type: " ++ (kind ++ (codes "\r\nContent-Length: " ++ (decimal count ++ (codes "\r\nConnection: close\r\n\r\n" ++ body))))

-- the section of a response as it is written
lines_are : (kind : List ℕ) (count : ℕ) (body : List ℕ) → print_section (response_fields kind count) crlf ++ body ≡ lines_text kind count body
lines_are kind count body =
    ap (λ (bytes : List ℕ). bytes ++ body) (section_prints (written_field (codes "Content-Version") (codes "1")) (written_field (codes "Content-Type") kind ∷ closing count) crlf)
    ∙ ap (λ (bytes : List ℕ). codes "Content-Version: 1\r\n" ++ bytes)
    (ap (λ (bytes : List ℕ). bytes ++ body) (section_prints (written_field (codes "Content-Type") kind) (closing count) crlf)
    ∙ append_assoc (print_field (written_field (codes "Content-Type") kind)) (print_section (closing count) crlf) body
    ∙ field_prints (codes "Content-Type") kind (print_section (closing count) crlf ++ body)
    ∙ ap (λ (bytes : List ℕ). codes "Content-Type: " ++ (kind ++ (13 ∷ 10 ∷ bytes)))
    (ap (λ (bytes : List ℕ). bytes ++ body) (section_prints (written_field (codes "Content-Length") (decimal count)) (written_field (codes "Connection") (codes "close") ∷ []) crlf)
    ∙ append_assoc (print_field (written_field (codes "Content-Length") (decimal count))) (print_section (written_field (codes "Connection") (codes "close") ∷ []) crlf) body
    ∙ field_prints (codes "Content-Length") (decimal count) (print_section (written_field (codes "Connection") (codes "close") ∷ []) crlf ++ body)))

-- its whole text
abbrev pub whole_text : ℕ → List ℕ → List ℕ → ℕ → List ℕ → List ℕ
whole_text status phrase kind count body = codes "HTTP/1.1 " ++ (decimal status ++ (32 ∷ (phrase ++ (13 ∷ 10 ∷ lines_text kind count body))))

-- a response as it is written
response_prints : (status : ℕ) (phrase kind : List ℕ) (count : ℕ) (body : List ℕ)
    → print_response (written_response status phrase kind count) ++ body ≡ whole_text status phrase kind count body
unfolding print_response
response_prints status phrase kind count body =
    let section = print_section (response_fields kind count) crlf in
    ap (λ (bytes : List ℕ). codes "HTTP/1.1 " ++ bytes)
    (append_assoc (decimal status ++ 32 ∷ phrase ++ print_end crlf) section body
    ∙ thrice (decimal status) (32 ∷ phrase) (print_end crlf) (section ++ body)
    ∙ ap (λ (bytes : List ℕ). decimal status ++ (32 ∷ (phrase ++ (13 ∷ 10 ∷ bytes)))) (lines_are kind count body))

-- how long its head is
text_length : (status : ℕ) (phrase kind : List ℕ) (count : ℕ) (body : List ℕ)
    → length (whole_text status phrase kind count body) ≡ 87 + length (decimal status) + length phrase + length kind + length (decimal count) + length body
text_length status phrase kind count body =
    let closed = codes "\r\nConnection: close\r\n\r\n" ++ body in
    let sized = codes "\r\nContent-Length: " ++ (decimal count ++ closed) in
    omega (
      arith,
      length-append (decimal status) (32 ∷ (phrase ++ (13 ∷ 10 ∷ lines_text kind count body))),
      length-append phrase (13 ∷ 10 ∷ lines_text kind count body),
      length-append kind sized,
      length-append (decimal count) closed,
    )

-- ---- its fields

-- a text that begins with no white space is kept
first_kept : (text : List ℕ) → AllPass (λ byte. not (is_ows byte)) text → skip_ows text ≡ text
first_kept [] clean = refl
first_kept (byte ∷ bytes) clean = skip_ows_no refl (sym (not-true (is_ows byte) (All-head (λ b. not (is_ows b) ≡ true) byte bytes clean)))

-- a value without white space stands as it is
pub trimmed : (text : List ℕ) → AllPass (λ byte. not (is_ows byte)) text → trim_ows (32 ∷ text) ≡ text
trimmed text clean =
    trim_ows_space text (first_kept text clean) (first_kept (reverse text) (AllPass-reverse (λ byte. not (is_ows byte)) text clean))

-- it says no encoding
codings_are : (kind : List ℕ) (count : ℕ) → values_of (codes "transfer-encoding") (response_fields kind count) ≡ []
codings_are kind count = refl

-- it says one length
lengths_are : (kind : List ℕ) (count : ℕ) → count < 2 ^ 64 → values_of (codes "content-length") (response_fields kind count) ≡ decimal count ∷ []
lengths_are kind count small =
    ap (λ (value : List ℕ). value ∷ []) (trimmed (decimal count) (decimal_class (λ byte. not (is_ows byte)) refl count small))

-- ---- what is heard

-- which is one that is read
is_said : (count : ℕ) → count < 10 ^ 19 → is_length (decimal count) ≡ true
is_said count small =
    let some = decimal_nonempty count (omega (arith, small)) in
    let short = length-decimal-le 19 count (omega arith) small (omega (arith, small)) in
    and_from (nat_lt 0 (length (decimal count)) && nat_le (length (decimal count)) 19) (list_all is_ascii_digit (decimal count))
    (and_from (nat_lt 0 (length (decimal count))) (nat_le (length (decimal count)) 19) (lt-ltb 0 (length (decimal count)) some) (le-leb (length (decimal count)) 19 short))
    (list_all-from_AllPass is_ascii_digit (decimal count) (decimal_digits count (omega (arith, small))))

-- a body of that length is the whole
body_is : (status limit : ℕ) (body : List ℕ) → length body ≤ limit → body_of_length status limit (length body) body ≡ Whole status body
body_is status limit body fits =
    ap (λ (b : Bool). if b then TooLong else if nat_lt (length body) (length body) then Garbled else Whole status (take (length body) body)) (le-ltb limit (length body) fits)
    ∙ ap (λ (b : Bool). if b then Garbled else Whole status (take (length body) body)) (le-ltb (length body) (length body) (omega arith))
    ∙ ap (Whole status) (take_all (length body) body (omega arith))

-- and is heard by its length
by_length : (status limit : ℕ) (body : List ℕ) → length body < 10 ^ 19 → length body ≤ limit → by_lengths status limit (decimal (length body) ∷ []) body ≡ Whole status body
by_length status limit body small fits =
    let said = is_said (length body) small in
    ap (λ (b : Bool). if b && true then body_of_length status limit (digits_value 10 (decimal (length body))) body else Garbled) said
    ∙ ap (λ (n : ℕ). body_of_length status limit n body) (decimal_is_IsNumeral (length body) (omega (arith, small))).1
    ∙ body_is status limit body fits

module _ (status : ℕ) (some : nat_lt status 200 ≡ false) (has_body : (status == 204 || status == 304) ≡ false) (word : status < 2 ^ 64) where
  abbrev as_heard : ℕ → ℕ → List (List ℕ) → List (List ℕ) → List ℕ → Heard
  as_heard code limit codings lengths body =
      if nat_lt code 200 then Garbled else if code == 204 || code == 304 then Whole code [] else by_encodings code limit codings lengths body

  -- so a response is heard with its status and its body
  pub heard_is : (limit : ℕ) (phrase kind body : List ℕ) → length body < 10 ^ 19 → length body ≤ limit
      → heard_of limit (written_response status phrase kind (length body)) body ≡ Whole status body
  heard_is limit phrase kind body small fits =
      let fields = response_fields kind (length body) in
      ap (λ (code : ℕ). as_heard code limit (values_of (codes "transfer-encoding") fields) (values_of (codes "content-length") fields) body) (decimal_is_IsNumeral status word).1
      ∙ ap (λ (values : List (List ℕ)). as_heard status limit [] values body) (lengths_are kind (length body) (omega (arith, small)))
      ∙ ap (λ (b : Bool). if b then Garbled else if status == 204 || status == 304 then Whole status [] else by_lengths status limit (decimal (length body) ∷ []) body) some
      ∙ ap (λ (b : Bool). if b then Whole status [] else by_lengths status limit (decimal (length body) ∷ []) body) has_body
      ∙ by_length status limit body small fits

  -- what is written as a response is a head
  pub is_written_response : (phrase kind : List ℕ) (count : ℕ) → length (decimal status) ≡ 3 → AllPass is_value_byte phrase → AllPass is_value_byte kind → count < 2 ^ 64
      → IsResponseHead (written_response status phrase kind count)
  unfolding is_token_byte
  is_written_response phrase kind count three phrased kinded small = record {
    minor = omega arith;
    digits = (three, decimal_digits status word);
    reason = phrased;
    fields = All-cons IsField (written_field (codes "Content-Version") (codes "1")) (written_field (codes "Content-Type") kind ∷ closing count)
        (is_written_field (codes "Content-Version") (codes "1") refl (omega arith) (passes is_value_byte (codes "1") refl))
        (All-cons IsField (written_field (codes "Content-Type") kind) (closing count) (is_written_field (codes "Content-Type") kind refl (omega arith) kinded)
        (All-cons IsField (written_field (codes "Content-Length") (decimal count)) (written_field (codes "Connection") (codes "close") ∷ [])
        (is_written_field (codes "Content-Length") (decimal count) refl (omega arith) (decimal_class is_value_byte refl count small))
        (All-cons IsField (written_field (codes "Connection") (codes "close")) [] (is_written_field (codes "Connection") (codes "close") refl (omega arith)
        (passes is_value_byte (codes "close") refl)) (All-nil IsField))));
  }

-- ---- the whole

pub record IsSent (status : ℕ) (media : List ℕ) : Type 0 where
  pub answered : nat_lt status 200 ≡ false
  pub has_body : (status == 204 || status == 304) ≡ false
  pub word : status < 2 ^ 64
  pub digits : length (decimal status) ≡ 3
  pub phrase : AllPass is_value_byte (phrase_or_none (reason_phrase status))
  pub phrase_length : length (phrase_or_none (reason_phrase status)) ≤ 100
  pub media_bytes : AllPass is_value_byte media
  pub media_length : length media ≤ 100

module _ (status : ℕ) (kind : List ℕ) (sent : IsSent status kind) (limit : ℕ) (body : List ℕ) (fits : length body ≤ limit) (small : length body < 10 ^ 19) where
  abbrev head : ResponseHead
  head = written_response status (phrase_or_none (reason_phrase status)) kind (length body)

  -- its text is the head and the body
  text_is : response_text status kind body ≡ print_response head ++ body
  text_is = sym (response_prints status (phrase_or_none (reason_phrase status)) kind (length body) body)

  -- the head is short
  head_is_short : length (print_response head) ≤ 500
  head_is_short =
      let text = ap length (response_prints status (phrase_or_none (reason_phrase status)) kind (length body) []) in
      let long = text_length status (phrase_or_none (reason_phrase status)) kind (length body) [] in
      let digits = length-decimal-le 19 (length body) (omega arith) small (omega (arith, small)) in
      omega (arith, text, long, digits, length-append (print_response head) [], sent.digits, sent.phrase_length, sent.media_length)

  -- the text has that head
  has_response : HasResponse (response_text status kind body) head body
  has_response = record {
    reads = (
      is_written_response status sent.answered sent.has_body sent.word (phrase_or_none (reason_phrase status)) kind (length body)
          sent.digits sent.phrase sent.media_bytes (omega (arith, small)),
      text_is,
    );
    fields = omega arith;
    fits = omega (arith, head_is_short);
  }

  pub heard : Hears (Ok (Whole status body)) limit (response_text status kind body)
  heard =
      let long = ap length text_is ∙ length-append (print_response head) body in
      let short : nat_lt (2 * limit + 65536) (length (response_text status kind body)) ≡ false =
      le-ltb (2 * limit + 65536) (length (response_text status kind body)) (omega (arith, long, head_is_short, fits)) in
      subst (λ (b : Bool). IsHeardIn b limit (response_text status kind body) (Whole status body)) (sym short)
      (inl (record {
        head = head;
        rest = body;
        has = has_response;
        is = sym (heard_is status sent.answered sent.has_body sent.word limit (phrase_or_none (reason_phrase status)) kind body small fits);
      }))
