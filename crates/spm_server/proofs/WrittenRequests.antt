-- A request that was written is read as the head that it says.
use Rattle.std.proofs.Common.{◌≡◌, ℕ, ◌<◌, List, [], ◌∷◌, ◌++◌, length, Bool, true, refl, sym, ap, ◌∙◌, arith, append_assoc}
use Rattle.std.specs.Prelude.{codes, IsUtf8, Some}
use Rattle.std.specs.List.{flat_map, list_all}
use Rattle.std.proofs.lemmas.List.Elements.{All-nil, All-cons}
use Rattle.std.proofs.lemmas.List.Sums.{AllPass-from_list_all}
use Rattle.httparse.specs.Grammar.{AllPass, Field, IsField, IsRequestHead, LineEnd, crlf, RequestHead, is_token_byte, is_uri_byte, is_value_byte, print_end, print_field, print_request, print_section, trim_ows}
use Rattle.spm_http.specs.Request.{accept_in}
use Rattle.spm_http.specs.Writing.{request_text}

-- a field as it is written: a space stands before its value
abbrev pub written_field : List ℕ → List ℕ → Field
written_field name value = record { name = name; raw = 32 ∷ value; end = crlf }

-- the head of a request as it is written
abbrev pub written_request : List ℕ → List ℕ → List ℕ → RequestHead
written_request target host accept = record {
  blank = [];
  method = codes "GET";
  target = target;
  minor = 1;
  line_end = crlf;
  fields = written_field (codes "Host") host ∷ written_field (codes "Accept") accept ∷ written_field (codes "Connection") (codes "close") ∷ [];
  last = crlf;
}

-- three texts before another, grouped to the right
pub thrice : (a b c rest : List ℕ) → a ++ b ++ c ++ rest ≡ a ++ (b ++ (c ++ rest))
thrice a b c rest = append_assoc (a ++ b) c rest ∙ append_assoc a b (c ++ rest)

-- a field as it is written
pub field_prints : (name value rest : List ℕ) → print_field (written_field name value) ++ rest ≡ name ++ (58 ∷ 32 ∷ (value ++ (13 ∷ 10 ∷ rest)))
field_prints name value rest = thrice name (58 ∷ 32 ∷ value) (print_end crlf) rest

-- a section is its first field and the others
pub section_prints : (field : Field) (fields : List Field) (last : LineEnd) → print_section (field ∷ fields) last ≡ print_field field ++ print_section fields last
section_prints field fields last = append_assoc (print_field field) (flat_map print_field fields) (print_end last)

-- its last field
abbrev closes : List Field
closes = written_field (codes "Connection") (codes "close") ∷ []

-- its fields behind the host
abbrev accepts : List ℕ → List Field
accepts accept = written_field (codes "Accept") accept ∷ closes

-- the section of a request as it is written
section_is : (host accept : List ℕ) → print_section (written_field (codes "Host") host ∷ accepts accept) crlf
    ≡ codes "Host: " ++ (host ++ (codes "\r\nAccept: " ++ (accept ++ codes "\r\nConnection: close\r\n\r\n")))
section_is host accept =
    section_prints (written_field (codes "Host") host) (accepts accept) crlf
    ∙ field_prints (codes "Host") host (print_section (accepts accept) crlf)
    ∙ ap (λ (bytes : List ℕ). codes "Host: " ++ (host ++ (13 ∷ 10 ∷ bytes)))
    (section_prints (written_field (codes "Accept") accept) closes crlf ∙ field_prints (codes "Accept") accept (print_section closes crlf))

-- a request as it is written
pub request_prints : (target host accept : List ℕ) → request_text target host accept ≡ print_request (written_request target host accept)
unfolding print_request
request_prints target host accept =
    sym (ap (λ (bytes : List ℕ). codes "GET " ++ bytes)
    (thrice target (codes " HTTP/1.1") (print_end crlf) (print_section (written_field (codes "Host") host ∷ accepts accept) crlf)
    ∙ ap (λ (bytes : List ℕ). target ++ (codes " HTTP/1.1\r\n" ++ bytes)) (section_is host accept)))

-- ---- its parts are of their classes

-- what passes the test byte by byte passes it
pub passes : (test : ℕ → Bool) (bytes : List ℕ) → list_all test bytes ≡ true → AllPass test bytes
passes test bytes all = AllPass-from_list_all test bytes all

-- what is written as a field is one
pub is_written_field : (name value : List ℕ) → list_all is_token_byte name ≡ true → 0 < length name → AllPass is_value_byte value → IsField (written_field name value)
is_written_field name value token long all = record {
  name = (long, passes is_token_byte name token);
  raw = All-cons (λ b. is_value_byte b ≡ true) 32 value refl all;
}

-- what is written as a request is a head
pub is_written_request : (target host accept : List ℕ) → 0 < length target → AllPass is_uri_byte target → IsUtf8 target
    → AllPass is_value_byte host → AllPass is_value_byte accept → IsRequestHead (written_request target host accept)
unfolding is_token_byte
is_written_request target host accept long uri text hosts accepted = record {
  method = (omega arith, passes is_token_byte (codes "GET") refl);
  target = (long, uri);
  target_text = text;
  minor = omega arith;
  fields = All-cons IsField (written_field (codes "Host") host) (accepts accept) (is_written_field (codes "Host") host refl (omega arith) hosts)
      (All-cons IsField (written_field (codes "Accept") accept) closes (is_written_field (codes "Accept") accept refl (omega arith) accepted)
      (All-cons IsField (written_field (codes "Connection") (codes "close")) [] (is_written_field (codes "Connection") (codes "close") refl (omega arith)
      (passes is_value_byte (codes "close") refl)) (All-nil IsField)));
}

-- ---- what is read of it

-- the media type of all but archives
abbrev json_media : List ℕ
json_media = codes "application/vnd.swift.registry.v1+json"

-- that of archives
abbrev zip_media : List ℕ
zip_media = codes "application/vnd.swift.registry.v1+zip"

-- JSON is accepted
pub accepts_json : (host : List ℕ) → accept_in (written_field (codes "Host") host ∷ accepts json_media) ≡ Some json_media
unfolding trim_ows
accepts_json host = refl

-- an archive is accepted
pub accepts_zip : (host : List ℕ) → accept_in (written_field (codes "Host") host ∷ accepts zip_media) ≡ Some zip_media
unfolding trim_ows
accepts_zip host = refl
