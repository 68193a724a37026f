-- The parts of a key's path: the scope and the name of its identity, its version, and what ends the path. No slash stands in any.
use Rattle.std.specs.Str.{bytes_eq}
use Rattle.std.proofs.Common.{◌≡◌, ℕ, ◌-◌, ◌<◌, Bool, true, false, not, List, [], ◌∷◌, ◌++◌, length, get_or, take, drop, nat_lt, nat_le, Ok, Err, refl, sym, ap, ◌∙◌, arith, length-append}
use Rattle.std.specs.Prelude.{◌&&◌, ◌||◌, ◌==◌, codes, nat_eq, if◌then◌else◌, Result, Some}
use Rattle.std.specs.Char.{is_ascii_alphanumeric}
use Rattle.std.specs.Fmt.{decimal}
use Rattle.std.specs.Cmp.Lexicographic.{nat_list_eq_equiv}
use Rattle.std.specs.List.{All, AllPass, ends_with, list_all, list_any, position_or_len, slice_split}
use Rattle.std.specs.Result.{result_ok}
use Rattle.std.proofs.lemmas.Bool.{agree_below_at, and_from, and_parts, eqb-true, false≢true, ltb-true, not-true, or_left}
use Rattle.std.proofs.lemmas.Bool.Decides.{nat_tests}
use Rattle.std.proofs.lemmas.List.Elements.{All-nil, All-cons, All-head, All-tail, All-append, All-weaker}
use Rattle.std.proofs.lemmas.List.Splits.{slice_split_none, slice_split_at}
use Rattle.std.proofs.lemmas.List.Sums.{AllPass-from_list_all, passes_at_first, split_at_first}
use Rattle.semver.proofs.Grammar.{version_parts-complete}
use Rattle.semver.specs.Grammar.{has_leading_zero, is_build, is_build_identifier, is_identifier_byte, is_pre_identifier, is_pre_release}
use Rattle.semver.specs.Identifiers.{marked}
use Rattle.semver.specs.Order.{is_numeric}
use Rattle.spm_ident.proofs.Dots.{list_any_by_place}
use Rattle.spm_ident.specs.Identity.{IsIdentity, is_dot, is_hyphen, is_hyphen_or_underscore, is_joined, is_name, is_scope, is_word, name_of, scope_of}
use Rattle.spm_version.specs.Release.{IsValid, Parts, parts_text, release_of}
use Rattle.spm_key.specs.Key.{encoded, encoded_byte}
use Rattle.spm_key.proofs.Classes.{classes, decimal_class, is_within, joined}

-- the slash between parts
abbrev pub is_slash : ℕ → Bool
is_slash byte = byte == 47

-- ---- identities

-- whether there is an answer
is_ok : {A E : Type 0} → Result A E → Bool
is_ok (Ok x) = true
is_ok (Err e) = false

-- what passes to its end has passed the test
if_ok : {A E : Type 0} (test : Bool) (e : E) (rest : Result A E) (x : A) → (if not test then Err e else rest) ≡ Ok x → (test ≡ true) × (rest ≡ Ok x)
unfolding is_ok
if_ok true e rest x is = (refl, is)
if_ok false e rest x is = absurd (false≢true (ap is_ok is))

-- an identity's parts are of their forms
pub record IsMade (identity : List ℕ) : Type 0 where
  pub dotted : list_any is_dot identity ≡ true
  pub scope : is_scope (scope_of identity) ≡ true
  pub name : is_name (name_of identity) ≡ true

-- an identity is made of a scope and a name
pub made : (identity : List ℕ) → IsIdentity identity → IsMade identity
made identity is =
    let dotted = if_ok (list_any is_dot identity) _ _ identity is in
    let scope = if_ok (is_scope (scope_of identity)) _ _ identity dotted.1 in
    let name = if_ok (is_name (name_of identity)) _ _ identity scope.1 in
    record { dotted = dotted.0; scope = scope.0; name = name.0 }

-- a scope, a dot and a name are the identity
pub whole_identity : (identity : List ℕ) → IsIdentity identity → scope_of identity ++ 46 ∷ name_of identity ≡ identity
whole_identity identity is =
    let inside = ltb-true (position_or_len is_dot identity) (length identity) (sym (list_any_by_place is_dot identity) ∙ (made identity is).dotted) in
    sym (split_at_first is_dot identity 0 inside
    ∙ ap (λ (dot : ℕ). scope_of identity ++ dot ∷ name_of identity) (eqb-true (get_or identity (position_or_len is_dot identity) 0) 46 (passes_at_first is_dot identity 0 inside)))

-- ---- the bytes of an identity's parts

-- a byte of a scope
abbrev pub is_scope_byte : ℕ → Bool
is_scope_byte byte = is_ascii_alphanumeric byte || is_hyphen byte

-- a byte of a name
abbrev pub is_name_byte : ℕ → Bool
is_name_byte byte = is_ascii_alphanumeric byte || is_hyphen_or_underscore byte

-- words are of letters and digits
words_inner : (words : List (List ℕ)) → list_all is_word words ≡ true → list_all (list_all is_ascii_alphanumeric) words ≡ true
words_inner [] all = refl
words_inner (word ∷ words) all =
    let here = and_parts (is_word word) (list_all is_word words) all in
    and_from (list_all is_ascii_alphanumeric word) (list_all (list_all is_ascii_alphanumeric) words)
    (and_parts (nat_lt 0 (length word)) (list_all is_ascii_alphanumeric word) here.0).1 (words_inner words here.1)

-- the bytes of a scope
pub scope_bytes : (identity : List ℕ) → IsIdentity identity → AllPass is_scope_byte (scope_of identity)
scope_bytes identity is =
    joined is_hyphen is_ascii_alphanumeric (scope_of identity)
    (words_inner (slice_split is_hyphen (scope_of identity))
    (and_parts (nat_le (length (scope_of identity)) 39) (is_joined is_hyphen (scope_of identity)) (made identity is).scope).1)

-- the bytes of a name
pub name_bytes : (identity : List ℕ) → IsIdentity identity → AllPass is_name_byte (name_of identity)
name_bytes identity is =
    joined is_hyphen_or_underscore is_ascii_alphanumeric (name_of identity)
    (words_inner (slice_split is_hyphen_or_underscore (name_of identity))
    (and_parts (nat_le (length (name_of identity)) 100) (is_joined is_hyphen_or_underscore (name_of identity)) (made identity is).name).1)

-- those of a scope are of ASCII
pub scope_low : (byte : ℕ) → is_scope_byte byte ≡ true → byte < 128
scope_low byte is = grind (arith, nat_tests)

-- those of a name are of ASCII
pub name_low : (byte : ℕ) → is_name_byte byte ≡ true → byte < 128
name_low byte is = grind (arith, nat_tests)

-- ---- the bytes of a version

-- a byte of a version
abbrev pub is_version_byte : ℕ → Bool
is_version_byte byte = is_identifier_byte byte || byte == 46 || byte == 43

-- those of a version are of ASCII
pub version_low : (byte : ℕ) → is_version_byte byte ≡ true → byte < 128
version_low byte is = grind (arith, nat_tests)

-- what stands in identifiers stands in versions
identifier_class : (byte : ℕ) → (is_identifier_byte byte || byte == 46) ≡ true → is_version_byte byte ≡ true
identifier_class byte is = or_left (is_identifier_byte byte || byte == 46) (byte == 43) is

-- identifiers of a build are of such bytes
inner_of_build : (parts : List (List ℕ)) → list_all is_build_identifier parts ≡ true → list_all (list_all is_identifier_byte) parts ≡ true
inner_of_build [] all = refl
inner_of_build (part ∷ parts) all =
    let here = and_parts (is_build_identifier part) (list_all is_build_identifier parts) all in
    and_from (list_all is_identifier_byte part) (list_all (list_all is_identifier_byte) parts)
    (and_parts (nat_lt 0 (length part)) (list_all is_identifier_byte part) here.0).1 (inner_of_build parts here.1)

-- identifiers of a pre-release are as those of a build
build_of_pre : (parts : List (List ℕ)) → list_all is_pre_identifier parts ≡ true → list_all is_build_identifier parts ≡ true
build_of_pre [] all = refl
build_of_pre (part ∷ parts) all =
    let here = and_parts (is_pre_identifier part) (list_all is_pre_identifier parts) all in
    and_from (is_build_identifier part) (list_all is_build_identifier parts)
    (and_parts (is_build_identifier part) (not (is_numeric part && has_leading_zero part)) here.0).0 (build_of_pre parts here.1)

-- identifiers and their dots stand in versions
dotted_bytes : (text : List ℕ) → list_all is_build_identifier (slice_split (λ b. b == 46) text) ≡ true → AllPass is_version_byte text
dotted_bytes text all =
    All-weaker (λ b. (is_identifier_byte b || b == 46) ≡ true) (λ b. is_version_byte b ≡ true) identifier_class text
    (joined (λ b. b == 46) is_identifier_byte text (inner_of_build (slice_split (λ b. b == 46) text) all))

-- and so does a pre-release with its mark
marked_pre : (text : List ℕ) → is_pre_release text ≡ true → AllPass is_version_byte (marked 45 text)
marked_pre [] is = All-nil (λ b. is_version_byte b ≡ true)
marked_pre (byte ∷ bytes) is =
    All-cons (λ b. is_version_byte b ≡ true) 45 (byte ∷ bytes) refl (dotted_bytes (byte ∷ bytes) (build_of_pre (slice_split (λ b. b == 46) (byte ∷ bytes)) is))

-- and a build with its mark
marked_build : (text : List ℕ) → is_build text ≡ true → AllPass is_version_byte (marked 43 text)
marked_build [] is = All-nil (λ b. is_version_byte b ≡ true)
marked_build (byte ∷ bytes) is =
    All-cons (λ b. is_version_byte b ≡ true) 43 (byte ∷ bytes) refl (dotted_bytes (byte ∷ bytes) is)

-- the bytes of a version
pub version_bytes : (release : Parts) → IsValid release → AllPass is_version_byte (parts_text release)
version_bytes release valid =
    let P = λ (b : ℕ). is_version_byte b ≡ true in
    let tail = marked 45 release.3 ++ marked 43 release.4 in
    let patch = All-append P (decimal release.2) tail (decimal_class is_version_byte refl release.2 valid.2)
    (All-append P (marked 45 release.3) (marked 43 release.4) (marked_pre release.3 valid.3) (marked_build release.4 valid.4)) in
    let minor = All-append P (decimal release.1) (46 ∷ (decimal release.2 ++ tail)) (decimal_class is_version_byte refl release.1 valid.1)
    (All-cons P 46 (decimal release.2 ++ tail) refl patch) in
    All-append P (decimal release.0) (46 ∷ (decimal release.1 ++ (46 ∷ (decimal release.2 ++ tail)))) (decimal_class is_version_byte refl release.0 valid.0)
    (All-cons P 46 (decimal release.1 ++ (46 ∷ (decimal release.2 ++ tail))) refl minor)

-- a version is read back
pub version_back : (release : Parts) → IsValid release → release_of (parts_text release) ≡ Some release
version_back release valid = ap result_ok (version_parts-complete release valid)

-- ---- a text that ends in another

-- behind a text stands its ending
drop_front : (text ending : List ℕ) → drop (length text) (text ++ ending) ≡ ending
drop_front [] ending = refl
drop_front (byte ∷ text) ending = drop_front text ending

-- before an ending stands its text
take_front : (text ending : List ℕ) → take (length text) (text ++ ending) ≡ text
take_front [] ending = refl
take_front (byte ∷ text) ending = ap (λ (bytes : List ℕ). byte ∷ bytes) (take_front text ending)

-- the same, counted from the end
behind : (text ending : List ℕ) → drop (length (text ++ ending) - length ending) (text ++ ending) ≡ ending
behind text ending =
    let n : length (text ++ ending) - length ending ≡ length text = omega (arith, length-append text ending) in
    ap (λ (k : ℕ). drop k (text ++ ending)) n ∙ drop_front text ending

-- a text with an ending ends so
pub ends_so : (text ending : List ℕ) → ends_with nat_eq (text ++ ending) ending ≡ true
ends_so text ending = ap (λ (bytes : List ℕ). bytes_eq ending bytes) (behind text ending) ∙ nat_list_eq_equiv.refl ending

-- and without it is the text
pub without_end : (text ending : List ℕ) → take (length (text ++ ending) - length ending) (text ++ ending) ≡ text
without_end text ending =
    let n : length (text ++ ending) - length ending ≡ length text = omega (arith, length-append text ending) in
    ap (λ (k : ℕ). take k (text ++ ending)) n ∙ take_front text ending

-- ---- the bytes of a path

-- visible ASCII
abbrev pub is_path_byte : ℕ → Bool
is_path_byte byte = nat_lt 32 byte && nat_lt byte 127

-- the bytes of a path are of ASCII
pub path_low : (byte : ℕ) → is_path_byte byte ≡ true → byte < 128
path_low byte is = grind (arith, nat_tests)

-- visible ASCII but the slash
abbrev pub is_part_byte : ℕ → Bool
is_part_byte byte = is_path_byte byte && not (is_slash byte)

-- a text of one class is of a wider one
pub by_class : (test other : ℕ → Bool) → ((byte : ℕ) → test byte ≡ true → byte < 128) → is_within test other ≡ true → (text : List ℕ) → AllPass test text → AllPass other text
by_class test other low within text all =
    classes test other within text (All-weaker (λ b. test b ≡ true) (λ b. b < 128) low text all) all

-- a part of a path: visible ASCII, with no slash
pub record IsPart (text : List ℕ) : Type 0 where
  pub slashless : All (λ byte. is_slash byte ≡ false) text
  pub visible : AllPass is_path_byte text

-- a text of such bytes is a part of a path
of_bytes : (text : List ℕ) → AllPass is_part_byte text → IsPart text
of_bytes text all = record {
  slashless = All-weaker (λ b. is_part_byte b ≡ true) (λ b. is_slash b ≡ false)
      (λ b is. not-true (is_slash b) (and_parts (is_path_byte b) (not (is_slash b)) is).1) text all;
  visible = All-weaker (λ b. is_part_byte b ≡ true) (λ b. is_path_byte b ≡ true)
      (λ b is. (and_parts (is_path_byte b) (not (is_slash b)) is).0) text all;
}

-- and so is a text of one class of them
part : (test : ℕ → Bool) → ((byte : ℕ) → test byte ≡ true → byte < 128) → is_within test is_part_byte ≡ true → (text : List ℕ) → AllPass test text → IsPart text
part test low within text all = of_bytes text (by_class test is_part_byte low within text all)

-- a scope is one
pub scope_part : (identity : List ℕ) → IsIdentity identity → IsPart (scope_of identity)
scope_part identity is = part is_scope_byte scope_low refl (scope_of identity) (scope_bytes identity is)

-- and so is a name
pub name_part : (identity : List ℕ) → IsIdentity identity → IsPart (name_of identity)
name_part identity is = part is_name_byte name_low refl (name_of identity) (name_bytes identity is)

-- and a version
pub version_part : (release : Parts) → IsValid release → IsPart (parts_text release)
version_part release valid = part is_version_byte version_low refl (parts_text release) (version_bytes release valid)

-- a scope has no question mark
pub asks_nothing : (identity : List ℕ) → IsIdentity identity → AllPass (λ byte. not (byte == 63)) (scope_of identity)
asks_nothing identity is = by_class is_scope_byte (λ byte. not (byte == 63)) scope_low refl (scope_of identity) (scope_bytes identity is)

-- a part with an ending is one
pub more_part : (text ending : List ℕ) → IsPart text → IsPart ending → IsPart (text ++ ending)
more_part text ending first second = record {
  slashless = All-append (λ b. is_slash b ≡ false) text ending first.slashless second.slashless;
  visible = All-append (λ b. is_path_byte b ≡ true) text ending first.visible second.visible;
}

-- ---- paths cut at their slashes

-- a path is cut behind its first part
pub cut_part : (text rest : List ℕ) → IsPart text → slice_split is_slash (text ++ 47 ∷ rest) ≡ text ∷ slice_split is_slash rest
cut_part text rest is = slice_split_at is_slash text 47 rest is.slashless refl

-- the last part is cut no more
pub last_part : (text : List ℕ) → IsPart text → slice_split is_slash text ≡ text ∷ []
last_part text is = slice_split_none is_slash text is.slashless

-- no byte of a text that passes so passes the test
passes_false : (test : ℕ → Bool) (text : List ℕ) → list_all (λ byte. not (test byte)) text ≡ true → All (λ byte. test byte ≡ false) text
passes_false test text all =
    All-weaker (λ b. not (test b) ≡ true) (λ b. test b ≡ false) (λ b is. not-true (test b) is) text (AllPass-from_list_all (λ b. not (test b)) text all)

-- ---- what ends a path

-- nothing is a part of a path
pub nothing_part : IsPart []
nothing_part = record { slashless = All-nil (λ b. is_slash b ≡ false); visible = All-nil (λ b. is_path_byte b ≡ true) }

-- and so is the end of an archive's
pub zip_part : IsPart (codes ".zip")
zip_part = record {
  slashless = passes_false is_slash (codes ".zip") refl;
  visible = AllPass-from_list_all is_path_byte (codes ".zip") refl;
}

-- the name of a manifest is a part
pub file_part : IsPart (codes "Package.json")
file_part = record {
  slashless = passes_false is_slash (codes "Package.json") refl;
  visible = AllPass-from_list_all is_path_byte (codes "Package.json") refl;
}

-- ---- queries

-- the bytes of an encoded URL are visible, and no slashes
encoded_bytes : (url : List ℕ) → All (λ byte. byte < 256) url → AllPass is_part_byte (encoded url)
encoded_bytes [] all = All-nil (λ b. is_part_byte b ≡ true)
encoded_bytes (byte ∷ url) all =
    All-append (λ b. is_part_byte b ≡ true) (encoded_byte byte) (encoded url)
    (AllPass-from_list_all is_part_byte (encoded_byte byte) (agree_below_at (λ b. list_all is_part_byte (encoded_byte b)) (λ b. true) 256 byte refl (All-head (λ b. b < 256) byte url all)))
    (encoded_bytes url (All-tail (λ b. b < 256) byte url all))

-- what stands before the URL of a query
query_front : IsPart (codes "identifiers?url=")
query_front = record {
  slashless = passes_false is_slash (codes "identifiers?url=") refl;
  visible = AllPass-from_list_all is_path_byte (codes "identifiers?url=") refl;
}

-- a query is a part
pub query_part : (url : List ℕ) → All (λ byte. byte < 256) url → IsPart (codes "identifiers?url=" ++ encoded url)
query_part url all = more_part (codes "identifiers?url=") (encoded url) query_front (of_bytes (encoded url) (encoded_bytes url all))
