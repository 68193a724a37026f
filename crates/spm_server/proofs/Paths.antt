-- The path of a key asks for that key.
use Rattle.std.specs.Str.{bytes_eq}
use Rattle.std.proofs.Common.{◌≡◌, ℕ, ◌-◌, ◌<◌, Bool, true, false, not, List, [], ◌∷◌, ◌++◌, length, take, drop, Some, None, refl, sym, ap, ◌∙◌, subst, arith, append_assoc, append-nil, length-append, inl, inr}
use Rattle.std.specs.Prelude.{◌||◌, ◌==◌, codes, nat_eq, if◌then◌else◌, option_map, Option, IsUtf8}
use Rattle.std.specs.List.{list_all, list_any, slice_split, starts_with}
use Rattle.std.specs.Result.{result_ok}
use Rattle.std.proofs.lemmas.Bool.{and_left, and_right, and_parts, cases_Bool, eqb-true, false≢true, not-true, true≢false}
use Rattle.std.proofs.lemmas.List.Elements.{All-cons, All-head, All-tail, All-append, All-weaker}
use Rattle.std.proofs.lemmas.List.Sums.{AllPass-from_list_all}
use Rattle.std.proofs.lemmas.Str.{IsUtf8-append, IsUtf8-from_ascii, is_utf8-from_IsUtf8}
use Rattle.std.proofs.lemmas.Str.Ascii.{IsAscii-from_all}
use Rattle.spm_key.proofs.EncodedLemmas.{decoded}
use Rattle.spm_server.specs.Keys.{HasPlainVersion}
use Rattle.spm_ident.specs.Identity.{IsIdentity, identity_of, name_of, scope_of}
use Rattle.httparse.specs.Grammar.{AllPass}
use Rattle.spm_key.specs.Key.{IsKey, IsText, encoded, key_text, release_path}
use Rattle.spm_key.specs.declared.key.Key.{Key}
use Rattle.spm_key.specs.declared.key.Key.TheVariants as key
use Rattle.spm_version.specs.Release.{IsValid, Parts, ends_in_zip, parts_text, release_of}
use Rattle.spm_server.specs.Target.{identity_at, in_package, is_slash, key_of_target, last_key, parts_key, text_key, url_key}
use Rattle.percent_encoding.specs.Percent.{percent_decode}
use Rattle.spm_key.proofs.PathParts.{IsPart, asks_nothing, by_class, cut_part, ends_so, file_part, is_path_byte, is_scope_byte, is_name_byte, is_version_byte, last_part, more_part, name_bytes, name_low, name_part, nothing_part, path_low, query_part, scope_bytes, scope_low, scope_part, version_back, version_bytes, version_low, version_part, whole_identity, without_end, zip_part}

-- ---- a path is no query

-- a path with another front than a query's is none
no_query : (front scope rest : List ℕ) → AllPass (λ byte. not (byte == 63)) scope → list_all (λ byte. not (byte == 47)) front ≡ true → list_any (λ byte. byte == 63) front ≡ true
    → bytes_eq front (take (length front) (scope ++ 47 ∷ rest)) ≡ false
no_query [] scope rest plain slashless asks = absurd (false≢true asks)
no_query (first ∷ front) [] rest plain slashless asks =
    and_left (nat_eq first 47) (bytes_eq front (take (length front) rest))
    (not-true (first == 47) (and_parts (not (first == 47)) (list_all (λ byte. not (byte == 47)) front) slashless).0)
no_query (first ∷ front) (byte ∷ scope) rest plain slashless asks =
    let clean = not-true (byte == 63) (All-head (λ b. not (b == 63) ≡ true) byte scope plain) in
    elim (cases_Bool (nat_eq first byte)) [
      | inl same ↦
          (elim (cases_Bool (first == 63)) [
            | inl mark ↦ absurd (true≢false (sym mark ∙ ap (λ (b : ℕ). b == 63) (eqb-true first byte same) ∙ clean))
            | inr other ↦
                and_right (nat_eq first byte) (bytes_eq front (take (length front) (scope ++ 47 ∷ rest)))
                (no_query front scope rest (All-tail (λ b. not (b == 63) ≡ true) byte scope plain)
                (and_parts (not (first == 47)) (list_all (λ b. not (b == 47)) front) slashless).1
                (subst (λ (b : Bool). (b || list_any (λ c. c == 63) front) ≡ true) other asks))
          ])
      | inr differs ↦ and_left (nat_eq first byte) (bytes_eq front (take (length front) (scope ++ 47 ∷ rest))) differs
    ]

-- the path of a package is no query
pub path_is_no_query : (scope rest : List ℕ) → AllPass (λ byte. not (byte == 63)) scope → starts_with nat_eq (47 ∷ (scope ++ 47 ∷ rest)) (codes "/identifiers?url=") ≡ false
path_is_no_query scope rest plain = no_query (codes "identifiers?url=") scope rest plain refl refl

-- ---- identities

-- the identity is read back from them
pub identity_back : (identity : List ℕ) → IsIdentity identity → identity_at (scope_of identity) (name_of identity) ≡ Some identity
identity_back identity is = ap (λ (text : List ℕ). result_ok (identity_of text)) (whole_identity identity is) ∙ ap result_ok is

-- ---- paths cut at their slashes

-- a text that asks for a key, whose bytes are visible
pub record AsksFor (text : List ℕ) (asked : Option Key) : Type 0 where
  pub visible : AllPass is_path_byte text
  pub key : text_key text ≡ asked
  pub some : 0 < length text

-- a path behind that of a package asks for what its parts say
in_identity : (identity : List ℕ) → IsIdentity identity → (rest : List ℕ) (parts : List (List ℕ)) (asked : Option Key) → AllPass is_path_byte rest
    → slice_split is_slash rest ≡ name_of identity ∷ parts → in_package (Some identity) parts ≡ asked → AsksFor (47 ∷ (scope_of identity ++ 47 ∷ rest)) asked
in_identity identity is rest parts asked visible cut asks = record {
  visible = All-cons (λ b. is_path_byte b ≡ true) 47 (scope_of identity ++ 47 ∷ rest) refl
      (All-append (λ b. is_path_byte b ≡ true) (scope_of identity) (47 ∷ rest) (scope_part identity is).visible
      (All-cons (λ b. is_path_byte b ≡ true) 47 rest refl visible));
  key = ap (λ (query : Bool). if query then url_key (percent_decode (drop 17 (47 ∷ (scope_of identity ++ 47 ∷ rest)))) else parts_key (slice_split is_slash (47 ∷ (scope_of identity ++ 47 ∷ rest))))
      (path_is_no_query (scope_of identity) rest (asks_nothing identity is))
      ∙ ap (λ (found : List (List ℕ)). parts_key ([] ∷ found)) (cut_part (scope_of identity) rest (scope_part identity is) ∙ ap (λ (found : List (List ℕ)). scope_of identity ∷ found) cut)
      ∙ ap (λ (found : Option (List ℕ)). in_package found parts) (identity_back identity is)
      ∙ asks;
  some = omega arith;
}

-- the path of a package asks for its list
pub list_asks : (identity : List ℕ) → IsIdentity identity → AsksFor (key_text (key.List identity)) (Some (key.List identity))
list_asks identity is =
    in_identity identity is (name_of identity) [] (Some (key.List identity)) (name_part identity is).visible (last_part (name_of identity) (name_part identity is)) refl

-- behind the name, the version and what ends it
release_asks : (identity : List ℕ) → IsIdentity identity → (release : Parts) (ending rest : List ℕ) (parts : List (List ℕ)) (asked : Option Key)
    → rest ≡ parts_text release ++ ending → AllPass is_path_byte rest → slice_split is_slash rest ≡ parts → in_package (Some identity) parts ≡ asked
    → AsksFor (release_path identity release ending) asked
release_asks identity is release ending rest parts asked same visible cut asks =
    let text : release_path identity release ending ≡ 47 ∷ (scope_of identity ++ 47 ∷ (name_of identity ++ 47 ∷ rest)) =
    ap (λ (bytes : List ℕ). 47 ∷ bytes) (append_assoc (scope_of identity) (47 ∷ name_of identity) (47 ∷ (parts_text release ++ ending)))
    ∙ ap (λ (bytes : List ℕ). 47 ∷ (scope_of identity ++ 47 ∷ (name_of identity ++ 47 ∷ bytes))) (sym same) in
    subst (λ (path : List ℕ). AsksFor path asked) (sym text)
    (in_identity identity is (name_of identity ++ 47 ∷ rest) parts asked
    (All-append (λ b. is_path_byte b ≡ true) (name_of identity) (47 ∷ rest) (name_part identity is).visible (All-cons (λ b. is_path_byte b ≡ true) 47 rest refl visible))
    (cut_part (name_of identity) rest (name_part identity is) ∙ ap (λ (found : List (List ℕ)). name_of identity ∷ found) cut) asks)

-- the path of a manifest asks for it
pub manifest_asks : (identity : List ℕ) → IsIdentity identity → (release : Parts) → IsValid release → AsksFor (key_text (key.Manifest identity release)) (Some (key.Manifest identity release))
manifest_asks identity is release valid =
    let version = version_part release valid in
    release_asks identity is release (codes "/Package.json") (parts_text release ++ 47 ∷ codes "Package.json") (parts_text release ∷ codes "Package.json" ∷ []) (Some (key.Manifest identity release))
    refl
    (All-append (λ b. is_path_byte b ≡ true) (parts_text release) (47 ∷ codes "Package.json") version.visible
    (All-cons (λ b. is_path_byte b ≡ true) 47 (codes "Package.json") refl file_part.visible))
    (cut_part (parts_text release) (codes "Package.json") version ∙ ap (λ (found : List (List ℕ)). parts_text release ∷ found) (last_part (codes "Package.json") file_part))
    (ap (option_map (λ r. key.Manifest identity r)) (version_back release valid))

-- the path of a release with an ending asks for what its last part says
pub last_asks : (identity : List ℕ) → IsIdentity identity → (release : Parts) → IsValid release → (ending : List ℕ) → IsPart ending → (asked : Option Key)
    → last_key identity (parts_text release ++ ending) ≡ asked → AsksFor (release_path identity release ending) asked
last_asks identity is release valid ending ends asked asks =
    let last = more_part (parts_text release) ending (version_part release valid) ends in
    release_asks identity is release ending (parts_text release ++ ending) ((parts_text release ++ ending) ∷ []) asked refl last.visible (last_part (parts_text release ++ ending) last) asks

-- with `.zip` that is its archive
pub archive_last : (identity : List ℕ) (release : Parts) → IsValid release → last_key identity (parts_text release ++ codes ".zip") ≡ Some (key.Archive identity release)
archive_last identity release valid =
    let last = parts_text release ++ codes ".zip" in
    ap (λ (is_zip : Bool). if is_zip then option_map (λ r. key.Archive identity r) (release_of (take (length last - 4) last)) else option_map (λ r. key.Release identity r) (release_of last))
    (ends_so (parts_text release) (codes ".zip"))
    ∙ ap (λ (text : List ℕ). option_map (λ r. key.Archive identity r) (release_of text)) (without_end (parts_text release) (codes ".zip"))
    ∙ ap (option_map (λ r. key.Archive identity r)) (version_back release valid)

-- a version that doesn't end in `.zip` is a release's
pub release_last : (identity : List ℕ) (release : Parts) → IsValid release → ends_in_zip (parts_text release) ≡ false → last_key identity (parts_text release ++ []) ≡ Some (key.Release identity release)
release_last identity release valid plain =
    let last = parts_text release in
    ap (λ (text : List ℕ). last_key identity text) (append-nil last)
    ∙ ap (λ (is_zip : Bool). if is_zip then option_map (λ r. key.Archive identity r) (release_of (take (length last - 4) last)) else option_map (λ r. key.Release identity r) (release_of last)) plain
    ∙ ap (option_map (λ r. key.Release identity r)) (version_back release valid)

-- and one that does is an archive's, or nothing's
pub zipped_last : (identity : List ℕ) (release : Parts) → ends_in_zip (parts_text release) ≡ true
    → last_key identity (parts_text release ++ []) ≡ option_map (λ r. key.Archive identity r) (release_of (take (length (parts_text release) - 4) (parts_text release)))
zipped_last identity release zipped =
    let last = parts_text release in
    ap (λ (text : List ℕ). last_key identity text) (append-nil last)
    ∙ ap (λ (is_zip : Bool). if is_zip then option_map (λ r. key.Archive identity r) (release_of (take (length last - 4) last)) else option_map (λ r. key.Release identity r) (release_of last)) zipped

-- ---- queries

-- the path of a URL asks for its identities
pub url_asks : (url : List ℕ) → IsText url → AsksFor (key_text (key.Identifiers url)) (Some (key.Identifiers url))
url_asks url is = record {
  visible = All-cons (λ b. is_path_byte b ≡ true) 47 (codes "identifiers?url=" ++ encoded url) refl (query_part url is.1).visible;
  key = ap url_key (decoded url is.1) ∙ ap (λ (text : Bool). if text then Some (key.Identifiers url) else None) (is_utf8-from_IsUtf8 url is.0);
  some = omega (arith, length-append (codes "/identifiers?url=") (encoded url));
}

-- ---- all keys

-- a path is UTF-8
pub path_is_text : (text : List ℕ) → AllPass is_path_byte text → IsUtf8 text
path_is_text text visible = IsUtf8-from_ascii text (IsAscii-from_all text (All-weaker (λ b. is_path_byte b ≡ true) (λ b. b < 128) path_low text visible))

-- a target is the key that its path asks for
pub target_asks : (text : List ℕ) (asked : Option Key) → AsksFor text asked → key_of_target text ≡ asked
target_asks text asked asks =
    ap (λ (is : Bool). if is then text_key text else None) (is_utf8-from_IsUtf8 text (path_is_text text asks.visible)) ∙ asks.key

-- the path of a key asks for it
pub path_asks : (asked : Key) → IsKey asked → HasPlainVersion asked → AsksFor (key_text asked) (Some asked)
path_asks (key.List identity) is plain = list_asks identity is
path_asks (key.Manifest identity release) is plain = manifest_asks identity is.0 release is.1
path_asks (key.Release identity release) is plain = last_asks identity is.0 release is.1 [] nothing_part (Some (key.Release identity release)) (release_last identity release is.1 plain)
path_asks (key.Archive identity release) is plain = last_asks identity is.0 release is.1 (codes ".zip") zip_part (Some (key.Archive identity release)) (archive_last identity release is.1)
path_asks (key.Identifiers url) is plain = url_asks url is

-- ---- texts

-- a version is text
pub version_is_text : (release : Parts) → IsValid release → IsUtf8 (parts_text release)
version_is_text release valid = path_is_text (parts_text release) (by_class is_version_byte is_path_byte version_low refl (parts_text release) (version_bytes release valid))

-- and so are the scope and the name of an identity
pub scope_is_text : (identity : List ℕ) → IsIdentity identity → IsUtf8 (scope_of identity)
scope_is_text identity is = path_is_text (scope_of identity) (by_class is_scope_byte is_path_byte scope_low refl (scope_of identity) (scope_bytes identity is))

pub name_is_text : (identity : List ℕ) → IsIdentity identity → IsUtf8 (name_of identity)
name_is_text identity is = path_is_text (name_of identity) (by_class is_name_byte is_path_byte name_low refl (name_of identity) (name_bytes identity is))

-- and the whole
pub identity_is_text : (identity : List ℕ) → IsIdentity identity → IsUtf8 identity
identity_is_text identity is =
    subst IsUtf8 (whole_identity identity is)
    (IsUtf8-append (scope_of identity) (46 ∷ name_of identity) (scope_is_text identity is)
    (IsUtf8-append (46 ∷ []) (name_of identity) (path_is_text (46 ∷ []) (AllPass-from_list_all is_path_byte (46 ∷ []) refl)) (name_is_text identity is)))
