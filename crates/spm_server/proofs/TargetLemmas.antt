-- Reading a target: cutting a path at its first slash, queries, endings.
use Rattle.std.proofs.Common.{◌≡◌, ℕ, ◌-◌, ◌<◌, Bool, true, false, List, [], ◌∷◌, length, take, drop, Some, None, refl, sym, ap, ◌∙◌, subst, arith}
use Rattle.std.specs.Prelude.{codes, nat_eq, if◌then◌else◌, option_map, IsUtf8}
use Rattle.std.specs.List.{after_first, before_first, ends_with, position_or_len, slice_split, starts_with}
use Rattle.std.specs.Str.{is_utf8}
use Rattle.std.proofs.lemmas.Bool.{false_from_ne_true}
use Rattle.std.proofs.lemmas.Str.{IsUtf8-from_is_utf8, is_utf8-from_IsUtf8}
use Rattle.percent_encoding.specs.Percent.{percent_decode}
use Rattle.spm_key.specs.declared.key.Key.TheVariants as key
use Rattle.spm_version.specs.Release.{release_of}
use Rattle.std.proofs.lemmas.List.Splits.{length-slice_split, slice_split_first, slice_split_none}
use Rattle.std.proofs.lemmas.List.Sums.{fails_before_first}
use Rattle.spm_server.specs.Target.{is_slash, key_of_target, last_key, package_key, parts_key, text_key, url_key}

-- a path with a slash is its first part and the others
pub cut_first : (path part rest : List ℕ) → part ≡ before_first is_slash path → rest ≡ after_first is_slash path → position_or_len is_slash path < length path
    → slice_split is_slash path ≡ part ∷ slice_split is_slash rest
cut_first path part rest front back inside =
    slice_split_first is_slash path 0 inside ∙ ap (λ (bytes : List ℕ). bytes ∷ slice_split is_slash (after_first is_slash path)) (sym front)
    ∙ ap (λ (bytes : List ℕ). part ∷ slice_split is_slash bytes) (sym back)

-- a path without one is its own part
pub cut_none : (path : List ℕ) → position_or_len is_slash path ≡ length path → slice_split is_slash path ≡ path ∷ []
cut_none path none = slice_split_none is_slash path (λ k d inside. fails_before_first is_slash path k d (rw none inside))

-- ---- queries

-- a URL in UTF-8 is a key
pub url_is : (url bytes : List ℕ) → bytes ≡ url → IsUtf8 bytes → Some (key.Identifiers bytes) ≡ url_key url
url_is url bytes same text =
    ap (λ (found : List ℕ). Some (key.Identifiers found)) same
    ∙ sym (ap (λ (is : Bool). if is then Some (key.Identifiers url) else None) (is_utf8-from_IsUtf8 url (subst IsUtf8 same text)))

-- another is none
pub no_url : (url bytes : List ℕ) → bytes ≡ url → (IsUtf8 bytes → ⊥) → None ≡ url_key url
no_url url bytes same none =
    sym (ap (λ (is : Bool). if is then Some (key.Identifiers url) else None)
    (false_from_ne_true (is_utf8 url) (λ is. none (subst IsUtf8 (sym same) (IsUtf8-from_is_utf8 url is)))))

-- a query asks for its URL
pub query_is : (target : List ℕ) → starts_with nat_eq target (codes "/identifiers?url=") ≡ true → url_key (percent_decode (drop 17 target)) ≡ text_key target
query_is target is = sym (ap (λ (query : Bool). if query then url_key (percent_decode (drop 17 target)) else parts_key (slice_split is_slash target)) is)

-- ---- the target

-- a target in UTF-8 asks as a text does
pub text_is : (target text : List ℕ) → text ≡ target → IsUtf8 target → text_key text ≡ key_of_target target
text_is target text same is =
    ap text_key same ∙ sym (ap (λ (utf8 : Bool). if utf8 then text_key target else None) (is_utf8-from_IsUtf8 target is))

-- another asks for nothing
pub no_text : (target : List ℕ) → (IsUtf8 target → ⊥) → None ≡ key_of_target target
no_text target none =
    sym (ap (λ (utf8 : Bool). if utf8 then text_key target else None) (false_from_ne_true (is_utf8 target) (λ is. none (IsUtf8-from_is_utf8 target is))))

-- ---- the last part

-- without `.zip` the last part is a release
pub not_zipped : (identity last : List ℕ) → false ≡ ends_with nat_eq last (codes ".zip") → option_map (λ release. key.Release identity release) (release_of last) ≡ last_key identity last
not_zipped identity last plain =
    ap (λ (zip : Bool). if zip then option_map (λ release. key.Archive identity release) (release_of (take (length last - 4) last)) else option_map (λ release. key.Release identity release) (release_of last)) plain

-- ---- too many parts

-- more parts ask for nothing
too_many : (identity first file : List ℕ) (parts : List (List ℕ)) → 0 < length parts → None ≡ package_key identity (first ∷ file ∷ parts)
too_many identity first file [] some = absurd (omega (arith, some))
too_many identity first file (next ∷ parts) some = refl

-- and so does what a further slash cuts off
pub too_deep : (identity first file rest : List ℕ) → None ≡ package_key identity (first ∷ file ∷ slice_split is_slash rest)
too_deep identity first file rest = too_many identity first file (slice_split is_slash rest) (omega (arith, length-slice_split is_slash rest))
