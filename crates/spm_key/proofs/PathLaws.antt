-- A path is that of one key, but for releases and archives, which are asked for as other media types.
use Rattle.std.proofs.Common.{◌≡◌, ℕ, ◌-◌, List, [], ◌∷◌, ◌++◌, length, get_or, take, drop, refl, sym, ap, ap₂, ◌∙◌, subst, append_assoc, append-nil}
use Rattle.std.specs.Prelude.{codes, Some, unwrap_or, Bool, true, false}
use Rattle.std.specs.List.{AllPass, slice_split}
use Rattle.std.proofs.lemmas.List.Elements.{All-cons, All-append}
use Rattle.percent_encoding.specs.Percent.{percent_decode}
use Rattle.spm_ident.specs.Identity.{IsIdentity, name_of, scope_of}
use Rattle.spm_version.specs.Release.{IsValid, Parts, parts_text, release_of}
use Rattle.spm_key.specs.Key.{IsKey, encoded, key_text, package_path, release_path}
use Rattle.spm_key.specs.declared.key.Key.{Key}
use Rattle.spm_key.specs.declared.key.Key.TheVariants as key
use Rattle.spm_key.proofs.EncodedLemmas.{decoded}
use Rattle.spm_key.proofs.PathParts.{cut_part, file_part, is_path_byte, is_slash, last_part, more_part, name_part, nothing_part, query_part, scope_part, version_back, version_part, whole_identity, without_end, zip_part}

-- the key is that of an archive
abbrev pub is_archive : Key → Bool
is_archive (key.List identity) = false
is_archive (key.Manifest identity release) = false
is_archive (key.Release identity release) = false
is_archive (key.Archive identity release) = true
is_archive (key.Identifiers url) = false

-- ---- the parts of a path

abbrev package_parts : List ℕ → List (List ℕ) → List (List ℕ)
package_parts identity parts = [] ∷ scope_of identity ∷ name_of identity ∷ parts

-- what stands between the slashes of a key's path
abbrev parts_of : Key → List (List ℕ)
parts_of (key.List identity) = package_parts identity []
parts_of (key.Manifest identity release) = package_parts identity (parts_text release ∷ codes "Package.json" ∷ [])
parts_of (key.Release identity release) = package_parts identity (parts_text release ∷ [])
parts_of (key.Archive identity release) = package_parts identity ((parts_text release ++ codes ".zip") ∷ [])
parts_of (key.Identifiers url) = [] ∷ (codes "identifiers?url=" ++ encoded url) ∷ []

-- a path behind that of a package is cut so
cut_package : (identity rest : List ℕ) (parts : List (List ℕ)) → IsIdentity identity → slice_split is_slash rest ≡ parts
    → slice_split is_slash (package_path identity ++ 47 ∷ rest) ≡ package_parts identity parts
cut_package identity rest parts is cut =
    ap (λ (bytes : List ℕ). [] ∷ slice_split is_slash bytes) (append_assoc (scope_of identity) (47 ∷ name_of identity) (47 ∷ rest))
    ∙ ap (λ (found : List (List ℕ)). [] ∷ found) (cut_part (scope_of identity) (name_of identity ++ 47 ∷ rest) (scope_part identity is)
    ∙ ap (λ (found : List (List ℕ)). scope_of identity ∷ found) (cut_part (name_of identity) rest (name_part identity is)
    ∙ ap (λ (found : List (List ℕ)). name_of identity ∷ found) cut))

-- the path of a key is cut into its parts
cut_path : (asked : Key) → IsKey asked → slice_split is_slash (key_text asked) ≡ parts_of asked
cut_path (key.List identity) is =
    ap (λ (found : List (List ℕ)). [] ∷ found) (cut_part (scope_of identity) (name_of identity) (scope_part identity is)
    ∙ ap (λ (found : List (List ℕ)). scope_of identity ∷ found) (last_part (name_of identity) (name_part identity is)))
cut_path (key.Manifest identity release) is =
    cut_package identity (parts_text release ++ 47 ∷ codes "Package.json") _ is.0
    (cut_part (parts_text release) (codes "Package.json") (version_part release is.1)
    ∙ ap (λ (found : List (List ℕ)). parts_text release ∷ found) (last_part (codes "Package.json") file_part))
cut_path (key.Release identity release) is =
    ap (λ (last : List ℕ). slice_split is_slash (package_path identity ++ 47 ∷ last)) (append-nil (parts_text release))
    ∙ cut_package identity (parts_text release) _ is.0 (last_part (parts_text release) (version_part release is.1))
cut_path (key.Archive identity release) is =
    cut_package identity (parts_text release ++ codes ".zip") _ is.0
    (last_part (parts_text release ++ codes ".zip") (more_part (parts_text release) (codes ".zip") (version_part release is.1) zip_part))
cut_path (key.Identifiers url) is =
    ap (λ (found : List (List ℕ)). [] ∷ found) (last_part (codes "identifiers?url=" ++ encoded url) (query_part url is.1))

-- ---- what the parts say

-- the part at a place
abbrev at : ℕ → List (List ℕ) → List ℕ
at place parts = get_or parts place []

-- two identities with one scope and one name are one
same_identity : (first second : List ℕ) → IsIdentity first → IsIdentity second → (parts others : List (List ℕ))
    → package_parts first parts ≡ package_parts second others → first ≡ second
same_identity first second is other parts others same =
    sym (whole_identity first is) ∙ ap₂ (λ (scope name : List ℕ). scope ++ 46 ∷ name) (ap (at 1) same) (ap (at 2) same) ∙ whole_identity second other

-- what is there is one
some_is : {A : Type 0} (x y : A) → Some x ≡ Some y → x ≡ y
some_is x y same = ap (λ found. unwrap_or found x) same

-- two versions with one text are one
same_version : (first second : Parts) → IsValid first → IsValid second → parts_text first ≡ parts_text second → first ≡ second
same_version first second valid other same =
    some_is first second (sym (version_back first valid) ∙ ap release_of same ∙ version_back second other)

-- the text before an ending of four bytes
abbrev before_zip : List ℕ → List ℕ
before_zip text = take (length text - 4) text

-- two URLs that are encoded as one are one
same_url : (first second : List ℕ) → IsKey (key.Identifiers first) → IsKey (key.Identifiers second) → encoded first ≡ encoded second → first ≡ second
same_url first second is other same = sym (decoded first is.1) ∙ ap percent_decode same ∙ decoded second other.1

-- keys of one media type whose paths have the same parts are one
same_parts : (first second : Key) → IsKey first → IsKey second → is_archive first ≡ is_archive second → parts_of first ≡ parts_of second → first ≡ second
same_parts (key.List a) (key.List b) is other media same = ap key.List (same_identity a b is other [] [] same)
same_parts (key.Manifest a r) (key.Manifest b s) is other media same =
    ap₂ key.Manifest (same_identity a b is.0 other.0 _ _ same) (same_version r s is.1 other.1 (ap (at 3) same))
same_parts (key.Release a r) (key.Release b s) is other media same =
    ap₂ key.Release (same_identity a b is.0 other.0 _ _ same) (same_version r s is.1 other.1 (ap (at 3) same))
same_parts (key.Archive a r) (key.Archive b s) is other media same =
    ap₂ key.Archive (same_identity a b is.0 other.0 _ _ same)
    (same_version r s is.1 other.1 (sym (without_end (parts_text r) (codes ".zip")) ∙ ap before_zip (ap (at 3) same) ∙ without_end (parts_text s) (codes ".zip")))
same_parts (key.Identifiers a) (key.Identifiers b) is other media same = ap key.Identifiers (same_url a b is other (ap (λ (parts : List (List ℕ)). drop 16 (at 1 parts)) same))
same_parts first second is other media same = cc

-- keys of one media type with one path are one
pub same_path : (first second : Key) → IsKey first → IsKey second → is_archive first ≡ is_archive second → key_text first ≡ key_text second → first ≡ second
same_path first second is other media same =
    same_parts first second is other media (sym (cut_path first is) ∙ ap (slice_split is_slash) same ∙ cut_path second other)

-- ---- the bytes of a path

-- behind a package's path stand visible bytes
visible_package : (identity rest : List ℕ) → IsIdentity identity → AllPass is_path_byte rest → AllPass is_path_byte (package_path identity ++ rest)
visible_package identity rest is visible =
    let P = λ (b : ℕ). is_path_byte b ≡ true in
    All-append P (package_path identity) rest
    (All-cons P 47 (scope_of identity ++ 47 ∷ name_of identity) refl
    (All-append P (scope_of identity) (47 ∷ name_of identity) (scope_part identity is).visible (All-cons P 47 (name_of identity) refl (name_part identity is).visible)))
    visible

-- and behind its version
visible_release : (identity : List ℕ) (release : Parts) (ending : List ℕ) → IsIdentity identity → IsValid release → AllPass is_path_byte ending
    → AllPass is_path_byte (release_path identity release ending)
visible_release identity release ending is valid visible =
    let P = λ (b : ℕ). is_path_byte b ≡ true in
    visible_package identity (47 ∷ (parts_text release ++ ending)) is
    (All-cons P 47 (parts_text release ++ ending) refl (All-append P (parts_text release) ending (version_part release valid).visible visible))

-- the bytes of a key's path are visible
pub visible_path : (asked : Key) → IsKey asked → AllPass is_path_byte (key_text asked)
visible_path (key.List identity) is =
    subst (λ (path : List ℕ). AllPass is_path_byte path) (append-nil (package_path identity)) (visible_package identity [] is nothing_part.visible)
visible_path (key.Manifest identity release) is =
    visible_release identity release (codes "/Package.json") is.0 is.1 (All-cons (λ b. is_path_byte b ≡ true) 47 (codes "Package.json") refl file_part.visible)
visible_path (key.Release identity release) is = visible_release identity release [] is.0 is.1 nothing_part.visible
visible_path (key.Archive identity release) is = visible_release identity release (codes ".zip") is.0 is.1 zip_part.visible
visible_path (key.Identifiers url) is = All-cons (λ b. is_path_byte b ≡ true) 47 (codes "identifiers?url=" ++ encoded url) refl (query_part url is.1).visible
