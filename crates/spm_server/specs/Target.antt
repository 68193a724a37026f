-- What the target of a request asks for (SE-0292, and the endpoints of the registry's service specification): the key whose path it
-- is. The scope and the name stand in any case, and the URL of a query is escaped in any way.
use Rattle.std.specs.Str.{bytes_eq}
use Rattle.std.specs.Prelude.{ℕ, ◌-◌, ◌==◌, List, [], ◌∷◌, ◌++◌, length, take, drop, codes, Bool, nat_eq, Option, Some, None, option_map, if◌then◌else◌}
use Rattle.std.specs.List.{slice_split, starts_with}
use Rattle.std.specs.Result.{result_ok}
use Rattle.std.specs.Str.{is_utf8}
use Rattle.percent_encoding.specs.Percent.{percent_decode}
use Rattle.spm_ident.specs.Identity.{identity_of}
use Rattle.spm_key.specs.declared.key.Key.{Key}
use Rattle.spm_key.specs.declared.key.Key.TheVariants as key
use Rattle.spm_version.specs.Release.{ends_in_zip, release_of}

-- ---- a query

-- the URL behind its escapes, if that is UTF-8; what is no escape stands for itself
abbrev pub url_key : List ℕ → Option Key
url_key url = if is_utf8 url then Some (key.Identifiers url) else None

-- ---- a path

abbrev pub is_slash : ℕ → Bool
is_slash byte = byte == 47

abbrev pub identity_at : List ℕ → List ℕ → Option (List ℕ)
identity_at scope name = result_ok (identity_of (scope ++ 46 ∷ name))

-- an archive where the path ends in `.zip`, or else the release
abbrev pub last_key : List ℕ → List ℕ → Option Key
last_key identity last =
    if ends_in_zip last then option_map (λ release. key.Archive identity release) (release_of (take (length last - 4) last))
    else option_map (λ release. key.Release identity release) (release_of last)

abbrev pub file_key : List ℕ → List ℕ → List ℕ → Option Key
file_key identity version file =
    if bytes_eq file (codes "Package.json") then option_map (λ release. key.Manifest identity release) (release_of version) else None

-- by the parts behind the name of the package
abbrev pub package_key : List ℕ → List (List ℕ) → Option Key
package_key identity [] = Some (key.List identity)
package_key identity (last ∷ []) = last_key identity last
package_key identity (version ∷ file ∷ []) = file_key identity version file
package_key identity (version ∷ file ∷ next ∷ others) = None

abbrev pub in_package : Option (List ℕ) → List (List ℕ) → Option Key
in_package (Some identity) parts = package_key identity parts
in_package None parts = None

-- by the parts between the slashes: nothing before the first one, a scope, a name
abbrev pub parts_key : List (List ℕ) → Option Key
parts_key [] = None
parts_key (front ∷ []) = None
parts_key (front ∷ scope ∷ []) = None
parts_key (front ∷ scope ∷ name ∷ parts) = if length front == 0 then in_package (identity_at scope name) parts else None

-- ---- the target

abbrev pub text_key : List ℕ → Option Key
text_key target =
    if starts_with nat_eq target (codes "/identifiers?url=") then url_key (percent_decode (drop 17 target))
    else parts_key (slice_split is_slash target)

-- the key that a target asks for, if it is the path of one
abbrev pub key_of_target : List ℕ → Option Key
key_of_target target = if is_utf8 target then text_key target else None
