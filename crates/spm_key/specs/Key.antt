-- Keys of a registry, and their paths (SE-0292, and the endpoints of the registry's service specification; the manifest's path is
-- this project's own).
use Rattle.std.specs.Prelude.{ℕ, ◌/◌, ◌%◌, ◌==◌, ◌||◌, List, [], ◌∷◌, ◌++◌, ◌<◌, All, Bool, true, IsUtf8, codes, if◌then◌else◌}
use Rattle.std.specs.Char.{is_ascii_alphanumeric}
use Rattle.std.specs.Fmt.{digit_glyph}
use Rattle.std.specs.List.{flat_map}
use Rattle.spm_ident.specs.Identity.{IsIdentity, name_of, scope_of}
use Rattle.spm_version.specs.Release.{IsValid, Parts, parts_text}
use Rattle.spm_key.specs.declared.key.Key.{Key}
use Rattle.spm_key.specs.declared.key.Key.TheVariants as key

-- a letter or digit of ASCII, `-`, `.`, `_` or `~` (RFC 3986, section 2.3)
abbrev pub is_unreserved : ℕ → Bool
is_unreserved byte = is_ascii_alphanumeric byte || byte == 45 || byte == 46 || byte == 95 || byte == 126

-- `%` and the byte's two hexadecimal digits, in upper case
abbrev pub escaped : ℕ → List ℕ
escaped byte = 37 ∷ digit_glyph true (byte / 16) ∷ digit_glyph true (byte % 16) ∷ []

abbrev pub encoded_byte : ℕ → List ℕ
encoded_byte byte = if is_unreserved byte then byte ∷ [] else escaped byte

-- a text with every byte escaped that isn't unreserved
abbrev pub encoded : List ℕ → List ℕ
encoded text = flat_map encoded_byte text

-- `/scope/name`
abbrev pub package_path : List ℕ → List ℕ
package_path identity = codes "/" ++ (scope_of identity ++ (codes "/" ++ name_of identity))

-- `/scope/name/version`, and what ends it
abbrev pub release_path : List ℕ → Parts → List ℕ → List ℕ
release_path identity release ending = package_path identity ++ (codes "/" ++ (parts_text release ++ ending))

abbrev pub query_path : List ℕ → List ℕ
query_path url = codes "/identifiers?url=" ++ encoded url

-- the path of a key
abbrev pub key_text : Key → List ℕ
key_text (key.List identity) = package_path identity
key_text (key.Manifest identity release) = release_path identity release (codes "/Package.json")
key_text (key.Release identity release) = release_path identity release []
key_text (key.Archive identity release) = release_path identity release (codes ".zip")
key_text (key.Identifiers url) = query_path url

-- a text: bytes of UTF-8
abbrev pub IsText : List ℕ → Type 0
IsText text = IsUtf8 text × All (λ byte. byte < 256) text

-- a key that can be: its parts are what their types say
abbrev pub IsKey : Key → Type 0
IsKey (key.List identity) = IsIdentity identity
IsKey (key.Manifest identity release) = IsIdentity identity × IsValid release
IsKey (key.Release identity release) = IsIdentity identity × IsValid release
IsKey (key.Archive identity release) = IsIdentity identity × IsValid release
IsKey (key.Identifiers url) = IsText url
