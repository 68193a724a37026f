-- The values that several formats share, read from a text.
use Rattle.std.specs.Prelude.{ℕ, ◌==◌, List, Bool, false, codes, Option, Some, None, Ok, ⊤, if◌then◌else◌}
use Rattle.std.specs.Result.{result_ok}
use Rattle.serde_json.specs.Data.{Data}
use Rattle.serde_json.specs.Find.{as_number, as_u64}
use Rattle.spm_ident.specs.Identity.{identity_of}
use Rattle.spm_version.specs.Release.{Parts, release_of}
use Rattle.spm_version.specs.ToolsVersion.{tools_of}
use Rattle.spm_version.specs.declared.kind.Kind.TheVariants.{BadIdentity, BadTrait, BadVersion, WrongKind}
use Rattle.spm_version.specs.declared.tools_version.ToolsVersion.{ToolsVersion}
use Rattle.spm_json.specs.Field.{field_of}
use Rattle.spm_json.specs.Reading.{Reading, fault_here, or_fault, ◌>>=◌}
use Rattle.spm_json.specs.Shape.{text_of}
use Rattle.spm_trait.specs.TraitName.{trait_name_of}

-- an identity, kept in lower case
abbrev pub identity_in : List ℕ → Reading (List ℕ)
identity_in text = or_fault BadIdentity (result_ok (identity_of text))

abbrev pub identity_reading : Data → Reading (List ℕ)
identity_reading d = text_of d >>= identity_in

abbrev pub release_in : List ℕ → Reading Parts
release_in text = or_fault BadVersion (release_of text)

abbrev pub release_reading : Data → Reading Parts
release_reading d = text_of d >>= release_in

abbrev pub tools_reading : Data → Reading ToolsVersion
tools_reading d = text_of d >>= λ text. or_fault BadVersion (tools_of text)

-- ---- traits

abbrev pub trait_reading : Data → Reading (List ℕ)
trait_reading d = text_of d >>= λ text. or_fault BadTrait (result_ok (trait_name_of text))

-- ---- the version of a file's own format

abbrev pub is_number : ℕ → Option ℕ → Bool
is_number wanted (Some number) = number == wanted
is_number wanted None = false

-- this number, as an integer: another number is a bad version
abbrev pub version_reading : ℕ → Data → Reading ⊤
version_reading wanted d = or_fault WrongKind (as_number d) >>= λ number.
    if is_number wanted (as_u64 number) then Ok tt else fault_here BadVersion

abbrev pub version_field : ℕ → Data → Reading ⊤
version_field wanted o = field_of (version_reading wanted) (codes "version") o
