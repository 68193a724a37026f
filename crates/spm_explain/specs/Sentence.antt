-- Why a fact holds, as a sentence.
use Rattle.std.specs.Prelude.{ℕ, List, [], ◌∷◌, ◌++◌, codes, Option, Some, None}
use Rattle.std.specs.List.{flat_map}
use Rattle.serde_json.specs.Data.{string}
use Rattle.serde_json.specs.Written.{compact_text}
use Rattle.spm_version.specs.Kind.{kind_text}
use Rattle.spm_version.specs.Release.{Parts, parts_text}
use Rattle.spm_version.specs.ToolsVersion.{tools_text}
use Rattle.spm_version.specs.declared.requirement.Requirement.{Requirement}
use Rattle.spm_version.specs.declared.requirement.Requirement.TheVariants.{Exact, Range, Branch, Revision, Path}
use Rattle.pub_term.specs.declared.cause.Cause.{Cause}
use Rattle.pub_term.specs.declared.cause.Cause.TheVariants.{Requires, Asks, WordsAsk, Enables, NoTrait, NoManifest, Unreadable, Tools, Unversioned, UnknownUrl, Given}
use Rattle.pub_term.specs.declared.cause.Subject.{Subject}

-- the text in double quotes, as JSON's compact text has it
abbrev pub quoted : List ℕ → List ℕ
quoted text = compact_text (string text)

-- the root, or a package at a version
abbrev pub owner_text : Option (List ℕ × Parts) → List ℕ
owner_text None = codes "root"
owner_text (Some owner) = owner.0 ++ (codes " " ++ parts_text owner.1)

-- the traits that stand behind it, in their order
abbrev pub under_text : List (List ℕ) → List ℕ
under_text [] = []
under_text (first ∷ others) = codes " with " ++ (first ++ flat_map (λ name. codes " and " ++ name) others)

-- a subject
abbrev pub subject_text : Subject → List ℕ
subject_text subject = owner_text subject.owner ++ under_text subject.under

-- what is needed
abbrev pub requirement_text : Requirement → List ℕ
requirement_text (Exact release) = codes "exactly " ++ parts_text release
requirement_text (Range low high) = parts_text low ++ (codes "..<" ++ parts_text high)
requirement_text (Branch name) = codes "branch " ++ quoted name
requirement_text (Revision name) = codes "revision " ++ quoted name
requirement_text Path = codes "path"

-- a need by its URL, or by its path
abbrev pub unversioned_text : Requirement → List ℕ → List ℕ
unversioned_text Path path = codes "path " ++ quoted path
unversioned_text requirement url = requirement_text requirement ++ (codes " of " ++ quoted url)

-- the sentence of a cause. `Requires` comes with a range or an exact version, and `Unversioned` with a branch, a revision or a
-- path; of the others it says the same in the same words.
abbrev pub sentence : Cause → List ℕ
sentence (Requires subject identity requirement) =
    subject_text subject ++ (codes " needs " ++ (identity ++ (codes " " ++ requirement_text requirement)))
sentence (Asks subject identity name) = subject_text subject ++ (codes " asks " ++ (identity ++ (codes "#" ++ name)))
sentence (WordsAsk name) = codes "the words ask root#" ++ name
sentence (Enables subject name) = subject_text subject ++ (codes " enables " ++ name)
sentence (NoTrait subject) = subject_text subject ++ codes " has no such trait"
sentence (NoManifest subject) = subject_text subject ++ codes " has no manifest"
sentence (Unreadable subject place kind) =
    subject_text subject ++ (codes " has an unreadable manifest at " ++ (place ++ (codes ": " ++ kind_text kind)))
sentence (Tools subject tools) = subject_text subject ++ (codes " needs tools " ++ tools_text tools)
sentence (Unversioned subject requirement text) = subject_text subject ++ (codes " needs " ++ unversioned_text requirement text)
sentence (UnknownUrl subject url) =
    subject_text subject ++ (codes " needs " ++ (quoted url ++ codes ", which the registry doesn't know"))
sentence Given = codes "given"
