-- The forms of words that are built so far, each in just that order: `resolve --shelf FILE [--fingerprints FILE] [--tools-version V] [TRAITS]
-- [--proofs] ROOTS`, where TRAITS is `--traits LIST`, `--enable-all-traits` or `--disable-default-traits`, and ROOTS are one to 64 folders;
-- `check --proof FILE`; `judge --shelf FILE [--tools-version V] ROOT`; and `fingerprints FILE`.
use Rattle.std.specs.Prelude.{ℕ, ◌==◌, ◌&&◌, ◌||◌, List, [], ◌∷◌, ◌++◌, length, nat_le, Bool, true, false, not, codes, Option, Some, None, Result, Ok, Err, option_and_then, option_map, if◌then◌else◌}
use Rattle.std.specs.List.{list_all, list_any, slice_split}
use Rattle.std.specs.Str.{bytes_eq}
use Rattle.spm_trait.specs.TraitName.{trait_name_of}
use Rattle.spm_trait.specs.declared.trait_name.TraitFault.{TraitFault}
use Rattle.spm_version.specs.ToolsVersion.{tools_of}
use Rattle.spm_version.specs.declared.tools_version.ToolsVersion.{ToolsVersion}
use Rattle.spm_tool.specs.declared.words.TraitWords.{TraitWords}
use Rattle.spm_tool.specs.declared.words.TraitWords.TheVariants as asked

-- what `resolve` is asked: the shelf's file, the fingerprint file, the version of the tools that are running, the traits of each root, whether a
-- derivation is put, and the roots' folders
pub record Order : Type 0 where
  pub shelf : List ℕ
  pub fingerprints : Option (List ℕ)
  pub tools : ToolsVersion
  pub traits : TraitWords
  pub proofs : Bool
  pub roots : List (List ℕ)

-- what `judge` is asked: the shelf's file, the version of the tools that are running, and the root's folder
pub record Judgement : Type 0 where
  pub shelf : List ℕ
  pub tools : ToolsVersion
  pub root : List ℕ

-- the version of the tools that is running where the words say none
abbrev pub running : ToolsVersion
running = record { major = 6; minor = 1; patch = 0 }

-- a value isn't empty and doesn't begin with `-`
abbrev pub is_value : List ℕ → Bool
is_value [] = false
is_value (byte ∷ rest) = not (byte == 45)

-- ---- a list of traits

abbrev pub name_in : Result (List ℕ) TraitFault → Option (List ℕ)
name_in (Ok name) = Some name
name_in (Err fault) = None

-- one name more, without repeats
abbrev pub with_new : List (List ℕ) → List ℕ → List (List ℕ)
with_new names name = if list_any (λ other. bytes_eq name other) names then names else names ++ name ∷ []

abbrev pub names_after : List (List ℕ) → List (List ℕ) → Option (List (List ℕ))
names_after names [] = Some names
names_after names (piece ∷ pieces) = option_and_then (λ name. names_after (with_new names name) pieces) (name_in (trait_name_of piece))

-- names of traits, joined by commas; none where one of them is no name
abbrev pub names_of : List ℕ → Option (List (List ℕ))
names_of list = names_after [] (slice_split (λ byte. byte == 44) list)

-- ---- options

-- the value of an option that stands first
abbrev pub value_of : List ℕ → List (List ℕ) → Option (List ℕ)
value_of name (option ∷ value ∷ words) = if bytes_eq option name then Some value else None
value_of name words = None

-- the words behind an option with a value, where it stands first
abbrev pub behind_value : List ℕ → List (List ℕ) → List (List ℕ)
behind_value name (option ∷ value ∷ words) = if bytes_eq option name then words else option ∷ value ∷ words
behind_value name words = words

-- a flag that stands first, and the words behind it
abbrev pub has_flag : List ℕ → List (List ℕ) → Bool
has_flag flag [] = false
has_flag flag (word ∷ words) = bytes_eq word flag

abbrev pub behind_flag : List ℕ → List (List ℕ) → List (List ℕ)
behind_flag flag [] = []
behind_flag flag (word ∷ words) = if bytes_eq word flag then words else word ∷ words

-- the version that is said, or else the one that is running; none where the text is no version
abbrev pub tools_in : Option (List ℕ) → Option ToolsVersion
tools_in None = Some running
tools_in (Some text) = tools_of text

abbrev pub traits_by : Option (List ℕ) → Option TraitWords
traits_by None = Some asked.ByDefault
traits_by (Some list) = option_map (λ names. asked.These names) (names_of list)

-- the traits that the first words ask for; none where a list has what is no name
abbrev pub traits_in : List (List ℕ) → Option TraitWords
traits_in words =
    if has_flag (codes "--enable-all-traits") words then Some asked.All
    else if has_flag (codes "--disable-default-traits") words then Some asked.Nothing
    else traits_by (value_of (codes "--traits") words)

abbrev pub behind_traits : List (List ℕ) → List (List ℕ)
behind_traits words =
    if has_flag (codes "--enable-all-traits") words then behind_flag (codes "--enable-all-traits") words
    else if has_flag (codes "--disable-default-traits") words then behind_flag (codes "--disable-default-traits") words
    else behind_value (codes "--traits") words

-- ---- files

-- the names of a root's files
abbrev pub manifest_name : List ℕ → List ℕ
manifest_name root = root ++ codes "/Package.json"

abbrev pub lock_name : List ℕ → List ℕ
lock_name root = root ++ codes "/Package.resolved"

abbrev pub proof_name : List ℕ → List ℕ
proof_name root = root ++ codes "/Package.proof"

-- the name is that of one of a root's files
abbrev pub is_file_of : List ℕ → List ℕ → Bool
is_file_of name root = bytes_eq name (manifest_name root) || bytes_eq name (lock_name root) || bytes_eq name (proof_name root)

-- ---- resolve

abbrev pub are_distinct : List (List ℕ) → Bool
are_distinct [] = true
are_distinct (root ∷ roots) = not (list_any (bytes_eq root) roots) && are_distinct roots

-- one to 64 folders, each once
abbrev pub are_roots : List (List ℕ) → Bool
are_roots roots = nat_le 1 (length roots) && nat_le (length roots) 64 && list_all is_value roots && are_distinct roots

-- the fingerprint file is no other file of the run
abbrev pub is_apart : Option (List ℕ) → List ℕ → List (List ℕ) → Bool
is_apart None shelf roots = true
is_apart (Some file) shelf roots = is_value file && not (bytes_eq file shelf) && not (list_any (is_file_of file) roots)

abbrev pub order_with : List ℕ → Option (List ℕ) → Option ToolsVersion → Option TraitWords → Bool → List (List ℕ) → Option Order
order_with shelf fingerprints (Some tools) (Some traits) proofs roots =
    if is_value shelf && are_roots roots && is_apart fingerprints shelf roots
    then Some (record { shelf = shelf; fingerprints = fingerprints; tools = tools; traits = traits; proofs = proofs; roots = roots })
    else None
order_with shelf fingerprints tools traits proofs roots = None

-- the words behind the traits, those behind the version of the tools, and those behind the fingerprint file
abbrev pub with_traits : List ℕ → Option (List ℕ) → Option ToolsVersion → Option TraitWords → List (List ℕ) → Option Order
with_traits shelf fingerprints tools traits words =
    order_with shelf fingerprints tools traits (has_flag (codes "--proofs") words) (behind_flag (codes "--proofs") words)

abbrev pub with_tools : List ℕ → Option (List ℕ) → Option ToolsVersion → List (List ℕ) → Option Order
with_tools shelf fingerprints tools words = with_traits shelf fingerprints tools (traits_in words) (behind_traits words)

abbrev pub with_fingerprints : List ℕ → Option (List ℕ) → List (List ℕ) → Option Order
with_fingerprints shelf fingerprints words =
    with_tools shelf fingerprints (tools_in (value_of (codes "--tools-version") words)) (behind_value (codes "--tools-version") words)

-- the words behind the shelf's file
abbrev pub with_shelf : List ℕ → List (List ℕ) → Option Order
with_shelf shelf words = with_fingerprints shelf (value_of (codes "--fingerprints") words) (behind_value (codes "--fingerprints") words)

-- what the words ask of `resolve`, if they are of its form
abbrev pub order_of : List (List ℕ) → Option Order
order_of (command ∷ option ∷ shelf ∷ words) =
    if bytes_eq command (codes "resolve") && bytes_eq option (codes "--shelf") then with_shelf shelf words else None
order_of words = None

-- ---- check

-- the file with the derivation that the words ask to check, if they are of that form
abbrev pub proof_of : List (List ℕ) → Option (List ℕ)
proof_of (command ∷ option ∷ file ∷ []) =
    if bytes_eq command (codes "check") && bytes_eq option (codes "--proof") && is_value file then Some file else None
proof_of words = None

-- ---- judge

abbrev pub judgement_with : List ℕ → Option ToolsVersion → List (List ℕ) → Option Judgement
judgement_with shelf (Some tools) (root ∷ []) =
    if is_value shelf && is_value root then Some (record { shelf = shelf; tools = tools; root = root }) else None
judgement_with shelf tools words = None

-- what the words ask of `judge`, if they are of its form
abbrev pub judge_of : List (List ℕ) → Option Judgement
judge_of (command ∷ option ∷ shelf ∷ words) =
    if bytes_eq command (codes "judge") && bytes_eq option (codes "--shelf")
    then judgement_with shelf (tools_in (value_of (codes "--tools-version") words)) (behind_value (codes "--tools-version") words)
    else None
judge_of words = None

-- ---- fingerprints

-- the fingerprint file that the words ask to show, if they are of that form
abbrev pub file_in : List (List ℕ) → Option (List ℕ)
file_in (file ∷ []) = if is_value file then Some file else None
file_in words = None

abbrev pub shown_of : List (List ℕ) → Option (List ℕ)
shown_of [] = None
shown_of (command ∷ words) = if bytes_eq command (codes "fingerprints") then file_in words else None
