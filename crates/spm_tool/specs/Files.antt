-- What the files say that a run begins with: the shelf, the fingerprints, and of each root its manifest and its lock file. A get of a file may fail,
-- and memory may run out; else the file's bytes decide.
use Rattle.std.specs.Prelude.{◌≡◌, ◌⊎◌, ℕ, List, [], ◌∷◌, codes, Option, Some, None, Result, Ok, Err, IsOk, if◌then◌else◌}
use Rattle.std.specs.FinMap as map
use Rattle.std.specs.Ordering.{is_le, nat_cmp, ordering_then}
use Rattle.std.specs.declared.cmp.Ordering.{Ordering}
use Rattle.std.specs.Str.{bytes_eq}
use Rattle.pub_plain.specs.Choosing.{Pins}
use Rattle.spm_digest.specs.Digest.{sha256}
use Rattle.spm_json.specs.Reading.{Reading}
use Rattle.spm_manifest.specs.Profile.{manifest_of}
use Rattle.spm_manifest.specs.declared.dump.Contents.{Contents}
use Rattle.spm_outside.specs.Names.{FileMap}
use Rattle.spm_resolved.specs.Reading.{resolved_of}
use Rattle.spm_resolved.specs.declared.reading.Resolved.{Resolved as LockFile}
use Rattle.spm_session.specs.Archives.{Fingerprints}
use Rattle.spm_session.specs.declared.job.RootInput.{RootInput}
use Rattle.spm_session.specs.declared.job.RootInput.TheVariants as input
use Rattle.spm_session.specs.declared.job.RootJob.{RootJob}
use Rattle.spm_session.specs.declared.outcome.Outcome.{Outcome}
use Rattle.spm_session.specs.declared.outcome.Outcome.TheVariants as outcome
use Rattle.spm_shelf.specs.File.{shelf_of}
use Rattle.spm_shelf.specs.Shelf.{IsShelfOf}
use Rattle.spm_shelf.specs.declared.file.ShelfFile.{ShelfFile}
use Rattle.spm_trait.specs.declared.traits.TraitEntry.{TraitEntry}
use Rattle.spm_trust.specs.File.{trust_of}
use Rattle.spm_trust.specs.Trust.{ReadsTrust}
use Rattle.spm_version.specs.declared.tools_version.ToolsVersion.{ToolsVersion}
use Rattle.spm_tool.specs.Words.{Order, lock_name, manifest_name}
use Rattle.spm_tool.specs.declared.ending.FileEnding.{FileEnding}
use Rattle.spm_tool.specs.declared.ending.FileEnding.TheVariants as file
use Rattle.spm_tool.specs.declared.words.TraitWords.{TraitWords}
use Rattle.spm_tool.specs.declared.words.TraitWords.TheVariants as asked

-- a get that failed, or found no memory
abbrev pub IsOfDesk : FileEnding → Type 0
IsOfDesk file.Fault = Unit {0}
IsOfDesk file.Memory = Unit {0}
IsOfDesk why = ⊥

-- ---- the shelf

-- the bytes spell this shelf
abbrev pub Spells : List ℕ → ShelfFile → Type 0
Spells bytes shelf = (found : ShelfFile) × (shelf_of bytes ≡ Ok found) × IsShelfOf found shelf

-- what the bytes of a shelf's file come to: the shelf that they spell, or why there is none
abbrev pub ReadsShelfBytes : List ℕ → Result ShelfFile FileEnding → Type 0
ReadsShelfBytes bytes (Ok shelf) = Spells bytes shelf
ReadsShelfBytes bytes (Err (file.Unreadable place kind)) = shelf_of bytes ≡ Err (record { place = place; kind = kind })
ReadsShelfBytes bytes (Err file.Missing) = ⊥
ReadsShelfBytes bytes (Err file.Fault) = ⊥
ReadsShelfBytes bytes (Err file.Memory) = Unit {0}

-- the shelf, or why there is none: want of memory, a fault at the file, or what the file's bytes come to
abbrev pub ReadsShelf : Option (List ℕ) → Result ShelfFile FileEnding → Type 0
ReadsShelf content (Err file.Memory) = Unit {0}
ReadsShelf content (Err file.Fault) = Unit {0}
ReadsShelf None found = found ≡ Err file.Missing
ReadsShelf (Some bytes) found = ReadsShelfBytes bytes found

-- ---- the fingerprints

abbrev pub ReadsTrustBytes : List ℕ → Result Fingerprints FileEnding → Type 0
ReadsTrustBytes bytes (Ok fingerprints) = ReadsTrust (Ok fingerprints) (trust_of bytes)
ReadsTrustBytes bytes (Err (file.Unreadable place kind)) = trust_of bytes ≡ Err (record { place = place; kind = kind })
ReadsTrustBytes bytes (Err file.Missing) = ⊥
ReadsTrustBytes bytes (Err file.Fault) = ⊥
ReadsTrustBytes bytes (Err file.Memory) = Unit {0}

-- the fingerprints of a file that has to be there
abbrev pub ReadsTrustFile : Option (List ℕ) → Result Fingerprints FileEnding → Type 0
ReadsTrustFile content (Err file.Memory) = Unit {0}
ReadsTrustFile content (Err file.Fault) = Unit {0}
ReadsTrustFile None found = found ≡ Err file.Missing
ReadsTrustFile (Some bytes) found = ReadsTrustBytes bytes found

-- those of one that may be absent, which keeps none
abbrev pub ReadsAnyTrust : Option (List ℕ) → Result Fingerprints FileEnding → Type 0
ReadsAnyTrust content (Err file.Memory) = Unit {0}
ReadsAnyTrust content (Err file.Fault) = Unit {0}
ReadsAnyTrust None found = found ≡ Ok []
ReadsAnyTrust (Some bytes) found = ReadsTrustBytes bytes found

-- those of the file that the words name; none where they name none
abbrev pub ReadsFingerprints : Option (List ℕ) → FileMap → Result Fingerprints FileEnding → Type 0
ReadsFingerprints None files found = found ≡ Ok []
ReadsFingerprints (Some name) files found = ReadsAnyTrust (map.get files name) found

-- ---- a root's manifest and lock file

abbrev pub tools_cmp : ToolsVersion → ToolsVersion → Ordering
tools_cmp first second = ordering_then (nat_cmp first.major second.major)
    (ordering_then (nat_cmp first.minor second.minor) (nat_cmp first.patch second.patch))

-- the manifest, unless it needs newer tools than are running
abbrev pub if_fits : ToolsVersion → Contents → Result Contents Outcome
if_fits running contents = if is_le (tools_cmp contents.tools running) then Ok contents else Err (outcome.RootTooNew contents.tools running)

-- the manifest, or its refusal
abbrev pub ready_manifest : ToolsVersion → Reading Contents → Result Contents Outcome
ready_manifest running (Ok contents) = if_fits running contents
ready_manifest running (Err fault) = Err (outcome.RootUnreadable fault.place fault.kind)

abbrev pub with_bytes : List ℕ → Result Contents Outcome → Result (Contents × List ℕ) Outcome
with_bytes bytes (Ok contents) = Ok (contents, bytes)
with_bytes bytes (Err refusal) = Err refusal

-- the manifest's contents and bytes, or the refusal
abbrev pub manifest_in : ToolsVersion → Option (List ℕ) → Result (Contents × List ℕ) Outcome
manifest_in running None = Err outcome.RootMissing
manifest_in running (Some bytes) = with_bytes bytes (ready_manifest running (manifest_of bytes))

abbrev pub read_pins : Reading LockFile → Result Pins Outcome
read_pins (Ok resolved) = Ok resolved.pins
read_pins (Err fault) = Err (outcome.ResolvedUnreadable fault.place fault.kind)

abbrev pub some_pins : Result Pins Outcome → Result (Option Pins) Outcome
some_pins (Ok pins) = Ok (Some pins)
some_pins (Err refusal) = Err refusal

-- the pins of the lock file, if there is one, or the refusal
abbrev pub locked_in : Option (List ℕ) → Result (Option Pins) Outcome
locked_in None = Ok None
locked_in (Some bytes) = some_pins (read_pins (resolved_of bytes))

-- an absent lock file pins nothing
abbrev pub pins_or_none : Option Pins → Pins
pins_or_none (Some pins) = pins
pins_or_none None = []

-- ---- a root's job

-- the manifest, the sum of its bytes, and the pins
abbrev pub with_lock : Contents × List ℕ → Result (Option Pins) Outcome → Result RootInput Outcome
with_lock manifest (Ok locked) = Ok (input.Ready manifest.0 (sha256 manifest.1) (pins_or_none locked))
with_lock manifest (Err refusal) = Err refusal

abbrev pub after_manifest : Result (Contents × List ℕ) Outcome → Option (List ℕ) → Result RootInput Outcome
after_manifest (Ok manifest) lock = with_lock manifest (locked_in lock)
after_manifest (Err refusal) lock = Err refusal

abbrev pub input_by : Result RootInput Outcome → RootInput
input_by (Ok ready) = ready
input_by (Err refusal) = input.Refused refusal

-- a root's input by the bytes of its files: the refusals in their order, that of the manifest and that of the lock file; else what they say
abbrev pub input_of : ToolsVersion → List ℕ → FileMap → RootInput
input_of tools root files =
    input_by (after_manifest (manifest_in tools (map.get files (manifest_name root))) (map.get files (lock_name root)))

-- a file whose get the run comes to
abbrev pub IsGot : ToolsVersion → List ℕ → FileMap → List ℕ → Type 0
IsGot tools root files name =
    (name ≡ manifest_name root) ⊎ ((name ≡ lock_name root) × IsOk (manifest_in tools (map.get files (manifest_name root))))

-- want of memory, a fault at a get, or else what the bytes come to
abbrev pub IsInputOf : ToolsVersion → List ℕ → FileMap → RootInput → Type 0
IsInputOf tools root files (input.Refused outcome.Memory) = Unit {0}
IsInputOf tools root files (input.Refused (outcome.DeskFault name)) = IsGot tools root files name
IsInputOf tools root files it = it ≡ input_of tools root files

-- the traits that are declared beside `default`, in the manifest's order
abbrev pub others_of : List TraitEntry → List (List ℕ)
others_of [] = []
others_of (entry ∷ entries) = if bytes_eq entry.name (codes "default") then others_of entries else entry.name ∷ others_of entries

-- the traits that are asked of a root which declares these
abbrev pub asked_of : TraitWords → List TraitEntry → List (List ℕ)
asked_of asked.ByDefault entries = codes "default" ∷ []
asked_of (asked.These names) entries = names
asked_of asked.All entries = codes "default" ∷ others_of entries
asked_of asked.Nothing entries = []

-- of a root that is refused nothing is asked
abbrev pub asked_by : TraitWords → RootInput → List (List ℕ)
asked_by traits (input.Ready contents origin pins) = asked_of traits contents.traits.entries
asked_by traits (input.Refused refusal) = []

-- the job of a root with this input
abbrev pub job_with : Order → List ℕ → RootInput → RootJob
job_with order root it = record { name = root; input = it; asked = asked_by order.traits it; tools = order.tools }
