-- The command `judge --shelf FILE [--tools-version V] ROOT`: whether the pins of a root's lock file are a valid selection. The bytes of the files
-- decide how it ends; the ending decides the one line and the status. Want of memory is free, and a fault of the desk is tied to its count.
use Rattle.std.specs.Prelude.{◌≡◌, ◌==◌, ◌++◌, ℕ, List, [], ◌∷◌, map, codes, IfSome, Option, Some, None, Result, Ok, Err, if◌then◌else◌}
use Rattle.std.specs.Cmp.Lexicographic.{slice_cmp}
use Rattle.std.specs.FinMap as finite
use Rattle.std.specs.List.Sorted.{IsStrictlySortedBy}
use Rattle.std.specs.Ordering.{nat_cmp}
use Rattle.pub_facts.specs.Catalogue.{Job}
use Rattle.pub_plain.specs.Choosing.{Pins, pin_of}
use Rattle.pub_trail.specs.declared.turned.Wide.TheVariants.{Versions}
use Rattle.spm_api.specs.declared.base.Base.{Base}
use Rattle.spm_judge.specs.Over.{IsJudgedEnd}
use Rattle.spm_judge.specs.declared.over.Judged.{Judged}
use Rattle.spm_judge.specs.declared.over.Judged.TheVariants as judged
use Rattle.spm_manifest.specs.declared.dump.Contents.{Contents}
use Rattle.spm_outside.specs.Book.{Pages}
use Rattle.spm_outside.specs.Desk.{DeskState}
use Rattle.spm_outside.specs.Names.{FileMap}
use Rattle.spm_outside.specs.Sink.{SinkState}
use Rattle.spm_session.specs.Run.{refused_by}
use Rattle.spm_session.specs.declared.outcome.Outcome.{Outcome}
use Rattle.spm_session.specs.declared.outcome.Outcome.TheVariants as outcome
use Rattle.spm_shelf.specs.declared.file.ShelfFile.{ShelfFile}
use Rattle.spm_version.specs.Release.{Parts}
use Rattle.spm_tool.specs.Files.{IsGot, ReadsShelf, locked_in, manifest_in}
use Rattle.spm_tool.specs.Left.{FaultsLeft, faulty_file, faulty_get}
use Rattle.spm_tool.specs.Report.{file_report, file_status, line_end, outcome_status, outcome_text}
use Rattle.spm_tool.specs.Resolves.{Tells}
use Rattle.spm_tool.specs.Shelf.{IsBookOf}
use Rattle.spm_tool.specs.Words.{Judgement, lock_name, manifest_name}
use Rattle.spm_tool.specs.declared.judge.JudgeEnding.{JudgeEnding}
use Rattle.spm_tool.specs.declared.judge.JudgeEnding.TheVariants.{Shelf, Root, LockMissing, Valid, Invalid}

-- ---- the ending

-- what is judged: the traits that are on by default are asked
abbrev pub judged_job : Judgement → Contents → Job
judged_job order contents = record { root = contents; asked = codes "default" ∷ []; tools = order.tools }

-- the pins are judged over the shelf's book, in the order of their identities; no fetch from it fails
pub record IsJudged (shelf : ShelfFile) (order : Judgement) (contents : Contents) (pins : Pins) (it : Judged) : Type 0 where
  pub base : Base
  pub pages : Pages
  pub book : IsBookOf shelf base pages
  pub sorted : Pins
  pub ordered : IsStrictlySortedBy (slice_cmp nat_cmp) (map (λ (pin : List ℕ × Parts). pin.0) sorted)
  pub same : (identity : List ℕ) → pin_of sorted identity ≡ pin_of pins identity
  pub end : IsJudgedEnd (Some pages) base (judged_job order contents) sorted it

abbrev pub ending_of : Judged → JudgeEnding
ending_of judged.Valid = Valid
ending_of (judged.Invalid text) = Invalid text
ending_of (judged.Refused asked fault) = Root (refused_by asked fault)
ending_of (judged.TooWide identity) = Root (outcome.TooWide (Versions identity))
ending_of (judged.Failed asked) = Root (outcome.FetchFault asked)
ending_of judged.Memory = Root outcome.Memory

-- no fetch failed
abbrev pub IsFetched : Judged → Type 0
IsFetched (judged.Failed asked) = ⊥
IsFetched it = Unit {0}

-- the pins come to a judgement
pub record Judges (shelf : ShelfFile) (order : Judgement) (contents : Contents) (pins : Pins) (ending : JudgeEnding) : Type 0 where
  pub it : Judged
  pub is : IsJudged shelf order contents pins it
  pub fetched : IsFetched it
  pub comes : ending ≡ ending_of it

-- or memory ran out
abbrev pub JudgesRoot : ShelfFile → Judgement → Contents → Pins → JudgeEnding → Type 0
JudgesRoot shelf order contents pins (Root outcome.Memory) = Unit {0}
JudgesRoot shelf order contents pins ending = Judges shelf order contents pins ending

abbrev pub AfterLock : ShelfFile → Judgement → Contents → Result (Option Pins) Outcome → JudgeEnding → Type 0
AfterLock shelf order contents (Ok (Some pins)) ending = JudgesRoot shelf order contents pins ending
AfterLock shelf order contents (Ok None) ending = ending ≡ LockMissing
AfterLock shelf order contents (Err refusal) ending = ending ≡ Root refusal

-- the refusals in their order: the manifest, the lock file; else the judgement
abbrev pub AfterManifest : ShelfFile → Judgement → Option (List ℕ) → Result (Contents × List ℕ) Outcome → JudgeEnding → Type 0
AfterManifest shelf order lock (Ok manifest) ending = AfterLock shelf order manifest.0 (locked_in lock) ending
AfterManifest shelf order lock (Err refusal) ending = ending ≡ Root refusal

-- an ending with a shelf: want of memory, a fault at a call that is come to, or else what the bytes of the root's files come to
abbrev pub IsRootJudged : ShelfFile → Judgement → FileMap → JudgeEnding → Type 0
IsRootJudged shelf order files (Root outcome.Memory) = Unit {0}
IsRootJudged shelf order files (Root (outcome.DeskFault name)) = IsGot order.tools order.root files name
IsRootJudged shelf order files ending =
    AfterManifest shelf order (finite.get files (lock_name order.root)) (manifest_in order.tools (finite.get files (manifest_name order.root))) ending

abbrev pub IsJudgeEnding : Judgement → FileMap → JudgeEnding → Type 0
IsJudgeEnding order files (Shelf ending) = ReadsShelf (finite.get files order.shelf) (Err ending)
IsJudgeEnding order files ending =
    (found : ShelfFile) × ReadsShelf (finite.get files order.shelf) (Ok found) × IsRootJudged found order files ending

-- the files on which the desk failed: none or one
abbrev pub faulty_judged : Judgement → JudgeEnding → List (List ℕ)
faulty_judged order (Shelf why) = faulty_file order.shelf why
faulty_judged order (Root it) = faulty_get it
faulty_judged order ending = []

-- ---- the line and the status

abbrev pub judge_line : List ℕ → List ℕ → List ℕ
judge_line root text = root ++ (codes ": " ++ (text ++ line_end))

-- nothing where memory ran out
abbrev pub judge_root_line : List ℕ → Outcome → List ℕ
judge_root_line root it = if outcome_status it == 6 then [] else judge_line root (outcome_text it)

abbrev pub judge_report : Judgement → JudgeEnding → List ℕ
judge_report order (Shelf why) = file_report order.shelf why
judge_report order (Root it) = judge_root_line order.root it
judge_report order LockMissing = judge_line order.root (codes "Package.resolved is missing")
judge_report order Valid = judge_line order.root (codes "valid")
judge_report order (Invalid text) = judge_line order.root (codes "not valid: " ++ text)

abbrev pub judge_status : JudgeEnding → ℕ
judge_status (Shelf why) = file_status why
judge_status (Root it) = outcome_status it
judge_status LockMissing = 3
judge_status Valid = 0
judge_status (Invalid text) = 1

-- ---- the whole

pub record JudgesFiles (order : Judgement) (before after : DeskState) (sink_before sink_after : SinkState) (status : ℕ) : Type 0 where
  pub ending : JudgeEnding
  pub told : IfSome before.files (λ files. IsJudgeEnding order files ending)
  pub faults : FaultsLeft (faulty_judged order ending) before after
  pub files : after.files ≡ before.files
  pub report : Tells (judge_report order ending) (judge_status ending) sink_before sink_after status
