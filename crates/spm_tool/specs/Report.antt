-- The lines that a run writes, and its exit status: functions of the ending.
use Rattle.std.specs.Prelude.{◌≡◌, ℕ, ◌+◌, ◌==◌, List, [], ◌∷◌, ◌++◌, length, map, All, codes, Option, Some, None, Result, Ok, Err, ⊤, if◌then◌else◌}
use Rattle.std.specs.Fmt.{decimal}
use Rattle.std.specs.List.{filter, list_any}
use Rattle.pub_trail.specs.declared.turned.Wide.{Wide}
use Rattle.pub_trail.specs.declared.turned.Wide.TheVariants.{Nodes, Packages, Versions}
use Rattle.spm_digest.specs.Digest.{encode_lower}
use Rattle.spm_explain.specs.DerivationText.{derivation_text}
use Rattle.spm_key.specs.Key.{key_text}
use Rattle.spm_outside.specs.declared.fault.CallFault.{CallFault}
use Rattle.spm_outside.specs.declared.fault.CallFault.TheVariants as sink
use Rattle.spm_session.specs.Outcome.{CanBeTold}
use Rattle.spm_session.specs.declared.outcome.Outcome.{Outcome}
use Rattle.spm_session.specs.declared.outcome.Outcome.TheVariants as outcome
use Rattle.spm_version.specs.Kind.{kind_text}
use Rattle.spm_version.specs.Release.{Parts, parts_text}
use Rattle.spm_version.specs.ToolsVersion.{tools_text}
use Rattle.spm_version.specs.declared.kind.Kind.{Kind}
use Rattle.spm_tool.specs.Left.{named}
use Rattle.spm_tool.specs.Words.{Order, lock_name, proof_name}
use Rattle.spm_tool.specs.declared.ending.Ending.{Ending}
use Rattle.spm_tool.specs.declared.ending.Ending.TheVariants as ending
use Rattle.spm_tool.specs.declared.ending.FileEnding.{FileEnding}
use Rattle.spm_tool.specs.declared.ending.FileEnding.TheVariants as file
use Rattle.spm_tool.specs.declared.ending.PutEnding.{PutEnding}
use Rattle.spm_tool.specs.declared.ending.PutEnding.TheVariants as put
use Rattle.spm_tool.specs.declared.ending.RootRun.{RootRun}
use Rattle.spm_tool.specs.declared.report.Summary.{Summary}

-- a line feed
abbrev pub line_end : List ℕ
line_end = 10 ∷ []

-- ---- what a root's line says behind `ROOT: `

abbrev pub unreadable_text : List ℕ → Kind → List ℕ
unreadable_text place kind = codes "unreadable at " ++ (place ++ (codes ": " ++ kind_text kind))

abbrev pub fault_text : List ℕ → List ℕ
fault_text name = name ++ codes ": file fault"

abbrev pub resolved_line : ℕ → ℕ → List ℕ
resolved_line count turns = codes "resolved " ++ (decimal count ++ (codes " in " ++ (decimal turns ++ codes " turns")))

abbrev pub wide_text : Wide → List ℕ
wide_text Packages = codes "too wide: packages"
wide_text Nodes = codes "too wide: nodes"
wide_text (Versions identity) = codes "too wide: versions of " ++ identity

abbrev pub says_text : ℕ → Option (List ℕ) → List ℕ
says_text status None = codes "the registry says " ++ decimal status
says_text status (Some detail) = codes "the registry says " ++ (decimal status ++ (codes ": \"" ++ (detail ++ codes "\"")))

-- `IDENTITY VERSION: WHAT`
abbrev pub pin_line : List ℕ → Parts → List ℕ → List ℕ
pin_line identity release what = identity ++ (codes " " ++ (parts_text release ++ (codes ": " ++ what)))

abbrev pub checksum_text : List ℕ → List ℕ → List ℕ
checksum_text said found = codes "checksum " ++ (encode_lower said ++ (codes ", found " ++ encode_lower found))

abbrev pub fingerprint_text : List ℕ → List ℕ → List ℕ
fingerprint_text kept said = codes "fingerprint " ++ (encode_lower kept ++ (codes ", registry says " ++ encode_lower said))

-- the root that gave up, counted from 1
abbrev pub cancelled_line : ℕ → List ℕ
cancelled_line by = codes "cancelled by root " ++ decimal (by + 1)

abbrev pub outcome_text : Outcome → List ℕ
outcome_text (outcome.Resolved pins sums turns) = resolved_line (length pins) turns
outcome_text (outcome.Refuted derivation choices turns) = codes "no selection in " ++ (decimal turns ++ codes " turns")
outcome_text outcome.RootMissing = codes "Package.json is missing"
outcome_text (outcome.RootUnreadable place kind) = codes "Package.json is " ++ unreadable_text place kind
outcome_text (outcome.RootTooNew needed running) = codes "Package.json needs tools " ++ (tools_text needed ++ (codes ", running " ++ tools_text running))
outcome_text (outcome.ResolvedUnreadable place kind) = codes "Package.resolved is " ++ unreadable_text place kind
outcome_text (outcome.TooWide wide) = wide_text wide
outcome_text (outcome.RegistrySays asked status detail) = key_text asked ++ (codes ": " ++ says_text status detail)
outcome_text (outcome.Garbled asked) = key_text asked ++ codes ": garbled response"
outcome_text (outcome.TooLong asked) = key_text asked ++ codes ": response too long"
outcome_text (outcome.ListUnreadable asked) = key_text asked ++ codes ": unreadable list"
outcome_text (outcome.ReleaseUnreadable asked) = key_text asked ++ codes ": unreadable release"
outcome_text (outcome.NoArchive identity release) = pin_line identity release (codes "no source archive")
outcome_text (outcome.ChecksumDiffers identity release said found) = pin_line identity release (checksum_text said found)
outcome_text (outcome.TrustDiffers identity release kept said) = pin_line identity release (fingerprint_text kept said)
outcome_text (outcome.FetchFault asked) = key_text asked ++ codes ": fetch failed"
outcome_text (outcome.DeskFault name) = fault_text name
outcome_text (outcome.Cancelled by) = cancelled_line by
outcome_text outcome.Memory = codes "no memory"

-- the lines behind it: the derivation of a refutation
abbrev pub outcome_lines : Outcome → List ℕ
outcome_lines (outcome.Refuted derivation choices turns) = derivation_text derivation choices
outcome_lines other = []

-- ---- how a root ends, once its file was put

-- the file that is put for a root with this outcome
abbrev pub put_name : List ℕ → Outcome → List ℕ
put_name root (outcome.Refuted derivation choices turns) = proof_name root
put_name root other = lock_name root

-- a failed put is a fault of the desk, and one that finds no memory want of memory
abbrev pub ended_by : PutEnding → List ℕ → Outcome → Outcome
ended_by put.Nothing root it = it
ended_by put.Done root it = it
ended_by put.Failed root it = outcome.DeskFault (put_name root it)
ended_by put.Memory root it = outcome.Memory

abbrev pub all_ended : List (List ℕ) → List RootRun → List PutEnding → List Outcome
all_ended (root ∷ roots) (run ∷ runs) (it ∷ others) = ended_by it root run.outcome ∷ all_ended roots runs others
all_ended roots runs others = []

-- ---- the lines

abbrev pub root_report : List ℕ → Outcome → List ℕ
root_report root it = root ++ (codes ": " ++ (outcome_text it ++ (line_end ++ outcome_lines it)))

abbrev pub root_reports : List (List ℕ) → List Outcome → List ℕ
root_reports (root ∷ roots) (it ∷ others) = root_report root it ++ root_reports roots others
root_reports roots others = []

-- the line on the fingerprint file, where its put failed
abbrev pub fingerprints_report : Option (List ℕ) → PutEnding → List ℕ
fingerprints_report (Some name) put.Failed = fault_text name ++ line_end
fingerprints_report name it = []

-- ---- statuses

-- a refusal is 3; 7 stands for none, of a root that another one cancelled
abbrev pub outcome_status : Outcome → ℕ
outcome_status (outcome.Resolved pins sums turns) = 0
outcome_status (outcome.Refuted derivation choices turns) = 1
outcome_status (outcome.ChecksumDiffers identity release said found) = 5
outcome_status (outcome.TrustDiffers identity release kept said) = 5
outcome_status (outcome.FetchFault asked) = 4
outcome_status (outcome.DeskFault name) = 4
outcome_status outcome.Memory = 6
outcome_status (outcome.Cancelled by) = 7
outcome_status other = 3

abbrev pub put_status : PutEnding → ℕ
put_status put.Nothing = 0
put_status put.Done = 0
put_status put.Failed = 4
put_status put.Memory = 6

-- the first of 6, 4, 5, 3, 1 and 0 that is given
abbrev pub first_given : List ℕ → List ℕ → ℕ
first_given [] given = 0
first_given (status ∷ others) given = if list_any (λ one. status == one) given then status else first_given others given

abbrev pub status_among : List ℕ → ℕ
status_among given = first_given (6 ∷ 4 ∷ 5 ∷ 3 ∷ 1 ∷ []) given

-- ---- the last line: how many roots ended in which way

abbrev pub counted : ℕ → List ℕ → ℕ
counted status given = length (filter (λ one. one == status) given)

abbrev pub summary_of : List ℕ → Summary
summary_of given = record {
  roots = length given;
  resolved = counted 0 given;
  refuted = counted 1 given;
  refused = counted 3 given;
  faulty = counted 4 given;
  differing = counted 5 given;
  cancelled = counted 7 given;
  memory = counted 6 given;
}

-- its first half
abbrev pub answered_text : Summary → List ℕ
answered_text summary =
    codes "roots " ++ (decimal summary.roots ++ (codes ": resolved " ++ (decimal summary.resolved
    ++ (codes ", refuted " ++ (decimal summary.refuted ++ (codes ", refused " ++ decimal summary.refused))))))

abbrev pub summary_text : Summary → List ℕ
summary_text summary =
    answered_text summary ++ (codes ", faulty " ++ (decimal summary.faulty ++ (codes ", differing " ++ (decimal summary.differing
    ++ (codes ", cancelled " ++ (decimal summary.cancelled ++ (codes ", memory " ++ (decimal summary.memory ++ line_end))))))))

-- ---- the report

abbrev pub words_report : List ℕ
words_report = codes "words: not built yet" ++ line_end

-- the one line of a run without one of the files that it begins with; nothing where memory ran out
abbrev pub file_report : List ℕ → FileEnding → List ℕ
file_report name file.Missing = name ++ (codes ": missing" ++ line_end)
file_report name (file.Unreadable place kind) = name ++ (codes ": " ++ (unreadable_text place kind ++ line_end))
file_report name file.Fault = fault_text name ++ line_end
file_report name file.Memory = []

-- the lines on each root, one on the fingerprint file where its put failed, and the last
abbrev pub roots_report : Order → List Outcome → PutEnding → List ℕ
roots_report order all it =
    root_reports order.roots all ++ (fingerprints_report order.fingerprints it ++ summary_text (summary_of (map outcome_status all)))

abbrev pub report_of : Order → Ending → List ℕ
report_of order (ending.Shelf why) = file_report order.shelf why
report_of order (ending.Fingerprints why) = file_report (named order.fingerprints) why
report_of order (ending.Roots runs puts gained it) = roots_report order (all_ended order.roots runs puts) it
report_of order ending.Memory = []

abbrev pub file_status : FileEnding → ℕ
file_status file.Fault = 4
file_status file.Memory = 6
file_status why = 3

abbrev pub status_of : Order → Ending → ℕ
status_of order (ending.Shelf why) = file_status why
status_of order (ending.Fingerprints why) = file_status why
status_of order (ending.Roots runs puts gained it) =
    status_among (map outcome_status (all_ended order.roots runs puts) ++ put_status it ∷ [])
status_of order ending.Memory = 6

-- the exit status, with what the sink answered: the first of 6, 4, 5, 3, 1, 0 that the ending or the sink gives
abbrev pub status_after : ℕ → Result ⊤ CallFault → ℕ
status_after status (Ok nothing) = status
status_after status (Err sink.Failed) = if status == 6 then 6 else 4
status_after status (Err sink.Memory) = 6

-- ---- what is needed of an ending for its lines

abbrev pub IsTellable : Order → Ending → Type 0
IsTellable order (ending.Roots runs puts gained it) =
    All (λ (run : RootRun). CanBeTold run.outcome) runs × (length runs ≡ length order.roots) × (length puts ≡ length order.roots)
IsTellable order other = Unit {0}
