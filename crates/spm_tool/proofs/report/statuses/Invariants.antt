use Rattle.std.proofs.Common.{◌≡◌, ◌++◌, drop, map, string_bytes}
use Rattle.spm_tool.specs.Report.{all_ended, outcome_status}
use Rattle.spm_tool.proofs.report.statuses.Given as goal

-- those so far, and those of the roots that are left
abbrev pub invariant-loop-place : goal.invariant-loop-place
invariant-loop-place l =
    l.found.items ++ map outcome_status (all_ended (drop l.place (map string_bytes l.roots)) (drop l.place l.runs) (drop l.place l.puts))
    ≡ map outcome_status (all_ended (map string_bytes l.roots) l.runs l.puts)
