use Rattle.std.proofs.Common.{◌≡◌, ◌++◌, drop, map, string_bytes}
use Rattle.spm_tool.specs.Report.{all_ended, root_reports}
use Rattle.spm_tool.proofs.report.root_reports.Given as goal

-- those so far, and those of the roots that are left
abbrev pub invariant-loop-place : goal.invariant-loop-place
invariant-loop-place l =
    l.report.items ++ root_reports (drop l.place (map string_bytes l.roots))
    (all_ended (drop l.place (map string_bytes l.roots)) (drop l.place l.runs) (drop l.place l.puts))
    ≡ root_reports (map string_bytes l.roots) (all_ended (map string_bytes l.roots) l.runs l.puts)
