use Rattle.std.proofs.Common.{take, map, string_bytes}
use Rattle.spm_tool.specs.Ending.{ArePuts}
use Rattle.spm_tool.specs.Left.{FaultsLeft}
use Rattle.spm_tool.specs.Puts.{PutsLeave, failed_puts, root_puts}
use Rattle.spm_tool.proofs.puts.put_roots.Given as goal

-- the puts of the roots so far
abbrev pub invariant-loop-place : goal.invariant-loop-place
invariant-loop-place g l = record {
  is : ArePuts l.proofs (take l.place (map string_bytes l.roots)) (take l.place l.runs) (take l.place l.puts);
  files : PutsLeave (root_puts l.proofs (take l.place (map string_bytes l.roots)) (take l.place l.runs) (take l.place l.puts))
      (g.D.Desk.state l.fn.desk).files (g.D.Desk.state l.desk).files;
  faults : FaultsLeft (failed_puts (root_puts l.proofs (take l.place (map string_bytes l.roots)) (take l.place l.runs) (take l.place l.puts)))
      (g.D.Desk.state l.fn.desk) (g.D.Desk.state l.desk);
}
