use Rattle.std.proofs.Common.{◌≡◌, ◌≤◌, [], drop}
use Rattle.pub_proof.specs.Checked.{lines_after}
use Rattle.pub_proof.specs.Checks.{terms_of}
use Rattle.pub_proof.specs.Formed.{AreFormed}
use Rattle.pub_proof.proofs.checking.all_lines.Given as goal

abbrev pub invariant-loop-line : goal.invariant-loop-line
invariant-loop-line l = record {
  place : l.place ≤ l.line-index;
  formed : AreFormed l.sizes (terms_of l.derived);
  left :
      lines_after l.sizes (terms_of l.facts) (terms_of l.derived) (drop l.line-index l.lines)
      ≡ lines_after l.sizes (terms_of l.facts) [] l.lines;
}
