use Rattle.std.proofs.Common.{◌≤◌, length}
use Rattle.pub_plain.proofs.WritingLemmas.{SearchesOn}
use Rattle.pub_plain.proofs.writing.written.Given as goal

abbrev pub invariant-loop-place : goal.invariant-loop-place
invariant-loop-place l = record {
  within : l.place ≤ length l.lines;
  searched : SearchesOn l.lines l.line l.place;
}

abbrev pub decreases-loop-place : goal.decreases-loop-place
decreases-loop-place l = l.place
