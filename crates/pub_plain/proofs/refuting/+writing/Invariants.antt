use Rattle.std.proofs.Common.{◌+◌, ◌*◌, drop}
use Rattle.pub_plain.specs.Writing.{put_of, written_steps}
use Rattle.pub_plain.proofs.RefutingLemmas.{IsWriting}
use Rattle.pub_plain.proofs.WritingLemmas.{same_cause}
use Rattle.pub_plain.proofs.refuting.+writing.Given as goal

abbrev pub decreases-write : goal.decreases-write
decreases-write l = 2 * l.depth

abbrev pub decreases-write_steps : goal.decreases-write_steps
decreases-write_steps l = 2 * l.depth + 1

abbrev pub invariant-write_steps-loop-step : goal.invariant-write_steps-loop-step
invariant-write_steps-loop-step l =
    IsWriting same_cause l.lists l.depth l.incompat.terms (drop l.step-index l.steps) (put_of l.lines.items l.line)
    (written_steps same_cause l.lists l.depth l.first l.steps l.fn.lines.items)
