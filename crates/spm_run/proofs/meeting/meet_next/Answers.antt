use Rattle.std.proofs.Common.{subst}
use Rattle.std.specs.Prelude.{max}
use Rattle.spm_run.specs.Actors.{AreMetIn}
use Rattle.spm_run.proofs.MeetLemmas.{met_next}
use Rattle.spm_run.proofs.meeting.meet_next.Goals as goal

-- src/meeting.rt
pub returns-in-Some-clause-met : goal.returns-in-Some-clause-met
returns-in-Some-clause-met c passes met =
    met_next passes c.in-Some.whole c.args.pass c.meet.result (max c.in-Some.whole.told c.args.pass.told) c.meet.ensures.pass c.meet.ensures.first c.meet.ensures.second
    (subst (AreMetIn passes) c.in-Some.is met)
