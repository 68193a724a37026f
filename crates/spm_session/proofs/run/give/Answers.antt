use Rattle.spm_session.proofs.run.give.Goals as goal
use Rattle.spm_session.proofs.RunLemmas.{needs_what}

-- src/run.rt
pub give-requires-clause-read : goal.give-requires-clause-read
give-requires-clause-read c = (needs_what c.args.plain.now c.args.key c.requires).1

pub give-requires-clause-fresh : goal.give-requires-clause-fresh
give-requires-clause-fresh c = (needs_what c.args.plain.now c.args.key c.requires).0
