use Rattle.pub_term.proofs.KnownLemmas.{opposite_from_almost, violated_from_holds}
use Rattle.pub_term.proofs.laws.what_holds_is_violated.Goals as goal

pub returns-clause-holds : goal.returns-clause-holds
returns-clause-holds c = violated_from_holds

pub returns-clause-almost : goal.returns-clause-almost
returns-clause-almost c = opposite_from_almost
