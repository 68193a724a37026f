use Rattle.pub_plain.proofs.SaidLemmas.{said_ascend}
use Rattle.pub_plain.proofs.laws.said_lists_ascend.Goals as goal

pub returns : goal.returns
returns c = said_ascend
