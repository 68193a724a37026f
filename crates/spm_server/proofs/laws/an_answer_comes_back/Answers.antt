use Rattle.spm_server.proofs.RoundTripLaw.{comes_back}
use Rattle.spm_server.proofs.laws.an_answer_comes_back.Goals as goal

pub returns : goal.returns
returns c = comes_back
