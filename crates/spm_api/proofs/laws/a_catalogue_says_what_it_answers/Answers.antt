use Rattle.spm_api.proofs.SaidLaws.{answered_said, said_answered, said_onward}
use Rattle.spm_api.proofs.laws.a_catalogue_says_what_it_answers.Goals as goal

pub returns : goal.returns
returns c = record { says = answered_said; answers = said_answered; onward = said_onward }
