use Rattle.spm_server.proofs.ShelvedLaw.{book_says}
use Rattle.spm_server.proofs.laws.a_book_says_its_shelf.Goals as goal

pub returns : goal.returns
returns c = book_says
