use Rattle.spm_server.proofs.pages.not_found.Goals as goal

pub returns : goal.returns
returns c = rw (c.in_ok-answer.ensures) at c.text.ensures
