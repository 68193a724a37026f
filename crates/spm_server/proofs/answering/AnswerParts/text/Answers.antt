use Rattle.spm_server.proofs.answering.AnswerParts.text.Goals as goal

pub returns : goal.returns
returns c = rw (c.text.ensures, c.as_slice.ensures) at c.response.ensures
