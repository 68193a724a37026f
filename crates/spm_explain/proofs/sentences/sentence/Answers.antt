use Rattle.spm_explain.proofs.sentences.sentence.Goals as goal

pub returns-in-Tools : goal.returns-in-Tools
returns-in-Tools c = rw c.in-Tools.is c.format-in-Tools.ensures.ok
