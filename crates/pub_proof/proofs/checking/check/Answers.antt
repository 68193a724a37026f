use Rattle.std.proofs.Common.{arith}
use Rattle.std.proofs.lemmas.Grind.{common_steps}
use Rattle.pub_proof.specs.Checks.{terms_of}
use Rattle.pub_proof.proofs.CheckedLemmas.{follows_answer, refutes_answer}
use Rattle.pub_proof.proofs.FormedLemmas.{length_terms_of}
use Rattle.pub_proof.proofs.checking.check.Goals as goal

pub returns-clause-checked : goal.returns-clause-checked
returns-clause-checked c = grind (arith, common_steps, length_terms_of)

pub returns-clause-sound : goal.returns-clause-sound
returns-clause-sound c =
    let derivation = c.args.derivation.now in
    follows_answer c.last_line.result derivation.nodes derivation.sizes (terms_of c.args.facts.now) derivation.lines (returns-clause-checked c)

pub returns-clause-refutes : goal.returns-clause-refutes
returns-clause-refutes c =
    let derivation = c.args.derivation.now in
    refutes_answer c.last_line.result derivation.nodes derivation.sizes (terms_of c.args.facts.now) derivation.lines (returns-clause-checked c)
