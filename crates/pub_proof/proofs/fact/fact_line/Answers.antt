use Rattle.std.proofs.Common.{sym, subst, arith}
use Rattle.pub_proof.specs.Formed.{IsFormed}
use Rattle.pub_proof.proofs.FormedLemmas.{formed_from}
use Rattle.pub_proof.proofs.fact.fact_line.Goals as goal

pub returns-clause-formed : goal.returns-clause-formed
returns-clause-formed c =
    subst (λ incompat. IsFormed c.args.sizes.now incompat.terms) (sym c.in_ok-fact.ensures)
    (formed_from c.args.sizes.now c.args.incompat.now.terms (grind arith))
