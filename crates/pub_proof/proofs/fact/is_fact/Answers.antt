use Rattle.std.proofs.Common.{sym}
use Rattle.pub_proof.proofs.FormedLemmas.{among_at}
use Rattle.pub_proof.proofs.fact.is_fact.Goals as goal

pub returns-then-eq : goal.returns-then-eq
returns-then-eq c =
    sym (among_at c.args.incompat.now.terms c.args.facts.now c.args.place c.in-Some.fact.now c.in-Some.ensures.lookup.0 c.in-Some.ensures.lookup.1 (sym c.if-eq.ensures))
