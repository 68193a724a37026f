use Rattle.std.proofs.Common.{◌≡◌, ◌++◌, map}
use Rattle.std.specs.Vec.Iter.{into_iter_items}
use Rattle.pub_facts.specs.Facts.{fact}
use Rattle.pub_facts.proofs.load.all_behind.Given as goal

abbrev pub invariant-loop-clause : goal.invariant-loop-clause
invariant-loop-clause l =
    l.facts ++ map (λ clause. fact (l.subject ++ clause.terms) clause.cause) (into_iter_items l.clause-iterator)
    ≡ map (λ clause. fact (l.subject ++ clause.terms) clause.cause) l.fn.clauses
