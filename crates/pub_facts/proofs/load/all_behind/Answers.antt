use Rattle.std.proofs.Common.{◌++◌, rules}
use Rattle.std.specs.Vec.Iter.{into_iter_items}
use Rattle.pub_facts.specs.Facts.{fact}
use Rattle.pub_facts.specs.declared.fact.Fact.{Fact}
use Rattle.pub_facts.proofs.ListSteps.{item_start, item_step}
use Rattle.pub_facts.proofs.load.all_behind.Goals as goal

pub loop-clause-init : goal.loop-clause-init
loop-clause-init c =
    item_start (λ (clause : Fact). fact (c.args.subject.now ++ clause.terms) clause.cause) (into_iter_items c.into_iter-clause-iterator.result) c.args.clauses
    c.new-facts.result (search rules) c.new-facts.ensures

pub loop-clause-preserved : goal.loop-clause-preserved
loop-clause-preserved c =
    item_step (λ (clause : Fact). fact (c.args.subject.now ++ clause.terms) clause.cause) (into_iter_items c.loop-clause.clause-iterator)
    (into_iter_items c.next.new.self) c.in-Some.clause c.in_ok-one.one c.loop-clause.facts c.push.new.self _ c.in-Some.ensures.steps.0
    c.in_ok-one.ensures c.in_ok-push.ensures.ok c.loop-clause.invariant
