use Rattle.std.proofs.Common.{◌≡◌, ◌++◌, drop, map}
use Rattle.pub_facts.specs.Known.{lookups_of}
use Rattle.pub_facts.specs.Facts.{asked_under, load_of}
use Rattle.pub_facts.proofs.load.push_asked.Given as goal

abbrev pub invariant-loop-condition : goal.invariant-loop-condition
invariant-loop-condition l =
    let asked = asked_under (lookups_of l.known) (load_of l.place.node l.place.choice) l.target l.ask.name in
    l.clauses ++ map asked (drop l.condition-index l.ask.under) ≡ l.fn.clauses ++ map asked l.ask.under
