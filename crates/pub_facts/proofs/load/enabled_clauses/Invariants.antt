use Rattle.std.proofs.Common.{◌≡◌, ◌++◌, drop, map}
use Rattle.pub_facts.specs.Known.{lookups_of}
use Rattle.pub_facts.specs.Facts.{enables, load_of}
use Rattle.pub_facts.proofs.load.enabled_clauses.Given as goal

abbrev pub invariant-loop-other : goal.invariant-loop-other
invariant-loop-other l =
    l.clauses ++ map (enables (lookups_of l.known) (load_of l.place.node l.place.choice)) (drop l.other-index l.enabled) ≡ map (enables (lookups_of l.known) (load_of l.place.node l.place.choice)) l.enabled
