use Rattle.std.proofs.Common.{◌≡◌, ◌++◌, drop, flat_map}
use Rattle.pub_facts.specs.Known.{lookups_of}
use Rattle.pub_facts.specs.Facts.{asks_of, load_of}
use Rattle.pub_facts.proofs.load.push_asks.Given as goal

abbrev pub invariant-loop-ask : goal.invariant-loop-ask
invariant-loop-ask l =
    l.clauses ++ flat_map (λ ask. asks_of (lookups_of l.known) (load_of l.place.node l.place.choice) l.target ask.name ask.under) (drop l.ask-index l.asks)
    ≡ l.fn.clauses ++ flat_map (λ ask. asks_of (lookups_of l.known) (load_of l.place.node l.place.choice) l.target ask.name ask.under) l.asks
