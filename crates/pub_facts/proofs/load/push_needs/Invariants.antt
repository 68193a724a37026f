use Rattle.std.proofs.Common.{◌≡◌, ◌++◌, drop, flat_map}
use Rattle.std.specs.List.{filter}
use Rattle.pub_term.specs.Node.{trait_of}
use Rattle.pub_facts.specs.Known.{lookups_of}
use Rattle.pub_facts.specs.Facts.{is_of, load_of, need_clauses}
use Rattle.pub_facts.proofs.load.push_needs.Given as goal

abbrev pub invariant-loop-need : goal.invariant-loop-need
invariant-loop-need l =
    l.clauses ++ flat_map (need_clauses (lookups_of l.known) (load_of l.place.node l.place.choice)) (filter (is_of (trait_of l.place.node)) (drop l.need-index l.needs))
    ≡ l.fn.clauses ++ flat_map (need_clauses (lookups_of l.known) (load_of l.place.node l.place.choice)) (filter (is_of (trait_of l.place.node)) l.needs)
