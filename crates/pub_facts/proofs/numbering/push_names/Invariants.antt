use Rattle.std.proofs.Common.{◌≡◌, ◌++◌, drop, map}
use Rattle.pub_facts.specs.Numbered.{new_names}
use Rattle.pub_facts.proofs.numbering.push_names.Given as goal

abbrev pub invariant-loop-term : goal.invariant-loop-term
invariant-loop-term l =
    l.names ++ new_names (l.known ++ l.names) (map (λ term. term.node) (drop l.term-index l.written))
    ≡ l.fn.names ++ new_names (l.known ++ l.fn.names) (map (λ term. term.node) l.written)
