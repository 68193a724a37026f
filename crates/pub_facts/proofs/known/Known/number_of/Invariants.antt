use Rattle.std.proofs.Common.{◌≡◌, ◌+◌, drop}
use Rattle.pub_facts.specs.Numbered.{number_in}
use Rattle.pub_facts.proofs.known.Known.number_of.Given as goal

abbrev pub invariant-loop-known : goal.invariant-loop-known
invariant-loop-known l = record {
  place : l.number ≡ l.known-index;
  rest : l.number + number_in (drop l.known-index l.self.nodes) l.node ≡ number_in l.self.nodes l.node;
}
