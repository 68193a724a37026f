use Rattle.std.proofs.Common.{◌≡◌, ◌++◌, length, take}
use Rattle.std.specs.Vec.Iter.{into_iter_items}
use Rattle.pub_plain.proofs.turning.push_names.Given as goal

abbrev pub invariant-loop-name : goal.invariant-loop-name
invariant-loop-name l = record {
  all : l.nodes ++ into_iter_items l.name-iterator ≡ l.fn.nodes ++ l.fn.names;
  kept : take (length l.fn.nodes) l.nodes ≡ l.fn.nodes;
}
