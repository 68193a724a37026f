use Rattle.std.proofs.Common.{◌≡◌, ◌+◌, ◌≤◌, drop}
use Rattle.pub_plain.specs.Loading.{package_count}
use Rattle.pub_plain.proofs.loading.package_count.Given as goal

abbrev pub invariant-loop-node : goal.invariant-loop-node
invariant-loop-node l = record {
  rest : l.count + package_count (drop l.node-index l.nodes) ≡ package_count l.nodes;
  below : l.count ≤ l.node-index;
}
