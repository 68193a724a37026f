use Rattle.std.proofs.Common.{◌≡◌, ◌≤◌, drop, length}
use Rattle.pub_plain.specs.Loading.{package_count, wide_in}
use Rattle.pub_plain.proofs.loading.wide_in.Given as goal

abbrev pub invariant-loop-name : goal.invariant-loop-name
invariant-loop-name l = record {
  rest : wide_in l.count l.packages (drop l.name-index l.names) ≡ wide_in (length l.nodes) (package_count l.nodes) l.names;
  few : l.count ≤ 4096;
  fewer : l.packages ≤ l.count;
}
