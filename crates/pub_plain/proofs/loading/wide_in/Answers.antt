use Rattle.std.proofs.Common.{ap, arith}
use Rattle.pub_plain.specs.Loading.{wide_in}
use Rattle.std.specs.Prelude.{length}
use Rattle.pub_plain.proofs.LoopLemmas.{count_bound}
use Rattle.pub_plain.proofs.loading.wide_in.Goals as goal

pub loop-name-init : goal.loop-name-init
loop-name-init c = record {
  rest = ap (λ n. wide_in (length c.args.nodes.now) n c.args.names.now) c.package_count-packages.ensures.count;
  few = c.requires;
  fewer = omega (arith, c.package_count-packages.ensures.count, count_bound c.args.nodes.now);
}
