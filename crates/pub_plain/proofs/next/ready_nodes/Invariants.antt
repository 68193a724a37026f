use Rattle.std.proofs.Common.{◌≡◌, ℕ, ◌-◌, ◌<◌, ◌≤◌, false, get_or, length}
use Rattle.pub_plain.specs.Loading.{name_at}
use Rattle.pub_plain.specs.Next.{is_ready_in}
use Rattle.pub_plain.proofs.next.ready_nodes.Given as goal

abbrev pub invariant-loop-passes : goal.invariant-loop-passes
invariant-loop-passes l = record {
  within : length l.passes.items ≤ length l.names;
  each : (number : ℕ) → number < length l.passes.items → get_or l.passes.items number false ≡ is_ready_in l.names l.opens l.decided number (name_at l.names number);
}

abbrev pub decreases-loop-passes : goal.decreases-loop-passes
decreases-loop-passes l = length l.names - length l.passes.items
