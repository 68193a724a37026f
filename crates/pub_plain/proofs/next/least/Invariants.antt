use Rattle.std.proofs.Common.{◌≡◌, ◌<◌, ◌≤◌, drop, false, get_or, length}
use Rattle.std.specs.Prelude.{IfSome}
use Rattle.pub_plain.specs.Choosing.{least_from}
use Rattle.pub_plain.specs.Next.{numbered_name}
use Rattle.pub_plain.proofs.next.least.Given as goal

abbrev pub invariant-loop-place : goal.invariant-loop-place
invariant-loop-place l = record {
  within : l.place ≤ length l.names;
  least : numbered_name l.names l.least ≡ least_from (λ number name. get_or l.passes number false) l.place (drop l.place l.names);
  below : IfSome l.least (λ number. number < length l.names);
}

abbrev pub decreases-loop-place : goal.decreases-loop-place
decreases-loop-place l = l.place
