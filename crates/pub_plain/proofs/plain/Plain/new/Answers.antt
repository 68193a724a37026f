use Rattle.std.proofs.Common.{ap}
use Rattle.pub_plain.proofs.PlainLemmas.{opens_turning}
use Rattle.pub_facts.specs.declared.known.Known.{Known}
use Rattle.pub_plain.proofs.plain.Plain.new.Goals as goal

pub invariant_of-result : goal.invariant_of-result
invariant_of-result c =
    opens_turning _ c.in_ok-lists.lists (ap (λ (k : Known). k.nodes) c.in_ok-known.ensures) (ap (λ (k : Known). k.lists) c.in_ok-known.ensures)
    c.in_ok-lists.ensures
