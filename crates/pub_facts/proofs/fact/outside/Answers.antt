use Rattle.std.proofs.Common.{rules}
use Rattle.pub_facts.specs.Known.{lookups_of}
use Rattle.pub_facts.proofs.OutsideLemmas.{outside_at}
use Rattle.pub_facts.proofs.fact.outside.Goals as goal

pub returns : goal.returns
returns c =
    outside_at (lookups_of c.args.known.now) c.args.identity.now c.in_ok-copy.field-0 c.args.requirement.now c.list_of-list.result.now
    c.in_ok-contained.contained.items c.in_ok-inside.inside c.in_ok-choices.choices c.list_of-list.ensures c.in_ok-contained.ensures (search rules)
    c.in_ok-choices.ensures c.in_ok-copy.ensures
