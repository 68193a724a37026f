use Rattle.std.proofs.Common.{◌∙◌}
use Rattle.pub_plain.proofs.NextKept.{none_found, some_found, there_found}
use Rattle.pub_plain.proofs.next.next_node.Goals as goal

pub returns-in-None : goal.returns-in-None
returns-in-None c =
    none_found c.args.told.now c.args.lists.now c.in_ok-decided.field-0.opens.items c.in_ok-decided.field-0.decided.items c.as_slice.result.now
    c.deref.result.now c.deref-2.result.now c.in_ok-next_number.field-0 c.requires.turning c.in_ok-decided.ensures.decided c.in_ok-decided.ensures.opens
    c.as_slice.ensures c.deref.ensures.value c.deref-2.ensures.value c.in_ok-next_number.ensures c.in-None.is

pub next_named-requires-clause-there : goal.next_named-requires-clause-there
next_named-requires-clause-there c =
    there_found c.args.told.now.known.nodes c.as_slice.result.now c.deref.result.now c.deref-2.result.now c.in_ok-next_number.field-0 c.in-Some.number
    c.as_slice.ensures c.in_ok-next_number.ensures c.in-Some.is

pub returns : goal.returns
returns c =
    c.next_named.ensures
    ∙ some_found c.args.told.now c.args.lists.now c.args.left.now c.in_ok-decided.field-0.opens.items c.in_ok-decided.field-0.decided.items
    c.as_slice.result.now c.deref.result.now c.deref-2.result.now c.deref-in-Some.result.now c.in_ok-next_number.field-0 c.in-Some.number
    c.requires.turning c.requires.left c.in_ok-decided.ensures.decided c.in_ok-decided.ensures.opens c.as_slice.ensures c.deref.ensures.value
    c.deref-2.ensures.value c.deref-in-Some.ensures.value c.in_ok-next_number.ensures c.in-Some.is
