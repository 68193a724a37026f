use Rattle.std.proofs.Common.{◌∙◌, refl, sym}
use Rattle.pub_plain.specs.Next.{next_of}
use Rattle.pub_plain.proofs.TurningLemmas.{due_next, level_few, next_comes, next_decides, node_within, choice_within}
use Rattle.pub_plain.proofs.turning.go_on.Goals as goal

pub decide-requires-clause-node : goal.decide-requires-clause-node
decide-requires-clause-node c =
    node_within c.args.told.now c.args.lists.now (next_of c.in-Some.next) c.requires.turning c.requires.settled
    (next_comes c.args.told.now c.args.lists.now c.in_ok-next.field-0 c.in-Some.next c.in_ok-next.ensures c.in-Some.is)

pub decide-requires-clause-choice : goal.decide-requires-clause-choice
decide-requires-clause-choice c =
    choice_within c.args.told.now c.args.lists.now (next_of c.in-Some.next) c.requires.turning c.requires.settled
    (next_comes c.args.told.now c.args.lists.now c.in_ok-next.field-0 c.in-Some.next c.in_ok-next.ensures c.in-Some.is)

pub decide-requires-clause-level : goal.decide-requires-clause-level
decide-requires-clause-level c = level_few c.args.told.now c.args.lists.now c.requires.turning

pub returns-then-is_loaded-clause-ok : goal.returns-then-is_loaded-clause-ok
returns-then-is_loaded-clause-ok c = (
  next_decides c.args.told.now c.args.lists.now c.decide.new.lists c.in-Some.next
      (next_comes c.args.told.now c.args.lists.now c.in_ok-next.field-0 c.in-Some.next c.in_ok-next.ensures c.in-Some.is)
      (sym c.is_loaded.ensures ∙ c.if-is_loaded.true) (c.in_ok-decide.ensures.ok c.args.told.now.known.nodes),
  refl,
)

pub load-requires-clause-due : goal.load-requires-clause-due
load-requires-clause-due c =
    due_next c.args.told.now c.args.lists.now (next_of c.in-Some.next) c.requires.turning
    (next_comes c.args.told.now c.args.lists.now c.in_ok-next.field-0 c.in-Some.next c.in_ok-next.ensures c.in-Some.is)
