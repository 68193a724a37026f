use Rattle.std.proofs.Common.{rules}
use Rattle.pub_plain.proofs.LoadingLemmas.{no_trouble, trouble_ends}
use Rattle.pub_plain.proofs.loading.trouble_facts.Goals.{then-is_none+in_ok-cause+in_ok-fact+in_ok-push, else-is_none}
use Rattle.pub_plain.proofs.loading.trouble_facts.Goals as goal

pub returns : goal.returns
returns c = elim c.if-is_none.branch [
  | then-is_none+in_ok-cause+in_ok-fact+in_ok-push w ↦
      trouble_ends c.args.told.now c.args.load.now.node c.args.load.now.choice w.in_ok-cause.cause w.in_ok-fact.fact c.if-is_none.facts c.requires.there
      c.requires.unusable (search rules) w.in_ok-cause.ensures w.in_ok-fact.ensures (search rules)
  | else-is_none w ↦
      no_trouble c.args.told.now c.args.load.now.node c.args.load.now.choice c.if-is_none.facts c.requires.unusable (λ none. search rules) (search rules)
]
