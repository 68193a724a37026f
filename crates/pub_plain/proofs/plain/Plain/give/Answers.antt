use Rattle.std.proofs.Common.{ap, ◌∙◌}
use Rattle.pub_plain.specs.Solver.{Solver, answers_now}
use Rattle.pub_plain.proofs.PlainLemmas.{says_kind, told_more}
use Rattle.pub_plain.proofs.plain.Plain.give.Goals as goal

pub keep-requires-clause-said : goal.keep-requires-clause-said
keep-requires-clause-said c = says_kind c.args.key.now c.args.reply.now c.in_ok-it.it c.requires.read c.in_ok-it.ensures

pub invariant_of-self-2 : goal.invariant_of-self-2
invariant_of-self-2 c =
    told_more c.self.inside.told c.keep.new.told c.self.inside.lists c.args.key.now c.in_ok-it.it c.self.invariant
    (ap (λ (s : Solver). answers_now s c.args.key.now) c.self.view_is ∙ c.requires.fresh) c.in_ok-keep.ensures.ok
