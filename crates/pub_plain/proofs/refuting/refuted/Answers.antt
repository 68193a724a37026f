use Rattle.std.proofs.Common.{◌∙◌, sym}
use Rattle.pub_plain.proofs.RefutedLemmas.{never_learned, refuted_is, some_newest}
use Rattle.pub_plain.proofs.refuting.refuted.Goals as goal

pub unreachable-requires : goal.unreachable-requires
unreachable-requires c =
    c.in_default.not-Some c.requires.refuted.1 (c.newest_conflict.ensures ∙ some_newest c.args.told.now c.args.lists.now c.requires.refuted)

pub unreachable-requires-in-Learned : goal.unreachable-requires-in-Learned
unreachable-requires-in-Learned c =
    never_learned c.args.told.now c.args.lists.now c.in-Some.first c.in_ok-steps.field-0 c.in-Learned.field-0 c.in-Learned.field-1 c.in-Learned.field-2
    c.requires.refuted (sym c.newest_conflict.ensures ∙ c.in-Some.is) c.in-Learned.is c.in_ok-steps.ensures

pub returns : goal.returns
returns c =
    refuted_is c.args.told.now c.args.lists.now c.in-Some.first c.in_ok-steps.field-0 c.in-Refuted.field-0 c.in-Refuted.steps c.requires.refuted
    (sym c.newest_conflict.ensures ∙ c.in-Some.is) c.in-Refuted.is c.in_ok-steps.ensures
