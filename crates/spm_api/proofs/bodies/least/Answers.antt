use Rattle.std.proofs.Common.{◌∙◌, arith, sym}
use Rattle.std.proofs.lemmas.List.{at_drop_all}
use Rattle.spm_api.proofs.LeastLemmas.{least_after, least_found}
use Rattle.spm_api.proofs.bodies.least.Goals as goal

pub returns : goal.returns
returns c =
    least_found c.args.texts.now c.loop-text.least
    (sym (at_drop_all (least_after c.loop-text.least) c.args.texts.now c.loop-text.text-index (omega arith)) ∙ c.loop-text.invariant)
