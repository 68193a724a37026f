use Rattle.std.proofs.Common.{arith}
use Rattle.std.proofs.lemmas.Grind.{common_steps}
use Rattle.spm_ident.proofs.Dots.{list_any_by_place}
use Rattle.spm_ident.proofs.Lowercase.{lowercase_identity}
use Rattle.spm_ident.proofs.identity.Identity.parse.Goals as goal

-- the tests that the text passed are those of its lower case
pub invariant_of-result : goal.invariant_of-result
invariant_of-result c =
    rw c.in_ok-text.ensures.ok
    (lowercase_identity c.args.text.now
    (grind (arith, common_steps, list_any_by_place))
    (grind (arith, common_steps))
    (grind (arith, common_steps)))
