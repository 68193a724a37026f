use Rattle.std.proofs.Common.{◌≡◌, refl}
use Rattle.pub_facts.proofs.FirstOne.{one_first}
use Rattle.pub_facts.proofs.laws.first_selections_are_one.Goals as goal

pub returns : goal.returns
returns c prefers job catalogue first second identities tells among is_first is_second =
    one_first prefers (λ said wider. wider ≡ said) job catalogue first second identities refl tells among is_first is_second
