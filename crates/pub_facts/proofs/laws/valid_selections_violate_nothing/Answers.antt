use Rattle.std.proofs.Common.{◌≡◌, true}
use Rattle.pub_facts.proofs.FirstLaw.{first_law}
use Rattle.pub_facts.proofs.laws.valid_selections_violate_nothing.Goals as goal

pub returns : goal.returns
returns c job catalogue selection named at valid shows load there one here are_named =
    first_law job catalogue selection (λ node. named node ≡ true) at valid shows load there one here are_named
