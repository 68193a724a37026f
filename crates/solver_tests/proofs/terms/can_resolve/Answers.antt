use Rattle.std.proofs.Common.{sym, ap, is_some}
use Rattle.solver_tests.specs.Agreed.{Agree}
use Rattle.solver_tests.proofs.AgreeLemmas.{CanResolve-from_agree}
use Rattle.solver_tests.proofs.terms.can_resolve.Goals as goal

pub returns-in-Some-Some : goal.returns-in-Some-Some
returns-in-Some-Some c = λ agreed.
    let agree : Agree c.args.first.now.terms c.args.second.now.terms c.args.on = rw (← c.as_slice.ensures) (c.agree.ensures agreed) in
    CanResolve-from_agree c.args.first.now.terms c.args.second.now.terms c.args.on
    (ap is_some (sym c.in-Some-Some.ensures)) (ap is_some (sym c.in-Some-Some.ensures')) agree
