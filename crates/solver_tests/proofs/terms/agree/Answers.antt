use Rattle.std.proofs.Common.{◌≡◌, true, arith, rules}
use Rattle.solver_tests.specs.Agreed.{Fits}
use Rattle.pub_term.specs.Term.{set_at}
use Rattle.solver_tests.proofs.AgreeLemmas.{Agree-drop, Agree-past}
use Rattle.solver_tests.proofs.terms.agree.Goals as goal

pub loop-term-preserved : goal.loop-term-preserved
loop-term-preserved c =
    let term = c.term-item.result in
    let passes : c.fits.result ≡ true = search rules in
    let fits : Fits term (set_at c.args.second.now.terms term.node) c.args.on = rw (← c.set_on.ensures) (c.fits.ensures passes) in
    λ rest.
    c.loop-term.invariant
    (Agree-drop c.args.first.now c.args.second.now.terms c.args.on c.loop-term.term-index term (omega arith) c.term-item.is fits rest)

pub returns : goal.returns
returns c = λ _.
    c.loop-term.invariant (Agree-past c.args.first.now c.args.second.now.terms c.args.on c.loop-term.term-index (omega arith))
