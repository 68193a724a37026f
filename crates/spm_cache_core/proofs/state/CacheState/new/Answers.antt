use Rattle.std.proofs.Common.{◌≤◌, ◌*◌, arith, refl, subst, sym}
use Rattle.std.specs.Vec.{vec_capacity}
use Rattle.spm_cache_core.specs.Cells.{cell_at}
use Rattle.spm_cache_core.specs.Legal.{IsLegal}
use Rattle.spm_cache_core.proofs.StateLemmas.{legal_none, state_new}
use Rattle.spm_cache_core.proofs.state.CacheState.new.Goals as goal

pub invariant_of-result : goal.invariant_of-result
invariant_of-result c =
    let exact = c.in_ok-history.ensures.exact in
    let room : 2 * c.args.sessions ≤ vec_capacity c.in_ok-history.history = omega (arith, exact) in
    state_new c.args.sessions c.args.workers _ _ _ _ (cell_at c.new.result) c.requires.some_sessions c.requires.few_sessions c.requires.few_workers
    refl room c.in_ok-history.ensures.items c.new-2.ensures.items c.new.ensures

pub returns-clause-legal : goal.returns-clause-legal
returns-clause-legal c =
    subst (IsLegal c.args.sessions c.args.workers) (sym c.in_ok-history.ensures.items) (legal_none c.args.sessions c.args.workers)
