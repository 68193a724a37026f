use Rattle.std.proofs.Common.{◌≡◌, ℕ, Some, sym, ap, ap₂, ◌∙◌}
use Rattle.spm_cache_core.specs.History.{flight}
use Rattle.cache_tests.proofs.reads.is_flight.Goals as goal

pub returns : goal.returns
returns c = λ same.
    ap (λ key. flight key c.args.history.now) (sym c.key.ensures) ∙ sym c.flight.ensures ∙ c.is_same.ensures same
    ∙ ap₂ (λ (number actor : ℕ). Some (number, actor)) c.number.ensures c.actor.ensures
