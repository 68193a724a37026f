-- What a run needs before it begins.
use Rattle.std.specs.Prelude.{◌≡◌, ℕ, ◌+◌, ◌≤◌, [], vec_capacity}
use Rattle.spm_cache.specs.Passing.{newcomers}
use Rattle.spm_run.specs.declared.stage.Stage.{Stage}

-- a pass for each actor of so many sessions and workers, and room for all of them
pub record IsStage {L : Type 0} (roots workers : ℕ) (stage : Stage L) : Type 0 where
  pub few : roots + workers ≤ 80
  pub numbers : stage.cache.numbers ≡ roots + workers
  pub passes : stage.passes.items ≡ newcomers stage.cache.id roots workers
  pub actors : stage.actors.items ≡ []
  pub outcomes : stage.outcomes.items ≡ []
  pub of_actors : roots + workers ≤ vec_capacity stage.actors
  pub of_outcomes : roots + workers ≤ vec_capacity stage.outcomes
