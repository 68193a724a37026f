use Rattle.std.proofs.Common.{◌≡◌, ◌++◌, drop, not}
use Rattle.std.specs.Prelude.{filter}
use Rattle.spm_cache_core.specs.Cells.{cell_at, was_begun}
use Rattle.spm_cache_core.proofs.reads.unbegun.Given as goal

abbrev pub invariant-loop-key : goal.invariant-loop-key
invariant-loop-key l =
    l.made.items ++ filter (λ key. not (was_begun (cell_at l.cells key))) (drop l.key-index l.keys)
    ≡ filter (λ key. not (was_begun (cell_at l.cells key))) l.keys
