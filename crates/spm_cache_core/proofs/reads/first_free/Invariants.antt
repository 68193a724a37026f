use Rattle.std.proofs.Common.{◌≡◌, ◌≤◌, ◌-◌, length, take, true}
use Rattle.std.specs.List.{list_all}
use Rattle.spm_cache_core.specs.Cells.{cell_at, was_begun}
use Rattle.spm_cache_core.proofs.reads.first_free.Given as goal

abbrev pub invariant-loop-place : goal.invariant-loop-place
invariant-loop-place l = record {
  within : l.place ≤ length l.queue;
  passed : list_all (λ key. was_begun (cell_at l.cells key)) (take l.place l.queue) ≡ true;
}

abbrev pub decreases-loop-place : goal.decreases-loop-place
decreases-loop-place l = length l.queue - l.place
