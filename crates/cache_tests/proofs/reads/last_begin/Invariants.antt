use Rattle.std.proofs.Common.{◌≡◌, drop, None}
use Rattle.spm_cache_core.specs.History.{last_begin_from}
use Rattle.cache_tests.proofs.reads.last_begin.Given as goal

abbrev pub invariant-loop-place : goal.invariant-loop-place
invariant-loop-place l = last_begin_from l.place l.found l.key (drop l.place l.history) ≡ last_begin_from 0 None l.key l.history
