use Rattle.std.proofs.Common.{◌≡◌, ◌+◌, ◌≤◌, ◌++◌, length, vec_capacity, vec_len}
use Rattle.spm_run.specs.Actors.{seated}
use Rattle.spm_run.proofs.seats.seat_all.Given as goal

-- the actors so far, and those to come
abbrev pub invariant-loop-actor : goal.invariant-loop-actor
invariant-loop-actor g l = record {
  all : l.actors.items ++ seated l.passes.rest.items l.links.rest.items l.jobs.rest.items ≡ seated l.fn.passes.items l.fn.links.items l.fn.jobs;
  room : vec_len l.actors + length l.passes.rest.items ≤ vec_capacity l.actors;
}

abbrev pub decreases-loop-actor : goal.decreases-loop-actor
decreases-loop-actor g l = length l.passes.rest.items
