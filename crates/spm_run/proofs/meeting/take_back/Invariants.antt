use Rattle.std.proofs.Common.{◌≡◌, ◌+◌, ◌≤◌, ◌++◌, length, vec_capacity, vec_len, IfSome}
use Rattle.spm_run.specs.Actors.{AreMetIn, links_of, outcomes_of, passes_of}
use Rattle.spm_run.proofs.meeting.take_back.Given as goal

-- what has come back so far
abbrev pub invariant-loop-actor : goal.invariant-loop-actor
invariant-loop-actor g l = record {
  links : l.links.items ≡ l.fn.links.items ++ links_of l.yielded;
  outcomes : l.outcomes.items ≡ l.fn.outcomes.items ++ outcomes_of l.yielded;
  met : AreMetIn (passes_of l.yielded) l.whole;
  of : IfSome l.whole (λ whole. whole.of ≡ l.cache.id);
  room : vec_capacity l.links ≡ vec_capacity l.fn.links;
  of_links : vec_len l.links ≡ vec_len l.fn.links + length l.yielded;
  of_outcomes : vec_len l.outcomes ≤ vec_len l.fn.outcomes + length l.yielded;
  few : vec_capacity l.outcomes ≡ vec_capacity l.fn.outcomes;
  next : (goal.iterator-loop-actor g).can_next l.actor-iterator × (goal.iterator-loop-actor g).is_finite l.actor-iterator;
}
