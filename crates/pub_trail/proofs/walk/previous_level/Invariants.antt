use Rattle.std.proofs.Common.{◌≡◌, ◌≤◌, ◌∷◌, length, reverse, take}
use Rattle.pub_trail.specs.KnownOf.{AreLeft}
use Rattle.pub_trail.specs.Trail.{previous_level}
use Rattle.pub_trail.proofs.walk.previous_level.Given as goal

abbrev pub invariant-loop-place : goal.invariant-loop-place
invariant-loop-place l = record {
  place : l.place ≤ length l.trail;
  with_it : AreLeft l.sizes (l.satisfier ∷ reverse (take l.place l.trail)) l.with_it.items;
  left :
      previous_level l.sizes l.satisfier (reverse (take l.place l.trail)) l.incompat.terms
      ≡ previous_level l.sizes l.satisfier (reverse l.trail) l.incompat.terms;
}

abbrev pub decreases-loop-place : goal.decreases-loop-place
decreases-loop-place l = l.place
