use Rattle.std.proofs.Common.{[], reverse, take}
use Rattle.pub_trail.specs.KnownOf.{AreBefore, AreLeft}
use Rattle.pub_trail.specs.Turn.{conflict}
use Rattle.pub_trail.specs.Walk.{terms_of}
use Rattle.pub_trail.proofs.WalkLemmas.{IsWalk}
use Rattle.pub_trail.proofs.walk.walk_down.Given as goal

abbrev pub invariant-loop-place : goal.invariant-loop-place
invariant-loop-place l = record {
  now : AreLeft l.sizes (reverse (take l.place l.trail)) l.left.now.items;
  before : AreBefore l.sizes l.trail l.left.before.items;
  walk :
      IsWalk l.sizes (terms_of l.incompats) l.trail l.place l.incompat.terms l.steps
      (conflict l.sizes (terms_of l.incompats) (reverse l.trail) l.first.terms []);
}

abbrev pub decreases-loop-place : goal.decreases-loop-place
decreases-loop-place l = l.place
