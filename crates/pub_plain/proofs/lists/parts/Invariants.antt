use Rattle.std.proofs.Common.{◌≡◌, ◌++◌, map}
use Rattle.std.specs.Vec.Iter.{into_iter_items}
use Rattle.pub_trail.specs.declared.origin.Origin.TheVariants.{OfLoad}
use Rattle.pub_plain.proofs.lists.parts.Given as goal

abbrev pub invariant-loop-incompat : goal.invariant-loop-incompat
invariant-loop-incompat l = record {
  incompats : l.incompats.items ++ map (λ fact. fact.0) (into_iter_items l.incompat-iterator) ≡ map (λ fact. fact.0) l.fn.facts;
  origins : l.origins.items ++ map (λ fact. OfLoad fact.1) (into_iter_items l.incompat-iterator) ≡ map (λ fact. OfLoad fact.1) l.fn.facts;
}
