-- The lists that a solver keeps beside its names, as the code has them: the newest assignment stands last.
use Rattle.std.specs.Prelude.{ℕ, List, [], ◌∷◌, ◌++◌, map, reverse}
use Rattle.pub_term.specs.declared.cause.Cause.{Cause}
use Rattle.pub_term.specs.declared.node.NodeName.{NodeName}
use Rattle.pub_term.specs.declared.term.Incompat.{Incompat}
use Rattle.pub_trail.specs.Turn.{State}
use Rattle.pub_trail.specs.Walk.{terms_of}
use Rattle.pub_trail.specs.declared.origin.Origin.{Origin}
use Rattle.pub_trail.specs.declared.origin.Origin.TheVariants.{OfLoad}
use Rattle.pub_trail.specs.declared.trail.Assigned.{Assigned}
use Rattle.pub_trail.specs.declared.trail.Place.{Place}

pub record Kept : Type 0 where
  pub sizes : List ℕ
  pub incompats : List Incompat
  pub origins : List Origin
  pub loads : List Place
  pub trail : List Assigned

-- the state of a solver with these names
abbrev pub state_with : List NodeName → Kept → State
state_with names kept = record {
  names = names;
  sizes = kept.sizes;
  incompats = terms_of kept.incompats;
  origins = kept.origins;
  loads = kept.loads;
  trail = reverse kept.trail;
}

-- what the facts of a load add
abbrev pub loaded_kept : Kept → Place → List ℕ → List (Incompat × Cause) → Kept
loaded_kept kept place sizes facts = record {
  sizes = kept.sizes ++ sizes;
  incompats = kept.incompats ++ map (λ fact. fact.0) facts;
  origins = kept.origins ++ map (λ fact. OfLoad fact.1) facts;
  loads = kept.loads ++ place ∷ [];
  trail = kept.trail;
}

-- one assignment more
abbrev pub assigned_kept : Kept → Assigned → Kept
assigned_kept kept entry = record {
  sizes = kept.sizes;
  incompats = kept.incompats;
  origins = kept.origins;
  loads = kept.loads;
  trail = kept.trail ++ entry ∷ [];
}
