-- What a solver keeps of its nodes: the choices that are left for each.
use Rattle.std.specs.Prelude.{◌≡◌, ℕ, ◌<◌, ◌≤◌, List, length, get_or, reverse, slice_index, take}
use Rattle.pub_set.specs.Choices.{ChoiceSet}
use Rattle.pub_term.specs.Known.{AreKnown, known_at}
use Rattle.pub_term.specs.Term.{IsIncompat}
use Rattle.pub_term.specs.declared.term.Incompat.{Incompat}
use Rattle.pub_trail.specs.Trail.{accum}
use Rattle.pub_trail.specs.declared.trail.Assigned.{Assigned}

-- for each node the choices that are left for it
pub record AreLeft (sizes : List ℕ) (trail : List Assigned) (known : List ChoiceSet) : Type 0 where
  pub nodes : length known ≡ length sizes
  pub sets : (node : ℕ) → node < length sizes → known_at known node ≡ accum sizes trail node

-- For each assignment of a trail that has the newest behind the others, the choices that were left for its node before it.
pub record AreBefore (sizes : List ℕ) (trail : List Assigned) (before : List ChoiceSet) : Type 0 where
  pub long : length trail ≤ length before
  pub sets : (i : ℕ) (entry : Assigned) → i < length trail → entry ≡ get_or trail i entry
      → known_at before i ≡ accum sizes (reverse (take i trail)) entry.node

-- the node is there, and the set has its size
abbrev pub IsEntry : List ℕ → Assigned → Type 0
IsEntry sizes entry = (entry.node < length sizes) × (entry.choices.size ≡ slice_index sizes entry.node)

-- what is kept serves the incompatibility
abbrev pub CanHold : List ChoiceSet → Incompat → Type 0
CanHold known incompat = IsIncompat incompat.terms × AreKnown known incompat.terms
