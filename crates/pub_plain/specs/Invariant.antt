-- What a solver is at each moment.
use Rattle.std.specs.Prelude.{◌≡◌, ℕ, ◌<◌, ◌≤◌, List, ◌∷◌, length, All, Some}
use Rattle.pub_facts.specs.Catalogue.{Lookups, release_at}
use Rattle.pub_facts.specs.Numbered.{number_in, sizes_of}
use Rattle.pub_term.specs.declared.node.NodeName.{NodeName}
use Rattle.pub_term.specs.declared.node.NodeName.TheVariants.{Root, RootTrait, Package, PackageTrait}
use Rattle.pub_term.specs.declared.term.Term.{Term}
use Rattle.pub_trail.specs.Derived.{IsHistory}
use Rattle.pub_trail.specs.First.{first_or}
use Rattle.pub_trail.specs.Invariant.{IsState}
use Rattle.pub_trail.specs.KnownOf.{IsEntry}
use Rattle.pub_trail.specs.Turn.{State}
use Rattle.pub_trail.specs.declared.trail.Assigned.{Assigned}
use Rattle.pub_trail.specs.declared.trail.Reason.{Reason}
use Rattle.pub_trail.specs.declared.trail.Reason.TheVariants.{Decided, Derived}
use Rattle.spm_api.specs.declared.replies.Said.{Said}
use Rattle.spm_key.specs.declared.key.Key.TheVariants as key
use Rattle.spm_version.specs.Release.{Parts}
use Rattle.pub_plain.specs.Answers.{Answers, AreShort, lookups_by}
use Rattle.pub_plain.specs.Loading.{name_at}

-- something was said of the list of a package that is named
abbrev pub IsListed : Answers → NodeName → Type 0
IsListed answers Root = Unit {0}
IsListed answers (RootTrait name) = Unit {0}
IsListed answers (Package identity) = (it : Said) × (answers (key.List identity) ≡ Some it)
IsListed answers (PackageTrait identity name) = Unit {0}

-- the root is at its choice 1, and a package at one of its releases
abbrev pub IsOwnerAt : Lookups → NodeName → ℕ → Type 0
IsOwnerAt l Root choice = choice ≡ 1
IsOwnerAt l (RootTrait name) choice = Unit {0}
IsOwnerAt l (Package identity) choice = (release : Parts) × (release_at (l.list identity) choice ≡ Some release)
IsOwnerAt l (PackageTrait identity name) choice = Unit {0}

abbrev pub IsDecidedAt : Reason → Lookups → NodeName → Assigned → Type 0
IsDecidedAt Decided l name entry = IsOwnerAt l name (first_or entry.choices.members 0)
IsDecidedAt (Derived number) l name entry = Unit {0}

-- an assignment is on a node, by a set of its size, and an owner that is decided is at a choice that can be loaded
pub record IsPlaced (l : Lookups) (names : List NodeName) (sizes : List ℕ) (entry : Assigned) : Type 0 where
  pub fits : IsEntry sizes entry
  pub there : IsDecidedAt entry.reason l (name_at names entry.node) entry

pub record IsSolver (answers : Answers) (state : State) : Type 0 where
  pub nodes : length state.names ≤ 4096
  pub rest : List NodeName
  pub rooted : state.names ≡ Root ∷ rest
  pub listed : All (IsListed answers) state.names
  pub short : AreShort answers
  pub sizes : state.sizes ≡ sizes_of (lookups_by answers) state.names
  pub placed : All (IsPlaced (lookups_by answers) state.names state.sizes) state.trail
  -- it is what the facts of its loads make it
  pub facts : List (List Term)
  pub is : IsState facts state
  -- and each incompatibility comes from where its origin says
  pub history : IsHistory facts state
  -- each name's number is its place, so no node is named twice
  pub apart : (number : ℕ) → number < length state.names → number_in state.names (name_at state.names number) ≡ number
