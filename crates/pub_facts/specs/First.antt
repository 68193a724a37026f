-- Which valid selection is first: step by step, the least identity that the part so far reaches, at the preferred version that can be had.
use Rattle.std.specs.Str.{bytes_eq}
use Rattle.std.specs.Prelude.{◌≡◌, ℕ, List, Bool, true, false, Contains, Some, None, if◌then◌else◌}
use Rattle.std.specs.Cmp.Lexicographic.{slice_cmp}
use Rattle.std.specs.Ordering.{is_le, nat_cmp}
use Rattle.spm_version.specs.Release.{Parts}
use Rattle.pub_facts.specs.Catalogue.{Catalogue, Job}
use Rattle.pub_facts.specs.Enabled.{Held, IsIn, Selection, world_of}
use Rattle.pub_facts.specs.Valid.{IsValid}

abbrev pub nothing : Selection
nothing = λ identity. None

abbrev pub with_one : Selection → List ℕ → Parts → Selection
with_one part identity release = λ other. if bytes_eq other identity then Some release else part other

-- the least identity that the part reaches and that isn't in it
pub record IsNext (job : Job) (c : Catalogue) (part : Selection) (identity : List ℕ) : Type 0 where
  pub reached : IsIn (world_of job c part) (Held (Some identity))
  pub absent : part identity ≡ None
  pub least : (other : List ℕ) → IsIn (world_of job c part) (Held (Some other)) → part other ≡ None
      → is_le (slice_cmp nat_cmp identity other) ≡ true

-- the parts that the steps of a selection go through
pub data IsPart (job : Job) (c : Catalogue) (selection : Selection) : Selection → Type 0 where
  at_first : IsPart job c selection nothing
  at_step : (part : Selection) (identity : List ℕ) (release : Parts) → IsPart job c selection part → IsNext job c part identity
      → selection identity ≡ Some release → IsPart job c selection (with_one part identity release)

abbrev pub Includes : Selection → Selection → Type 0
Includes whole part = (identity : List ℕ) (release : Parts) → part identity ≡ Some release → whole identity ≡ Some release

-- the releases of a package in their list, the one that is pinned, and whether the first is preferred to the second
abbrev pub Preference : Type 0
Preference = List ℕ → Parts → Parts → Bool

-- It is valid, and at each step no version that is preferred to the chosen one lies, together with the part so far, in any valid selection
-- of any catalogue that extends this one.
pub record IsFirst (prefers : Preference) (Extends : Catalogue → Catalogue → Type 0) (job : Job) (c : Catalogue) (selection : Selection)
    : Type 0 where
  pub valid : IsValid job c selection
  pub skips : (part : Selection) (identity : List ℕ) (release other : Parts) → IsPart job c selection part → IsNext job c part identity
      → selection identity ≡ Some release → Contains (c.lookups.list identity) other → prefers identity other release ≡ true
      → (wider : Catalogue) → Extends c wider → (rival : Selection) → IsValid job wider rival → Includes rival part → rival identity ≡ Some other → ⊥

-- of two releases of a package at least one is preferred to the other
abbrev pub TellsApart : Preference → Catalogue → Type 0
TellsApart prefers c = (identity : List ℕ) (first second : Parts) → Contains (c.lookups.list identity) first → Contains (c.lookups.list identity) second
    → prefers identity first second ≡ false → prefers identity second first ≡ false → first ≡ second

-- the packages that are selected are among these
abbrev pub IsAmong : List (List ℕ) → Selection → Type 0
IsAmong identities selection = (identity : List ℕ) (release : Parts) → selection identity ≡ Some release → Contains identities identity

-- no other release of a package is preferred to the one that is selected
abbrev pub IsPreferred : Preference → Selection → Type 0
IsPreferred prefers selection = (identity : List ℕ) (release other : Parts) → selection identity ≡ Some release
    → prefers identity other release ≡ false
