-- What a selection reaches and enables (SE-0450): the least sets that its needs and traits make.
use Rattle.std.specs.Prelude.{◌≡◌, ℕ, List, [], true, Contains, Option, Some, None}
use Rattle.spm_manifest.specs.declared.dump.Contents.{Contents}
use Rattle.spm_manifest.specs.declared.need.Ask.{Ask}
use Rattle.spm_manifest.specs.declared.need.Need.{Need}
use Rattle.spm_trait.specs.Closure.{enabled_by}
use Rattle.spm_version.specs.Release.{Parts}
use Rattle.pub_facts.specs.Catalogue.{Catalogue, Job, Owner, contents_at, entries_in, is_always, is_guarded_by, needs_in, target_of}

-- what a selection makes of a job and a catalogue
pub record World : Type 0 where
  pub asked : List (List ℕ)
  pub contents : Owner → Option Contents
  pub target : Need → Option (List ℕ)

-- what may be in the sets: an owner that is reached, a trait that is enabled for an owner, a need of an owner that is active
pub data Spot : Type 0 where
  Held : Owner → Spot
  Enabled : Owner → List ℕ → Spot
  Active : Owner → Need → Spot

pub data IsIn (world : World) : Spot → Type 0 where
  by_root : IsIn world (Held None)
  by_words : (name : List ℕ) → Contains world.asked name → IsIn world (Enabled None name)
  by_always : (owner : Owner) (need : Need) → IsIn world (Held owner) → Contains (needs_in (world.contents owner)) need
      → is_always need.guard ≡ true → IsIn world (Active owner need)
  by_guard : (owner : Owner) (need : Need) (name : List ℕ) → IsIn world (Held owner) → Contains (needs_in (world.contents owner)) need
      → is_guarded_by name need.guard ≡ true → IsIn world (Enabled owner name) → IsIn world (Active owner need)
  by_need : (owner : Owner) (need : Need) (target : List ℕ) → IsIn world (Active owner need) → world.target need ≡ Some target
      → IsIn world (Held (Some target))
  by_ask : (owner : Owner) (need : Need) (target : List ℕ) (ask : Ask) → IsIn world (Active owner need) → world.target need ≡ Some target
      → Contains need.asked ask → ask.under ≡ [] → IsIn world (Enabled (Some target) ask.name)
  by_ask_under : (owner : Owner) (need : Need) (target : List ℕ) (ask : Ask) (name : List ℕ) → IsIn world (Active owner need)
      → world.target need ≡ Some target → Contains need.asked ask → Contains ask.under name → IsIn world (Enabled owner name)
      → IsIn world (Enabled (Some target) ask.name)
  by_trait : (owner : Owner) (name other : List ℕ) → IsIn world (Enabled owner name)
      → Contains (enabled_by (entries_in (world.contents owner)) name) other → IsIn world (Enabled owner other)

abbrev pub Selection : Type 0
Selection = List ℕ → Option Parts

abbrev pub version_of : Selection → Owner → Option Parts
version_of selection None = None
version_of selection (Some identity) = selection identity

abbrev pub world_of : Job → Catalogue → Selection → World
world_of job c selection = record {
  asked = job.asked;
  contents = λ owner. contents_at job c owner (version_of selection owner);
  target = target_of c.lookups;
}
