-- Which selections are valid: judged need by need over the least sets, with no solver.
use Rattle.std.specs.Prelude.{◌≡◌, ℕ, List, true, Contains, Some}
use Rattle.spm_manifest.specs.declared.dump.Contents.{Contents}
use Rattle.spm_manifest.specs.declared.need.Need.{Need}
use Rattle.spm_trait.specs.Closure.{is_declared}
use Rattle.spm_version.specs.Release.{Parts}
use Rattle.spm_version.specs.Requirement.{contains}
use Rattle.pub_facts.specs.Catalogue.{Catalogue, Job, Owner, contents_of, entries_in, target_of}
use Rattle.pub_facts.specs.Enabled.{Active, Enabled, Held, IsIn, Selection, world_of}

-- the need is a Range or Exact on a known package, which is selected at a version that it contains
pub record IsMet (c : Catalogue) (selection : Selection) (need : Need) : Type 0 where
  pub target : List ℕ
  pub known : target_of c.lookups need ≡ Some target
  pub release : Parts
  pub selected : selection target ≡ Some release
  pub within : contains need.requirement release ≡ true

-- the version is listed, and its manifest can be used
pub record IsUsable (job : Job) (c : Catalogue) (identity : List ℕ) (release : Parts) : Type 0 where
  pub listed : Contains (c.lookups.list identity) release
  pub contents : Contents
  pub read : contents_of job.tools (c.found identity release) ≡ Some contents

pub record IsValid (job : Job) (c : Catalogue) (selection : Selection) : Type 0 where
  pub needs : (owner : Owner) (need : Need) → IsIn (world_of job c selection) (Active owner need) → IsMet c selection need
  pub usable : (identity : List ℕ) (release : Parts) → selection identity ≡ Some release → IsUsable job c identity release
  pub declared : (owner : Owner) (name : List ℕ) → IsIn (world_of job c selection) (Enabled owner name)
      → is_declared (entries_in ((world_of job c selection).contents owner)) name ≡ true
  pub reached : (identity : List ℕ) (release : Parts) → selection identity ≡ Some release → IsIn (world_of job c selection) (Held (Some identity))
