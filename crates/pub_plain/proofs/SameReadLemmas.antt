-- A load that lacks nothing, or what is still lacking, comes to the same where more is said.
use Rattle.std.proofs.Common.{◌≡◌, ℕ, Bool, true, false, cond, List, [], ◌∷◌, Option, Some, None, refl, sym, ap, ◌∙◌, subst}
use Rattle.std.proofs.lemmas.Bool.{false≢true}
use Rattle.pub_facts.specs.Catalogue.{Job, Lookups, Owner, contents_at, package_of_target, version_in}
use Rattle.pub_facts.specs.Facts.{Load, found_at, load_needs, owner_node}
use Rattle.pub_term.specs.declared.node.NodeName.{NodeName}
use Rattle.pub_trail.specs.Turn.{Loading, Lacks, Passes, Brings}
use Rattle.spm_api.specs.Guess.{is_looked_up}
use Rattle.spm_api.specs.declared.replies.Said.{Said}
use Rattle.spm_api.specs.declared.replies.Said.TheVariants as said
use Rattle.spm_key.specs.declared.key.Key.{Key}
use Rattle.spm_key.specs.declared.key.Key.TheVariants as key
use Rattle.spm_manifest.specs.declared.dump.Contents.{Contents}
use Rattle.spm_manifest.specs.declared.need.Need.{Need}
use Rattle.spm_manifest.specs.declared.need.Target.{Target}
use Rattle.spm_manifest.specs.declared.need.Target.TheVariants.{Registry, Url, Local}
use Rattle.spm_trait.specs.Closure.{is_declared}
use Rattle.spm_version.specs.Release.{Parts}
use Rattle.spm_version.specs.declared.requirement.Requirement.{Requirement}
use Rattle.spm_version.specs.declared.requirement.Requirement.TheVariants.{Exact, Range, Branch, Revision, Path}
use Rattle.pub_plain.specs.Answers.{Answers, Carries, catalogue_by, found_in, lookups_by, package_in, releases_in}
use Rattle.pub_plain.specs.Invariant.{IsListed}
use Rattle.pub_plain.specs.Loading.{brings, loading, loading_at, read_contents, read_list, read_manifest, read_needs, read_target, read_under, with_list, with_lookup, with_manifest}
use Rattle.pub_plain.proofs.SameFactLemmas.{AreSameNeeds, IsSameBehind, IsSameNeed, IsSameOwner, IsSameUnder, brings_same, contents_same, version_same}

-- the load lacks nothing, or a key of which nothing is said by these answers either
abbrev pub StillLacks : Answers → Loading → Type 0
StillLacks more (Lacks asked) = more asked ≡ None
StillLacks more (Passes wide) = Unit {0}
StillLacks more (Brings loaded) = Unit {0}

-- the package of a target is the same, and so is its list
pub record IsSameTarget (l m : Lookups) (target : Target) : Type 0 where
  pub package_same : package_of_target l target ≡ package_of_target m target
  pub list : (identity : List ℕ) → package_of_target l target ≡ Some identity → l.list identity ≡ m.list identity

module _ (answers more : Answers) (carries : Carries answers more) where
  -- what is given is the same
  given_same : (asked : Key) (it : Said) → answers asked ≡ Some it → answers asked ≡ more asked
  given_same asked it at = at ∙ sym (carries asked it at)

  -- the list of an owner that is listed is the same
  pub listed_same : (owner : Owner) → IsListed answers (owner_node owner) → IsSameOwner (lookups_by answers) (lookups_by more) owner
  listed_same None listed = tt
  listed_same (Some identity) listed = ap releases_in (given_same (key.List identity) (listed.0) listed.1)

  -- ---- what is read: it comes to the same where what comes after it does

  -- a list
  list_reads : (identity : List ℕ) (after other : Loading) → StillLacks more (read_list answers identity after)
      → (answers (key.List identity) ≡ more (key.List identity) → StillLacks more after → after ≡ other)
      → read_list answers identity after ≡ read_list more identity other
  list_reads identity after other told same = go (answers (key.List identity)) refl told
    where
      read : (it : Said) → answers (key.List identity) ≡ Some it → StillLacks more after → with_list identity (Some it) other ≡ other
          → after ≡ with_list identity (more (key.List identity)) other
      read it at told is =
          same (given_same (key.List identity) it at) told
          ∙ (sym is ∙ ap (λ found. with_list identity found other) (sym (carries (key.List identity) it at)))

      go : (found : Option Said) → answers (key.List identity) ≡ found → StillLacks more (with_list identity found after)
          → with_list identity found after ≡ with_list identity (more (key.List identity)) other
      go None at told = ap (λ found. with_list identity found other) (sym told)
      go (Some said.TooMany) at told = ap (λ found. with_list identity found other) (sym (carries (key.List identity) said.TooMany at))
      go (Some (said.Releases releases)) at told = read (said.Releases releases) at told refl
      go (Some (said.Package found)) at told = read (said.Package found) at told refl
      go (Some (said.Manifest contents)) at told = read (said.Manifest contents) at told refl
      go (Some (said.FaultyManifest place kind)) at told = read (said.FaultyManifest place kind) at told refl
      go (Some said.NoManifest) at told = read said.NoManifest at told refl
      go (Some said.Nothing) at told = read said.Nothing at told refl

  -- a look-up that names no package is the same
  none_named : (url : List ℕ) (it : Said) → answers (key.Identifiers url) ≡ Some it → package_in (Some it) ≡ None
      → IsSameTarget (lookups_by answers) (lookups_by more) (Url url)
  none_named url it at none = record {
    package_same = ap package_in (given_same (key.Identifiers url) it at);
    list = λ identity is. (let e = ap package_in at in cc);
  }

  -- a look-up, and the list of what it names
  lookup_reads : (url : List ℕ) (after other : Loading) → StillLacks more (with_lookup answers url (answers (key.Identifiers url)) after)
      → (IsSameTarget (lookups_by answers) (lookups_by more) (Url url) → StillLacks more after → after ≡ other)
      → with_lookup answers url (answers (key.Identifiers url)) after ≡ with_lookup more url (more (key.Identifiers url)) other
  lookup_reads url after other told same =
      go (λ identity. list_reads identity after other) (answers (key.Identifiers url)) refl told
    where
      none : (it : Said) → answers (key.Identifiers url) ≡ Some it → package_in (Some it) ≡ None → StillLacks more after
          → with_lookup more url (Some it) other ≡ other → after ≡ with_lookup more url (more (key.Identifiers url)) other
      none it at isnt told is =
          same (none_named url it at isnt) told
          ∙ (sym is ∙ ap (λ found. with_lookup more url found other) (sym (carries (key.Identifiers url) it at)))

      go : ((identity : List ℕ) → StillLacks more (read_list answers identity after)
          → (answers (key.List identity) ≡ more (key.List identity) → StillLacks more after → after ≡ other)
          → read_list answers identity after ≡ read_list more identity other)
          → (found : Option Said) → answers (key.Identifiers url) ≡ found → StillLacks more (with_lookup answers url found after)
          → with_lookup answers url found after ≡ with_lookup more url (more (key.Identifiers url)) other
      go lists None at told = ap (λ found. with_lookup more url found other) (sym told)
      go lists (Some (said.Package (Some identity))) at told =
          lists identity told (λ list told. same (record {
            package_same = ap package_in (given_same (key.Identifiers url) (said.Package (Some identity)) at);
            list = λ named is.
                let e : identity ≡ named = (let f = ap package_in at in cc) in
                subst (λ n. releases_in (answers (key.List n)) ≡ releases_in (more (key.List n))) e (ap releases_in list);
          }) told)
          ∙ ap (λ found. with_lookup more url found other) (sym (carries (key.Identifiers url) (said.Package (Some identity)) at))
      go lists (Some (said.Package None)) at told = none (said.Package None) at refl told refl
      go lists (Some said.TooMany) at told = none said.TooMany at refl told refl
      go lists (Some (said.Releases releases)) at told = none (said.Releases releases) at refl told refl
      go lists (Some (said.Manifest contents)) at told = none (said.Manifest contents) at refl told refl
      go lists (Some (said.FaultyManifest place kind)) at told = none (said.FaultyManifest place kind) at refl told refl
      go lists (Some said.NoManifest) at told = none said.NoManifest at refl told refl
      go lists (Some said.Nothing) at told = none said.Nothing at refl told refl

  -- the target of a need
  target_reads : (target : Target) (after other : Loading) → StillLacks more (read_target answers target after)
      → (IsSameTarget (lookups_by answers) (lookups_by more) target → StillLacks more after → after ≡ other)
      → read_target answers target after ≡ read_target more target other
  target_reads (Registry identity) after other told same = list_reads identity after other told (λ list. same (record {
    package_same = refl;
    list = λ named is.
        let e : identity ≡ named = cc in
        subst (λ n. releases_in (answers (key.List n)) ≡ releases_in (more (key.List n))) e (ap releases_in list);
  }))
  target_reads (Url url) after other told same = lookup_reads url after other told same
  target_reads (Local path) after other told same = same (record { package_same = refl; list = λ identity is. cc }) told

  -- a need
  need_reads : (requirement : Requirement) (target : Target) (after other : Loading)
      → StillLacks more (cond (is_looked_up requirement) (read_target answers target after) after)
      → (IsSameNeed (lookups_by answers) (lookups_by more) requirement target → StillLacks more after → after ≡ other)
      → cond (is_looked_up requirement) (read_target answers target after) after
      ≡ cond (is_looked_up requirement) (read_target more target other) other
  need_reads (Exact release) target after other told same =
      target_reads target after other told (λ it. same (record { named = it.package_same; list = it.list }))
  need_reads (Range low high) target after other told same =
      target_reads target after other told (λ it. same (record { named = it.package_same; list = it.list }))
  need_reads (Branch name) target after other told same = same (record { named = refl; list = λ identity is. cc }) told
  need_reads (Revision name) target after other told same = same (record { named = refl; list = λ identity is. cc }) told
  need_reads Path target after other told same = same (record { named = refl; list = λ identity is. cc }) told

  -- all needs
  needs_read : (needs : List Need) (after other : Loading) → StillLacks more (read_needs answers needs after)
      → (AreSameNeeds (lookups_by answers) (lookups_by more) needs → StillLacks more after → after ≡ other)
      → read_needs answers needs after ≡ read_needs more needs other
  needs_read [] after other told same = same tt told
  needs_read (need ∷ needs) after other told same =
      need_reads need.requirement need.target (read_needs answers needs after) (read_needs more needs other) told
      (λ here later. needs_read needs after other later (λ others last. same (here, others) last))

  -- what stands behind a manifest
  under_reads : (contents : Contents) (under : Option (List ℕ)) (after other : Loading) → StillLacks more (read_under answers contents under after)
      → (IsSameUnder (lookups_by answers) (lookups_by more) contents under → StillLacks more after → after ≡ other)
      → read_under answers contents under after ≡ read_under more contents under other
  under_reads contents None after other told same = needs_read (load_needs None contents) after other told same
  under_reads contents (Some name) after other told same =
      go (is_declared contents.traits.entries name) told (λ it. same it)
    where
      go : (b : Bool) → StillLacks more (cond b (read_needs answers (load_needs (Some name) contents) after) after)
          → ((b ≡ true → AreSameNeeds (lookups_by answers) (lookups_by more) (load_needs (Some name) contents)) → StillLacks more after → after ≡ other)
          → cond b (read_needs answers (load_needs (Some name) contents) after) after
          ≡ cond b (read_needs more (load_needs (Some name) contents) other) other
      go true told same = needs_read (load_needs (Some name) contents) after other told (λ it. same (λ _. it))
      go false told same = same (λ is. absurd (false≢true is)) told

  -- what stands behind a manifest that can be used
  contents_read : (under : Option (List ℕ)) (contents : Option Contents) (after other : Loading)
      → StillLacks more (read_contents answers under contents after)
      → (IsSameBehind (lookups_by answers) (lookups_by more) under contents → StillLacks more after → after ≡ other)
      → read_contents answers under contents after ≡ read_contents more under contents other
  contents_read under None after other told same = same tt told
  contents_read under (Some contents) after other told same = under_reads contents under after other told same

  -- a manifest
  manifest_reads : (owner : Owner) (version : Option Parts) (after other : Loading) → StillLacks more (read_manifest answers owner version after)
      → (found_at (catalogue_by answers) owner version ≡ found_at (catalogue_by more) owner version → StillLacks more after → after ≡ other)
      → read_manifest answers owner version after ≡ read_manifest more owner version other
  manifest_reads None version after other told same = same refl told
  manifest_reads (Some identity) None after other told same = same refl told
  manifest_reads (Some identity) (Some release) after other told same = go (answers (key.Manifest identity release)) refl told
    where
      go : (found : Option Said) → answers (key.Manifest identity release) ≡ found → StillLacks more (with_manifest identity release found after)
          → with_manifest identity release found after ≡ with_manifest identity release (more (key.Manifest identity release)) other
      go None at told = ap (λ found. with_manifest identity release found other) (sym told)
      go (Some it) at told =
          same (ap found_in (given_same (key.Manifest identity release) it at)) told
          ∙ ap (λ found. with_manifest identity release found other) (sym (carries (key.Manifest identity release) it at))

  -- such a load, of an owner whose list is given, comes to the same
  pub loading_same : (job : Job) (names : List NodeName) (load : Load) → IsListed answers (owner_node load.owner)
      → StillLacks more (loading job answers names load) → loading job answers names load ≡ loading job more names load
  loading_same job names load listed told =
      let c = catalogue_by answers in
      let d = catalogue_by more in
      let version = version_in (lookups_by answers) load.owner load.choice in
      let owner = listed_same load.owner listed in
      manifest_reads load.owner version (read_contents answers load.under (contents_at job c load.owner version) (brings job c names load))
      (read_contents more load.under (contents_at job d load.owner version) (brings job d names load)) told
      (λ found later.
      contents_read load.under (contents_at job c load.owner version) (brings job c names load) (brings job d names load) later
      (λ behind last. brings_same job c d names load (record { owner = owner; found = found; behind_it = behind }))
      ∙ ap (λ contents. read_contents more load.under contents (brings job d names load)) (contents_same job c d load.owner version found))
      ∙ ap (loading_at job more names load) (version_same (lookups_by answers) (lookups_by more) load.owner load.choice owner)
