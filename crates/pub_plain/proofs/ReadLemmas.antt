-- What a load has read that brings something, and what it brings.
use Rattle.std.proofs.Common.{◌≡◌, ℕ, true, List, [], ◌∷◌, ◌++◌, length, Contains, Option, Some, None, refl, sym, ap, ◌∙◌, subst, inl, inr}
use Rattle.std.proofs.lemmas.Bool.{cases_Bool, cond-false, cond-true, false≢true}
use Rattle.pub_facts.specs.Catalogue.{Job, Lookups, Owner, contents_at, if_versioned, package_of_target, target_of, version_in}
use Rattle.pub_facts.specs.Facts.{Load, load_needs}
use Rattle.pub_facts.specs.Numbered.{number_in, numbered}
use Rattle.pub_facts.proofs.Members.{contains_cases, contains_nothing}
use Rattle.pub_term.specs.declared.node.NodeName.{NodeName}
use Rattle.pub_trail.specs.Turn.{Loaded, Loading, Brings}
use Rattle.pub_trail.specs.declared.turned.Wide.{Wide}
use Rattle.spm_api.specs.Guess.{is_looked_up}
use Rattle.spm_api.specs.declared.replies.Said.{Said}
use Rattle.spm_api.specs.declared.replies.Said.TheVariants as said
use Rattle.spm_key.specs.declared.key.Key.TheVariants as key
use Rattle.spm_manifest.specs.declared.dump.Contents.{Contents}
use Rattle.spm_manifest.specs.declared.need.Need.{Need}
use Rattle.spm_manifest.specs.declared.need.Target.{Target}
use Rattle.spm_manifest.specs.declared.need.Target.TheVariants.{Registry, Url, Local}
use Rattle.spm_trait.specs.Closure.{is_declared}
use Rattle.spm_version.specs.Release.{Parts}
use Rattle.spm_version.specs.declared.requirement.Requirement.{Requirement}
use Rattle.spm_version.specs.declared.requirement.Requirement.TheVariants.{Exact, Range, Branch, Revision, Path}
use Rattle.pub_plain.specs.Answers.{Answers, catalogue_by, lookups_by, package_in}
use Rattle.pub_plain.specs.Loading.{brings, brought, facts_at, loading, named_first, package_count, read_contents, read_list, read_manifest, read_need, read_needs, read_target, read_under, unless_wide, wide_in, with_list, with_lookup, with_manifest}

-- ---- what is read

-- something was said of the list of a package
pub record IsRead (answers : Answers) (identity : List ℕ) : Type 0 where
  pub it : Said
  pub given : answers (key.List identity) ≡ Some it

-- a list that was read
list_read : (answers : Answers) (identity : List ℕ) (more : Loading) (loaded : Loaded) → read_list answers identity more ≡ Brings loaded
    → IsRead answers identity × (more ≡ Brings loaded)
list_read answers identity more loaded is = go (answers (key.List identity)) refl is
  where
    go : (found : Option Said) → answers (key.List identity) ≡ found → with_list identity found more ≡ Brings loaded
        → IsRead answers identity × (more ≡ Brings loaded)
    go None at stopped = cc
    go (Some said.TooMany) at stopped = cc
    go (Some (said.Releases releases)) at after = (record { it = said.Releases releases; given = at }, after)
    go (Some (said.Package other)) at after = (record { it = said.Package other; given = at }, after)
    go (Some (said.Manifest contents)) at after = (record { it = said.Manifest contents; given = at }, after)
    go (Some (said.FaultyManifest place kind)) at after = (record { it = said.FaultyManifest place kind; given = at }, after)
    go (Some said.NoManifest) at after = (record { it = said.NoManifest; given = at }, after)
    go (Some said.Nothing) at after = (record { it = said.Nothing; given = at }, after)

-- the list of the package that a target names, if it names one, was read
abbrev IsTargetRead : Answers → Option (List ℕ) → Type 0
IsTargetRead answers target = (identity : List ℕ) → target ≡ Some identity → IsRead answers identity

-- a look-up that was read, and the list behind it
lookup_read : (answers : Answers) (url : List ℕ) (more : Loading) (loaded : Loaded)
    → with_lookup answers url (answers (key.Identifiers url)) more ≡ Brings loaded
    → IsTargetRead answers (package_in (answers (key.Identifiers url))) × (more ≡ Brings loaded)
lookup_read answers url more loaded is = go (λ identity after. list_read answers identity more loaded after) (answers (key.Identifiers url)) is
  where
    go : ((identity : List ℕ) → read_list answers identity more ≡ Brings loaded → IsRead answers identity × (more ≡ Brings loaded))
        → (found : Option Said) → with_lookup answers url found more ≡ Brings loaded
        → IsTargetRead answers (package_in found) × (more ≡ Brings loaded)
    go listed None stopped = cc
    go listed (Some (said.Package (Some identity))) after =
        let rest = listed identity after in
        (λ other at. let e : identity ≡ other = cc in subst (IsRead answers) e rest.0, rest.1)
    go listed (Some (said.Package None)) after = (λ other at. cc, after)
    go listed (Some said.TooMany) after = (λ other at. cc, after)
    go listed (Some (said.Releases releases)) after = (λ other at. cc, after)
    go listed (Some (said.Manifest contents)) after = (λ other at. cc, after)
    go listed (Some (said.FaultyManifest place kind)) after = (λ other at. cc, after)
    go listed (Some said.NoManifest) after = (λ other at. cc, after)
    go listed (Some said.Nothing) after = (λ other at. cc, after)

-- a target that was read
target_read : (answers : Answers) (target : Target) (more : Loading) (loaded : Loaded) → read_target answers target more ≡ Brings loaded
    → IsTargetRead answers (package_of_target (lookups_by answers) target) × (more ≡ Brings loaded)
target_read answers (Registry identity) more loaded is =
    let rest = list_read answers identity more loaded is in
    (λ other at. let e : identity ≡ other = cc in subst (IsRead answers) e rest.0, rest.1)
target_read answers (Url url) more loaded is = lookup_read answers url more loaded is
target_read answers (Local path) more loaded is = (λ other at. cc, is)

-- a need with a package is for a range or for one version
versioned : (requirement : Requirement) (target : Option (List ℕ)) (identity : List ℕ) → if_versioned requirement target ≡ Some identity
    → (is_looked_up requirement ≡ true) × (target ≡ Some identity)
versioned (Exact release) target identity is = (refl, is)
versioned (Range low high) target identity is = (refl, is)
versioned (Branch name) target identity is = cc
versioned (Revision name) target identity is = cc
versioned Path target identity is = cc

-- a need that was read
need_read : (answers : Answers) (need : Need) (more : Loading) (loaded : Loaded) → read_need answers need more ≡ Brings loaded
    → IsTargetRead answers (target_of (lookups_by answers) need) × (more ≡ Brings loaded)
need_read answers need more loaded is = elim (cases_Bool (is_looked_up need.requirement)) [
  | inl looked ↦
      (let rest = target_read answers need.target more loaded
      (sym (cond-true (is_looked_up need.requirement) (read_target answers need.target more) more looked) ∙ is) in (
        λ identity at. rest.0 identity (versioned need.requirement (package_of_target (lookups_by answers) need.target) identity at).1,
        rest.1,
      ))
  | inr other ↦ (
    λ identity at.
        absurd (false≢true (sym other ∙ (versioned need.requirement (package_of_target (lookups_by answers) need.target) identity at).0)),
    sym (cond-false (is_looked_up need.requirement) (read_target answers need.target more) more other) ∙ is,
  )
]

-- each package of some needs passes
abbrev pub AreTargets : (List ℕ → Type 0) → Lookups → List Need → Type 0
AreTargets P l needs = (need : Need) (identity : List ℕ) → Contains needs need → target_of l need ≡ Some identity → P identity

-- needs that were read
needs_read : (answers : Answers) (needs : List Need) (more : Loading) (loaded : Loaded) → read_needs answers needs more ≡ Brings loaded
    → AreTargets (IsRead answers) (lookups_by answers) needs × (more ≡ Brings loaded)
needs_read answers [] more loaded is = (λ need identity here at. absurd (contains_nothing need here), is)
needs_read answers (first ∷ needs) more loaded is =
    let head = need_read answers first (read_needs answers needs more) loaded is in
    let rest = needs_read answers needs more loaded head.1 in (
      λ need identity here at.
          elim (contains_cases first need needs here) [
            | inl same ↦ head.0 identity (ap (target_of (lookups_by answers)) same ∙ at)
            | inr there ↦ rest.0 need identity there at
          ],
      rest.1,
    )

-- each package of the needs of a load passes; a trait that isn't declared has none
abbrev pub AreUnder : (List ℕ → Type 0) → Lookups → Contents → Option (List ℕ) → Type 0
AreUnder P l contents None = AreTargets P l (load_needs None contents)
AreUnder P l contents (Some name) = is_declared contents.traits.entries name ≡ true → AreTargets P l (load_needs (Some name) contents)

-- what stands behind a manifest
under_read : (answers : Answers) (contents : Contents) (under : Option (List ℕ)) (more : Loading) (loaded : Loaded)
    → read_under answers contents under more ≡ Brings loaded
    → AreUnder (IsRead answers) (lookups_by answers) contents under × (more ≡ Brings loaded)
under_read answers contents None more loaded is = needs_read answers (load_needs None contents) more loaded is
under_read answers contents (Some name) more loaded is = elim (cases_Bool (is_declared contents.traits.entries name)) [
  | inl declared ↦
      (let rest = needs_read answers (load_needs (Some name) contents) more loaded
      (sym (cond-true (is_declared contents.traits.entries name) (read_needs answers (load_needs (Some name) contents) more) more declared) ∙ is) in
      (λ so. rest.0, rest.1))
  | inr undeclared ↦ (
    λ so. absurd (false≢true (sym undeclared ∙ so)),
    sym (cond-false (is_declared contents.traits.entries name) (read_needs answers (load_needs (Some name) contents) more) more undeclared) ∙ is,
  )
]

-- the same of contents, if they can be used
abbrev pub AreBehind : (List ℕ → Type 0) → Lookups → Option (List ℕ) → Option Contents → Type 0
AreBehind P l under None = Unit {0}
AreBehind P l under (Some contents) = AreUnder P l contents under

contents_read : (answers : Answers) (under : Option (List ℕ)) (contents : Option Contents) (more : Loading) (loaded : Loaded)
    → read_contents answers under contents more ≡ Brings loaded
    → AreBehind (IsRead answers) (lookups_by answers) under contents × (more ≡ Brings loaded)
contents_read answers under None more loaded is = (tt, is)
contents_read answers under (Some contents) more loaded is = under_read answers contents under more loaded is

-- a manifest that was read
manifest_read : (answers : Answers) (owner : Owner) (version : Option Parts) (more : Loading) (loaded : Loaded)
    → read_manifest answers owner version more ≡ Brings loaded → more ≡ Brings loaded
manifest_read answers None version more loaded is = is
manifest_read answers (Some identity) None more loaded is = is
manifest_read answers (Some identity) (Some release) more loaded is = go (answers (key.Manifest identity release)) is
  where
    go : (found : Option Said) → with_manifest identity release found more ≡ Brings loaded → more ≡ Brings loaded
    go None stopped = cc
    go (Some it) after = after

-- ---- what is brought

-- names that pass no limit
within : (wide : Option Wide) (it loaded : Loaded) → unless_wide wide it ≡ Brings loaded → (wide ≡ None) × (loaded ≡ it)
within (Some wide) it loaded is = cc
within None it loaded is = (refl, (let e : loaded ≡ it = cc in e))

-- a load that brings something: it passes no limit, brings its new names and its facts, and the lists of its needs were read
pub record IsBrought (job : Job) (answers : Answers) (names : List NodeName) (load : Load) (loaded : Loaded) : Type 0 where
  pub limited : wide_in (length names) (package_count names) (named_first job (catalogue_by answers) names load) ≡ None
  pub is : loaded
      ≡ brought (lookups_by answers) (named_first job (catalogue_by answers) names load)
      (numbered (number_in (names ++ named_first job (catalogue_by answers) names load)) (facts_at job (catalogue_by answers) load))
  pub read : AreBehind (IsRead answers) (lookups_by answers) load.under
      (contents_at job (catalogue_by answers) load.owner (version_in (lookups_by answers) load.owner load.choice))

-- a load is so where it brings something
pub loading_read : (job : Job) (answers : Answers) (names : List NodeName) (load : Load) (loaded : Loaded)
    → loading job answers names load ≡ Brings loaded → IsBrought job answers names load loaded
loading_read job answers names load loaded is =
    let version = version_in (lookups_by answers) load.owner load.choice in
    let c = catalogue_by answers in
    let contents = contents_at job c load.owner version in
    let more = brings job c names load in
    let behind = manifest_read answers load.owner version (read_contents answers load.under contents more) loaded is in
    let rest = contents_read answers load.under contents more loaded behind in
    let new = named_first job c names load in
    let end = within (wide_in (length names) (package_count names) new)
    (brought c.lookups new (numbered (number_in (names ++ new)) (facts_at job c load))) loaded rest.1 in
    record { limited = end.0; is = end.1; read = rest.0 }
