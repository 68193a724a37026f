-- The keys that a load may still need: at most so many, and fewer after each reply that it needs.
use Rattle.std.proofs.Common.{◌≡◌, ◌⊎◌, ℕ, zero, suc, ◌*◌, ◌<◌, ◌≤◌, Bool, true, false, cond, List, [], ◌∷◌, length, Option, Some, None, refl, sym, ap, ◌∙◌, subst, inl, inr, arith}
use Rattle.std.specs.List.{filter}
use Rattle.std.proofs.lemmas.Bool.{cond_both}
use Rattle.pub_facts.specs.Catalogue.{Job, Owner, contents_at, contents_of, is_above, release_at, version_in}
use Rattle.pub_facts.specs.Facts.{Load, is_of, load_needs}
use Rattle.pub_term.specs.declared.node.NodeName.{NodeName}
use Rattle.pub_trail.specs.Turn.{Loaded, Loading, Lacks}
use Rattle.pub_trail.specs.declared.turned.Wide.{Wide}
use Rattle.spm_api.specs.Guess.{is_looked_up}
use Rattle.spm_api.specs.declared.replies.Said.{Said}
use Rattle.spm_api.specs.declared.replies.Said.TheVariants as said
use Rattle.spm_key.specs.declared.key.Key.{Key}
use Rattle.spm_key.specs.declared.key.Key.TheVariants as key
use Rattle.spm_manifest.specs.Dependency.{max_dependencies}
use Rattle.spm_manifest.specs.declared.dump.Contents.{Contents}
use Rattle.spm_manifest.specs.declared.need.Need.{Need}
use Rattle.spm_manifest.specs.declared.need.Target.{Target}
use Rattle.spm_manifest.specs.declared.need.Target.TheVariants.{Registry, Url, Local}
use Rattle.spm_trait.specs.Closure.{is_declared}
use Rattle.spm_version.specs.Release.{Parts}
use Rattle.pub_plain.specs.Answers.{Answers, Carries, catalogue_by, found_in, lookups_by, releases_in}
use Rattle.pub_plain.specs.Ending.{AreFew, behind_left, keys_left, list_left, lookup_left, most_keys, most_of_manifest, need_left, needs_left, said_left, target_left, version_left}
use Rattle.pub_plain.specs.Loading.{brings, loading, read_contents, read_list, read_manifest, read_needs, read_target, read_under, unless_wide, with_list, with_lookup, with_manifest}

-- ---- at most so many

-- of a list one
list_most : (found : Option Said) → list_left found ≤ 1
list_most None = omega arith
list_most (Some it) = omega arith

-- of a look-up two
lookup_most : (answers : Answers) (found : Option Said) → lookup_left answers found ≤ 2
lookup_most answers None = omega arith
lookup_most answers (Some (said.Package (Some identity))) = omega (arith, list_most (answers (key.List identity)))
lookup_most answers (Some (said.Package None)) = omega arith
lookup_most answers (Some said.TooMany) = omega arith
lookup_most answers (Some (said.Releases releases)) = omega arith
lookup_most answers (Some (said.Manifest contents)) = omega arith
lookup_most answers (Some (said.FaultyManifest place kind)) = omega arith
lookup_most answers (Some said.NoManifest) = omega arith
lookup_most answers (Some said.Nothing) = omega arith

-- and one where something is said of it
lookup_less : (answers : Answers) (it : Said) → lookup_left answers (Some it) ≤ 1
lookup_less answers (said.Package (Some identity)) = list_most (answers (key.List identity))
lookup_less answers (said.Package None) = omega arith
lookup_less answers said.TooMany = omega arith
lookup_less answers (said.Releases releases) = omega arith
lookup_less answers (said.Manifest contents) = omega arith
lookup_less answers (said.FaultyManifest place kind) = omega arith
lookup_less answers said.NoManifest = omega arith
lookup_less answers said.Nothing = omega arith

-- of a target two
target_most : (answers : Answers) (target : Target) → target_left answers target ≤ 2
target_most answers (Registry identity) = omega (arith, list_most (answers (key.List identity)))
target_most answers (Url url) = lookup_most answers (answers (key.Identifiers url))
target_most answers (Local path) = omega arith

-- of needs two each
needs_most : (answers : Answers) (needs : List Need) → needs_left answers needs ≤ 2 * length needs
needs_most answers [] = omega arith
needs_most answers (need ∷ needs) =
    let here : need_left answers need ≤ 2
    = cond_both (is_looked_up need.requirement) (target_left answers need.target) 0 (λ n. n ≤ 2)
    (λ _. target_most answers need.target) (λ _. omega arith) in
    omega (arith, here, needs_most answers needs)

-- a filter keeps at most all
filter_most : {A : Type 0} (test : A → Bool) (xs : List A) → length (filter test xs) ≤ length xs
filter_most test [] = omega arith
filter_most test (x ∷ xs) =
    cond_both (test x) (x ∷ filter test xs) (filter test xs) (λ kept. length kept ≤ length (x ∷ xs))
    (λ _. omega (arith, filter_most test xs)) (λ _. omega (arith, filter_most test xs))

-- behind a manifest two for each of its needs
behind_most : (answers : Answers) (under : Option (List ℕ)) (contents : Contents)
    → behind_left answers under (Some contents) ≤ 2 * length contents.needs
behind_most answers under contents =
    omega (arith, needs_most answers (load_needs under contents), filter_most (is_of under) contents.needs)

-- behind what is said of a manifest two for each need that it may have
said_most : (job : Job) (answers : Answers) (under : Option (List ℕ)) (found : Option Said)
    → ((contents : Contents) → found ≡ Some (said.Manifest contents) → length contents.needs ≤ max_dependencies)
    → behind_left answers under (contents_of job.tools (found_in found)) ≤ 2 * max_dependencies
said_most job answers under None few = omega arith
said_most job answers under (Some (said.Manifest contents)) few =
    cond_both (is_above contents.tools job.tools) None (Some contents) (λ it. behind_left answers under it ≤ 2 * max_dependencies)
    (λ _. omega arith) (λ _. omega (arith, behind_most answers under contents, few contents refl))
said_most job answers under (Some (said.Package found)) few = omega arith
said_most job answers under (Some said.TooMany) few = omega arith
said_most job answers under (Some (said.Releases releases)) few = omega arith
said_most job answers under (Some (said.FaultyManifest place kind)) few = omega arith
said_most job answers under (Some said.NoManifest) few = omega arith
said_most job answers under (Some said.Nothing) few = omega arith

-- of a version
version_most : (job : Job) (answers : Answers) (under : Option (List ℕ)) (owner : Owner) (version : Option Parts) → AreFew answers
    → version_left job answers under owner version ≤ most_keys job
version_most job answers under None version few = omega (arith, behind_most answers under job.root)
version_most job answers under (Some identity) None few = omega arith
version_most job answers under (Some identity) (Some release) few =
    go (answers (key.Manifest identity release)) (λ contents. few identity release contents)
  where
    go : (found : Option Said) → ((contents : Contents) → found ≡ Some (said.Manifest contents) → length contents.needs ≤ max_dependencies)
        → said_left found (behind_left answers under (contents_of job.tools (found_in found))) ≤ most_keys job
    go None few = omega arith
    go (Some it) few = omega (arith, said_most job answers under (Some it) few)

-- of a load
pub keys_most : (job : Job) (answers : Answers) (load : Load) → AreFew answers → keys_left job answers load ≤ most_keys job
keys_most job answers load few = version_most job answers load.under load.owner (version_in (lookups_by answers) load.owner load.choice) few

-- ---- fewer after a reply

-- a load that has read its keys lacks none
never_lacks : (wide : Option Wide) (loaded : Loaded) (asked : Key) → unless_wide wide loaded ≡ Lacks asked → ⊥
never_lacks (Some wide) loaded asked is = cc
never_lacks None loaded asked is = cc

-- the first of two, where the second can't be
unless_second : {P Q : Type 0} → (Q → ⊥) → P ⊎ Q → P
unless_second never (inl here) = here
unless_second never (inr other) = absurd (never other)

-- an empty list has no release
no_release : (choice : ℕ) (release : Parts) → release_at [] choice ≡ Some release → ⊥
no_release zero release is = cc
no_release (suc k) release is = cc

module _ (answers more : Answers) (carries : Carries answers more) (asked : Key) (it : Said) (said_it : more asked ≡ Some it) where
  -- of a list no more are left
  list_low : (identity : List ℕ) → list_left (more (key.List identity)) ≤ list_left (answers (key.List identity))
  list_low identity = go (answers (key.List identity)) refl
    where
      go : (found : Option Said) → answers (key.List identity) ≡ found → list_left (more (key.List identity)) ≤ list_left found
      go None at = list_most (more (key.List identity))
      go (Some here) at = subst (λ found. list_left found ≤ 0) (sym (carries (key.List identity) here at)) (omega arith)

  -- of a look-up
  lookup_low : (url : List ℕ) → lookup_left more (more (key.Identifiers url)) ≤ lookup_left answers (answers (key.Identifiers url))
  lookup_low url = go (answers (key.Identifiers url)) refl
    where
      same : (here : Said) (n : ℕ) → answers (key.Identifiers url) ≡ Some here → lookup_left more (Some here) ≤ n
          → lookup_left more (more (key.Identifiers url)) ≤ n
      same here n at low = subst (λ found. lookup_left more found ≤ n) (sym (carries (key.Identifiers url) here at)) low

      go : (found : Option Said) → answers (key.Identifiers url) ≡ found → lookup_left more (more (key.Identifiers url)) ≤ lookup_left answers found
      go None at = lookup_most more (more (key.Identifiers url))
      go (Some (said.Package (Some identity))) at = same (said.Package (Some identity)) _ at (list_low identity)
      go (Some (said.Package None)) at = same (said.Package None) _ at (omega arith)
      go (Some said.TooMany) at = same said.TooMany _ at (omega arith)
      go (Some (said.Releases releases)) at = same (said.Releases releases) _ at (omega arith)
      go (Some (said.Manifest contents)) at = same (said.Manifest contents) _ at (omega arith)
      go (Some (said.FaultyManifest place kind)) at = same (said.FaultyManifest place kind) _ at (omega arith)
      go (Some said.NoManifest) at = same said.NoManifest _ at (omega arith)
      go (Some said.Nothing) at = same said.Nothing _ at (omega arith)

  -- of a target
  target_low : (target : Target) → target_left more target ≤ target_left answers target
  target_low (Registry identity) = list_low identity
  target_low (Url url) = lookup_low url
  target_low (Local path) = omega arith

  -- of a need
  need_low : (need : Need) → need_left more need ≤ need_left answers need
  need_low need = go (is_looked_up need.requirement)
    where
      go : (b : Bool) → cond b (target_left more need.target) 0 ≤ cond b (target_left answers need.target) 0
      go true = target_low need.target
      go false = omega arith

  -- of needs
  needs_low : (needs : List Need) → needs_left more needs ≤ needs_left answers needs
  needs_low [] = omega arith
  needs_low (need ∷ needs) = omega (arith, need_low need, needs_low needs)

  -- of a list that lacks fewer are left; else what comes after it lacks
  list_falls : (identity : List ℕ) (after : Loading) → read_list answers identity after ≡ Lacks asked
      → (list_left (more (key.List identity)) < list_left (answers (key.List identity))) ⊎ (after ≡ Lacks asked)
  list_falls identity after lacks = go (answers (key.List identity)) lacks
    where
      go : (found : Option Said) → with_list identity found after ≡ Lacks asked
          → (list_left (more (key.List identity)) < list_left found) ⊎ (after ≡ Lacks asked)
      go None is =
          let e : asked ≡ key.List identity = cc in
          inl (subst (λ k. list_left (more k) < 1) e (subst (λ found. list_left found < 1) (sym said_it) (omega arith)))
      go (Some said.TooMany) is = cc
      go (Some (said.Releases releases)) is = inr is
      go (Some (said.Package found)) is = inr is
      go (Some (said.Manifest contents)) is = inr is
      go (Some (said.FaultyManifest place kind)) is = inr is
      go (Some said.NoManifest) is = inr is
      go (Some said.Nothing) is = inr is

  -- a look-up
  lookup_falls : (url : List ℕ) (after : Loading) → with_lookup answers url (answers (key.Identifiers url)) after ≡ Lacks asked
      → (lookup_left more (more (key.Identifiers url)) < lookup_left answers (answers (key.Identifiers url))) ⊎ (after ≡ Lacks asked)
  lookup_falls url after lacks = go (answers (key.Identifiers url)) refl lacks
    where
      go : (found : Option Said) → answers (key.Identifiers url) ≡ found → with_lookup answers url found after ≡ Lacks asked
          → (lookup_left more (more (key.Identifiers url)) < lookup_left answers found) ⊎ (after ≡ Lacks asked)
      go None at is =
          let e : asked ≡ key.Identifiers url = cc in
          let few : lookup_left more (Some it) < 2 = omega (arith, lookup_less more it) in
          inl (subst (λ k. lookup_left more (more k) < 2) e (subst (λ found. lookup_left more found < 2) (sym said_it) few))
      go (Some (said.Package (Some identity))) at is = elim (list_falls identity after is) [
        | inl less ↦
            inl (subst (λ found. lookup_left more found < list_left (answers (key.List identity)))
            (sym (carries (key.Identifiers url) (said.Package (Some identity)) at)) less)
        | inr later ↦ inr later
      ]
      go (Some (said.Package None)) at is = inr is
      go (Some said.TooMany) at is = inr is
      go (Some (said.Releases releases)) at is = inr is
      go (Some (said.Manifest contents)) at is = inr is
      go (Some (said.FaultyManifest place kind)) at is = inr is
      go (Some said.NoManifest) at is = inr is
      go (Some said.Nothing) at is = inr is

  -- a target
  target_falls : (target : Target) (after : Loading) → read_target answers target after ≡ Lacks asked
      → (target_left more target < target_left answers target) ⊎ (after ≡ Lacks asked)
  target_falls (Registry identity) after lacks = list_falls identity after lacks
  target_falls (Url url) after lacks = lookup_falls url after lacks
  target_falls (Local path) after lacks = inr lacks

  -- a need
  need_falls : (need : Need) (after : Loading) → cond (is_looked_up need.requirement) (read_target answers need.target after) after ≡ Lacks asked
      → (need_left more need < need_left answers need) ⊎ (after ≡ Lacks asked)
  need_falls need after lacks = go (is_looked_up need.requirement) lacks
    where
      go : (b : Bool) → cond b (read_target answers need.target after) after ≡ Lacks asked
          → (cond b (target_left more need.target) 0 < cond b (target_left answers need.target) 0) ⊎ (after ≡ Lacks asked)
      go true is = target_falls need.target after is
      go false is = inr is

  -- all needs
  needs_fall : (needs : List Need) (after : Loading) → read_needs answers needs after ≡ Lacks asked
      → (needs_left more needs < needs_left answers needs) ⊎ (after ≡ Lacks asked)
  needs_fall [] after lacks = inr lacks
  needs_fall (need ∷ needs) after lacks = elim (need_falls need (read_needs answers needs after) lacks) [
    | inl less ↦ inl (omega (arith, less, needs_low needs))
    | inr later ↦
        elim (needs_fall needs after later) [
          | inl less ↦ inl (omega (arith, less, need_low need))
          | inr last ↦ inr last
        ]
  ]

  -- what stands behind a manifest
  under_falls : (contents : Contents) (under : Option (List ℕ)) (after : Loading) → read_under answers contents under after ≡ Lacks asked
      → (needs_left more (load_needs under contents) < needs_left answers (load_needs under contents)) ⊎ (after ≡ Lacks asked)
  under_falls contents None after lacks = needs_fall (load_needs None contents) after lacks
  under_falls contents (Some name) after lacks = go (is_declared contents.traits.entries name) lacks
    where
      go : (b : Bool) → cond b (read_needs answers (load_needs (Some name) contents) after) after ≡ Lacks asked
          → (needs_left more (load_needs (Some name) contents) < needs_left answers (load_needs (Some name) contents)) ⊎ (after ≡ Lacks asked)
      go true is = needs_fall (load_needs (Some name) contents) after is
      go false is = inr is

  -- what stands behind a manifest that can be used
  behind_falls : (under : Option (List ℕ)) (contents : Option Contents) (after : Loading) → read_contents answers under contents after ≡ Lacks asked
      → (behind_left more under contents < behind_left answers under contents) ⊎ (after ≡ Lacks asked)
  behind_falls under None after lacks = inr lacks
  behind_falls under (Some contents) after lacks = under_falls contents under after lacks

  -- a version
  version_falls : (job : Job) (under : Option (List ℕ)) (owner : Owner) (version : Option Parts) (after : Loading) → AreFew more
      → read_manifest answers owner version (read_contents answers under (contents_at job (catalogue_by answers) owner version) after) ≡ Lacks asked
      → (after ≡ Lacks asked → ⊥) → version_left job more under owner version < version_left job answers under owner version
  version_falls job under None version after few lacks never = unless_second never (behind_falls under (Some job.root) after lacks)
  version_falls job under (Some identity) None after few lacks never = absurd (never lacks)
  version_falls job under (Some identity) (Some release) after few lacks never = go (answers (key.Manifest identity release)) refl lacks
    where
      go : (found : Option Said) → answers (key.Manifest identity release) ≡ found
          → with_manifest identity release found (read_contents answers under (contents_of job.tools (found_in found)) after) ≡ Lacks asked
          → said_left (more (key.Manifest identity release))
          (behind_left more under (contents_of job.tools (found_in (more (key.Manifest identity release)))))
          < said_left found (behind_left answers under (contents_of job.tools (found_in found)))
      go None at is =
          let e : asked ≡ key.Manifest identity release = cc in
          let here : more (key.Manifest identity release) ≡ Some it = subst (λ k. more k ≡ Some it) e said_it in
          let most = said_most job more under (Some it) (λ contents same. few identity release contents (here ∙ same)) in
          subst (λ found. said_left found (behind_left more under (contents_of job.tools (found_in found))) < most_of_manifest) (sym here)
          (omega (arith, most))
      go (Some here) at is =
          subst (λ found. said_left found (behind_left more under (contents_of job.tools (found_in found)))
          < behind_left answers under (contents_of job.tools (found_in (Some here)))) (sym (carries (key.Manifest identity release) here at))
          (unless_second never (behind_falls under (contents_of job.tools (found_in (Some here))) after is))

  -- a release at a choice stays there
  release_kept : (identity : List ℕ) (choice : ℕ) (release : Parts) → release_at (releases_in (answers (key.List identity))) choice ≡ Some release
      → release_at (releases_in (more (key.List identity))) choice ≡ Some release
  release_kept identity choice release is = go (answers (key.List identity)) refl is
    where
      go : (found : Option Said) → answers (key.List identity) ≡ found → release_at (releases_in found) choice ≡ Some release
          → release_at (releases_in (more (key.List identity))) choice ≡ Some release
      go None at is = absurd (no_release choice release is)
      go (Some here) at is = ap (λ found. release_at (releases_in found) choice) (carries (key.List identity) here at) ∙ is

  -- a load, by its parts
  load_falls : (job : Job) (under : Option (List ℕ)) (owner : Owner) (choice : ℕ) (after : Loading) → AreFew more
      → read_manifest answers owner (version_in (lookups_by answers) owner choice)
      (read_contents answers under (contents_at job (catalogue_by answers) owner (version_in (lookups_by answers) owner choice)) after) ≡ Lacks asked
      → (after ≡ Lacks asked → ⊥)
      → version_left job more under owner (version_in (lookups_by more) owner choice)
      < version_left job answers under owner (version_in (lookups_by answers) owner choice)
  load_falls job under None choice after few lacks never = version_falls job under None None after few lacks never
  load_falls job under (Some identity) choice after few lacks never =
      go (release_at (releases_in (answers (key.List identity))) choice) refl lacks
    where
      go : (version : Option Parts) → release_at (releases_in (answers (key.List identity))) choice ≡ version
          → read_manifest answers (Some identity) version
          (read_contents answers under (contents_at job (catalogue_by answers) (Some identity) version) after) ≡ Lacks asked
          → version_left job more under (Some identity) (release_at (releases_in (more (key.List identity))) choice)
          < version_left job answers under (Some identity) version
      go None at is = absurd (never is)
      go (Some release) at is =
          subst (λ version. version_left job more under (Some identity) version < version_left job answers under (Some identity) (Some release))
          (sym (release_kept identity choice release at)) (version_falls job under (Some identity) (Some release) after few is never)

  -- a load needs fewer keys after the reply that it lacked
  pub keys_fall : (job : Job) (names : List NodeName) (load : Load) → AreFew more → loading job answers names load ≡ Lacks asked
      → keys_left job more load < keys_left job answers load
  keys_fall job names load few lacks =
      load_falls job load.under load.owner load.choice (brings job (catalogue_by answers) names load) few lacks (never_lacks _ _ asked)
