-- What stops a load, and a turn, is what isn't given or says too much.
use Rattle.std.proofs.Common.{◌≡◌, ℕ, ◌+◌, ◌==◌, ◌&&◌, List, [], ◌∷◌, ◌++◌, length, if◌then◌else◌, Option, Some, None, refl}
use Rattle.std.proofs.lemmas.Bool.{cond_both}
use Rattle.pub_facts.specs.Catalogue.{Job, Owner, contents_at, version_in}
use Rattle.pub_facts.specs.Facts.{Load, load_needs}
use Rattle.pub_facts.specs.Numbered.{number_in, numbered}
use Rattle.pub_term.specs.declared.node.NodeName.{NodeName}
use Rattle.pub_trail.specs.Turn.{Conflict, Refutes, Learns, Loaded, Loading, Lacks, Passes, Brings, State, after_conflict, after_load, turn_of, root_place}
use Rattle.pub_trail.specs.declared.trail.Place.{Place}
use Rattle.pub_trail.specs.declared.turned.Wide.TheVariants.{Nodes, Packages}
use Rattle.pub_trail.proofs.TurnLemmas.{turn_cases}
use Rattle.spm_api.specs.Guess.{is_looked_up}
use Rattle.spm_api.specs.declared.replies.Said.{Said}
use Rattle.spm_api.specs.declared.replies.Said.TheVariants as said
use Rattle.spm_key.specs.declared.key.Key.TheVariants as key
use Rattle.spm_manifest.specs.declared.dump.Contents.{Contents}
use Rattle.spm_manifest.specs.declared.need.Need.{Need}
use Rattle.spm_manifest.specs.declared.need.Target.{Target}
use Rattle.spm_manifest.specs.declared.need.Target.TheVariants.{Registry, Url, Local}
use Rattle.spm_trait.specs.Closure.{is_declared}
use Rattle.spm_version.specs.Release.{Parts}
use Rattle.pub_plain.specs.Answers.{Answers, catalogue_by, lookups_by}
use Rattle.pub_plain.specs.Choosing.{Pins}
use Rattle.pub_plain.specs.Loading.{brings, brought, facts_at, is_package, load_at, loading, named_first, package_count, read_contents, read_list, read_manifest, read_needs, read_target, read_under, unless_wide, wide_in, with_list, with_lookup, with_manifest}
use Rattle.pub_plain.specs.Plain.{rules_of}
use Rattle.pub_plain.specs.Stops.{LoadStops, TurnStops}

-- ---- what is read

-- a list
list_stops : (answers : Answers) (identity : List ℕ) (more : Loading) → LoadStops answers more → LoadStops answers (read_list answers identity more)
list_stops answers identity more after = go (answers (key.List identity)) refl
  where
    go : (found : Option Said) → answers (key.List identity) ≡ found → LoadStops answers (with_list identity found more)
    go None at = (at, tt)
    go (Some said.TooMany) at = at
    go (Some (said.Releases releases)) at = after
    go (Some (said.Package other)) at = after
    go (Some (said.Manifest contents)) at = after
    go (Some (said.FaultyManifest place kind)) at = after
    go (Some said.NoManifest) at = after
    go (Some said.Nothing) at = after

-- a look-up, and the list of what it names
lookup_stops : (answers : Answers) (url : List ℕ) (more : Loading) → LoadStops answers more
    → LoadStops answers (with_lookup answers url (answers (key.Identifiers url)) more)
lookup_stops answers url more after = go (λ identity. list_stops answers identity more after) (answers (key.Identifiers url)) refl
  where
    go : ((identity : List ℕ) → LoadStops answers (read_list answers identity more)) → (found : Option Said) → answers (key.Identifiers url) ≡ found
        → LoadStops answers (with_lookup answers url found more)
    go listed None at = (at, tt)
    go listed (Some (said.Package (Some identity))) at = listed identity
    go listed (Some (said.Package None)) at = after
    go listed (Some said.TooMany) at = after
    go listed (Some (said.Releases releases)) at = after
    go listed (Some (said.Manifest contents)) at = after
    go listed (Some (said.FaultyManifest place kind)) at = after
    go listed (Some said.NoManifest) at = after
    go listed (Some said.Nothing) at = after

-- the target of a need
target_stops : (answers : Answers) (target : Target) (more : Loading) → LoadStops answers more → LoadStops answers (read_target answers target more)
target_stops answers (Registry identity) more after = list_stops answers identity more after
target_stops answers (Url url) more after = lookup_stops answers url more after
target_stops answers (Local path) more after = after

-- the needs of a load
needs_stop : (answers : Answers) (needs : List Need) (more : Loading) → LoadStops answers more → LoadStops answers (read_needs answers needs more)
needs_stop answers [] more after = after
needs_stop answers (need ∷ needs) more after =
    let rest = needs_stop answers needs more after in
    cond_both (is_looked_up need.requirement) (read_target answers need.target (read_needs answers needs more)) (read_needs answers needs more)
    (LoadStops answers) (λ _. target_stops answers need.target (read_needs answers needs more) rest) (λ _. rest)

-- what stands behind a manifest
under_stops : (answers : Answers) (contents : Contents) (under : Option (List ℕ)) (more : Loading) → LoadStops answers more
    → LoadStops answers (read_under answers contents under more)
under_stops answers contents None more after = needs_stop answers (load_needs None contents) more after
under_stops answers contents (Some name) more after =
    cond_both (is_declared contents.traits.entries name) (read_needs answers (load_needs (Some name) contents) more) more (LoadStops answers)
    (λ _. needs_stop answers (load_needs (Some name) contents) more after) (λ _. after)

contents_stop : (answers : Answers) (under : Option (List ℕ)) (contents : Option Contents) (more : Loading) → LoadStops answers more
    → LoadStops answers (read_contents answers under contents more)
contents_stop answers under None more after = after
contents_stop answers under (Some contents) more after = under_stops answers contents under more after

-- a manifest
manifest_stops : (answers : Answers) (owner : Owner) (version : Option Parts) (more : Loading) → LoadStops answers more
    → LoadStops answers (read_manifest answers owner version more)
manifest_stops answers None version more after = after
manifest_stops answers (Some identity) None more after = after
manifest_stops answers (Some identity) (Some release) more after = go (answers (key.Manifest identity release)) refl
  where
    go : (found : Option Said) → answers (key.Manifest identity release) ≡ found → LoadStops answers (with_manifest identity release found more)
    go None at = (at, tt)
    go (Some it) at = after

-- ---- limits

-- names pass limits of packages and of nodes alone
wide_stops : (answers : Answers) (nodes packages : ℕ) (names : List NodeName) (loaded : Loaded)
    → LoadStops answers (unless_wide (wide_in nodes packages names) loaded)
wide_stops answers nodes packages [] loaded = tt
wide_stops answers nodes packages (name ∷ names) loaded =
    cond_both (is_package name && packages == 1024) (Some Packages)
    (if nodes == 4096 then Some Nodes else wide_in (nodes + 1) (if is_package name then packages + 1 else packages) names)
    (λ wide. LoadStops answers (unless_wide wide loaded)) (λ _. tt)
    (λ _.
    cond_both (nodes == 4096) (Some Nodes) (wide_in (nodes + 1) (if is_package name then packages + 1 else packages) names)
    (λ wide. LoadStops answers (unless_wide wide loaded)) (λ _. tt)
    (λ _. wide_stops answers (nodes + 1) (if is_package name then packages + 1 else packages) names loaded))

-- ---- loads and turns

-- a load stops for what isn't given, or says too much
pub load_stops : (job : Job) (answers : Answers) (names : List NodeName) (load : Load) → LoadStops answers (loading job answers names load)
load_stops job answers names load =
    let version = version_in (lookups_by answers) load.owner load.choice in
    let c = catalogue_by answers in
    let contents = contents_at job c load.owner version in
    let more = brings job c names load in
    manifest_stops answers load.owner version (read_contents answers load.under contents more)
    (contents_stop answers load.under contents more (wide_stops answers (length names) (package_count names) (named_first job c names load)
    (brought c.lookups (named_first job c names load) (numbered (number_in (names ++ named_first job c names load)) (facts_at job c load)))))

-- and so does a turn that loads
after_stops : (answers : Answers) (state : State) (place : Place) (brought_to : Loading) → LoadStops answers brought_to
    → TurnStops answers (after_load state place brought_to)
after_stops answers state place (Lacks asked) stops = stops
after_stops answers state place (Passes wide) stops = stops
after_stops answers state place (Brings loaded) stops = tt

-- a conflict needs nothing
conflict_stops : (answers : Answers) (state : State) (first : ℕ) (outcome : Conflict) → TurnStops answers (after_conflict state first outcome)
conflict_stops answers state first (Refutes terms steps) = tt
conflict_stops answers state first (Learns terms steps level) = tt

-- each turn
pub turn_stops : (job : Job) (pins : Pins) (answers : Answers) (state : State) → TurnStops answers (turn_of (rules_of job pins answers) state)
turn_stops job pins answers state = turn_cases (rules_of job pins answers) state (TurnStops answers) (record {
  loads_root = λ other. after_stops answers state root_place (loading job answers state.names (load_at state.names root_place))
      (load_stops job answers state.names (load_at state.names root_place));
  loads = λ next settled at other. after_stops answers state next.place (loading job answers state.names (load_at state.names next.place))
      (load_stops job answers state.names (load_at state.names next.place));
  conflicts = λ number found. conflict_stops answers state number _;
  forces = λ forced quiet found. tt;
  decides = λ next settled at loaded. tt;
  selects = λ settled at. tt;
})
