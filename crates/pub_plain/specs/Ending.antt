-- A number that falls at each turn that goes on and at each reply that a turn needs, so that a resolution ends: how many turns are left at
-- most, and how many keys the load that is due may still need.
use Rattle.std.specs.Prelude.{◌≡◌, ◌≤◌, ℕ, ◌+◌, ◌-◌, ◌*◌, ◌^◌, List, [], ◌∷◌, length, not, Option, Some, None, if◌then◌else◌}
use Rattle.pub_facts.specs.Catalogue.{Job, Owner, contents_at, version_in}
use Rattle.pub_facts.specs.Facts.{Load, load_needs}
use Rattle.pub_term.specs.declared.node.NodeName.{NodeName}
use Rattle.pub_trail.specs.Invariant.{Limits}
use Rattle.pub_trail.specs.Measure.{AreLoads, is_busy, measure_of}
use Rattle.pub_trail.specs.Turn.{Next, Rules, State, is_loaded, root_place}
use Rattle.pub_trail.specs.declared.trail.Place.{Place}
use Rattle.spm_api.specs.Guess.{is_looked_up}
use Rattle.spm_api.specs.declared.replies.Said.{Said}
use Rattle.spm_api.specs.declared.replies.Said.TheVariants as said
use Rattle.spm_key.specs.declared.key.Key.TheVariants as key
use Rattle.spm_manifest.specs.Dependency.{max_dependencies}
use Rattle.spm_manifest.specs.declared.dump.Contents.{Contents}
use Rattle.spm_manifest.specs.declared.need.Need.{Need}
use Rattle.spm_manifest.specs.declared.need.Target.{Target}
use Rattle.spm_manifest.specs.declared.need.Target.TheVariants.{Registry, Url, Local}
use Rattle.spm_version.specs.Release.{Parts}
use Rattle.pub_plain.specs.Answers.{Answers, catalogue_by, lookups_by}
use Rattle.pub_plain.specs.Invariant.{IsSolver}
use Rattle.pub_plain.specs.Loading.{load_at}
use Rattle.pub_plain.specs.Plain.{plain_limits}
use Rattle.pub_plain.specs.Solver.{Solver, answers_now, rules_now}

-- ---- the load that is due

-- the place of the next node, if it isn't loaded
abbrev pub unloaded : State → Option Next → Option Place
unloaded state None = None
unloaded state (Some next) = if is_loaded state next.place then None else Some next.place

-- the root's place comes first; where something holds or is almost satisfied nothing is loaded
abbrev pub due_by : State → Option Next → Option Place
due_by state next =
    if not (is_loaded state root_place) then Some root_place
    else if is_busy state then None
    else unloaded state next

-- the place that the next turn loads
abbrev pub due : Rules → State → Option Place
due rules state = due_by state (rules.next state)

-- ---- the keys that a load may still need

-- of a list
abbrev pub list_left : Option Said → ℕ
list_left None = 1
list_left (Some it) = 0

-- of a look-up and the list of the package that it names
abbrev pub lookup_left : Answers → Option Said → ℕ
lookup_left answers None = 2
lookup_left answers (Some (said.Package (Some identity))) = list_left (answers (key.List identity))
lookup_left answers (Some other) = 0

-- of a target
abbrev pub target_left : Answers → Target → ℕ
target_left answers (Registry identity) = list_left (answers (key.List identity))
target_left answers (Url url) = lookup_left answers (answers (key.Identifiers url))
target_left answers (Local path) = 0

-- of a need for a range or for one version
abbrev pub need_left : Answers → Need → ℕ
need_left answers need = if is_looked_up need.requirement then target_left answers need.target else 0

-- of needs
abbrev pub needs_left : Answers → List Need → ℕ
needs_left answers [] = 0
needs_left answers (need ∷ needs) = need_left answers need + needs_left answers needs

-- of what stands behind a manifest
abbrev pub behind_left : Answers → Option (List ℕ) → Option Contents → ℕ
behind_left answers under None = 0
behind_left answers under (Some contents) = needs_left answers (load_needs under contents)

-- a manifest that isn't given, with two keys for each need that it may have
abbrev pub most_of_manifest : ℕ
most_of_manifest = 2 * max_dependencies + 1

-- by what is said of the manifest
abbrev pub said_left : Option Said → ℕ → ℕ
said_left None more = most_of_manifest
said_left (Some it) more = more

-- of the manifest of a package's version, and then so many more; the root has its own
abbrev pub manifest_left : Answers → Owner → Option Parts → ℕ → ℕ
manifest_left answers None version more = more
manifest_left answers (Some identity) None more = more
manifest_left answers (Some identity) (Some release) more = said_left (answers (key.Manifest identity release)) more

-- of a version: its manifest, and what stands behind it
abbrev pub version_left : Job → Answers → Option (List ℕ) → Owner → Option Parts → ℕ
version_left job answers under owner version =
    manifest_left answers owner version (behind_left answers under (contents_at job (catalogue_by answers) owner version))

-- how many keys a load may still need
abbrev pub keys_left : Job → Answers → Load → ℕ
keys_left job answers load = version_left job answers load.under load.owner (version_in (lookups_by answers) load.owner load.choice)

-- none where no load is due
abbrev pub keys_due : Job → Answers → List NodeName → Option Place → ℕ
keys_due job answers names None = 0
keys_due job answers names (Some place) = keys_left job answers (load_at names place)

-- no load may need more: the root's own needs, or a manifest and its needs
abbrev pub most_keys : Job → ℕ
most_keys job = 2 * length job.root.needs + most_of_manifest

-- no manifest that is given has more than 512 dependencies
abbrev pub AreFew : Answers → Type 0
AreFew answers = (identity : List ℕ) (release : Parts) (contents : Contents) → answers (key.Manifest identity release) ≡ Some (said.Manifest contents)
    → length contents.needs ≤ max_dependencies

-- ---- the turns that are left

-- the measure of each state within the limits is at most this
unfoldable pub most_measure : Limits → ℕ
most_measure limits = (2 * (limits.nodes * limits.choices) + 3) ^ (limits.nodes + 1)

-- at most how many turns are left: between two loads at most as many as the measure says
unfoldable pub turns_left : Limits → State → ℕ
turns_left limits state = (limits.nodes * limits.choices - length state.loads) * (most_measure limits + 1) + measure_of state

-- ---- of a solver

-- what a solver is at each moment, and its loads are different and within the limits
pub record IsRunning (answers : Answers) (state : State) : Type 0 where
  pub solver : IsSolver answers state
  pub loads : AreLoads plain_limits state.loads

-- the number that falls
unfoldable pub steps_left : Solver → ℕ
steps_left solver =
    turns_left plain_limits solver.state * (most_keys solver.job + 1)
    + keys_due solver.job (answers_now solver) solver.state.names (due (rules_now solver) solver.state)
