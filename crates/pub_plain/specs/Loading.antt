-- A load over what is said of keys: the keys that it reads one after another, up to the first that isn't given or the first list that
-- is too long; the nodes that it names and its facts; and the limits of what may be named.
use Rattle.std.specs.Prelude.{ℕ, ◌+◌, ◌==◌, ◌&&◌, List, [], ◌∷◌, ◌++◌, map, length, get_or, is_some, Bool, true, false, Option, Some, None, if◌then◌else◌}
use Rattle.std.specs.List.{filter}
use Rattle.pub_facts.specs.Catalogue.{Catalogue, Job, Lookups, Owner, contents_at, release_at, version_in}
use Rattle.pub_facts.specs.Facts.{Load, facts_of, load_needs, load_of}
use Rattle.pub_facts.specs.Numbered.{new_names, number_in, numbered, sizes_of, written_nodes}
use Rattle.pub_facts.specs.declared.fact.Fact.{Fact}
use Rattle.pub_term.specs.declared.cause.Cause.{Cause}
use Rattle.pub_term.specs.declared.node.NodeName.{NodeName}
use Rattle.pub_term.specs.declared.node.NodeName.TheVariants.{Root, RootTrait, Package, PackageTrait}
use Rattle.pub_term.specs.declared.term.Incompat.{Incompat}
use Rattle.pub_term.specs.declared.term.Term.{Term}
use Rattle.pub_trail.specs.Turn.{Loaded, Loading, Brings, Lacks, Passes}
use Rattle.pub_trail.specs.declared.trail.Place.{Place}
use Rattle.pub_trail.specs.declared.turned.Wide.{Wide}
use Rattle.pub_trail.specs.declared.turned.Wide.TheVariants.{Nodes, Packages, Versions}
use Rattle.spm_api.specs.Guess.{is_looked_up}
use Rattle.spm_api.specs.declared.replies.Said.{Said}
use Rattle.spm_api.specs.declared.replies.Said.TheVariants as said
use Rattle.spm_key.specs.declared.key.Key.TheVariants as key
use Rattle.spm_manifest.specs.declared.dump.Contents.{Contents}
use Rattle.spm_manifest.specs.declared.need.Need.{Need}
use Rattle.spm_manifest.specs.declared.need.Target.{Target}
use Rattle.spm_manifest.specs.declared.need.Target.TheVariants.{Registry, Url, Local}
use Rattle.spm_trait.specs.Closure.{is_declared}
use Rattle.spm_version.specs.Release.{Parts}
use Rattle.pub_plain.specs.Answers.{Answers, catalogue_by, lookups_by}

-- ---- what is read; `more` is what comes once it is read

abbrev pub with_list : List ℕ → Option Said → Loading → Loading
with_list identity None more = Lacks (key.List identity)
with_list identity (Some said.TooMany) more = Passes (Versions identity)
with_list identity (Some other) more = more

abbrev pub read_list : Answers → List ℕ → Loading → Loading
read_list answers identity more = with_list identity (answers (key.List identity)) more

-- a look-up, and the list of the package that it names
abbrev pub with_lookup : Answers → List ℕ → Option Said → Loading → Loading
with_lookup answers url None more = Lacks (key.Identifiers url)
with_lookup answers url (Some (said.Package (Some identity))) more = read_list answers identity more
with_lookup answers url (Some other) more = more

abbrev pub read_target : Answers → Target → Loading → Loading
read_target answers (Registry identity) more = read_list answers identity more
read_target answers (Url url) more = with_lookup answers url (answers (key.Identifiers url)) more
read_target answers (Local path) more = more

-- of a need for a range or for one version
abbrev pub read_need : Answers → Need → Loading → Loading
read_need answers need more = if is_looked_up need.requirement then read_target answers need.target more else more

abbrev pub read_needs : Answers → List Need → Loading → Loading
read_needs answers [] more = more
read_needs answers (need ∷ needs) more = read_need answers need (read_needs answers needs more)

-- the needs of the load; a trait that isn't declared reads nothing
abbrev pub read_under : Answers → Contents → Option (List ℕ) → Loading → Loading
read_under answers contents None more = read_needs answers (load_needs None contents) more
read_under answers contents (Some name) more =
    if is_declared contents.traits.entries name then read_needs answers (load_needs (Some name) contents) more else more

-- a version that can't be used reads nothing behind its manifest
abbrev pub read_contents : Answers → Option (List ℕ) → Option Contents → Loading → Loading
read_contents answers under None more = more
read_contents answers under (Some contents) more = read_under answers contents under more

abbrev pub with_manifest : List ℕ → Parts → Option Said → Loading → Loading
with_manifest identity release None more = Lacks (key.Manifest identity release)
with_manifest identity release (Some said) more = more

-- the manifest of a package's version; the root has its own
abbrev pub read_manifest : Answers → Owner → Option Parts → Loading → Loading
read_manifest answers None version more = more
read_manifest answers (Some identity) None more = more
read_manifest answers (Some identity) (Some release) more = with_manifest identity release (answers (key.Manifest identity release)) more

-- ---- what is named

abbrev pub is_package : NodeName → Bool
is_package Root = false
is_package (RootTrait name) = false
is_package (Package identity) = true
is_package (PackageTrait identity name) = false

abbrev pub package_count : List NodeName → ℕ
package_count names = length (filter is_package names)

-- the first limit that the new names pass, after so many nodes and so many packages: 4,096 nodes, and 1,024 packages beside the root
abbrev pub wide_in : ℕ → ℕ → List NodeName → Option Wide
wide_in nodes packages [] = None
wide_in nodes packages (name ∷ names) =
    if is_package name && packages == 1024 then Some Packages
    else if nodes == 4096 then Some Nodes
    else wide_in (nodes + 1) (if is_package name then packages + 1 else packages) names

-- ---- the load

abbrev pub name_at : List NodeName → ℕ → NodeName
name_at names number = get_or names number Root

abbrev pub load_at : List NodeName → Place → Load
load_at names place = load_of (name_at names place.node) place.choice

-- the root and its traits are loaded at the choice 1, a package and its traits at one of its releases
abbrev pub is_there : Lookups → Owner → ℕ → Bool
is_there l None choice = choice == 1
is_there l (Some identity) choice = is_some (release_at (l.list identity) choice)

-- a trait is loaded where its owner can be used
abbrev pub is_usable_under : Option (List ℕ) → Option Contents → Bool
is_usable_under None contents = true
is_usable_under (Some name) None = false
is_usable_under (Some name) (Some contents) = true

abbrev pub is_loadable : Job → Catalogue → Load → Bool
is_loadable job c load =
    is_there c.lookups load.owner load.choice
    && is_usable_under load.under (contents_at job c load.owner (version_in c.lookups load.owner load.choice))

-- the facts that a load brings; a load out of range, or of a trait whose owner can't be used, has none, and no solver comes to one
abbrev pub facts_at : Job → Catalogue → Load → List Fact
facts_at job c load = if is_loadable job c load then facts_of job c load else []

-- the nodes that the load names first
abbrev pub named_first : Job → Catalogue → List NodeName → Load → List NodeName
named_first job c names load = new_names names (written_nodes (facts_at job c load))

abbrev pub terms_of : Incompat × Cause → List Term
terms_of fact = fact.0.terms

abbrev pub cause_of : Incompat × Cause → Cause
cause_of fact = fact.1

-- what it brings, where these are its new names and its facts by number
abbrev pub brought : Lookups → List NodeName → List (Incompat × Cause) → Loaded
brought l new facts = record { names = new; sizes = sizes_of l new; facts = map terms_of facts; causes = map cause_of facts }

abbrev pub unless_wide : Option Wide → Loaded → Loading
unless_wide (Some wide) loaded = Passes wide
unless_wide None loaded = Brings loaded

abbrev pub brings : Job → Catalogue → List NodeName → Load → Loading
brings job c names load =
    unless_wide (wide_in (length names) (package_count names) (named_first job c names load))
    (brought c.lookups (named_first job c names load) (numbered (number_in (names ++ named_first job c names load)) (facts_at job c load)))

abbrev pub loading_at : Job → Answers → List NodeName → Load → Option Parts → Loading
loading_at job answers names load version =
    read_manifest answers load.owner version
    (read_contents answers load.under (contents_at job (catalogue_by answers) load.owner version) (brings job (catalogue_by answers) names load))

-- what a load comes to
abbrev pub loading : Job → Answers → List NodeName → Load → Loading
loading job answers names load = loading_at job answers names load (version_in (lookups_by answers) load.owner load.choice)
