-- The facts that a load brings, as they are written: nodes by their names, and two terms may be on one node.
use Rattle.std.specs.Str.{bytes_eq}
use Rattle.std.specs.Prelude.{ℕ, suc, List, [], ◌∷◌, ◌++◌, map, length, Bool, false, not, Option, Some, None, if◌then◌else◌}
use Rattle.std.specs.List.{filter, flat_map, list_all}
use Rattle.pub_set.specs.Choices.{choices_of, has, set_where}
use Rattle.pub_term.specs.Node.{package_of, trait_of}
use Rattle.pub_term.specs.declared.node.NodeName.{NodeName}
use Rattle.pub_term.specs.declared.node.NodeName.TheVariants.{Root, RootTrait, Package, PackageTrait}
use Rattle.pub_term.specs.declared.cause.Cause.{Cause}
use Rattle.pub_term.specs.declared.cause.Cause.TheVariants.{Requires, Asks, WordsAsk, Enables, NoTrait, NoManifest, Unreadable, Tools, Unversioned, UnknownUrl}
use Rattle.pub_term.specs.declared.cause.Subject.{Subject}
use Rattle.spm_manifest.specs.declared.dump.Contents.{Contents}
use Rattle.spm_manifest.specs.declared.need.Ask.{Ask}
use Rattle.spm_manifest.specs.declared.need.Need.{Need}
use Rattle.spm_manifest.specs.declared.need.Target.{Target}
use Rattle.spm_manifest.specs.declared.need.Target.TheVariants.{Registry, Url, Local}
use Rattle.spm_trait.specs.Closure.{enabled_by, is_declared}
use Rattle.spm_version.specs.Release.{Parts}
use Rattle.spm_version.specs.Requirement.{contains}
use Rattle.spm_version.specs.declared.requirement.Requirement.{Requirement}
use Rattle.spm_version.specs.declared.requirement.Requirement.TheVariants.{Exact, Range, Branch, Revision, Path}
use Rattle.pub_facts.specs.declared.fact.Fact.{Fact}
use Rattle.pub_facts.specs.declared.fact.Written.{Written}
use Rattle.pub_facts.specs.Catalogue.{
  Catalogue,
  Faulty,
  Found,
  Gone,
  Job,
  Lookups,
  Owner,
  Read,
  contents_at,
  is_always,
  is_guarded_by,
  release_at,
  target_of,
  version_in,
}

-- a node with a choice: the root or a package, or a trait of theirs at the owner's choice
pub record Load : Type 0 where
  pub owner : Owner
  pub choice : ℕ
  -- the trait
  pub under : Option (List ℕ)

abbrev pub load_of : NodeName → ℕ → Load
load_of node choice = record { owner = package_of node; choice = choice; under = trait_of node }

-- the nodes of an owner and of its traits
abbrev pub owner_node : Owner → NodeName
owner_node None = Root
owner_node (Some identity) = Package identity

abbrev pub trait_node : Owner → List ℕ → NodeName
trait_node None name = RootTrait name
trait_node (Some identity) name = PackageTrait identity name

-- how many choices a node has: the root `none` and `chosen`, a trait `off` and `on`, a package `none` and its releases
abbrev pub size_of : Lookups → NodeName → ℕ
size_of l Root = 2
size_of l (RootTrait name) = 2
size_of l (Package identity) = suc (length (l.list identity))
size_of l (PackageTrait identity name) = 2

-- ---- terms

-- the node has this one choice
abbrev pub only : Lookups → NodeName → ℕ → Written
only l node choice = record { node = node; choices = choices_of (size_of l node) (choice ∷ []) }

-- a trait of the owner is on, or off
abbrev pub switched : Owner → List ℕ → ℕ → Written
switched owner name choice = record { node = trait_node owner name; choices = choices_of 2 (choice ∷ []) }

abbrev pub on : Owner → List ℕ → Written
on owner name = switched owner name 1

abbrev pub off : Owner → List ℕ → Written
off owner name = switched owner name 0

-- there is a release, and it is contained
abbrev pub is_inside : Requirement → Option Parts → Bool
is_inside requirement None = false
is_inside requirement (Some release) = contains requirement release

-- none, or a release that is not contained
abbrev pub outside : Lookups → List ℕ → Requirement → Written
outside l identity requirement = record {
  node = Package identity;
  choices = set_where (size_of l (Package identity)) (λ k. not (is_inside requirement (release_at (l.list identity) k)));
}

abbrev pub under_terms : Owner → Option (List ℕ) → List Written
under_terms owner None = []
under_terms owner (Some name) = on owner name ∷ []

-- that the load's node has its choice
abbrev pub subject_terms : Lookups → Load → List Written
subject_terms l load = only l (owner_node load.owner) load.choice ∷ under_terms load.owner load.under

-- ---- causes

-- the package and its version, which the root doesn't have
abbrev pub named_owner : Owner → Option Parts → Option (List ℕ × Parts)
named_owner None version = None
named_owner (Some identity) None = None
named_owner (Some identity) (Some release) = Some (identity, release)

-- the traits behind the subject: the load's, and the condition of what is asked, if it is another
abbrev pub under_names : Option (List ℕ) → List (List ℕ)
under_names None = []
under_names (Some name) = name ∷ []

abbrev pub under_both : Option (List ℕ) → List ℕ → List (List ℕ)
under_both None condition = condition ∷ []
under_both (Some name) condition = if bytes_eq name condition then name ∷ [] else name ∷ condition ∷ []

-- the load's owner with these traits
abbrev pub subject_of : Lookups → Load → List (List ℕ) → Subject
subject_of l load under = record { owner = named_owner load.owner (version_in l load.owner load.choice); under = under }

-- the URL or the path
abbrev pub place_text : Target → List ℕ
place_text (Registry identity) = identity
place_text (Url url) = url
place_text (Local path) = path

-- why a need is on no known package
abbrev pub unmet_cause : Subject → Requirement → Target → Cause
unmet_cause subject (Exact release) target = UnknownUrl subject (place_text target)
unmet_cause subject (Range low high) target = UnknownUrl subject (place_text target)
unmet_cause subject (Branch name) target = Unversioned subject (Branch name) (place_text target)
unmet_cause subject (Revision name) target = Unversioned subject (Revision name) (place_text target)
unmet_cause subject Path target = Unversioned subject Path (place_text target)

-- why a version can't be used
abbrev pub trouble : Subject → Found → Cause
trouble subject Gone = NoManifest subject
trouble subject (Faulty place kind) = Unreadable subject place kind
trouble subject (Read contents) = Tools subject contents.tools

-- ---- facts: what stands behind the subject in each fact of a load

-- terms with their cause
abbrev pub fact : List Written → Cause → Fact
fact terms cause = record { terms = terms; cause = cause }

-- a trait that is asked of a package always, and one that is asked under a condition
abbrev pub asked_always : Lookups → Load → List ℕ → List ℕ → Fact
asked_always l load target name = fact (off (Some target) name ∷ []) (Asks (subject_of l load (under_names load.under)) target name)

abbrev pub asked_under : Lookups → Load → List ℕ → List ℕ → List ℕ → Fact
asked_under l load target name condition =
    fact (on load.owner condition ∷ off (Some target) name ∷ []) (Asks (subject_of l load (under_both load.under condition)) target name)

-- what is asked of a package: always where there are no conditions, else under each of them
abbrev pub asks_of : Lookups → Load → List ℕ → List ℕ → List (List ℕ) → List Fact
asks_of l load target name [] = asked_always l load target name ∷ []
asks_of l load target name (condition ∷ conditions) = map (asked_under l load target name) (condition ∷ conditions)

-- a package is at a version that is contained
abbrev pub required : Lookups → Load → List ℕ → Requirement → Fact
required l load target requirement =
    fact (outside l target requirement ∷ []) (Requires (subject_of l load (under_names load.under)) target requirement)

-- a need of the load: the package is at a version that is contained, and has the traits that are asked
abbrev pub need_clauses_on : Lookups → Load → Need → Option (List ℕ) → List Fact
need_clauses_on l load need None =
    fact [] (unmet_cause (subject_of l load (under_names load.under)) need.requirement need.target) ∷ []
need_clauses_on l load need (Some target) =
    required l load target need.requirement ∷ flat_map (λ (ask : Ask). asks_of l load target ask.name ask.under) need.asked

abbrev pub need_clauses : Lookups → Load → Need → List Fact
need_clauses l load need = need_clauses_on l load need (target_of l need)

-- what the words ask of the root
abbrev pub words_ask : List ℕ → Fact
words_ask name = fact (off None name ∷ []) (WordsAsk name)

abbrev pub words_clauses : List (List ℕ) → Owner → List Fact
words_clauses asked None = map words_ask asked
words_clauses asked (Some identity) = []

-- a trait enables another
abbrev pub enables : Lookups → Load → List ℕ → Fact
enables l load other = fact (off load.owner other ∷ []) (Enables (subject_of l load (under_names load.under)) other)

abbrev pub trait_clauses : Lookups → Load → Contents → List ℕ → List Fact
trait_clauses l load contents name = map (enables l load) (enabled_by contents.traits.entries name)

-- the needs of a load: those that are always in force, and of a trait those whose guard names it
abbrev pub is_of : Option (List ℕ) → Need → Bool
is_of None need = is_always need.guard
is_of (Some name) need = is_guarded_by name need.guard

abbrev pub load_needs : Option (List ℕ) → Contents → List Need
load_needs under contents = filter (is_of under) contents.needs

abbrev pub needs_clauses : Lookups → Load → Contents → Option (List ℕ) → List Fact
needs_clauses l load contents under = flat_map (need_clauses l load) (load_needs under contents)

abbrev pub clauses_under : List (List ℕ) → Lookups → Load → Contents → Option (List ℕ) → List Fact
clauses_under asked l load contents None = words_clauses asked load.owner ++ needs_clauses l load contents None
clauses_under asked l load contents (Some name) =
    if is_declared contents.traits.entries name then trait_clauses l load contents name ++ needs_clauses l load contents (Some name)
    else fact [] (NoTrait (subject_of l load (under_names load.under))) ∷ []

-- by the contents of the load's owner
abbrev pub clauses_in : List (List ℕ) → Lookups → Load → Contents → List Fact
clauses_in asked l load contents = clauses_under asked l load contents load.under

-- each fact of a load has the subject's terms, and what stands behind them
abbrev pub behind : Lookups → Load → Fact → Fact
behind l load clause = record { terms = subject_terms l load ++ clause.terms; cause = clause.cause }

-- the facts of a load whose owner can be used
abbrev pub facts_in : List (List ℕ) → Lookups → Load → Contents → List Fact
facts_in asked l load contents = map (behind l load) (clauses_in asked l load contents)

-- the facts of a need, and of what is asked of a package, with the subject
abbrev pub need_behind : Lookups → Load → Need → List Fact
need_behind l load need = map (behind l load) (need_clauses l load need)

abbrev pub asks_behind : Lookups → Load → List ℕ → Ask → List Fact
asks_behind l load target ask = map (behind l load) (asks_of l load target ask.name ask.under)

-- the one fact of a load whose owner can't be used
abbrev pub unusable_fact : Lookups → Load → Cause → Fact
unusable_fact l load cause = record { terms = subject_terms l load; cause = cause }

-- ---- the facts of a load over a catalogue

abbrev pub found_at : Catalogue → Owner → Option Parts → Found
found_at c None version = Gone
found_at c (Some identity) None = Gone
found_at c (Some identity) (Some release) = c.found identity release

abbrev pub clauses_with : Job → Catalogue → Load → Option Contents → List Fact
clauses_with job c load None =
    fact [] (trouble (subject_of c.lookups load (under_names load.under)) (found_at c load.owner (version_in c.lookups load.owner load.choice))) ∷ []
clauses_with job c load (Some contents) = clauses_in job.asked c.lookups load contents

abbrev pub clauses_of : Job → Catalogue → Load → List Fact
clauses_of job c load = clauses_with job c load (contents_at job c load.owner (version_in c.lookups load.owner load.choice))

abbrev pub facts_of : Job → Catalogue → Load → List Fact
facts_of job c load = map (behind c.lookups load) (clauses_of job c load)

-- ---- assignments

-- the assignment's choices are in all the terms' sets
abbrev pub violates : (NodeName → ℕ) → List Written → Bool
violates at terms = list_all (λ term. has term.choices (at term.node)) terms
