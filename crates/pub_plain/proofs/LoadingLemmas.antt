-- What a load brings, by whether its owner can be used.
use Rattle.std.proofs.Common.{◌≡◌, ℕ, ◌&&◌, Bool, true, false, List, [], ◌∷◌, map, Option, Some, None, refl, sym, ap, ap₂, ◌∙◌, eq-eqb}
use Rattle.std.proofs.lemmas.Bool.{cond-false, cond-true}
use Rattle.std.proofs.lemmas.Map.Views.{list_any-from_Contains}
use Rattle.std.specs.List.{cons_option, list_any}
use Rattle.std.specs.Prelude.{Contains, is_some}
use Rattle.pub_facts.specs.Catalogue.{Lookups, Owner, contents_at}
use Rattle.pub_facts.specs.Facts.{Load, behind, clauses_with, facts_in, facts_of, load_of, unusable_fact}
use Rattle.pub_facts.specs.Known.{IsInRange, IsThere, lookups_of}
use Rattle.pub_facts.specs.Numbered.{caused_of, new_names, number_in, numbered, written_nodes}
use Rattle.pub_term.specs.Node.{trait_of}
use Rattle.pub_term.specs.NodeLaws.{node_eq, node_equiv}
use Rattle.pub_term.specs.declared.cause.Cause.{Cause}
use Rattle.pub_term.specs.declared.node.NodeName.{NodeName}
use Rattle.pub_term.specs.declared.node.NodeName.TheVariants.{Root, RootTrait, Package, PackageTrait}
use Rattle.pub_term.specs.declared.term.Incompat.{Incompat}
use Rattle.spm_manifest.specs.declared.dump.Contents.{Contents}
use Rattle.pub_plain.specs.Answers.{lookups_by}
use Rattle.pub_plain.specs.Loading.{facts_at, is_loadable, is_there, is_usable_under, named_first}
use Rattle.pub_plain.specs.Told.{answers_to, catalogue_of, job_of, load_trouble, load_version}
use Rattle.pub_plain.specs.declared.told.Told.{Told}
use Rattle.pub_plain.proofs.ToldLemmas.{lookups_told}

-- a load in range is one
pub there_is : (l : Lookups) (owner : Owner) (choice : ℕ) → IsThere l owner choice → is_there l owner choice ≡ true
there_is l None choice is = eq-eqb choice 1 is
there_is l (Some identity) choice is = ap is_some is.1

told_there : (told : Told) (load : Load) → IsInRange (lookups_of told.known) load → is_there (lookups_by (answers_to told)) load.owner load.choice ≡ true
told_there told load there =
    ap (λ l. is_there l load.owner load.choice) (lookups_told told) ∙ there_is (lookups_of told.known) load.owner load.choice there

usable_some : (under : Option (List ℕ)) (contents : Contents) → is_usable_under under (Some contents) ≡ true
usable_some None contents = refl
usable_some (Some name) contents = refl

-- the facts of a load whose owner can be used
pub usable_facts : (told : Told) (load : Load) (contents : Contents) → IsInRange (lookups_of told.known) load
    → contents_at (job_of told) (catalogue_of told) load.owner (load_version told load) ≡ Some contents
    → facts_at (job_of told) (catalogue_of told) load ≡ facts_in told.known.asked (lookups_of told.known) load contents
usable_facts told load contents there is =
    let job = job_of told in
    let c = catalogue_of told in
    cond-true (is_loadable job c load) (facts_of job c load) []
    (ap₂ (λ a b. a && b) (told_there told load there) (ap (is_usable_under load.under) is ∙ usable_some load.under contents))
    ∙ ap (λ found. map (behind (lookups_by (answers_to told)) load) (clauses_with job c load found)) is
    ∙ ap (λ l. facts_in told.known.asked l load contents) (lookups_told told)

-- the one fact of a package's version that can't be used
pub trouble_fact : (told : Told) (identity : List ℕ) (choice : ℕ) → IsInRange (lookups_of told.known) (load_of (Package identity) choice)
    → contents_at (job_of told) (catalogue_of told) (Some identity) (load_version told (load_of (Package identity) choice)) ≡ None
    → facts_at (job_of told) (catalogue_of told) (load_of (Package identity) choice)
    ≡ unusable_fact (lookups_of told.known) (load_of (Package identity) choice) (load_trouble told (load_of (Package identity) choice)) ∷ []
trouble_fact told identity choice there is =
    let load = load_of (Package identity) choice in
    let job = job_of told in
    let c = catalogue_of told in
    cond-true (is_loadable job c load) (facts_of job c load) []
    (ap₂ (λ a b. a && b) (told_there told load there) refl)
    ∙ ap (λ found. map (behind (lookups_by (answers_to told)) load) (clauses_with job c load found)) is
    ∙ ap (λ l. unusable_fact l load (load_trouble told load) ∷ []) (lookups_told told)

-- a trait of it brings nothing
pub trait_brings_nothing : (told : Told) (load : Load) (name : List ℕ) → load.under ≡ Some name
    → contents_at (job_of told) (catalogue_of told) load.owner (load_version told load) ≡ None → facts_at (job_of told) (catalogue_of told) load ≡ []
trait_brings_nothing told load name under is =
    let job = job_of told in
    let c = catalogue_of told in
    cond-false (is_loadable job c load) (facts_of job c load) []
    (ap₂ (λ (u : Option (List ℕ)) (found : Option Contents). is_there c.lookups load.owner load.choice && is_usable_under u found) under is
    ∙ and_false (is_there c.lookups load.owner load.choice))
  where
    and_false : (b : Bool) → (b && false) ≡ false
    and_false true = refl
    and_false false = refl

-- ---- the names

-- a node that is named is found among the names
pub among_names : (nodes : List NodeName) (node : NodeName) → Contains nodes node → list_any (node_eq node) nodes ≡ true
among_names nodes node there = list_any-from_Contains node_equiv node nodes there

-- a load whose owner can't be used names nothing new
pub names_nothing : (told : Told) (node : NodeName) (choice : ℕ) → IsInRange (lookups_of told.known) (load_of node choice)
    → contents_at (job_of told) (catalogue_of told) (load_of node choice).owner (load_version told (load_of node choice)) ≡ None
    → Contains told.known.nodes node
    → named_first (job_of told) (catalogue_of told) told.known.nodes (load_of node choice) ≡ []
names_nothing told Root choice there is named = cc
names_nothing told (RootTrait name) choice there is named = cc
names_nothing told (Package identity) choice there is named =
    ap (λ facts. new_names told.known.nodes (written_nodes facts)) (trouble_fact told identity choice there is)
    ∙ cond-true (list_any (node_eq (Package identity)) told.known.nodes) [] (Package identity ∷ [])
    (among_names told.known.nodes (Package identity) named)
names_nothing told (PackageTrait identity name) choice there is named =
    ap (λ facts. new_names told.known.nodes (written_nodes facts))
    (trait_brings_nothing told (load_of (PackageTrait identity name) choice) name refl is)

-- the facts of a package's version that can't be used
pub trouble_ends : (told : Told) (node : NodeName) (choice : ℕ) (cause : Cause) (fact : Incompat × Cause) (facts : List (Incompat × Cause))
    → IsInRange (lookups_of told.known) (load_of node choice)
    → contents_at (job_of told) (catalogue_of told) (load_of node choice).owner (load_version told (load_of node choice)) ≡ None
    → trait_of node ≡ None → cause ≡ load_trouble told (load_of node choice)
    → caused_of (number_in told.known.nodes) (unusable_fact (lookups_of told.known) (load_of node choice) cause) ≡ Some fact → facts ≡ fact ∷ []
    → facts ≡ numbered (number_in told.known.nodes) (facts_at (job_of told) (catalogue_of told) (load_of node choice))
trouble_ends told Root choice cause fact facts there is none why found are = cc
trouble_ends told (RootTrait name) choice cause fact facts there is none why found are = cc
trouble_ends told (Package identity) choice cause fact facts there is none why found are =
    let load = load_of (Package identity) choice in
    let number = number_in told.known.nodes in
    are
    ∙ ap (λ found. cons_option found []) (sym found ∙ ap (λ w. caused_of number (unusable_fact (lookups_of told.known) load w)) why)
    ∙ sym (ap (numbered number) (trouble_fact told identity choice there is))
trouble_ends told (PackageTrait identity name) choice cause fact facts there is none why found are = cc

-- and those of its trait
pub no_trouble : (told : Told) (node : NodeName) (choice : ℕ) (facts : List (Incompat × Cause))
    → contents_at (job_of told) (catalogue_of told) (load_of node choice).owner (load_version told (load_of node choice)) ≡ None
    → (trait_of node ≡ None → ⊥) → facts ≡ []
    → facts ≡ numbered (number_in told.known.nodes) (facts_at (job_of told) (catalogue_of told) (load_of node choice))
no_trouble told Root choice facts is some are = absurd (some refl)
no_trouble told (RootTrait name) choice facts is some are = cc
no_trouble told (Package identity) choice facts is some are = absurd (some refl)
no_trouble told (PackageTrait identity name) choice facts is some are =
    are ∙ sym (ap (numbered (number_in told.known.nodes)) (trait_brings_nothing told (load_of (PackageTrait identity name) choice) name refl is))
