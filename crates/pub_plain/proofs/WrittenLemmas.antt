-- The packages that the facts of a load write: its owner, and the targets of its needs.
use Rattle.std.proofs.Common.{◌≡◌, ℕ, zero, suc, true, List, [], ◌∷◌, ◌++◌, map, All, Contains, is_some, Option, Some, None, refl, subst, inl, inr}
use Rattle.std.specs.List.{list_any}
use Rattle.std.proofs.lemmas.Bool.{and_parts, cases_Bool, cond-false, cond-true, cond_both, false≢true}
use Rattle.std.proofs.lemmas.List.Elements.{All-contains_itself, All-nil, All-weaker, Contains-append_cases}
use Rattle.pub_facts.specs.Catalogue.{Catalogue, Job, Lookups, Owner, contents_at, release_at, target_of, version_in}
use Rattle.pub_facts.specs.Facts.{Load, asked_under, asks_of, behind, clauses_under, clauses_with, enables, facts_of, load_needs, need_clauses, need_clauses_on, needs_clauses, off, on, owner_node, subject_terms, trait_node, under_terms, words_ask, words_clauses}
use Rattle.pub_facts.specs.Numbered.{new_names, written_nodes}
use Rattle.pub_facts.specs.declared.fact.Fact.{Fact}
use Rattle.pub_facts.specs.declared.fact.Written.{Written}
use Rattle.pub_facts.proofs.Members.{contains_cases, contains_head, contains_nothing, contains_one, contains_tail, from_flat_map, from_map}
use Rattle.pub_term.specs.NodeLaws.{node_eq}
use Rattle.pub_term.specs.declared.node.NodeName.{NodeName}
use Rattle.pub_term.specs.declared.node.NodeName.TheVariants.{Root, RootTrait, Package, PackageTrait}
use Rattle.spm_api.specs.declared.replies.Said.{Said}
use Rattle.spm_api.specs.declared.replies.Said.TheVariants as said
use Rattle.spm_key.specs.declared.key.Key.TheVariants as key
use Rattle.spm_manifest.specs.declared.dump.Contents.{Contents}
use Rattle.spm_manifest.specs.declared.need.Ask.{Ask}
use Rattle.spm_manifest.specs.declared.need.Need.{Need}
use Rattle.spm_trait.specs.Closure.{enabled_by, is_declared}
use Rattle.pub_plain.specs.Answers.{Answers, catalogue_by, lookups_by, releases_in}
use Rattle.pub_plain.specs.Loading.{is_loadable, is_there, is_usable_under, named_first}
use Rattle.pub_plain.proofs.ReadLemmas.{AreBehind, AreTargets, AreUnder, IsRead}

-- a package passes; a root and traits do
abbrev pub OnPackage : (List ℕ → Type 0) → NodeName → Type 0
OnPackage P Root = Unit {0}
OnPackage P (RootTrait name) = Unit {0}
OnPackage P (Package identity) = P identity
OnPackage P (PackageTrait identity name) = Unit {0}

-- ---- clauses

-- each node of some terms passes
abbrev AllPass : (List ℕ → Type 0) → List Written → Type 0
AllPass P terms = (term : Written) → Contains terms term → OnPackage P term.node

-- the nodes of no term pass
none_pass : (P : List ℕ → Type 0) → AllPass P []
none_pass P term here = absurd (contains_nothing term here)

-- a trait passes
trait_passes : (P : List ℕ → Type 0) (owner : Owner) (name : List ℕ) → OnPackage P (trait_node owner name)
trait_passes P None name = tt
trait_passes P (Some identity) name = tt

-- a term more
pass_more : (P : List ℕ → Type 0) (term : Written) (terms : List Written) → OnPackage P term.node → AllPass P terms → AllPass P (term ∷ terms)
pass_more P term terms here rest other there = elim (contains_cases term other terms there) [
  | inl same ↦ subst (λ (t : Written). OnPackage P t.node) same here
  | inr behind_it ↦ rest other behind_it
]

-- a trait that is off
off_passes : (P : List ℕ → Type 0) (owner : Owner) (name : List ℕ) → AllPass P (off owner name ∷ [])
off_passes P owner name = pass_more P (off owner name) [] (trait_passes P owner name) (none_pass P)

abbrev Passes : (List ℕ → Type 0) → Fact → Type 0
Passes P one = AllPass P one.terms

-- what is asked of a package
asks_pass : (P : List ℕ → Type 0) (l : Lookups) (load : Load) (target name : List ℕ) (under : List (List ℕ)) (one : Fact)
    → Contains (asks_of l load target name under) one → Passes P one
asks_pass P l load target name [] one here = subst (Passes P) (contains_one _ one here) (off_passes P (Some target) name)
asks_pass P l load target name (first ∷ others) one here =
    let found = from_map (asked_under l load target name) (first ∷ others) one here in
    subst (Passes P) found.2
    (pass_more P (on load.owner found.0) (off (Some target) name ∷ []) (trait_passes P load.owner found.0) (off_passes P (Some target) name))

-- a need
need_passes : (P : List ℕ → Type 0) (l : Lookups) (load : Load) (need : Need) (target : Option (List ℕ)) (one : Fact)
    → ((identity : List ℕ) → target ≡ Some identity → P identity) → Contains (need_clauses_on l load need target) one → Passes P one
need_passes P l load need None one known here = subst (Passes P) (contains_one _ one here) (none_pass P)
need_passes P l load need (Some target) one known here = elim (contains_cases _ one _ here) [
  | inl same ↦ subst (Passes P) same (pass_more P _ [] (known target refl) (none_pass P))
  | inr asked ↦
      (let found = from_flat_map (λ (ask : Ask). asks_of l load target ask.name ask.under) need.asked one asked in
      asks_pass P l load target found.0.name found.0.under one found.2)
]

-- needs
needs_pass : (P : List ℕ → Type 0) (l : Lookups) (load : Load) (contents : Contents) (under : Option (List ℕ)) (one : Fact)
    → AreTargets P l (load_needs under contents) → Contains (needs_clauses l load contents under) one → Passes P one
needs_pass P l load contents under one known here =
    let found = from_flat_map (need_clauses l load) (load_needs under contents) one here in
    need_passes P l load found.0 (target_of l found.0) one (λ identity at. known found.0 identity found.1 at) found.2

-- what the words ask
words_pass : (P : List ℕ → Type 0) (asked : List (List ℕ)) (owner : Owner) (one : Fact) → Contains (words_clauses asked owner) one → Passes P one
words_pass P asked None one here =
    let found = from_map words_ask asked one here in
    subst (Passes P) found.2 (off_passes P None found.0)
words_pass P asked (Some identity) one here = absurd (contains_nothing one here)

-- the clauses of a load
under_passes : (P : List ℕ → Type 0) (asked : List (List ℕ)) (l : Lookups) (load : Load) (contents : Contents) (under : Option (List ℕ)) (one : Fact)
    → AreUnder P l contents under → Contains (clauses_under asked l load contents under) one → Passes P one
under_passes P asked l load contents None one known here = elim (Contains-append_cases (words_clauses asked load.owner) _ one here) [
  | inl words ↦ words_pass P asked load.owner one words
  | inr needs ↦ needs_pass P l load contents None one known needs
]
under_passes P asked l load contents (Some name) one known here = elim (cases_Bool (is_declared contents.traits.entries name)) [
  | inl declared ↦
      elim (Contains-append_cases _ _ one (subst (λ clauses. Contains clauses one) (cond-true (is_declared contents.traits.entries name) _ _ declared) here)) [
        | inl enabling ↦
            (let found = from_map (enables l load) (enabled_by contents.traits.entries name) one enabling in
            subst (Passes P) found.2 (off_passes P load.owner found.0))
        | inr needs ↦ needs_pass P l load contents (Some name) one (known declared) needs
      ]
  | inr undeclared ↦
      subst (Passes P)
      (contains_one _ one (subst (λ clauses. Contains clauses one) (cond-false (is_declared contents.traits.entries name) _ _ undeclared) here))
      (none_pass P)
]

-- the same where the load's owner may not be usable
clause_passes : (P : List ℕ → Type 0) (job : Job) (c : Catalogue) (load : Load) (contents : Option Contents) (one : Fact)
    → AreBehind P c.lookups load.under contents → Contains (clauses_with job c load contents) one → Passes P one
clause_passes P job c load None one known here = subst (Passes P) (contains_one _ one here) (none_pass P)
clause_passes P job c load (Some contents) one known here = under_passes P job.asked c.lookups load contents load.under one known here

-- ---- facts and names

-- the trait of a load passes
under_node_passes : (P : List ℕ → Type 0) (owner : Owner) (under : Option (List ℕ)) → AllPass P (under_terms owner under)
under_node_passes P owner None = none_pass P
under_node_passes P owner (Some name) = pass_more P (on owner name) [] (trait_passes P owner name) (none_pass P)

-- each fact of a load
fact_passes : (P : List ℕ → Type 0) (job : Job) (c : Catalogue) (load : Load) (one : Fact)
    → OnPackage P (owner_node load.owner)
    → AreBehind P c.lookups load.under (contents_at job c load.owner (version_in c.lookups load.owner load.choice))
    → Contains (facts_of job c load) one → Passes P one
fact_passes P job c load one owner known here =
    let contents = contents_at job c load.owner (version_in c.lookups load.owner load.choice) in
    let found = from_map (behind c.lookups load) (clauses_with job c load contents) one here in
    subst (Passes P) found.2
    (λ term there.
    elim (Contains-append_cases (subject_terms c.lookups load) found.0.terms term there) [
      | inl subject ↦ pass_more P _ (under_terms load.owner load.under) owner (under_node_passes P load.owner load.under) term subject
      | inr clause ↦ clause_passes P job c load contents found.0 known found.1 term clause
    ])

-- what is named first is written
new_are_written : (names written : List NodeName) (node : NodeName) → Contains (new_names names written) node → Contains written node
new_are_written names [] node here = here
new_are_written names (first ∷ written) node here = elim (cases_Bool (list_any (node_eq first) names)) [
  | inl known ↦
      contains_tail first node written
      (new_are_written names written node
      (subst (λ new. Contains new node)
      (cond-true (list_any (node_eq first) names) (new_names names written) (first ∷ new_names (names ++ first ∷ []) written) known) here))
  | inr isnt ↦
      elim (contains_cases first node (new_names (names ++ first ∷ []) written)
      (subst (λ new. Contains new node)
      (cond-false (list_any (node_eq first) names) (new_names names written) (first ∷ new_names (names ++ first ∷ []) written) isnt) here)) [
        | inl same ↦ subst (Contains (first ∷ written)) same (contains_head first written)
        | inr there ↦ contains_tail first node written (new_are_written (names ++ first ∷ []) written node there)
      ]
]

-- the names of facts whose nodes pass
new_pass : (P : List ℕ → Type 0) (names : List NodeName) (facts : List Fact) → ((one : Fact) → Contains facts one → Passes P one)
    → All (OnPackage P) (new_names names (written_nodes facts))
new_pass P names facts each =
    All-weaker (Contains (new_names names (written_nodes facts))) (OnPackage P)
    (λ node here.
    let found =
    from_flat_map (λ (fact : Fact). map (λ (term : Written). term.node) fact.terms) facts node
    (new_are_written names (written_nodes facts) node here) in
    let term = from_map (λ (t : Written). t.node) found.0.terms node found.2 in
    subst (OnPackage P) term.2 (each found.0 found.1 term.0 term.1))
    (new_names names (written_nodes facts)) (All-contains_itself (new_names names (written_nodes facts)))

-- ---- lists

-- no list has no release
none_there : (choice : ℕ) → is_some (release_at [] choice) ≡ true → ⊥
none_there zero there = false≢true there
none_there (suc k) there = false≢true there

-- an owner that is there was read
owner_read : (answers : Answers) (owner : Owner) (choice : ℕ) → is_there (lookups_by answers) owner choice ≡ true
    → OnPackage (IsRead answers) (owner_node owner)
owner_read answers None choice there = tt
owner_read answers (Some identity) choice there = go (answers (key.List identity)) refl there
  where
    go : (found : Option Said) → answers (key.List identity) ≡ found → is_some (release_at (releases_in found) choice) ≡ true → IsRead answers identity
    go None at there = absurd (none_there choice there)
    go (Some (said.Releases releases)) at there = record { it = said.Releases releases; given = at }
    go (Some said.TooMany) at there = absurd (none_there choice there)
    go (Some (said.Package other)) at there = absurd (none_there choice there)
    go (Some (said.Manifest contents)) at there = absurd (none_there choice there)
    go (Some (said.FaultyManifest place kind)) at there = absurd (none_there choice there)
    go (Some said.NoManifest) at there = absurd (none_there choice there)
    go (Some said.Nothing) at there = absurd (none_there choice there)

-- the lists of the packages that a load names first were read
pub new_are_read : (job : Job) (answers : Answers) (names : List NodeName) (load : Load)
    → AreBehind (IsRead answers) (lookups_by answers) load.under
    (contents_at job (catalogue_by answers) load.owner (version_in (lookups_by answers) load.owner load.choice))
    → All (OnPackage (IsRead answers)) (named_first job (catalogue_by answers) names load)
new_are_read job answers names load known =
    let c = catalogue_by answers in
    let contents = contents_at job c load.owner (version_in c.lookups load.owner load.choice) in
    cond_both (is_loadable job c load) (facts_of job c load) []
    (λ facts. All (OnPackage (IsRead answers)) (new_names names (written_nodes facts)))
    (λ loadable.
    let there = (and_parts (is_there c.lookups load.owner load.choice) (is_usable_under load.under contents) loadable).0 in
    new_pass (IsRead answers) names (facts_of job c load)
    (λ one here. fact_passes (IsRead answers) job c load one (owner_read answers load.owner load.choice there) known here))
    (λ out. All-nil (OnPackage (IsRead answers)))
