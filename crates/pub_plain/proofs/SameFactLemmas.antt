-- What a load brings is a function of what it reads: over catalogues that say the same of that, it is the same.
use Rattle.std.proofs.Common.{◌≡◌, ℕ, suc, ◌&&◌, true, not, List, [], ◌∷◌, ◌++◌, map, length, Contains, if◌then◌else◌, Option, Some, None, refl, sym, ap, ap₂, ◌∙◌, subst, inl, inr}
use Rattle.std.specs.Prelude.{is_some}
use Rattle.std.specs.List.{flat_map, list_any}
use Rattle.std.proofs.lemmas.Bool.{cases_Bool, cond-false, cond-true, cond_both}
use Rattle.std.proofs.lemmas.List.Elements.{Contains-append_cases}
use Rattle.pub_set.specs.Choices.{ChoiceSet, choices_of, set_where}
use Rattle.pub_term.specs.NodeLaws.{node_eq}
use Rattle.pub_term.specs.declared.cause.Cause.TheVariants.{Asks, Enables, NoTrait, Requires}
use Rattle.pub_term.specs.declared.cause.Subject.{Subject}
use Rattle.pub_term.specs.declared.node.NodeName.{NodeName}
use Rattle.pub_term.specs.declared.node.NodeName.TheVariants.{Package}
use Rattle.pub_trail.specs.Turn.{Loading}
use Rattle.spm_manifest.specs.declared.dump.Contents.{Contents}
use Rattle.spm_manifest.specs.declared.need.Ask.{Ask}
use Rattle.spm_manifest.specs.declared.need.Need.{Need}
use Rattle.spm_manifest.specs.declared.need.Target.{Target}
use Rattle.spm_trait.specs.Closure.{enabled_by, is_declared}
use Rattle.spm_version.specs.Release.{Parts}
use Rattle.spm_version.specs.declared.requirement.Requirement.{Requirement}
use Rattle.pub_facts.specs.Catalogue.{Catalogue, Job, Lookups, Owner, contents_at, contents_of, if_versioned, package_of_target, release_at, target_of, version_in}
use Rattle.pub_facts.specs.Facts.{Load, asked_under, asks_of, behind, clauses_under, clauses_with, enables, fact, facts_of, found_at, is_inside, load_needs, named_owner, need_clauses, need_clauses_on, off, on, outside, owner_node, size_of, subject_of, subject_terms, trait_clauses, trouble, under_both, under_names, under_terms, unmet_cause, words_clauses}
use Rattle.pub_facts.specs.Numbered.{new_names, number_in, numbered, sizes_of, written_nodes}
use Rattle.pub_facts.specs.declared.fact.Fact.{Fact}
use Rattle.pub_facts.specs.declared.fact.Written.{Written}
use Rattle.pub_facts.proofs.FactLemmas.{IsWhere, subject_where, term_where}
use Rattle.pub_facts.proofs.Members.{contains_head, contains_nothing, contains_one, contains_tail, from_flat_map, from_map}
use Rattle.pub_plain.specs.Loading.{brings, cause_of, facts_at, is_loadable, is_there, is_usable_under, package_count, terms_of, unless_wide, wide_in}

-- ---- what agrees

-- the list of the owner is the same
abbrev pub IsSameOwner : Lookups → Lookups → Owner → Type 0
IsSameOwner l m None = Unit {0}
IsSameOwner l m (Some identity) = l.list identity ≡ m.list identity

-- the package of a need with this requirement and this target is the same, and so is its list
pub record IsSameNeed (l m : Lookups) (requirement : Requirement) (target : Target) : Type 0 where
  pub named : if_versioned requirement (package_of_target l target) ≡ if_versioned requirement (package_of_target m target)
  pub list : (identity : List ℕ) → if_versioned requirement (package_of_target l target) ≡ Some identity → l.list identity ≡ m.list identity

-- of each need
abbrev pub AreSameNeeds : Lookups → Lookups → List Need → Type 0
AreSameNeeds l m [] = Unit {0}
AreSameNeeds l m (need ∷ needs) = IsSameNeed l m need.requirement need.target × AreSameNeeds l m needs

-- of the needs that a load reads behind a manifest
abbrev pub IsSameUnder : Lookups → Lookups → Contents → Option (List ℕ) → Type 0
IsSameUnder l m contents None = AreSameNeeds l m (load_needs None contents)
IsSameUnder l m contents (Some name) = is_declared contents.traits.entries name ≡ true → AreSameNeeds l m (load_needs (Some name) contents)

-- of those behind a manifest that can be used
abbrev pub IsSameBehind : Lookups → Lookups → Option (List ℕ) → Option Contents → Type 0
IsSameBehind l m under None = Unit {0}
IsSameBehind l m under (Some contents) = IsSameUnder l m contents under

-- ---- functions that agree make the same lists

-- a map
map_same : {X Y : Type 0} (f g : X → Y) (xs : List X) → ((x : X) → f x ≡ g x) → map f xs ≡ map g xs
map_same f g [] same = refl
map_same f g (x ∷ xs) same = ap₂ (λ y ys. y ∷ ys) (same x) (map_same f g xs same)

-- a flat map
flat_map_same : {X Y : Type 0} (f g : X → List Y) (xs : List X) → ((x : X) → f x ≡ g x) → flat_map f xs ≡ flat_map g xs
flat_map_same f g [] same = refl
flat_map_same f g (x ∷ xs) same = ap₂ (λ ys zs. ys ++ zs) (same x) (flat_map_same f g xs same)

-- ---- the owner

-- its versions are the same
pub version_same : (l m : Lookups) (owner : Owner) (choice : ℕ) → IsSameOwner l m owner → version_in l owner choice ≡ version_in m owner choice
version_same l m None choice same = refl
version_same l m (Some identity) choice same = ap (λ list. release_at list choice) same

-- and how many choices it has
owner_size_same : (l m : Lookups) (owner : Owner) → IsSameOwner l m owner → size_of l (owner_node owner) ≡ size_of m (owner_node owner)
owner_size_same l m None same = refl
owner_size_same l m (Some identity) same = ap (λ (list : List Parts). suc (length list)) same

-- and which choices are in range
there_same : (l m : Lookups) (owner : Owner) (choice : ℕ) → IsSameOwner l m owner → is_there l owner choice ≡ is_there m owner choice
there_same l m None choice same = refl
there_same l m (Some identity) choice same = ap (λ list. is_some (release_at list choice)) same

-- the contents follow from what is found
pub contents_same : (job : Job) (c d : Catalogue) (owner : Owner) (version : Option Parts) → found_at c owner version ≡ found_at d owner version
    → contents_at job c owner version ≡ contents_at job d owner version
contents_same job c d None version same = refl
contents_same job c d (Some identity) None same = refl
contents_same job c d (Some identity) (Some release) same = ap (contents_of job.tools) same

module _ (l m : Lookups) (load : Load) (owner : IsSameOwner l m load.owner) where
  -- the subject of a cause is the same
  subject_same : (under : List (List ℕ)) → subject_of l load under ≡ subject_of m load under
  subject_same under = ap (λ version. made (named_owner load.owner version)) (version_same l m load.owner load.choice owner)
    where
      made : Option (List ℕ × Parts) → Subject
      made named = record { owner = named; under = under }

  -- and so are the subject's terms
  subject_terms_same : subject_terms l load ≡ subject_terms m load
  subject_terms_same = ap (λ size. made size ∷ under_terms load.owner load.under) (owner_size_same l m load.owner owner)
    where
      made : ℕ → Written
      made size = record { node = owner_node load.owner; choices = choices_of size (load.choice ∷ []) }

  -- what is asked of a package is the same
  asks_same : (target name : List ℕ) (under : List (List ℕ)) → asks_of l load target name under ≡ asks_of m load target name under
  asks_same target name [] =
      ap (λ subject. fact (off (Some target) name ∷ []) (Asks subject target name) ∷ []) (subject_same (under_names load.under))
  asks_same target name (first ∷ others) =
      map_same (asked_under l load target name) (asked_under m load target name) (first ∷ others)
      (λ condition. ap (λ subject. fact (on load.owner condition ∷ off (Some target) name ∷ []) (Asks subject target name))
      (subject_same (under_both load.under condition)))

  -- the choices of a package outside of a requirement are the same
  outside_same : (target : List ℕ) (requirement : Requirement) → l.list target ≡ m.list target
      → outside l target requirement ≡ outside m target requirement
  outside_same target requirement same = ap made same
    where
      made : List Parts → Written
      made list = record { node = Package target; choices = set_where (suc (length list)) (λ k. not (is_inside requirement (release_at list k))) }

  -- the clauses of a need are the same, by its package
  need_on_same : (need : Need) (target : Option (List ℕ)) → ((identity : List ℕ) → target ≡ Some identity → l.list identity ≡ m.list identity)
      → need_clauses_on l load need target ≡ need_clauses_on m load need target
  need_on_same need None lists =
      ap (λ subject. fact [] (unmet_cause subject need.requirement need.target) ∷ []) (subject_same (under_names load.under))
  need_on_same need (Some target) lists =
      ap₂ (λ first others. first ∷ others)
      (ap₂ (λ term subject. fact (term ∷ []) (Requires subject target need.requirement)) (outside_same target need.requirement (lists target refl))
      (subject_same (under_names load.under)))
      (flat_map_same (λ (ask : Ask). asks_of l load target ask.name ask.under) (λ (ask : Ask). asks_of m load target ask.name ask.under) need.asked
      (λ ask. asks_same target ask.name ask.under))

  -- and so are those of a need that agrees
  need_same : (need : Need) → IsSameNeed l m need.requirement need.target → need_clauses l load need ≡ need_clauses m load need
  need_same need same = need_on_same need (target_of l need) same.list ∙ ap (need_clauses_on m load need) same.named

  -- and those of all needs
  needs_same : (needs : List Need) → AreSameNeeds l m needs → flat_map (need_clauses l load) needs ≡ flat_map (need_clauses m load) needs
  needs_same [] same = refl
  needs_same (need ∷ needs) same = ap₂ (λ ys zs. ys ++ zs) (need_same need same.0) (needs_same needs same.1)

  -- the traits that a trait enables are the same
  enabled_same : (contents : Contents) (name : List ℕ) → trait_clauses l load contents name ≡ trait_clauses m load contents name
  enabled_same contents name =
      map_same (enables l load) (enables m load) (enabled_by contents.traits.entries name)
      (λ other. ap (λ subject. fact (off load.owner other ∷ []) (Enables subject other)) (subject_same (under_names load.under)))

  -- the clauses behind a manifest are the same
  under_same : (asked : List (List ℕ)) (contents : Contents) (under : Option (List ℕ)) → IsSameUnder l m contents under
      → clauses_under asked l load contents under ≡ clauses_under asked m load contents under
  under_same asked contents None same = ap (λ needs. words_clauses asked load.owner ++ needs) (needs_same (load_needs None contents) same)
  under_same asked contents (Some name) same = elim (cases_Bool (is_declared contents.traits.entries name)) [
    | inl declared ↦
        cond-true (is_declared contents.traits.entries name) _ _ declared
        ∙ (ap₂ (λ xs ys. xs ++ ys) (enabled_same contents name) (needs_same (load_needs (Some name) contents) (same declared))
        ∙ sym (cond-true (is_declared contents.traits.entries name) _ _ declared))
    | inr undeclared ↦
        cond-false (is_declared contents.traits.entries name) _ _ undeclared
        ∙ (ap (λ subject. fact [] (NoTrait subject) ∷ []) (subject_same (under_names load.under))
        ∙ sym (cond-false (is_declared contents.traits.entries name) _ _ undeclared))
  ]

-- ---- the facts

-- the clauses of a load, by the contents of its owner
clauses_same : (job : Job) (c d : Catalogue) (load : Load) → IsSameOwner c.lookups d.lookups load.owner
    → found_at c load.owner (version_in c.lookups load.owner load.choice) ≡ found_at d load.owner (version_in d.lookups load.owner load.choice)
    → (contents : Option Contents) → IsSameBehind c.lookups d.lookups load.under contents
    → clauses_with job c load contents ≡ clauses_with job d load contents
clauses_same job c d load owner found None same =
    ap₂ (λ subject it. fact [] (trouble subject it) ∷ []) (subject_same c.lookups d.lookups load owner (under_names load.under)) found
clauses_same job c d load owner found (Some contents) same = under_same c.lookups d.lookups load owner job.asked contents load.under same

-- what a load reads is the same
pub record IsSameRead (job : Job) (c d : Catalogue) (load : Load) : Type 0 where
  pub owner : IsSameOwner c.lookups d.lookups load.owner
  pub found : found_at c load.owner (version_in c.lookups load.owner load.choice)
      ≡ found_at d load.owner (version_in c.lookups load.owner load.choice)
  pub behind_it : IsSameBehind c.lookups d.lookups load.under (contents_at job c load.owner (version_in c.lookups load.owner load.choice))

-- then so is what the owner's contents are
read_contents_same : (job : Job) (c d : Catalogue) (load : Load) → IsSameRead job c d load
    → contents_at job c load.owner (version_in c.lookups load.owner load.choice)
    ≡ contents_at job d load.owner (version_in d.lookups load.owner load.choice)
read_contents_same job c d load same =
    contents_same job c d load.owner (version_in c.lookups load.owner load.choice) same.found
    ∙ ap (contents_at job d load.owner) (version_same c.lookups d.lookups load.owner load.choice same.owner)

-- and its facts
facts_same : (job : Job) (c d : Catalogue) (load : Load) → IsSameRead job c d load → facts_of job c load ≡ facts_of job d load
facts_same job c d load same =
    let version = version_in c.lookups load.owner load.choice in
    let found : found_at c load.owner version ≡ found_at d load.owner (version_in d.lookups load.owner load.choice)
    = same.found ∙ ap (found_at d load.owner) (version_same c.lookups d.lookups load.owner load.choice same.owner) in
    ap₂ joined (subject_terms_same c.lookups d.lookups load same.owner)
    (clauses_same job c d load same.owner found (contents_at job c load.owner version) same.behind_it
    ∙ ap (clauses_with job d load) (read_contents_same job c d load same))
  where
    joined : List Written → List Fact → List Fact
    joined subject clauses = map (λ (clause : Fact). fact (subject ++ clause.terms) clause.cause) clauses

-- and whether it may be done
loadable_same : (job : Job) (c d : Catalogue) (load : Load) → IsSameRead job c d load → is_loadable job c load ≡ is_loadable job d load
loadable_same job c d load same =
    ap₂ (λ a contents. a && is_usable_under load.under contents) (there_same c.lookups d.lookups load.owner load.choice same.owner)
    (read_contents_same job c d load same)

-- and the facts that it brings
facts_at_same : (job : Job) (c d : Catalogue) (load : Load) → IsSameRead job c d load → facts_at job c load ≡ facts_at job d load
facts_at_same job c d load same = ap₂ (λ b facts. if b then facts else []) (loadable_same job c d load same) (facts_same job c d load same)

-- ---- the sizes of the nodes that it names

-- each term of a load's facts is a set of its node's size, by the contents of its owner
with_where : (job : Job) (c : Catalogue) (load : Load) (contents : Option Contents) (one : Fact) (term : Written)
    → Contains (map (behind c.lookups load) (clauses_with job c load contents)) one → Contains one.terms term → IsWhere c.lookups term
with_where job c load None one term here there =
    let terms : Contains (subject_terms c.lookups load ++ []) term
    = subst (λ (f : Fact). Contains f.terms term) (sym (contains_one _ one here)) there in
    elim (Contains-append_cases (subject_terms c.lookups load) [] term terms) [
      | inl subject ↦ subject_where c.lookups load term subject
      | inr none ↦ absurd (contains_nothing term none)
    ]
with_where job c load (Some contents) one term here there = term_where job.asked c.lookups load contents one term here there

-- each term of the facts that it brings is
pub at_where : (job : Job) (c : Catalogue) (load : Load) (one : Fact) (term : Written) → Contains (facts_at job c load) one → Contains one.terms term
    → IsWhere c.lookups term
at_where job c load one term =
    cond_both (is_loadable job c load) (facts_of job c load) [] (λ facts. Contains facts one → Contains one.terms term → IsWhere c.lookups term)
    (λ _. with_where job c load (contents_at job c load.owner (version_in c.lookups load.owner load.choice)) one term)
    (λ _ none there. absurd (contains_nothing one none))

-- so each node that is written has the same size
written_size_same : (job : Job) (c d : Catalogue) (load : Load) → IsSameRead job c d load → (node : NodeName)
    → Contains (written_nodes (facts_at job c load)) node → size_of c.lookups node ≡ size_of d.lookups node
written_size_same job c d load same node here =
    let one = from_flat_map (λ (f : Fact). map (λ (term : Written). term.node) f.terms) (facts_at job c load) node here in
    let term = from_map (λ (t : Written). t.node) one.0.terms node one.2 in
    let first = at_where job c load one.0 term.0 one.1 term.1 in
    let second = at_where job d load one.0 term.0 (subst (λ facts. Contains facts one.0) (facts_at_same job c d load same) one.1) term.1 in
    let sizes : size_of c.lookups term.0.node ≡ size_of d.lookups term.0.node
    = sym (ap (λ (s : ChoiceSet). s.size) first.is) ∙ ap (λ (s : ChoiceSet). s.size) second.is in
    subst (λ n. size_of c.lookups n ≡ size_of d.lookups n) term.2 sizes

-- new names are among the nodes that are written
new_sizes_same : (l m : Lookups) (names nodes : List NodeName) → ((node : NodeName) → Contains nodes node → size_of l node ≡ size_of m node)
    → sizes_of l (new_names names nodes) ≡ sizes_of m (new_names names nodes)
new_sizes_same l m names [] same = refl
new_sizes_same l m names (node ∷ nodes) same =
    let later : (names : List NodeName) → sizes_of l (new_names names nodes) ≡ sizes_of m (new_names names nodes)
    = λ others. new_sizes_same l m others nodes (λ other there. same other (contains_tail node other nodes there)) in
    cond_both (list_any (node_eq node) names) (new_names names nodes) (node ∷ new_names (names ++ node ∷ []) nodes)
    (λ new. sizes_of l new ≡ sizes_of m new) (λ _. later names)
    (λ _. ap₂ (λ size sizes. size ∷ sizes) (same node (contains_head node nodes)) (later (names ++ node ∷ [])))

-- ---- what it brings

-- what facts bring, where their new names have these sizes
abbrev with_sizes : List NodeName → List Fact → List ℕ → Loading
with_sizes names facts sizes =
    unless_wide (wide_in (length names) (package_count names) (new_names names (written_nodes facts))) (record {
      names = new_names names (written_nodes facts);
      sizes = sizes;
      facts = map terms_of (numbered (number_in (names ++ new_names names (written_nodes facts))) facts);
      causes = map cause_of (numbered (number_in (names ++ new_names names (written_nodes facts))) facts);
    })

-- over catalogues that say the same of what a load reads, it brings the same
pub brings_same : (job : Job) (c d : Catalogue) (names : List NodeName) (load : Load) → IsSameRead job c d load
    → brings job c names load ≡ brings job d names load
brings_same job c d names load same =
    let facts : facts_at job c load ≡ facts_at job d load = facts_at_same job c d load same in
    ap (with_sizes names (facts_at job c load))
    (new_sizes_same c.lookups d.lookups names (written_nodes (facts_at job c load)) (written_size_same job c d load same))
    ∙ ap (λ fs. with_sizes names fs (sizes_of d.lookups (new_names names (written_nodes fs)))) facts
