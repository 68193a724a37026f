-- What a load brings: sizes above none and within their limits, and well formed facts.
use Rattle.std.proofs.Common.{◌≡◌, ℕ, zero, suc, ◌+◌, ◌<◌, ◌≤◌, ◌==◌, ◌&&◌, true, List, [], ◌∷◌, ◌++◌, map, length, slice_index, if◌then◌else◌, All, Option, Some, None, refl, sym, ap, ◌∙◌, subst, inl, inr, arith, eq-eqb}
use Rattle.std.specs.List.{cons_option}
use Rattle.std.proofs.lemmas.Bool.{and_parts, cases_Bool, cases_eq, cond-false, cond-true, cond_both, false≢true}
use Rattle.std.proofs.lemmas.List.{length-map}
use Rattle.std.proofs.lemmas.List.Elements.{All-cons, All-head, All-nil, All-tail}
use Rattle.pub_set.proofs.SetLemmas.{IsSet-where}
use Rattle.pub_facts.specs.Catalogue.{Catalogue, Job, Lookups, Owner, contents_at, version_in}
use Rattle.pub_facts.specs.Facts.{Load, behind, clauses_with, facts_of, only, owner_node, size_of, under_terms}
use Rattle.pub_facts.specs.Numbered as facts
use Rattle.pub_facts.specs.Numbered.{AreNamed, incompat_of, new_names, number_in, numbered, sizes_of, term_of, with_cause, written_nodes}
use Rattle.pub_facts.specs.declared.fact.Fact.{Fact}
use Rattle.pub_facts.specs.declared.fact.Written.{Written}
use Rattle.pub_facts.proofs.FactLemmas.{size_at, sizes_length}
use Rattle.pub_facts.proofs.Members.{contains_head}
use Rattle.pub_facts.proofs.MergeLemmas.{incompat_formed}
use Rattle.pub_facts.proofs.NamedLemmas.{facts_are_named}
use Rattle.pub_facts.proofs.UnusableLemmas.{facts_formed}
use Rattle.pub_term.specs.Sized as term
use Rattle.pub_term.specs.declared.cause.Cause.{Cause}
use Rattle.pub_term.specs.declared.node.NodeName.{NodeName}
use Rattle.pub_term.specs.declared.node.NodeName.TheVariants.{Root, RootTrait, Package, PackageTrait}
use Rattle.pub_term.specs.declared.term.Incompat.{Incompat}
use Rattle.pub_term.specs.declared.term.Term.{Term}
use Rattle.pub_trail.specs.Invariant.{AreFormed, AreSized, IsSmall}
use Rattle.pub_trail.specs.declared.turned.Wide.TheVariants.{Nodes, Packages}
use Rattle.spm_api.specs.declared.replies.Said.{Said}
use Rattle.spm_api.specs.declared.replies.Said.TheVariants as said
use Rattle.spm_key.specs.declared.key.Key.TheVariants as key
use Rattle.spm_manifest.specs.declared.dump.Contents.{Contents}
use Rattle.pub_plain.specs.Answers.{Answers, AreShort, lookups_by, releases_in}
use Rattle.pub_plain.specs.Loading.{cause_of, facts_at, is_loadable, is_package, is_there, is_usable_under, name_at, named_first, terms_of, wide_in}
use Rattle.pub_plain.specs.Plain.{plain_limits}

-- ---- sizes

-- each node has a choice
size_above : (l : Lookups) (node : NodeName) → 0 < size_of l node
size_above l Root = omega arith
size_above l (RootTrait name) = omega arith
size_above l (Package identity) = omega arith
size_above l (PackageTrait identity name) = omega arith

-- a size is its name's
pub size_named : (l : Lookups) (names : List NodeName) (number : ℕ) → number < length names
    → slice_index (sizes_of l names) number ≡ size_of l (name_at names number)
size_named l [] number below = absurd (omega (arith, below))
size_named l (name ∷ names) zero below = refl
size_named l (name ∷ names) (suc number) below = size_named l names number (omega (arith, below))

-- the sizes of two lists of names
pub sizes_append : (l : Lookups) (names more : List NodeName) → sizes_of l (names ++ more) ≡ sizes_of l names ++ sizes_of l more
sizes_append l [] more = refl
sizes_append l (name ∷ names) more = ap (λ sizes. size_of l name ∷ sizes) (sizes_append l names more)

-- the size of each node that is named is above none
pub sizes_above : (l : Lookups) (names : List NodeName) (node : ℕ) → node < length (sizes_of l names) → 0 < slice_index (sizes_of l names) node
sizes_above l names node below =
    let named : node < length names = omega (arith, sizes_length l names, below) in
    subst (λ size. 0 < size) (sym (size_named l names node named)) (size_above l (name_at names node))

-- lists are within their limit
short_list : (answers : Answers) (identity : List ℕ) → AreShort answers → length (releases_in (answers (key.List identity))) ≤ 4096
short_list answers identity short = go (answers (key.List identity)) refl
  where
    go : (found : Option Said) → answers (key.List identity) ≡ found → length (releases_in found) ≤ 4096
    go None at = omega arith
    go (Some (said.Releases list)) at = short identity list at
    go (Some said.TooMany) at = omega arith
    go (Some (said.Package other)) at = omega arith
    go (Some (said.Manifest contents)) at = omega arith
    go (Some (said.FaultyManifest place kind)) at = omega arith
    go (Some said.NoManifest) at = omega arith
    go (Some said.Nothing) at = omega arith

-- and so are sizes
pub size_within : (answers : Answers) (node : NodeName) → AreShort answers → size_of (lookups_by answers) node ≤ 4097
size_within answers Root short = omega arith
size_within answers (RootTrait name) short = omega arith
size_within answers (Package identity) short = (let few = short_list answers identity short in omega (arith, few))
size_within answers (PackageTrait identity name) short = omega arith

-- names that pass no limit are no more than it
pub wide_none : (nodes packages : ℕ) (names : List NodeName) → nodes ≤ 4096 → wide_in nodes packages names ≡ None → nodes + length names ≤ 4096
wide_none nodes packages [] within none = omega (arith, within)
wide_none nodes packages (name ∷ names) within none =
    let later = if is_package name then packages + 1 else packages in
    elim (cases_Bool (is_package name && packages == 1024)) [
      | inl full ↦
          (let e : Some Packages ≡ None
          = sym (cond-true (is_package name && packages == 1024) (Some Packages)
          (if nodes == 4096 then Some Nodes else wide_in (nodes + 1) later names) full) ∙ none in
          cc)
      | inr unfull ↦
          (let rest : (if nodes == 4096 then Some Nodes else wide_in (nodes + 1) later names) ≡ None
          = sym (cond-false (is_package name && packages == 1024) (Some Packages)
          (if nodes == 4096 then Some Nodes else wide_in (nodes + 1) later names) unfull) ∙ none in
          elim (cases_eq nodes 4096) [
            | inl full ↦
                (let e : Some Nodes ≡ None
                = sym (cond-true (nodes == 4096) (Some Nodes) (wide_in (nodes + 1) later names) (eq-eqb nodes 4096 full)) ∙ rest in
                cc)
            | inr fewer ↦
                elim (cases_Bool (nodes == 4096)) [
                  | inl full ↦
                      (let e : Some Nodes ≡ None
                      = sym (cond-true (nodes == 4096) (Some Nodes) (wide_in (nodes + 1) later names) full) ∙ rest in
                      cc)
                  | inr room ↦
                      (let behind = wide_none (nodes + 1) later names (omega arith)
                      (sym (cond-false (nodes == 4096) (Some Nodes) (wide_in (nodes + 1) later names) room) ∙ rest) in
                      omega (arith, behind))
                ]
          ])
    ]

-- the sizes of names within the limit are small
pub sizes_small : (answers : Answers) (names : List NodeName) → AreShort answers → length names ≤ 4096
    → IsSmall plain_limits (sizes_of (lookups_by answers) names)
sizes_small answers names short within = record {
  nodes = omega (arith, sizes_length (lookups_by answers) names, within);
  choices = λ node below.
      let named : node < length names = omega (arith, sizes_length (lookups_by answers) names, below) in
      subst (λ size. size ≤ 4097) (sym (size_named (lookups_by answers) names node named)) (size_within answers (name_at names node) short);
}

-- ---- facts

-- sets that have sizes and are sets
sized_sets : (sizes : List ℕ) (terms : List Term) → term.AreSized sizes terms → term.AreSets terms → AreSized sizes terms
sized_sets sizes [] sized sets = tt
sized_sets sizes (first ∷ terms) sized sets = ((sized.0.0, sized.0.1, sets.0), sized_sets sizes terms sized.1 sets.1)

abbrev IsFormedFact : List ℕ → Incompat × Cause → Type 0
IsFormedFact sizes one = facts.IsFormed sizes one.0.terms

-- well formed facts without their causes
formed_terms : (sizes : List ℕ) (all : List (Incompat × Cause)) → All (IsFormedFact sizes) all → AreFormed sizes (map terms_of all)
formed_terms sizes [] formed = tt
formed_terms sizes (one ∷ all) formed =
    let here = All-head (IsFormedFact sizes) one all formed in (
      record { incompat = here.incompat; sized = sized_sets sizes one.0.terms here.sized here.sets },
      formed_terms sizes all (All-tail (IsFormedFact sizes) one all formed),
    )

-- the one fact of an owner that can't be used
alone_formed : (l : Lookups) (names : List NodeName) (owner : Owner) (choice : ℕ) (cause : Cause) (under : Option (List ℕ))
    → is_usable_under under None ≡ true
    → AreNamed names (record { terms = (only l (owner_node owner) choice ∷ under_terms owner under) ++ []; cause = cause } ∷ [])
    → All (IsFormedFact (sizes_of l names))
    (numbered (number_in names) (record { terms = (only l (owner_node owner) choice ∷ under_terms owner under) ++ []; cause = cause } ∷ []))
alone_formed l names owner choice cause (Some name) usable named = absurd (false≢true usable)
alone_formed l names owner choice cause None usable named = go (incompat_of (number_in names) one) refl
  where
    subject : Written
    subject = only l (owner_node owner) choice

    one : Fact
    one = record { terms = subject ∷ []; cause = cause }

    below : number_in names (owner_node owner) < length names
    below = named (owner_node owner) (contains_head (owner_node owner) [])

    go : (found : Option (List Term)) → incompat_of (number_in names) one ≡ found
        → All (IsFormedFact (sizes_of l names)) (cons_option (with_cause cause found) [])
    go None at = All-nil (IsFormedFact (sizes_of l names))
    go (Some terms) at =
        All-cons (IsFormedFact (sizes_of l names)) (record { terms = terms }, cause) []
        (incompat_formed (sizes_of l names) (term_of (number_in names) subject ∷ []) terms (
          (
            subst (λ n. number_in names (owner_node owner) < n) (sym (sizes_length l names)) below,
            sym (size_at l names (owner_node owner) below),
          ),
          tt,
        )
        (IsSet-where (size_of l (owner_node owner)) _, tt) at)
        (All-nil (IsFormedFact (sizes_of l names)))

-- the facts of a load that is in range
clauses_formed : (job : Job) (c : Catalogue) (load : Load) (names : List NodeName) (contents : Option Contents)
    → is_usable_under load.under contents ≡ true
    → AreNamed names (map (behind c.lookups load) (clauses_with job c load contents))
    → All (IsFormedFact (sizes_of c.lookups names)) (numbered (number_in names) (map (behind c.lookups load) (clauses_with job c load contents)))
clauses_formed job c load names (Some contents) usable named = facts_formed job.asked c.lookups load contents names named
clauses_formed job c load names None usable named = alone_formed c.lookups names load.owner load.choice _ load.under usable named

-- the facts that a load brings are well formed by the numbers of its names
pub at_formed : (job : Job) (c : Catalogue) (load : Load) (names : List NodeName)
    → AreFormed (sizes_of c.lookups (names ++ named_first job c names load))
    (map terms_of (numbered (number_in (names ++ named_first job c names load)) (facts_at job c load)))
at_formed job c load names =
    cond_both (is_loadable job c load) (facts_of job c load) []
    (λ facts.
    AreFormed (sizes_of c.lookups (names ++ new_names names (written_nodes facts)))
    (map terms_of (numbered (number_in (names ++ new_names names (written_nodes facts))) facts)))
    (λ loadable.
    let contents = contents_at job c load.owner (version_in c.lookups load.owner load.choice) in
    let all = names ++ new_names names (written_nodes (facts_of job c load)) in
    let usable = (and_parts (is_there c.lookups load.owner load.choice) (is_usable_under load.under contents) loadable).1 in
    formed_terms (sizes_of c.lookups all) (numbered (number_in all) (facts_of job c load))
    (clauses_formed job c load all contents usable (facts_are_named names (facts_of job c load))))
    (λ out. tt)

-- there are as many causes as facts
pub as_many : (all : List (Incompat × Cause)) → length (map cause_of all) ≡ length (map terms_of all)
as_many all = length-map all cause_of ∙ sym (length-map all terms_of)
