-- A package that is decided next is the least that is asked and undecided, beside no trait that is ready; and where no node is next, all that is
-- asked is decided.
use Rattle.std.proofs.Common.{◌≡◌, ◌≢◌, ◌⊎◌, ℕ, ◌<◌, Bool, true, false, not, ◌&&◌, List, [], ◌∷◌, length, Contains, Option, Some, None, refl, sym, ap, ◌∙◌, subst, inl, inr, arith}
use Rattle.std.specs.Cmp.Lexicographic.{slice_cmp, nat_list_cmp_total}
use Rattle.std.specs.List.{list_any}
use Rattle.std.specs.Ordering.{is_le, is_lt, nat_cmp, ordering_reverse, ordering_then}
use Rattle.std.specs.declared.cmp.Ordering.{Ordering}
use Rattle.std.specs.declared.cmp.Ordering.TheVariants.{Less, Equal, Greater}
use Rattle.std.proofs.lemmas.Bool.{and_from, and_parts, false≢true, false_from_ne_true, or_left, or_right, true_from_ne_false}
use Rattle.pub_facts.specs.Catalogue.{Catalogue, Job, Owner}
use Rattle.pub_facts.specs.Facts.{owner_node, trait_node}
use Rattle.pub_facts.specs.Numbered.{number_in}
use Rattle.pub_facts.proofs.Members.{contains_cases, contains_nothing}
use Rattle.pub_term.specs.declared.node.NodeName.{NodeName}
use Rattle.pub_term.specs.declared.node.NodeName.TheVariants.{Root, RootTrait, Package, PackageTrait}
use Rattle.pub_term.specs.declared.term.Term.{Term}
use Rattle.pub_trail.specs.First.{chosen, is_asked}
use Rattle.pub_trail.specs.Required.{is_open}
use Rattle.pub_trail.specs.Trail.{is_decided}
use Rattle.pub_trail.specs.Turn.{or_some}
use Rattle.pub_trail.specs.declared.trail.Assigned.{Assigned}
use Rattle.pub_trail.proofs.FirstLemmas.{open_chosen}
use Rattle.pub_plain.specs.Choosing.{is_needed, is_ready, is_trait, least_from, next_node, owner_number}
use Rattle.pub_plain.specs.Loading.{name_at}
use Rattle.pub_plain.proofs.AsksLemmas.{at_of}
use Rattle.pub_plain.proofs.Decisions.{IsAsked, IsLeast}
use Rattle.pub_plain.proofs.DoneLemmas.{AreDone, asked_open}
use Rattle.pub_plain.proofs.LeastLemmas.{NotBelow, none_below, none_passes}
use Rattle.pub_plain.proofs.MoreLemmas.{least_found}
use Rattle.pub_plain.proofs.OwnerLemmas.{asked_owner}
use Rattle.pub_plain.proofs.RulesLemmas.{name_of_number}

-- where one of some passes, some do
any_of : {X : Type 0} (test : X → Bool) (xs : List X) (x : X) → Contains xs x → test x ≡ true → list_any test xs ≡ true
any_of test [] x here passes = absurd (contains_nothing x here)
any_of test (first ∷ xs) x here passes = elim (contains_cases first x xs here) [
  | inl same ↦ or_left (test first) (list_any test xs) (ap test same ∙ passes)
  | inr there ↦ or_right (test first) (list_any test xs) (any_of test xs x there passes)
]

-- a package that isn't below another is its or comes after it
package_le : (identity other : List ℕ) → NotBelow (Package other) (Package identity) → is_le (slice_cmp nat_cmp identity other) ≡ true
package_le identity other above =
    ap is_le (nat_list_cmp_total.antisymm identity other) ∙ go (slice_cmp nat_cmp other identity) above
  where
    go : (order : Ordering) → is_lt (ordering_then order Equal) ≡ false → is_le (ordering_reverse order) ≡ true
    go Less is = absurd (false≢true (sym is))
    go Equal is = refl
    go Greater is = refl

module _ (job : Job) (c : Catalogue) (names : List NodeName) (facts : List (List Term)) (trail : List Assigned)
    (are : AreDone job c names facts trail) (some : (n : ℕ) → is_decided trail n ≡ true → chosen trail n ≢ 0) where
  -- the decided choices
  abbrev at : NodeName → ℕ
  at = at_of names trail

  -- a node that is named and open
  record IsOpenAt (node : NodeName) : Type 0 where
    named : number_in names node < length names
    is_opened : is_open facts trail (number_in names node) ≡ true

  -- what is asked and isn't decided is open
  open_there : (node : NodeName) → IsAsked job c at node → at node ≡ 0 → IsOpenAt node
  open_there node asked none =
      let by = asked_open job c names facts trail are node asked none in
      record {
        named = by.named;
        is_opened = and_from (list_any (is_asked trail (number_in names node)) facts) (not (is_decided trail (number_in names node)))
            (any_of (is_asked trail (number_in names node)) facts by.terms by.there by.asks)
            (ap not (false_from_ne_true (is_decided trail (number_in names node)) (λ decided. some (number_in names node) decided none)));
      }

  -- a package that is asked and isn't decided is needed
  needed_passes : (identity : List ℕ) → IsAsked job c at (Package identity) → at (Package identity) ≡ 0
      → is_needed facts trail (number_in names (Package identity)) (name_at names (number_in names (Package identity))) ≡ true
  needed_passes identity asked none =
      let it = open_there (Package identity) asked none in
      subst (λ name. is_needed facts trail (number_in names (Package identity)) name ≡ true)
      (sym (name_of_number names (Package identity) it.named)) it.is_opened

  -- a trait that is ready, by the name of its owner
  ready_test : (owner : Owner) (name : List ℕ) (n : ℕ) → is_open facts trail n ≡ true → is_decided trail (number_in names (owner_node owner)) ≡ true
      → is_ready names facts trail n (trait_node owner name) ≡ true
  ready_test None name n opened decided = and_from (is_open facts trail n) (is_decided trail (number_in names Root)) opened decided
  ready_test (Some identity) name n opened decided =
      and_from (is_open facts trail n) (is_decided trail (number_in names (Package identity))) opened decided

  -- a trait that is asked and isn't decided is ready where its owner is decided
  ready_passes : (owner : Owner) (name : List ℕ) → IsAsked job c at (trait_node owner name) → at (owner_node owner) ≢ 0
      → at (trait_node owner name) ≡ 0
      → is_ready names facts trail (number_in names (trait_node owner name)) (name_at names (number_in names (trait_node owner name))) ≡ true
  ready_passes owner name asked decided none =
      let it = open_there (trait_node owner name) asked none in
      subst (λ node. is_ready names facts trail (number_in names (trait_node owner name)) node ≡ true)
      (sym (name_of_number names (trait_node owner name) it.named))
      (ready_test owner name (number_in names (trait_node owner name)) it.is_opened
      (true_from_ne_false (is_decided trail (number_in names (owner_node owner)))
      (λ undecided. decided (open_chosen trail (number_in names (owner_node owner)) undecided))))

  -- where no trait is ready, each that is asked is decided if its owner is
  no_ready : least_from (is_ready names facts trail) 0 names ≡ None → (owner : Owner) (name : List ℕ) → IsAsked job c at (trait_node owner name)
      → at (owner_node owner) ≢ 0 → at (trait_node owner name) ≢ 0
  no_ready is owner name asked decided none =
      none_passes (is_ready names facts trail) names is (number_in names (trait_node owner name))
      (open_there (trait_node owner name) asked none).named
      (ready_passes owner name asked decided none)

  -- a package isn't a trait
  not_trait : (name : NodeName) (identity : List ℕ) → name ≡ Package identity → is_trait name ≡ true → ⊥
  not_trait name identity is trait = false≢true (ap is_trait (sym is) ∙ trait)

  -- a package that is next is the least
  pub next_least : (found : ℕ × NodeName) (identity : List ℕ) → next_node names facts trail ≡ Some found → found.1 ≡ Package identity
      → IsLeast job c at identity
  next_least found identity is named = go (least_from (is_ready names facts trail) 0 names) refl is
    where
      go : (first : Option (ℕ × NodeName)) → least_from (is_ready names facts trail) 0 names ≡ first
          → or_some first (least_from (is_needed facts trail) 0 names) ≡ Some found → IsLeast job c at identity
      go (Some other) at_first e =
          let it = least_found (is_ready names facts trail) 0 names found (at_first ∙ e) in
          let passes = and_parts (is_trait found.1) (is_open facts trail found.0 && is_decided trail (owner_number names found.1)) it.passes in
          absurd (not_trait found.1 identity named passes.0)
      go None at_first e = record {
        no_trait = no_ready at_first;
        least = λ other asked none.
            package_le identity other
            (subst (NotBelow (Package other)) named
            (subst (λ name. NotBelow name found.1) (name_of_number names (Package other) (open_there (Package other) asked none).named)
            (none_below (is_needed facts trail) names found e (number_in names (Package other)) (open_there (Package other) asked none).named
            (needed_passes other asked none))));
      }

  -- where no node is next, all that is asked is decided
  pub none_next : next_node names facts trail ≡ None → (node : NodeName) → IsAsked job c at node → at node ≢ 0
  none_next is = go (least_from (is_ready names facts trail) 0 names) refl is
    where
      packages : least_from (is_needed facts trail) 0 names ≡ None → (identity : List ℕ) → IsAsked job c at (Package identity)
          → at (Package identity) ≢ 0
      packages e identity asked none =
          none_passes (is_needed facts trail) names e (number_in names (Package identity)) (open_there (Package identity) asked none).named
          (needed_passes identity asked none)

      root_some : at Root ≢ 0
      root_some none = (let root = are.root in absurd (omega (arith, root, none)))

      owner_some : least_from (is_needed facts trail) 0 names ≡ None → (identity : List ℕ)
          → (at (Package identity) ≢ 0) ⊎ IsAsked job c at (Package identity) → at (Package identity) ≢ 0
      owner_some e identity told = elim told [
        | inl decided ↦ decided
        | inr asked ↦ packages e identity asked
      ]

      each : least_from (is_ready names facts trail) 0 names ≡ None → least_from (is_needed facts trail) 0 names ≡ None
          → (node : NodeName) → IsAsked job c at node → at node ≢ 0
      each ready needed Root asked = root_some
      each ready needed (RootTrait name) asked = no_ready ready None name asked root_some
      each ready needed (Package identity) asked = packages needed identity asked
      each ready needed (PackageTrait identity name) asked =
          no_ready ready (Some identity) name asked
          (owner_some needed identity (asked_owner job c at (PackageTrait identity name) asked))

      go : (first : Option (ℕ × NodeName)) → least_from (is_ready names facts trail) 0 names ≡ first
          → or_some first (least_from (is_needed facts trail) 0 names) ≡ None → (node : NodeName) → IsAsked job c at node → at node ≢ 0
      go (Some other) at_first e = absurd (some_none other e)
        where
          some_none : (one : ℕ × NodeName) → Some one ≡ None → ⊥
          some_none one e = cc
      go None at_first e = each at_first e
