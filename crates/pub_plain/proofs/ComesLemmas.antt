-- What is said of more keys changes nothing of what a solver comes to: its pins, its derivation, and the texts of its choices.
use Rattle.std.proofs.Common.{◌≡◌, ℕ, suc, Bool, List, [], ◌∷◌, map, All, Option, Some, refl, ap, ap₂, arith}
use Rattle.std.specs.Prelude.{codes, option_map}
use Rattle.std.specs.List.{cons_option, filter_map}
use Rattle.std.specs.Ordering.{is_lt}
use Rattle.std.proofs.lemmas.Bool.{cond_both}
use Rattle.std.proofs.lemmas.List.Elements.{All-cons, All-nil}
use Rattle.pub_facts.specs.Catalogue.{release_at}
use Rattle.pub_facts.specs.Numbered.{number_in}
use Rattle.pub_term.specs.Node.{node_cmp}
use Rattle.pub_term.specs.declared.cause.Cause.{Cause}
use Rattle.pub_term.specs.declared.node.NodeName.{NodeName}
use Rattle.pub_term.specs.declared.node.NodeName.TheVariants.{Root, RootTrait, Package, PackageTrait}
use Rattle.pub_trail.specs.First.{chosen}
use Rattle.pub_trail.specs.Turn.{State, Step}
use Rattle.spm_version.specs.Release.{Parts, parts_text}
use Rattle.pub_plain.specs.Answers.{Answers, Carries, lookups_by}
use Rattle.pub_plain.specs.Derivation.{choice_texts, derivation_in, ordered, pin_at, pins_in, put_node, texts_of}
use Rattle.pub_plain.specs.Invariant.{IsListed, IsSolver}
use Rattle.pub_plain.proofs.MoreLemmas.{listed_size, sizes_same}
use Rattle.pub_plain.proofs.SameReadLemmas.{listed_same}

-- ---- names in node order

-- what is so of a node and of others is so of them in node order
all_put : (P : NodeName → Type 0) (node : NodeName) (nodes : List NodeName) → P node → All P nodes → All P (put_node node nodes)
all_put P node [] here all = All-cons P node [] here (All-nil P)
all_put P node (other ∷ others) here all =
    cond_both (is_lt (node_cmp node other)) (node ∷ other ∷ others) (other ∷ put_node node others) (All P)
    (λ before. All-cons P node (other ∷ others) here all)
    (λ behind.
    All-cons P other (put_node node others) (all 0 node (omega arith))
    (all_put P node others here (λ k d below. all (suc k) d (omega (arith, below)))))

all_in_order : (P : NodeName → Type 0) (nodes : List NodeName) → All P nodes → All P (ordered nodes)
all_in_order P [] all = All-nil P
all_in_order P (node ∷ nodes) all =
    all_put P node (ordered nodes) (all 0 node (omega arith)) (all_in_order P nodes (λ k d below. all (suc k) d (omega (arith, below))))

-- ---- functions that agree

same_map : {A : Type 0} (f g : NodeName → A) (nodes : List NodeName) → All (λ node. f node ≡ g node) nodes → map f nodes ≡ map g nodes
same_map f g [] same = refl
same_map f g (node ∷ nodes) same =
    ap₂ (λ x xs. x ∷ xs) (same 0 node (omega arith)) (same_map f g nodes (λ k d below. same (suc k) d (omega (arith, below))))

same_filter_map : {A : Type 0} (f g : NodeName → Option A) (nodes : List NodeName) → All (λ node. f node ≡ g node) nodes
    → filter_map f nodes ≡ filter_map g nodes
same_filter_map f g [] same = refl
same_filter_map f g (node ∷ nodes) same =
    ap₂ cons_option (same 0 node (omega arith)) (same_filter_map f g nodes (λ k d below. same (suc k) d (omega (arith, below))))

-- ---- lookups that say more

module _ (answers more : Answers) (carries : Carries answers more) where
  texts_agree : (node : NodeName) → IsListed answers node → texts_of (lookups_by answers) node ≡ texts_of (lookups_by more) node
  texts_agree Root listed = refl
  texts_agree (RootTrait name) listed = refl
  texts_agree (Package identity) listed =
      ap (λ (list : List Parts). codes "none" ∷ map parts_text list) (listed_same answers more carries (Some identity) listed)
  texts_agree (PackageTrait identity name) listed = refl

  pin_agrees : (state : State) (node : NodeName) → IsListed answers node → pin_at (lookups_by answers) state node ≡ pin_at (lookups_by more) state node
  pin_agrees state Root listed = refl
  pin_agrees state (RootTrait name) listed = refl
  pin_agrees state (Package identity) listed =
      ap (λ (list : List Parts). option_map (λ release. (identity, release)) (release_at list (chosen state.trail (number_in state.names (Package identity)))))
      (listed_same answers more carries (Some identity) listed)
  pin_agrees state (PackageTrait identity name) listed = refl

  listed_in_order : (state : State) → IsSolver answers state → All (IsListed answers) (ordered state.names)
  listed_in_order state is = all_in_order (IsListed answers) state.names is.listed

  -- the texts of the choices
  pub texts_more : (state : State) → IsSolver answers state → choice_texts (lookups_by answers) state.names ≡ choice_texts (lookups_by more) state.names
  texts_more state is =
      let listed = listed_in_order state is in
      same_map (texts_of (lookups_by answers)) (texts_of (lookups_by more)) (ordered state.names)
      (λ k d below. texts_agree _ (listed k d below))

  -- the pins
  pub pins_more : (state : State) → IsSolver answers state → pins_in (lookups_by answers) state ≡ pins_in (lookups_by more) state
  pins_more state is =
      let listed = listed_in_order state is in
      same_filter_map (pin_at (lookups_by answers) state) (pin_at (lookups_by more) state) (ordered state.names)
      (λ k d below. pin_agrees state _ (listed k d below))

  -- the derivation
  pub derivation_more : (same : Cause → Cause → Bool) (state : State) (first : ℕ) (steps : List Step) → IsSolver answers state
      → derivation_in same (lookups_by answers) state first steps ≡ derivation_in same (lookups_by more) state first steps
  derivation_more same state first steps is =
      let listed = listed_in_order state is in
      ap (λ (sizes : List ℕ). record (derivation_in same (lookups_by answers) state first steps) { sizes = sizes })
      (sizes_same (lookups_by answers) (lookups_by more) (ordered state.names)
      (λ k d below. listed_size answers more carries _ (listed k d below)))
