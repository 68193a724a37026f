-- The pins of a solver are what its decided choices select.
use Rattle.std.proofs.Common.{◌≡◌, ℕ, Bool, true, false, ◌||◌, cond, List, [], ◌∷◌, Option, Some, None, refl, sym, ap, ◌∙◌, inl, inr}
use Rattle.std.specs.Str.{bytes_eq}
use Rattle.std.specs.Cmp.Lexicographic.{bytes_decides}
use Rattle.std.specs.List.{cons_option, filter_map, list_any}
use Rattle.std.specs.Option.{option_map}
use Rattle.std.proofs.lemmas.Bool.{cases_Bool, cases_eq, cond-false, cond-true, false≢true}
use Rattle.pub_facts.specs.Assigns.{selection_of}
use Rattle.pub_facts.specs.Catalogue.{Job, Lookups, release_at}
use Rattle.pub_facts.specs.Numbered.{number_in}
use Rattle.pub_facts.proofs.FactLemmas.{node_same}
use Rattle.pub_term.specs.NodeLaws.{node_eq, node_equiv}
use Rattle.pub_term.specs.declared.node.NodeName.{NodeName}
use Rattle.pub_term.specs.declared.node.NodeName.TheVariants.{Root, RootTrait, Package, PackageTrait}
use Rattle.pub_trail.specs.First.{chosen}
use Rattle.pub_trail.specs.Turn.{State}
use Rattle.spm_version.specs.Release.{Parts}
use Rattle.pub_plain.specs.Answers.{Answers, catalogue_by, lookups_by}
use Rattle.pub_plain.specs.Choosing.{pin_of}
use Rattle.pub_plain.specs.Derivation.{ordered, pin_at, pins_in}
use Rattle.pub_plain.specs.Invariant.{IsSolver}
use Rattle.pub_plain.proofs.Decisions.{chosen_at}
use Rattle.pub_plain.proofs.RankLemmas.{any_named, any_ordered}
use Rattle.pub_plain.proofs.RulesLemmas.{name_of_number}
use Rattle.pub_plain.proofs.SettledLemmas.{choices_made, decided_named, some_decided}
use Rattle.pub_plain.proofs.StateLemmas.{AreMore}
use Rattle.pub_plain.proofs.TrailLemmas.{decisions_of}

-- the release that a package is decided on
abbrev decided_release : Lookups → State → List ℕ → Option Parts
decided_release l state identity = release_at (l.list identity) (chosen state.trail (number_in state.names (Package identity)))

-- nothing, either way
none_either : (any : Bool) → cond {A = Option Parts} any None None ≡ None
none_either true = refl
none_either false = refl

-- the pin of a package is its release, if the package is one of the nodes
pin_among : (l : Lookups) (state : State) (identity : List ℕ) (nodes : List NodeName)
    → pin_of (filter_map (pin_at l state) nodes) identity
    ≡ cond (list_any (node_eq (Package identity)) nodes) (decided_release l state identity) None
pin_among l state identity [] = refl
pin_among l state identity (Root ∷ nodes) = pin_among l state identity nodes
pin_among l state identity (RootTrait name ∷ nodes) = pin_among l state identity nodes
pin_among l state identity (PackageTrait other name ∷ nodes) =
    pin_among l state identity nodes ∙ ap (λ b. cond b (decided_release l state identity) None) (sym differs)
  where
    differs : list_any (node_eq (Package identity)) (PackageTrait other name ∷ nodes) ≡ list_any (node_eq (Package identity)) nodes
    differs = elim (cases_Bool (node_eq (Package identity) (PackageTrait other name))) [
      | inl is ↦ (let e : Package identity ≡ PackageTrait other name = node_same (Package identity) (PackageTrait other name) is in cc)
      | inr isnt ↦ ap (λ b. b || list_any (node_eq (Package identity)) nodes) isnt
    ]
pin_among l state identity (Package other ∷ nodes) =
    elim (cases_Bool (node_eq (Package identity) (Package other))) [
      | inl is ↦
          (let same : identity ≡ other = package_same (node_same (Package identity) (Package other) is) in
          ap (λ r. pin_of (cons_option (option_map (λ release. (other, release)) r) (filter_map (pin_at l state) nodes)) identity)
          (ap (decided_release l state) (sym same))
          ∙ here same (decided_release l state identity) (pin_among l state identity nodes) refl
          ∙ ap (λ b. cond (b || list_any (node_eq (Package identity)) nodes) (decided_release l state identity) None) (sym is))
      | inr isnt ↦
          there isnt (decided_release l state other)
          ∙ pin_among l state identity nodes
          ∙ ap (λ b. cond (b || list_any (node_eq (Package identity)) nodes) (decided_release l state identity) None) (sym isnt)
    ]
  where
    package_same : Package identity ≡ Package other → identity ≡ other
    package_same e = cc

    here : identity ≡ other → (found : Option Parts)
        → pin_of (filter_map (pin_at l state) nodes) identity
        ≡ cond (list_any (node_eq (Package identity)) nodes) (decided_release l state identity) None
        → decided_release l state identity ≡ found
        → pin_of (cons_option (option_map (λ release. (other, release)) found) (filter_map (pin_at l state) nodes)) identity ≡ found
    here same None rest is =
        rest ∙ ap (λ r. cond (list_any (node_eq (Package identity)) nodes) r None) is ∙ none_either (list_any (node_eq (Package identity)) nodes)
    here same (Some release) rest is =
        cond-true (bytes_eq other identity) (Some release) (pin_of (filter_map (pin_at l state) nodes) identity)
        ((bytes_decides other identity).1 (sym same))

    there : node_eq (Package identity) (Package other) ≡ false → (found : Option Parts)
        → pin_of (cons_option (option_map (λ release. (other, release)) found) (filter_map (pin_at l state) nodes)) identity
        ≡ pin_of (filter_map (pin_at l state) nodes) identity
    there isnt None = refl
    there isnt (Some release) = elim (cases_Bool (bytes_eq other identity)) [
      | inl is ↦
          (let same : other ≡ identity = (bytes_decides other identity).0 is in
          absurd (false≢true (sym isnt ∙ ap (λ i. node_eq (Package identity) (Package i)) same ∙ node_equiv.refl (Package identity))))
      | inr differs ↦ cond-false (bytes_eq other identity) (Some release) (pin_of (filter_map (pin_at l state) nodes) identity) differs
    ]

-- the pins of a solver
pub pins_selected : (job : Job) (answers : Answers) (state : State) → (is : IsSolver answers state) → (more : AreMore job answers state)
    → (identity : List ℕ) → pin_of (pins_in (lookups_by answers) state) identity
    ≡ selection_of (catalogue_by answers) (chosen_at (decisions_of state.names state.trail)) identity
pins_selected job answers state is more identity =
    pin_among l state identity (ordered state.names)
    ∙ ap (λ b. cond b (decided_release l state identity) None) (any_ordered (node_eq (Package identity)) state.names)
    ∙ elim (cases_Bool (list_any (node_eq (Package identity)) state.names)) [
      | inl any ↦ cond-true (list_any (node_eq (Package identity)) state.names) (decided_release l state identity) None any
      | inr none ↦
          cond-false (list_any (node_eq (Package identity)) state.names) (decided_release l state identity) None none
          ∙ sym (ap (release_at (l.list identity)) (not_chosen none))
    ]
    ∙ ap (λ (choices : NodeName → ℕ). release_at (l.list identity) (choices (Package identity))) (sym (choices_made job answers state is more))
  where
    l : Lookups
    l = lookups_by answers

    not_chosen : list_any (node_eq (Package identity)) state.names ≡ false → chosen state.trail (number_in state.names (Package identity)) ≡ 0
    not_chosen none = elim (cases_eq (chosen state.trail (number_in state.names (Package identity))) 0) [
      | inl zero ↦ zero
      | inr some ↦
          (let named = decided_named job answers state is more (Package identity) (some_decided job answers state is more (Package identity) some) in
          absurd (false≢true (sym none
          ∙ ap (λ node. list_any (node_eq node) state.names) (sym (name_of_number state.names (Package identity) named))
          ∙ any_named state.names (number_in state.names (Package identity)) named)))
    ]
