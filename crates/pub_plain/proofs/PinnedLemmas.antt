-- The pins: what is decided of each node, and the release that it is.
use Rattle.std.proofs.Common.{◌≡◌, ℕ, ◌+◌, ◌<◌, ◌≤◌, ◌==◌, Bool, true, false, cond, List, [], ◌∷◌, ◌++◌, length, get_or, reverse, drop, Option, Some, None, option_map, refl, sym, ap, ◌∙◌, inl, inr, ap₂, arith, append_assoc, append-nil}
use Rattle.std.specs.List.{All, cons_option, filter_map}
use Rattle.std.proofs.Math.ListN.{drop_of_length-le}
use Rattle.std.proofs.lemmas.Bool.{cases_lt, false≢true}
use Rattle.std.proofs.lemmas.List.{get_or_past}
use Rattle.std.proofs.lemmas.List.Elements.{All-head, All-tail}
use Rattle.pub_facts.specs.Catalogue.{Lookups, release_at}
use Rattle.pub_facts.specs.Known.{list_in}
use Rattle.pub_facts.specs.Numbered.{number_in}
use Rattle.pub_facts.proofs.ListSteps.{drop_next}
use Rattle.pub_term.specs.declared.node.NodeName.{NodeName}
use Rattle.pub_term.specs.declared.node.NodeName.TheVariants.{Package}
use Rattle.pub_trail.specs.First.{chosen, first_or}
use Rattle.pub_trail.specs.Required.{AreDecisions, decision_in, decision_of}
use Rattle.pub_trail.specs.Trail.{by_reason}
use Rattle.pub_trail.specs.Turn.{State}
use Rattle.pub_trail.specs.declared.trail.Assigned.{Assigned}
use Rattle.pub_trail.specs.declared.trail.Reason.{Reason}
use Rattle.pub_trail.specs.declared.trail.Reason.TheVariants.{Decided, Derived}
use Rattle.spm_version.specs.Release.{Parts}
use Rattle.pub_plain.specs.Answers.{lookups_by}
use Rattle.pub_plain.specs.Derivation.{pin_at}
use Rattle.pub_plain.specs.Next.{choice_or_none}
use Rattle.pub_plain.specs.Told.{answers_to}
use Rattle.pub_plain.specs.declared.told.Told.{Told}
use Rattle.pub_plain.proofs.NextKept.{All-reverse}
use Rattle.pub_plain.proofs.ToldLemmas.{lookups_told}

-- ---- what is decided

-- the decided choice of a node is its decision, or 0
pub chosen_decision : (trail : List Assigned) (node : ℕ) → choice_or_none (decision_of trail node) ≡ chosen trail node
chosen_decision [] node = refl
chosen_decision (entry ∷ before) node = by (chosen_decision before node) entry.reason (entry.node == node)
  where
    by : choice_or_none (decision_of before node) ≡ chosen before node → (reason : Reason) (same : Bool)
        → choice_or_none
        (by_reason reason (cond same (Some (first_or entry.choices.members 0)) (decision_of before node)) (λ number. decision_of before node))
        ≡ by_reason reason (cond same (first_or entry.choices.members 0) (chosen before node)) (λ number. chosen before node)
    by rest Decided true = refl
    by rest Decided false = rest
    by rest (Derived number) same = rest

-- a number of no node isn't decided
chosen_past : (trail : List Assigned) (count node : ℕ) → All (λ (entry : Assigned). entry.node < count) trail → count ≤ node → chosen trail node ≡ 0
chosen_past [] count node there past = refl
chosen_past (entry ∷ before) count node there past =
    by (chosen_past before count node (All-tail (λ (e : Assigned). e.node < count) entry before there) past) entry.reason (entry.node == node)
    (differs entry.node node (All-head (λ (e : Assigned). e.node < count) entry before there) past)
  where
    differs : (m n : ℕ) → m < count → count ≤ n → (m == n) ≡ false
    differs m n below beyond = grind (arith, below, beyond)

    by : chosen before node ≡ 0 → (reason : Reason) (same : Bool) → same ≡ false
        → by_reason reason (cond same (first_or entry.choices.members 0) (chosen before node)) (λ number. chosen before node) ≡ 0
    by rest Decided true differs = absurd (false≢true (sym differs))
    by rest Decided false differs = rest
    by rest (Derived number) same differs = rest

-- what is kept of decisions gives the decided choice of each number
pub decided_chosen : (count : ℕ) (trail : List Assigned) (decided : List (Option ℕ)) → AreDecisions count (reverse trail) decided
    → All (λ (entry : Assigned). entry.node < count) trail → (number : ℕ) → choice_or_none (decision_in decided number) ≡ chosen (reverse trail) number
decided_chosen count trail decided are there number = elim (cases_lt number count) [
  | inl below ↦ ap choice_or_none (are.each number below) ∙ chosen_decision (reverse trail) number
  | inr past ↦
      ap choice_or_none (get_or_past decided number None (omega (arith, are.nodes, past)))
      ∙ sym (chosen_past (reverse trail) count number (All-reverse (λ (entry : Assigned). entry.node < count) trail there) past)
]

-- ---- the pin of a package

-- the release at what is decided is the package's pin
pub pin_is : (told : Told) (state : State) (node : NodeName) (identity : List ℕ) (decided : List (Option ℕ)) (number choice : ℕ) (found : Option Parts)
    → node ≡ Package identity → state.names ≡ told.known.nodes
    → ((n : ℕ) → choice_or_none (decision_in decided n) ≡ chosen state.trail n)
    → number ≡ number_in told.known.nodes node → decision_in decided number ≡ Some choice
    → found ≡ release_at (list_in told.known.lists identity) choice
    → option_map (λ release. (identity, release)) found ≡ pin_at (lookups_by (answers_to told)) state node
pin_is told state node identity decided number choice found is names are is_number at is_found =
    let there : choice ≡ chosen state.trail (number_in state.names (Package identity))
    = sym (ap choice_or_none at) ∙ are number
    ∙ ap (chosen state.trail) (is_number ∙ ap (number_in told.known.nodes) is ∙ ap (λ ns. number_in ns (Package identity)) (sym names)) in
    ap (option_map (λ release. (identity, release)))
    (is_found ∙ ap (release_at (list_in told.known.lists identity)) there
    ∙ ap (λ (l : Lookups). release_at (l.list identity) (chosen state.trail (number_in state.names (Package identity)))) (sym (lookups_told told)))
    ∙ ap (pin_at (lookups_by (answers_to told)) state) (sym is)

-- ---- the loop over the nodes

consed : {X : Type 0} (found : Option X) (rest : List X) → cons_option found rest ≡ cons_option found [] ++ rest
consed None rest = refl
consed (Some x) rest = refl

-- what was found for one node more
pub found_step : {X Y : Type 0} (f : X → Option Y) (xs : List X) (i : ℕ) (x : X) (found : Option Y) (before next all : List Y) → i < length xs
    → x ≡ get_or xs i x → found ≡ f x → next ≡ before ++ cons_option found [] → before ++ filter_map f (drop i xs) ≡ all
    → next ++ filter_map f (drop (i + 1) xs) ≡ all
found_step f xs i x found before next all below is is_found made so_far =
    ap (λ ys. ys ++ filter_map f (drop (i + 1) xs)) made
    ∙ (append_assoc before (cons_option found []) (filter_map f (drop (i + 1) xs))
    ∙ (ap (λ ys. before ++ ys)
    (sym (consed found (filter_map f (drop (i + 1) xs))) ∙ ap (λ o. cons_option o (filter_map f (drop (i + 1) xs))) is_found
    ∙ ap (filter_map f) (sym (drop_next xs i x below (sym is))))
    ∙ so_far))

-- behind the last node there is nothing
pub found_end : {X Y : Type 0} (f : X → Option Y) (xs : List X) (i : ℕ) (before all : List Y) → length xs ≤ i → before ++ filter_map f (drop i xs) ≡ all
    → before ≡ all
found_end f xs i before all past so_far =
    sym (append-nil before) ∙ ap (λ rest. before ++ filter_map f rest) (sym (drop_of_length-le xs past)) ∙ so_far

-- a copy of both is the pair
pub pair_is : {X Y : Type 0} (a b : X) (c d : Y) → a ≡ b → c ≡ d → ◌≡◌ {A = Option (X × Y)} (Some (a, c)) (Some (b, d))
pair_is a b c d first second = ap₂ (λ x y. Some (x, y)) first second
