-- What a fact requires, by what is decided of nodes and by the trail.
use Rattle.std.proofs.Common.{◌≡◌, ℕ, zero, suc, ◌+◌, ◌<◌, ◌≤◌, ◌==◌, ◌&&◌, ◌||◌, not, Bool, true, false, cond, List, [], ◌∷◌, ◌++◌, length, get_or, replicate, set, drop, Option, Some, None, All, refl, sym, ap, ap₂, ◌∙◌, subst, inl, inr, arith, eq-eqb, eqb-true, length-set, ne_eqb}
use Rattle.std.specs.List.{filter, list_all, list_any}
use Rattle.std.proofs.lemmas.Bool.{and_parts, cases_Bool, cases_eq, cases_lt, cond-false, cond-true, cond_both, false≢true, false_from_ne_true}
use Rattle.std.proofs.lemmas.List.{get_or-map, get_or-replicate, get_or-set_other, get_or-set_same, get_or_append_left, get_or_push, length-map, length_push}
use Rattle.std.proofs.lemmas.List.Elements.{All-head, All-tail}
use Rattle.pub_set.specs.Choices.{ChoiceSet, has}
use Rattle.pub_set.specs.Runs.{runs_in, with_number}
use Rattle.pub_set.specs.declared.runs.Run.{Run}
use Rattle.pub_term.specs.Term.{AreNodesAscending, set_at}
use Rattle.pub_term.specs.declared.term.Term.{Term}
use Rattle.pub_term.proofs.AboveLemmas.{AreNodesAscending-tail, set_at-head, set_at-tail}
use Rattle.pub_trail.specs.First.{chosen, first_or, is_asked, is_met}
use Rattle.pub_trail.specs.Required.{AreAmong, AreDecisions, AreMarked, AreOpen, decision_in, decision_of, if_undecided, is_kept, is_node, is_open, loaded_facts, required_in, the_required}
use Rattle.pub_trail.specs.Trail.{by_reason, is_decided}
use Rattle.pub_trail.specs.Walk.{terms_of}
use Rattle.pub_term.specs.declared.cause.Cause.{Cause}
use Rattle.pub_term.specs.declared.term.Incompat.{Incompat}
use Rattle.pub_trail.specs.declared.origin.Origin.{Origin}
use Rattle.pub_trail.specs.declared.origin.Origin.TheVariants.{OfConflict, OfLoad}
use Rattle.pub_trail.specs.declared.trail.Assigned.{Assigned}
use Rattle.pub_trail.specs.declared.trail.Reason.{Reason}
use Rattle.pub_trail.specs.declared.trail.Reason.TheVariants.{Decided, Derived}
use Rattle.pub_trail.proofs.FirstLemmas.{any_at}
use Rattle.pub_trail.proofs.HeldLemmas.{each_node, term_of}
use Rattle.pub_trail.proofs.NewestLemmas.{IsOne, behind_differs, one_from, one_is}

-- ---- runs

-- where the first run begins
abbrev first_of : List Run → ℕ
first_of [] = 0
first_of (run ∷ runs) = run.first

-- the first of some choices begins their first run
pub first_run : (numbers : List ℕ) → first_or numbers 0 ≡ first_of (runs_in numbers)
first_run [] = refl
first_run (number ∷ numbers) = go (runs_in numbers)
  where
    joins : (run : Run) (runs : List Run) (b : Bool) → number ≡ first_of (cond b (record { first = number; last = run.last } ∷ runs) (record { first = number; last = number } ∷ run ∷ runs))
    joins run runs true = refl
    joins run runs false = refl

    go : (runs : List Run) → number ≡ first_of (with_number number runs)
    go [] = refl
    go (run ∷ runs) = joins run runs (run.first == number + 1)

-- ---- what is decided

-- a term is kept where its node's decision is in it
kept_is : (trail : List Assigned) (node : ℕ) (term : Term) → is_kept (decision_of trail node) term ≡ (is_decided trail node && has term.choices (chosen trail node))
kept_is [] node term = refl
kept_is (entry ∷ before) node term = go (kept_is before node term) entry.reason
  where
    by_node : is_kept (decision_of before node) term ≡ (is_decided before node && has term.choices (chosen before node)) → (same : Bool)
        → is_kept (cond same (Some (first_or entry.choices.members 0)) (decision_of before node)) term
        ≡ ((same || is_decided before node) && has term.choices (cond same (first_or entry.choices.members 0) (chosen before node)))
    by_node so true = refl
    by_node so false = so

    go : is_kept (decision_of before node) term ≡ (is_decided before node && has term.choices (chosen before node)) → (reason : Reason)
        → is_kept (by_reason reason (cond (entry.node == node) (Some (first_or entry.choices.members 0)) (decision_of before node)) (λ number. decision_of before node)) term
        ≡ (by_reason reason (entry.node == node || is_decided before node) (λ number. is_decided before node)
        && has term.choices (by_reason reason (cond (entry.node == node) (first_or entry.choices.members 0) (chosen before node)) (λ number. chosen before node)))
    go so Decided = by_node so (entry.node == node)
    go so (Derived number) = so

-- a decision is there
abbrev is_there : Option ℕ → Bool
is_there None = false
is_there (Some choice) = true

-- a node is decided where there is a decision of it
decided_is : (trail : List Assigned) (node : ℕ) → is_there (decision_of trail node) ≡ is_decided trail node
decided_is [] node = refl
decided_is (entry ∷ before) node = go (decided_is before node) entry.reason
  where
    by_node : is_there (decision_of before node) ≡ is_decided before node → (same : Bool) → is_there (cond same (Some (first_or entry.choices.members 0)) (decision_of before node)) ≡ (same || is_decided before node)
    by_node so true = refl
    by_node so false = so

    go : is_there (decision_of before node) ≡ is_decided before node → (reason : Reason)
        → is_there (by_reason reason (cond (entry.node == node) (Some (first_or entry.choices.members 0)) (decision_of before node)) (λ number. decision_of before node))
        ≡ by_reason reason (entry.node == node || is_decided before node) (λ number. is_decided before node)
    go so Decided = by_node so (entry.node == node)
    go so (Derived number) = so

-- ---- one fact

-- where all terms pass, the one on a node does
all_at : (test : Term → Bool) (terms : List Term) (node : ℕ) (choices : ChoiceSet) → list_all test terms ≡ true → set_at terms node ≡ Some choices
    → test (term_of node choices) ≡ true
all_at test [] node choices all at = cc
all_at test (term ∷ terms) node choices all at =
    let parts = and_parts (test term) (list_all test terms) all in
    elim (cases_eq term.node node) [
      | inl same ↦
          (let head : Some term.choices ≡ Some choices = sym (set_at-head term terms node same) ∙ at in
          let e : term.choices ≡ choices = cc in
          ap₂ (λ n s. test (term_of n s)) (sym same) (sym e) ∙ parts.0)
      | inr differs ↦ all_at test terms node choices parts.1 (sym (set_at-tail term terms node differs) ∙ at)
    ]

-- the set that has 0 on the node
record HasNone (terms : List Term) (node : ℕ) : Type 0 where
  choices : ChoiceSet
  at : set_at terms node ≡ Some choices
  none : has choices 0 ≡ true

-- some term on the node has 0: that of the node
has_none : (terms : List Term) (node : ℕ) → AreNodesAscending terms → list_any (λ term. term.node == node && has term.choices 0) terms ≡ true
    → HasNone terms node
has_none [] node up any = absurd (false≢true any)
has_none (term ∷ terms) node up any =
    elim (cases_Bool (term.node == node && has term.choices 0)) [
      | inl here ↦
          (let parts = and_parts (term.node == node) (has term.choices 0) here in
          record { choices = term.choices; at = set_at-head term terms node (eqb-true term.node node parts.0); none = parts.1 })
      | inr other ↦
          (let rest = has_none terms node (AreNodesAscending-tail term terms up)
          (sym (ap (λ b. b || list_any (λ t. t.node == node && has t.choices 0) terms) other) ∙ any) in
          record {
            choices = rest.choices;
            at = set_at-tail term terms node (behind_differs term terms node rest.choices up rest.at) ∙ rest.at;
            none = rest.none;
          })
    ]

-- two tests that imply each other are equal
same_test : (a b : Bool) → (a ≡ true → b ≡ true) → (b ≡ true → a ≡ true) → a ≡ b
same_test true b there back = sym (there refl)
same_test false true there back = back refl
same_test false false there back = refl

-- the term isn't kept
abbrev is_missing : List Assigned → Term → Bool
is_missing trail term = not (is_kept (decision_of trail term.node) term)

-- a fact that asks an undecided node requires it
asked_requires : (trail : List Assigned) (terms : List Term) (node : ℕ) → AreNodesAscending terms → decision_of trail node ≡ None
    → is_asked trail node terms ≡ true → is_node node (required_in (decision_of trail) terms) ≡ true
asked_requires trail terms node up undecided asked =
    let parts = and_parts (list_any (λ term. term.node == node && has term.choices 0) terms) (list_all (is_met trail node) terms) asked in
    let at = has_none terms node up parts.0 in
    let one : IsOne (is_missing trail) terms node at.choices = record {
      at = at.at;
      passes = ap (λ d. not (is_kept d (term_of node at.choices))) undecided;
      others = λ other its differs there.
          let met = all_at (is_met trail node) terms other its parts.1 there in
          ap not (kept_is trail other (term_of other its)
          ∙ second (other == node) (is_decided trail other && has its (chosen trail other)) (ne_eqb other node differs) met);
    } in
    ap (λ open_terms. is_node node (the_required (decision_of trail) open_terms)) (one_from (is_missing trail) terms node at.choices up one)
    ∙ ap (λ d. is_node node (if_undecided d (term_of node at.choices))) undecided
    ∙ ap (λ b. is_node node (cond b (Some node) None)) at.none ∙ eq-eqb node node refl
  where
    second : (a b : Bool) → a ≡ false → (a || b) ≡ true → b ≡ true
    second true b no_a either = absurd (false≢true (sym no_a))
    second false b no_a either = either

-- what a fact requires is undecided
record IsRequired (trail : List Assigned) (terms : List Term) (node : ℕ) : Type 0 where
  choices : ChoiceSet
  one : IsOne (is_missing trail) terms node choices
  none : has choices 0 ≡ true
  undecided : decision_of trail node ≡ None

-- what a fact requires isn't kept, and all else is
required_is : (trail : List Assigned) (terms : List Term) (node : ℕ) → AreNodesAscending terms
    → is_node node (required_in (decision_of trail) terms) ≡ true → IsRequired trail terms node
required_is trail terms node up is = go (filter (is_missing trail) terms) refl is
  where
    by_none : (term : Term) (b : Bool) → has term.choices 0 ≡ b → decision_of trail term.node ≡ None → filter (is_missing trail) terms ≡ term ∷ []
        → is_node node (cond b (Some term.node) None) ≡ true → IsRequired trail terms node
    by_none term true none undecided one same =
        let e : term.node ≡ node = eqb-true term.node node same in
        subst (IsRequired trail terms) e
        (record { choices = term.choices; one = one_is (is_missing trail) terms term up one; none = none; undecided = undecided })
    by_none term false none undecided one same = absurd (false≢true same)

    by_decision : (term : Term) (d : Option ℕ) → decision_of trail term.node ≡ d → filter (is_missing trail) terms ≡ term ∷ []
        → is_node node (if_undecided d term) ≡ true → IsRequired trail terms node
    by_decision term None at one same = by_none term (has term.choices 0) refl at one same
    by_decision term (Some choice) at one same = absurd (false≢true same)

    go : (open_terms : List Term) → filter (is_missing trail) terms ≡ open_terms → is_node node (the_required (decision_of trail) open_terms) ≡ true
        → IsRequired trail terms node
    go [] one same = absurd (false≢true same)
    go (term ∷ []) one same = by_decision term (decision_of trail term.node) refl one same
    go (term ∷ next ∷ others) one same = absurd (false≢true same)

-- and the fact asks it
required_asked : (trail : List Assigned) (terms : List Term) (node : ℕ) → AreNodesAscending terms → IsRequired trail terms node
    → is_asked trail node terms ≡ true
required_asked trail terms node up is =
    both (any_at (λ term. term.node == node && has term.choices 0) terms node is.choices is.one.at
    (both (eq-eqb node node refl) is.none))
    (each_node (is_met trail node) terms up (λ other its at.
    elim (cases_eq other node) [
      | inl same ↦ either_left (other == node) (is_decided trail other && has its (chosen trail other)) (eq-eqb other node same)
      | inr differs ↦
          either_right (other == node) (is_decided trail other && has its (chosen trail other))
          (sym (kept_is trail other (term_of other its)) ∙ not_missing (is_kept (decision_of trail other) (term_of other its)) (is.one.others other its differs at))
    ]))
  where
    both : {a b : Bool} → a ≡ true → b ≡ true → (a && b) ≡ true
    both {a} {b} first second = ap₂ (λ x y. x && y) first second

    either_left : (a b : Bool) → a ≡ true → (a || b) ≡ true
    either_left a b first = ap (λ x. x || b) first

    either_right : (a b : Bool) → b ≡ true → (a || b) ≡ true
    either_right true b second = refl
    either_right false b second = second

    not_missing : (b : Bool) → not b ≡ false → b ≡ true
    not_missing true no_b = refl
    not_missing false no_b = absurd (false≢true (sym no_b))

-- ---- all facts

-- the terms of each fact ascend
abbrev pub AllAscend : List (List Term) → Type 0
AllAscend [] = Unit {0}
AllAscend (terms ∷ facts) = AreNodesAscending terms × AllAscend facts

-- an undecided node is required by the facts that ask it
facts_ask : (trail : List Assigned) (facts : List (List Term)) (node : ℕ) → AllAscend facts → decision_of trail node ≡ None
    → list_any (λ terms. is_node node (required_in (decision_of trail) terms)) facts ≡ list_any (is_asked trail node) facts
facts_ask trail [] node up undecided = refl
facts_ask trail (terms ∷ facts) node up undecided =
    ap₂ (λ a b. a || b)
    (same_test (is_node node (required_in (decision_of trail) terms)) (is_asked trail node terms)
    (λ required. required_asked trail terms node up.0 (required_is trail terms node up.0 required))
    (λ asked. asked_requires trail terms node up.0 undecided asked))
    (facts_ask trail facts node up.1 undecided)

-- a decided node is required by none
none_required : (trail : List Assigned) (facts : List (List Term)) (node choice : ℕ) → AllAscend facts → decision_of trail node ≡ Some choice
    → list_any (λ terms. is_node node (required_in (decision_of trail) terms)) facts ≡ false
none_required trail [] node choice up decided = refl
none_required trail (terms ∷ facts) node choice up decided =
    ap₂ (λ a b. a || b)
    (false_from_ne_true (is_node node (required_in (decision_of trail) terms)) (λ required.
    let none : None ≡ Some choice = sym (required_is trail terms node up.0 required).undecided ∙ decided in cc))
    (none_required trail facts node choice up.1 decided)

-- what is marked is what is open
pub marked_open : (trail : List Assigned) (facts : List (List Term)) (node : ℕ) → AllAscend facts
    → list_any (λ terms. is_node node (required_in (decision_of trail) terms)) facts ≡ is_open facts trail node
marked_open trail facts node up = go (decision_of trail node) refl
  where
    undecided_last : (b d : Bool) → d ≡ false → b ≡ (b && not d)
    undecided_last true false no_d = refl
    undecided_last false false no_d = refl
    undecided_last b true no_d = absurd (false≢true (sym no_d))

    decided_last : (b d : Bool) → d ≡ true → false ≡ (b && not d)
    decided_last true true is_d = refl
    decided_last false true is_d = refl
    decided_last b false is_d = absurd (false≢true is_d)

    go : (d : Option ℕ) → decision_of trail node ≡ d
        → list_any (λ terms. is_node node (required_in (decision_of trail) terms)) facts ≡ is_open facts trail node
    go None at =
        facts_ask trail facts node up at
        ∙ undecided_last (list_any (is_asked trail node) facts) (is_decided trail node) (sym (decided_is trail node) ∙ ap is_there at)
    go (Some choice) at =
        none_required trail facts node choice up at
        ∙ decided_last (list_any (is_asked trail node) facts) (is_decided trail node) (sym (decided_is trail node) ∙ ap is_there at)

-- ---- the loops

-- one more undecided node
pub AreDecisions-push : (decisions : List (Option ℕ)) → AreDecisions (length decisions) [] decisions
    → AreDecisions (length (decisions ++ None ∷ [])) [] (decisions ++ None ∷ [])
AreDecisions-push decisions are = record {
  nodes = refl;
  each = λ node below.
      elim (cases_lt node (length decisions)) [
        | inl before ↦ get_or_append_left decisions (None ∷ []) None node before ∙ are.each node before
        | inr behind ↦
            (let last : length decisions ≡ node = omega (arith, length_push decisions None) in
            get_or_push decisions None None node last)
      ];
}

-- a derivation decides nothing
pub AreDecisions-derived : (count : ℕ) (before : List Assigned) (entry : Assigned) (decisions : List (Option ℕ)) → (entry.reason ≡ Decided → ⊥)
    → AreDecisions count before decisions → AreDecisions count (entry ∷ before) decisions
AreDecisions-derived count before entry decisions never are = record { nodes = are.nodes; each = λ node below. are.each node below ∙ same node entry.reason never }
  where
    same : (node : ℕ) (reason : Reason) → (reason ≡ Decided → ⊥)
        → decision_of before node
        ≡ by_reason reason (cond (entry.node == node) (Some (first_or entry.choices.members 0)) (decision_of before node)) (λ number. decision_of before node)
    same node Decided never = absurd (never refl)
    same node (Derived number) never = refl

-- a decision decides its node
pub AreDecisions-decided : (count : ℕ) (before : List Assigned) (entry : Assigned) (decisions : List (Option ℕ)) → entry.reason ≡ Decided → entry.node < count
    → AreDecisions count before decisions
    → AreDecisions count (entry ∷ before) (set decisions entry.node (Some (first_or entry.choices.members 0)))
AreDecisions-decided count before entry decisions decided there are = record {
  nodes = length-set decisions entry.node (Some (first_or entry.choices.members 0)) ∙ are.nodes;
  each = λ node below.
      elim (cases_eq node entry.node) [
        | inl same ↦
            subst (λ n. decision_in (set decisions entry.node (Some (first_or entry.choices.members 0))) n ≡ decision_of (entry ∷ before) n) (sym same)
            (get_or-set_same decisions entry.node (Some (first_or entry.choices.members 0)) None (omega (arith, are.nodes)) ∙ here entry.reason decided)
        | inr differs ↦
            get_or-set_other decisions entry.node node (Some (first_or entry.choices.members 0)) None differs ∙ are.each node below
            ∙ other node entry.reason decided (λ same. differs (sym same))
      ];
}
  where
    here : (reason : Reason) → reason ≡ Decided
        → Some (first_or entry.choices.members 0)
        ≡ by_reason reason (cond (entry.node == entry.node) (Some (first_or entry.choices.members 0)) (decision_of before entry.node))
        (λ number. decision_of before entry.node)
    here Decided is = sym (cond-true (entry.node == entry.node) (Some (first_or entry.choices.members 0)) (decision_of before entry.node) (eq-eqb entry.node entry.node refl))
    here (Derived number) is = cc

    other : (node : ℕ) (reason : Reason) → reason ≡ Decided → (entry.node ≡ node → ⊥)
        → decision_of before node
        ≡ by_reason reason (cond (entry.node == node) (Some (first_or entry.choices.members 0)) (decision_of before node)) (λ number. decision_of before node)
    other node Decided is differs =
        sym (cond-false (entry.node == node) (Some (first_or entry.choices.members 0)) (decision_of before node) (ne_eqb entry.node node differs))
    other node (Derived number) is differs = cc

-- what is marked so far, with what the facts that are left will mark
pub record AreMarking (decision : ℕ → Option ℕ) (count : ℕ) (left facts : List (List Term)) (marks : List Bool) : Type 0 where
  pub nodes : length marks ≡ count
  pub each : (node : ℕ) → node < count
      → (get_or marks node false || list_any (λ terms. is_node node (required_in decision terms)) left)
      ≡ list_any (λ terms. is_node node (required_in decision terms)) facts

-- a fact that requires nothing marks nothing
pub AreMarking-none : (decision : ℕ → Option ℕ) (count : ℕ) (terms : List Term) (left facts : List (List Term)) (marks : List Bool)
    → AreMarking decision count (terms ∷ left) facts marks → required_in decision terms ≡ None → AreMarking decision count left facts marks
AreMarking-none decision count terms left facts marks are none = record {
  nodes = are.nodes;
  each = λ node below.
      ap (λ r. get_or marks node false || (is_node node r || list_any (λ ts. is_node node (required_in decision ts)) left)) (sym none) ∙ are.each node below;
}

-- one that requires a node marks it
pub AreMarking-some : (decision : ℕ → Option ℕ) (count : ℕ) (terms : List Term) (left facts : List (List Term)) (marks : List Bool) (required : ℕ)
    → AreMarking decision count (terms ∷ left) facts marks → required_in decision terms ≡ Some required → required < count
    → AreMarking decision count left facts (set marks required true)
AreMarking-some decision count terms left facts marks required are some there = record {
  nodes = length-set marks required true ∙ are.nodes;
  each = λ node below.
      (elim (cases_eq node required) [
        | inl same ↦
            ap (λ b. b || rest node) (ap (λ n. get_or (set marks required true) n false) same ∙ get_or-set_same marks required true false (omega (arith, are.nodes)))
            ∙ sym (marked (get_or marks node false) (required == node) (rest node) (eq-eqb required node (sym same)))
        | inr differs ↦
            ap (λ b. b || rest node) (get_or-set_other marks required node true false differs)
            ∙ unmarked (get_or marks node false) (required == node) (rest node) (ne_eqb required node (λ same. differs (sym same)))
      ])
      ∙ ap (λ r. get_or marks node false || (is_node node r || rest node)) (sym some) ∙ are.each node below;
}
  where
    rest : ℕ → Bool
    rest node = list_any (λ ts. is_node node (required_in decision ts)) left

    marked : (a b c : Bool) → b ≡ true → (a || (b || c)) ≡ true
    marked true b c is = refl
    marked false b c is = ap (λ x. x || c) is

    unmarked : (a b c : Bool) → b ≡ false → (a || c) ≡ (a || (b || c))
    unmarked a b c is = ap (λ x. a || (x || c)) (sym is)

-- nothing is marked at first
pub AreMarking-none_yet : (decision : ℕ → Option ℕ) (count : ℕ) (facts : List (List Term)) (marks : List Bool) → length marks ≡ count
    → marks ≡ replicate (length marks) false → AreMarking decision count facts facts marks
AreMarking-none_yet decision count facts marks long none = record {
  nodes = long;
  each = λ node below.
      ap (λ b. b || list_any (λ terms. is_node node (required_in decision terms)) facts)
      (ap (λ (ms : List Bool). get_or ms node false) none ∙ get_or-replicate (length marks) node false false (omega arith));
}

-- the facts from a place on: that of the place, if a load brought it, and those behind it
facts_at : (xs : List (List Term)) (origins : List Origin) (place : ℕ) (x : List Term) (origin : Origin) → place < length xs → length xs ≡ length origins
    → x ≡ get_or xs place x → origin ≡ get_or origins place origin
    → loaded_facts (drop place xs) (drop place origins) ≡ loaded_facts (x ∷ drop (suc place) xs) (origin ∷ drop (suc place) origins)
facts_at [] origins place x origin within long at from = absurd (omega arith)
facts_at (y ∷ ys) [] place x origin within long at from = absurd (omega arith)
facts_at (y ∷ ys) (other ∷ origins) zero x origin within long at from =
    ap₂ (λ t o. loaded_facts (t ∷ ys) (o ∷ origins)) (sym at) (sym from)
facts_at (y ∷ ys) (other ∷ origins) (suc place) x origin within long at from = facts_at ys origins place x origin (omega arith) (omega arith) at from

-- the same of incompatibilities
facts_from : (incompats : List Incompat) (origins : List Origin) (place : ℕ) (incompat : Incompat) (origin : Origin) → place < length incompats
    → length incompats ≡ length origins → incompat ≡ get_or incompats place incompat → origin ≡ get_or origins place origin
    → loaded_facts (drop place (terms_of incompats)) (drop place origins)
    ≡ loaded_facts (incompat.terms ∷ drop (place + 1) (terms_of incompats)) (origin ∷ drop (place + 1) origins)
facts_from incompats origins place incompat origin within long at from =
    let next : suc place ≡ place + 1 = omega arith in
    subst (λ n. loaded_facts (drop place (terms_of incompats)) (drop place origins)
    ≡ loaded_facts (incompat.terms ∷ drop n (terms_of incompats)) (origin ∷ drop n origins)) next
    (facts_at (terms_of incompats) origins place incompat.terms origin
    (omega (arith, length-map incompats (λ (i : Incompat). i.terms))) (length-map incompats (λ (i : Incompat). i.terms) ∙ long)
    (ap (λ (i : Incompat). i.terms) at ∙ sym (get_or-map (λ (i : Incompat). i.terms) incompats place incompat incompat.terms within)) from)

-- what is marked before a place
abbrev pub Marks : (ℕ → Option ℕ) → ℕ → List Incompat → List Origin → ℕ → List Bool → Type 0
Marks decision count incompats origins place marks =
    AreMarking decision count (loaded_facts (drop place (terms_of incompats)) (drop place origins)) (loaded_facts (terms_of incompats) origins) marks

-- what a conflict learned marks nothing
pub learned_step : (decision : ℕ → Option ℕ) (count : ℕ) (incompats : List Incompat) (origins : List Origin) (place : ℕ) (incompat : Incompat) (origin : Origin)
    (marks : List Bool) → place < length incompats → length incompats ≡ length origins → incompat ≡ get_or incompats place incompat
    → origin ≡ get_or origins place origin → ((cause : Cause) → origin ≡ OfLoad cause → ⊥) → Marks decision count incompats origins place marks
    → Marks decision count incompats origins (place + 1) marks
learned_step decision count incompats origins place incompat origin marks within long at from never are =
    subst (λ left. AreMarking decision count left (loaded_facts (terms_of incompats) origins) marks)
    (facts_from incompats origins place incompat origin within long at from ∙ passed origin never) are
  where
    passed : (o : Origin) → ((cause : Cause) → o ≡ OfLoad cause → ⊥)
        → loaded_facts (incompat.terms ∷ drop (place + 1) (terms_of incompats)) (o ∷ drop (place + 1) origins)
        ≡ loaded_facts (drop (place + 1) (terms_of incompats)) (drop (place + 1) origins)
    passed (OfLoad cause) never = absurd (never cause refl)
    passed (OfConflict first steps) never = refl

-- a fact that requires nothing marks nothing
pub none_step : (decision : ℕ → Option ℕ) (count : ℕ) (incompats : List Incompat) (origins : List Origin) (place : ℕ) (incompat : Incompat) (origin : Origin)
    (cause : Cause) (marks : List Bool) → place < length incompats → length incompats ≡ length origins → incompat ≡ get_or incompats place incompat
    → origin ≡ get_or origins place origin → origin ≡ OfLoad cause → required_in decision incompat.terms ≡ None
    → Marks decision count incompats origins place marks → Marks decision count incompats origins (place + 1) marks
none_step decision count incompats origins place incompat origin cause marks within long at from load none are =
    AreMarking-none decision count incompat.terms (loaded_facts (drop (place + 1) (terms_of incompats)) (drop (place + 1) origins))
    (loaded_facts (terms_of incompats) origins) marks
    (subst (λ left. AreMarking decision count left (loaded_facts (terms_of incompats) origins) marks)
    (facts_from incompats origins place incompat origin within long at from
    ∙ ap (λ o. loaded_facts (incompat.terms ∷ drop (place + 1) (terms_of incompats)) (o ∷ drop (place + 1) origins)) load) are) none

-- one that requires a node marks it
pub some_step : (decision : ℕ → Option ℕ) (count : ℕ) (incompats : List Incompat) (origins : List Origin) (place : ℕ) (incompat : Incompat) (origin : Origin)
    (cause : Cause) (marks : List Bool) (required : ℕ) → place < length incompats → length incompats ≡ length origins → incompat ≡ get_or incompats place incompat
    → origin ≡ get_or origins place origin → origin ≡ OfLoad cause → required_in decision incompat.terms ≡ Some required → required < count
    → Marks decision count incompats origins place marks → Marks decision count incompats origins (place + 1) (set marks required true)
some_step decision count incompats origins place incompat origin cause marks required within long at from load some there are =
    AreMarking-some decision count incompat.terms (loaded_facts (drop (place + 1) (terms_of incompats)) (drop (place + 1) origins))
    (loaded_facts (terms_of incompats) origins) marks required
    (subst (λ left. AreMarking decision count left (loaded_facts (terms_of incompats) origins) marks)
    (facts_from incompats origins place incompat origin within long at from
    ∙ ap (λ o. loaded_facts (incompat.terms ∷ drop (place + 1) (terms_of incompats)) (o ∷ drop (place + 1) origins)) load) are) some there

-- ---- what is open

-- tests of nodes below are the same by what is kept and by the trail
required_same : (count : ℕ) (trail : List Assigned) (decisions : List (Option ℕ)) (terms : List Term) → AreDecisions count trail decisions
    → All (λ (term : Term). term.node < count) terms
    → filter (λ term. not (is_kept (decision_in decisions term.node) term)) terms ≡ filter (λ term. not (is_kept (decision_of trail term.node) term)) terms
required_same count trail decisions [] are among = refl
required_same count trail decisions (term ∷ terms) are among =
    ap₂ (λ d (rest : List Term). cond (not (is_kept d term)) (term ∷ rest) rest)
    (are.each term.node (All-head (λ (t : Term). t.node < count) term terms among))
    (required_same count trail decisions terms are (All-tail (λ (t : Term). t.node < count) term terms among))

-- each term is on one of so many nodes
abbrev AreBelow : ℕ → List Term → Type 0
AreBelow count [] = Unit {0}
AreBelow count (term ∷ terms) = (term.node < count) × AreBelow count terms

-- some of such terms are such
below_filter : (count : ℕ) (test : Term → Bool) (terms : List Term) → All (λ (term : Term). term.node < count) terms → AreBelow count (filter test terms)
below_filter count test [] among = tt
below_filter count test (term ∷ terms) among =
    let rest = below_filter count test terms (All-tail (λ (t : Term). t.node < count) term terms among) in
    cond_both (test term) (term ∷ filter test terms) (filter test terms) (AreBelow count)
    (λ _. (All-head (λ (t : Term). t.node < count) term terms among, rest)) (λ _. rest)

-- and so is what a fact requires
requires_same : (count : ℕ) (trail : List Assigned) (decisions : List (Option ℕ)) (terms : List Term) → AreDecisions count trail decisions
    → All (λ (term : Term). term.node < count) terms → required_in (decision_in decisions) terms ≡ required_in (decision_of trail) terms
requires_same count trail decisions terms are among =
    go (filter (λ term. not (is_kept (decision_in decisions term.node) term)) terms)
    (below_filter count (λ term. not (is_kept (decision_in decisions term.node) term)) terms among)
    ∙ ap (the_required (decision_of trail)) (required_same count trail decisions terms are among)
  where
    go : (open_terms : List Term) → AreBelow count open_terms → the_required (decision_in decisions) open_terms ≡ the_required (decision_of trail) open_terms
    go [] below = refl
    go (term ∷ []) below = ap (λ d. if_undecided d term) (are.each term.node below.0)
    go (term ∷ next ∷ others) below = refl

-- each fact's terms ascend and are on some of so many nodes
abbrev AllAmong : ℕ → List (List Term) → Type 0
AllAmong count [] = Unit {0}
AllAmong count (terms ∷ facts) = AreAmong count terms × AllAmong count facts

-- so are the facts of loads where all incompatibilities are
loaded_among : (count : ℕ) (incompats : List Incompat) (origins : List Origin) → All (λ (incompat : Incompat). AreAmong count incompat.terms) incompats
    → AllAmong count (loaded_facts (terms_of incompats) origins)
loaded_among count [] origins among = tt
loaded_among count (incompat ∷ incompats) [] among = tt
loaded_among count (incompat ∷ incompats) (OfLoad cause ∷ origins) among = (
  All-head (λ (i : Incompat). AreAmong count i.terms) incompat incompats among,
  loaded_among count incompats origins (All-tail (λ (i : Incompat). AreAmong count i.terms) incompat incompats among),
)
loaded_among count (incompat ∷ incompats) (OfConflict first steps ∷ origins) among =
    loaded_among count incompats origins (All-tail (λ (i : Incompat). AreAmong count i.terms) incompat incompats among)

-- the marks are the same by what is kept and by the trail
marks_same : (count : ℕ) (trail : List Assigned) (decisions : List (Option ℕ)) (facts : List (List Term)) (node : ℕ) → AreDecisions count trail decisions
    → AllAmong count facts
    → list_any (λ terms. is_node node (required_in (decision_in decisions) terms)) facts
    ≡ list_any (λ terms. is_node node (required_in (decision_of trail) terms)) facts
marks_same count trail decisions [] node are among = refl
marks_same count trail decisions (terms ∷ facts) node are among =
    ap₂ (λ r b. is_node node r || b) (requires_same count trail decisions terms are among.0.1) (marks_same count trail decisions facts node are among.1)

-- such facts ascend
ascend : (count : ℕ) (facts : List (List Term)) → AllAmong count facts → AllAscend facts
ascend count [] among = tt
ascend count (terms ∷ facts) among = (among.0.0, ascend count facts among.1)

-- what is marked is open
pub opens : (count : ℕ) (trail : List Assigned) (decisions : List (Option ℕ)) (incompats : List Incompat) (origins : List Origin) (marks : List Bool)
    → AreDecisions count trail decisions → All (λ (incompat : Incompat). AreAmong count incompat.terms) incompats
    → AreMarked (decision_in decisions) count (loaded_facts (terms_of incompats) origins) marks
    → AreOpen count (loaded_facts (terms_of incompats) origins) trail marks
opens count trail decisions incompats origins marks are among marked =
    let facts = loaded_among count incompats origins among in
    record {
      nodes = marked.nodes;
      each = λ node below.
          marked.each node below ∙ marks_same count trail decisions (loaded_facts (terms_of incompats) origins) node are facts
          ∙ marked_open trail (loaded_facts (terms_of incompats) origins) node (ascend count (loaded_facts (terms_of incompats) origins) facts);
    }

-- at the end all is marked
pub marks_all : (decision : ℕ → Option ℕ) (count : ℕ) (facts : List (List Term)) (marks : List Bool) → AreMarking decision count [] facts marks
    → AreMarked decision count facts marks
marks_all decision count facts marks are = record {
  nodes = are.nodes;
  each = λ node below. sym (last (get_or marks node false)) ∙ are.each node below;
}
  where
    last : (b : Bool) → (b || false) ≡ b
    last true = refl
    last false = refl

-- nothing is left behind the last
none_left : {X : Type 0} (xs : List X) (place : ℕ) → length xs ≤ place → drop place xs ≡ []
none_left [] zero long = refl
none_left [] (suc place) long = refl
none_left (x ∷ xs) zero long = absurd (omega arith)
none_left (x ∷ xs) (suc place) long = none_left xs place (omega arith)

-- the marks of all facts
pub marks_end : (decision : ℕ → Option ℕ) (count : ℕ) (incompats : List Incompat) (origins : List Origin) (place : ℕ) (marks : List Bool) → length incompats ≤ place
    → Marks decision count incompats origins place marks → AreMarked decision count (loaded_facts (terms_of incompats) origins) marks
marks_end decision count incompats origins place marks long are =
    marks_all decision count (loaded_facts (terms_of incompats) origins) marks
    (subst (λ left. AreMarking decision count (loaded_facts left (drop place origins)) (loaded_facts (terms_of incompats) origins) marks)
    (none_left (terms_of incompats) place (omega (arith, length-map incompats (λ (i : Incompat). i.terms)))) are)

-- what is read at a place is read there by any default
pub get_or_same : {X : Type 0} (xs : List X) (place : ℕ) (default other : X) → place < length xs → get_or xs place default ≡ get_or xs place other
get_or_same [] place default other within = absurd (omega arith)
get_or_same (x ∷ xs) zero default other within = refl
get_or_same (x ∷ xs) (suc place) default other within = get_or_same xs place default other (omega arith)
