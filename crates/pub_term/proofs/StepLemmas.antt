-- The merge of two incompatibilities' terms: what a step of the loop keeps.
use Rattle.std.proofs.Common.{◌≡◌, ◌⊎◌, ℕ, ◌+◌, ◌<◌, ◌≤◌, ◌==◌, List, [], ◌∷◌, ◌++◌, length, get_or, drop, Some, sym, ap, ap₂, ◌∙◌, subst, inl, inr, append_assoc, append-nil, arith, eq-eqb}
use Rattle.std.proofs.lemmas.Bool.{false≢true}
use Rattle.std.proofs.lemmas.List.{drop_all, drop_more}
use Rattle.pub_set.specs.Choices.{IsSet}
use Rattle.pub_term.specs.Resolvent.{CanResolve, joined, resolvent, with_node}
use Rattle.pub_term.specs.Term.{AreNodesAscending, AreProper, IsIncompat, set_at}
use Rattle.pub_term.specs.declared.term.Term.{Term}
use Rattle.pub_term.proofs.AboveLemmas.{AreAbove, AreAbove-lower, AreAbove-tail, AreNodesAscending-drop, node_list, set_at-place}
use Rattle.pub_term.proofs.ProperLemmas.{AreProper-append, AreProper-drop, AreProper-joined, AreProper-place}
use Rattle.pub_term.proofs.ResolventLemmas.{AreNodesAscending-resolvent, resolvent-both, resolvent-first, resolvent-nil_first, resolvent-nil_second, resolvent-second}

-- What is asked, and the terms so far: with the resolvent of what is left of either list behind them they are the resolvent.
pub record IsMerging (first second : List Term) (on : ℕ) (terms : List Term) (i j : ℕ) : Type 0 where
  pub first_incompat : IsIncompat first
  pub second_incompat : IsIncompat second
  pub can : CanResolve first second on
  pub first_within : i ≤ length first
  pub second_within : j ≤ length second
  pub left : terms ++ resolvent (drop i first) (drop j second) on ≡ resolvent first second on
  pub proper : AreProper terms

-- the term at a place of a list, where it is one of an incompatibility
record IsAt (terms : List Term) (i : ℕ) (term : Term) : Type 0 where
  opened : drop i terms ≡ term ∷ drop (i + 1) terms
  ascending : AreNodesAscending (term ∷ drop (i + 1) terms)
  proper : AreProper (term ∷ [])
  set : set_at terms term.node ≡ Some term.choices

-- the term at a place, with what follows of it
is_at : (terms : List Term) (i : ℕ) (term : Term) → IsIncompat terms → i < length terms → term ≡ get_or terms i term → IsAt terms i term
is_at terms i term incompat within at =
    let open_terms : drop i terms ≡ term ∷ drop (i + 1) terms
    = drop_more terms i term within ∙ ap (λ t. t ∷ drop (i + 1) terms) (sym at) in
    record {
      opened = open_terms;
      ascending = subst AreNodesAscending open_terms (AreNodesAscending-drop i terms incompat.ascending);
      proper = subst (λ t. AreProper (t ∷ [])) (sym at) (AreProper-place terms i term incompat.proper within);
      set = subst (λ t. set_at terms t.node ≡ Some t.choices) (sym at) (set_at-place terms i term incompat.ascending within);
    }

-- the heads are above what is less than one of them
above_less : (low : ℕ) (term : Term) (terms : List Term) → low < term.node → AreNodesAscending (term ∷ terms) → AreAbove low (node_list (term ∷ terms))
above_less low term terms less up = (less, AreAbove-lower low term.node (node_list terms) (omega arith) (AreAbove-tail term terms up))

-- the sets of two heads on one node have one size
pub size_of_both : (first second : List Term) (on : ℕ) (terms : List Term) (i j : ℕ) (x y : Term) → IsMerging first second on terms i j
    → i < length first → j < length second → x ≡ get_or first i x → y ≡ get_or second j y → x.node ≡ y.node → x.choices.size ≡ y.choices.size
size_of_both first second on terms i j x y m within_first within_second at_first at_second same =
    let p = is_at first i x m.first_incompat within_first at_first in
    let q = is_at second j y m.second_incompat within_second at_second in
    m.can.sizes x.node x.choices y.choices p.set (ap (set_at second) same ∙ q.set)

-- ---- the steps

-- the first's head was put
pub IsMerging-first : (first second : List Term) (on : ℕ) (terms more : List Term) (i j : ℕ) (x y : Term) → IsMerging first second on terms i j → i < length first → j < length second → x ≡ get_or first i x → y ≡ get_or second j y
    → x.node < y.node → more ≡ terms ++ x ∷ [] → IsMerging first second on more (i + 1) j
IsMerging-first first second on terms more i j x y m within_first within_second at_first at_second less push =
    let p = is_at first i x m.first_incompat within_first at_first in
    let q = is_at second j y m.second_incompat within_second at_second in
    let above : AreAbove x.node (node_list (drop j second))
    = subst (λ rest. AreAbove x.node (node_list rest)) (sym q.opened) (above_less x.node y (drop (j + 1) second) less q.ascending) in
    let step : resolvent (drop i first) (drop j second) on ≡ x ∷ resolvent (drop (i + 1) first) (drop j second) on
    = ap (λ rest. resolvent rest (drop j second) on) p.opened ∙ resolvent-first x (drop (i + 1) first) (drop j second) on p.ascending above in
    rw push (record {
      first_incompat = m.first_incompat;
      second_incompat = m.second_incompat;
      can = m.can;
      first_within = omega arith;
      second_within = m.second_within;
      left =
          append_assoc terms (x ∷ []) (resolvent (drop (i + 1) first) (drop j second) on) ∙ ap (λ rest. terms ++ rest) (sym step) ∙ m.left;
      proper = AreProper-append terms (x ∷ []) m.proper p.proper;
    })

-- the second's head was put
pub IsMerging-second : (first second : List Term) (on : ℕ) (terms more : List Term) (i j : ℕ) (x y : Term) → IsMerging first second on terms i j → i < length first → j < length second → x ≡ get_or first i x → y ≡ get_or second j y
    → y.node < x.node → more ≡ terms ++ y ∷ [] → IsMerging first second on more i (j + 1)
IsMerging-second first second on terms more i j x y m within_first within_second at_first at_second less push =
    let p = is_at first i x m.first_incompat within_first at_first in
    let q = is_at second j y m.second_incompat within_second at_second in
    let above : AreAbove y.node (node_list (drop i first))
    = subst (λ rest. AreAbove y.node (node_list rest)) (sym p.opened) (above_less y.node x (drop (i + 1) first) less p.ascending) in
    let step : resolvent (drop i first) (drop j second) on ≡ y ∷ resolvent (drop i first) (drop (j + 1) second) on
    = ap (λ rest. resolvent (drop i first) rest on) q.opened ∙ resolvent-second (drop i first) y (drop (j + 1) second) on above q.ascending in
    rw push (record {
      first_incompat = m.first_incompat;
      second_incompat = m.second_incompat;
      can = m.can;
      first_within = m.first_within;
      second_within = omega arith;
      left =
          append_assoc terms (y ∷ []) (resolvent (drop i first) (drop (j + 1) second) on) ∙ ap (λ rest. terms ++ rest) (sym step) ∙ m.left;
      proper = AreProper-append terms (y ∷ []) m.proper q.proper;
    })

-- what both heads say was put
pub IsMerging-both : (first second : List Term) (on : ℕ) (terms more : List Term) (i j : ℕ) (x y : Term) → IsMerging first second on terms i j → i < length first → j < length second → x ≡ get_or first i x
    → y ≡ get_or second j y → x.node ≡ y.node → IsSet x.choices
    → more ≡ terms ++ with_node x.node (joined (x.node == on) (Some x.choices) (Some y.choices))
    → IsMerging first second on more (i + 1) (j + 1)
IsMerging-both first second on terms more i j x y m within_first within_second at_first at_second same set push =
    let p = is_at first i x m.first_incompat within_first at_first in
    let q = is_at second j y m.second_incompat within_second at_second in
    let here = with_node x.node (joined (x.node == on) (Some x.choices) (Some y.choices)) in
    let step : resolvent (drop i first) (drop j second) on ≡ here ++ resolvent (drop (i + 1) first) (drop (j + 1) second) on
    = ap₂ (λ a b. resolvent a b on) p.opened q.opened
    ∙ resolvent-both x y (drop (i + 1) first) (drop (j + 1) second) on same p.ascending q.ascending in
    let proper : AreProper here
    = AreProper-joined (x.node == on) x.choices y.choices x.node set p.proper.0 p.proper.1
    (λ off.
    m.can.meets x.node x.choices y.choices (λ e. false≢true (sym off ∙ eq-eqb x.node on e)) p.set (ap (set_at second) same ∙ q.set)) in
    rw push (record {
      first_incompat = m.first_incompat;
      second_incompat = m.second_incompat;
      can = m.can;
      first_within = omega arith;
      second_within = omega arith;
      left =
          append_assoc terms here (resolvent (drop (i + 1) first) (drop (j + 1) second) on) ∙ ap (λ rest. terms ++ rest) (sym step) ∙ m.left;
      proper = AreProper-append terms here m.proper proper;
    })

-- ---- the end

-- where one list is at its end the rest of the other is the resolvent
all_left : (first second : List Term) (on i j : ℕ) → AreNodesAscending (drop i first) → AreNodesAscending (drop j second)
    → (length first ≤ i) ⊎ (length second ≤ j) → drop i first ++ drop j second ≡ resolvent (drop i first) (drop j second) on
all_left first second on i j up_first up_second (inl past) =
    let none = drop_all i first past in
    ap (λ rest. rest ++ drop j second) none ∙ sym (resolvent-nil_first (drop j second) on up_second)
    ∙ ap (λ rest. resolvent rest (drop j second) on) (sym none)
all_left first second on i j up_first up_second (inr past) =
    let none = drop_all j second past in
    ap (λ rest. drop i first ++ rest) none ∙ append-nil (drop i first) ∙ sym (resolvent-nil_second (drop i first) on up_first)
    ∙ ap (λ rest. resolvent (drop i first) rest on) (sym none)

-- so at the end the terms are the resolvent
pub resolvent-end : (first second : List Term) (on : ℕ) (terms : List Term) (i j : ℕ) → IsMerging first second on terms i j → (length first ≤ i) ⊎ (length second ≤ j) → terms ++ drop i first ++ drop j second ≡ resolvent first second on
resolvent-end first second on terms i j m past =
    append_assoc terms (drop i first) (drop j second)
    ∙ ap (λ rest. terms ++ rest)
    (all_left first second on i j (AreNodesAscending-drop i first m.first_incompat.ascending)
    (AreNodesAscending-drop j second m.second_incompat.ascending) past)
    ∙ m.left

-- and an incompatibility
pub IsIncompat-end : (first second : List Term) (on : ℕ) (terms : List Term) (i j : ℕ) → IsMerging first second on terms i j → (length first ≤ i) ⊎ (length second ≤ j) → IsIncompat (terms ++ drop i first ++ drop j second)
IsIncompat-end first second on terms i j m past = record {
  ascending = rw (resolvent-end first second on terms i j m past)
      (AreNodesAscending-resolvent first second on m.second_incompat.ascending);
  proper = AreProper-append (terms ++ drop i first) (drop j second)
      (AreProper-append terms (drop i first) m.proper (AreProper-drop i first m.first_incompat.proper))
      (AreProper-drop j second m.second_incompat.proper);
}
