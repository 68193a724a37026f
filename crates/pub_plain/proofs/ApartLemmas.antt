-- The names of nodes are apart: each name's number is its place.
use Rattle.std.proofs.Common.{◌≡◌, ℕ, suc, ◌<◌, Bool, true, false, List, [], ◌∷◌, ◌++◌, length, refl, sym, ap, ◌∙◌, subst, inl, inr, arith, append_assoc, append-nil, length-append}
use Rattle.std.specs.List.{list_any}
use Rattle.std.proofs.lemmas.Bool.{cases_Bool, cases_eq, cond-false, cond-true, false≢true, or_left, or_right}
use Rattle.std.proofs.lemmas.List.{get_or_append_left}
use Rattle.pub_facts.specs.Numbered.{new_names, number_in}
use Rattle.pub_term.specs.NodeLaws.{node_eq, node_equiv}
use Rattle.pub_term.specs.declared.node.NodeName.{NodeName}
use Rattle.pub_term.specs.declared.node.NodeName.TheVariants.{Root}
use Rattle.pub_plain.specs.Loading.{name_at}

-- each name's number is its place
abbrev pub AreApart : List NodeName → Type 0
AreApart names = (number : ℕ) → number < length names → number_in names (name_at names number) ≡ number

-- a name that has a number keeps it over more names
pub number_more : (names more : List NodeName) (node : NodeName) → number_in names node < length names
    → number_in (names ++ more) node ≡ number_in names node
number_more [] more node there = absurd (omega (arith, there))
number_more (first ∷ names) more node there = elim (cases_Bool (node_eq first node)) [
  | inl is ↦
      cond-true (node_eq first node) 0 (suc (number_in (names ++ more) node)) is
      ∙ sym (cond-true (node_eq first node) 0 (suc (number_in names node)) is)
  | inr isnt ↦
      (let n : number_in (first ∷ names) node ≡ suc (number_in names node) = cond-false (node_eq first node) 0 (suc (number_in names node)) isnt in
      cond-false (node_eq first node) 0 (suc (number_in (names ++ more) node)) isnt
      ∙ ap (λ k. suc k) (number_more names more node (omega (arith, n, there))) ∙ sym n)
]

-- a node that isn't named yet gets the number behind the last
number_last : (names : List NodeName) (node : NodeName) → list_any (node_eq node) names ≡ false → number_in (names ++ node ∷ []) node ≡ length names
number_last [] node fresh = cond-true (node_eq node node) 0 1 (node_equiv.refl node)
number_last (first ∷ names) node fresh = elim (cases_Bool (node_eq first node)) [
  | inl is ↦
      absurd (false≢true (sym fresh
      ∙ or_left (node_eq node first) (list_any (node_eq node) names) (node_equiv.symm node first ∙ is)))
  | inr isnt ↦
      cond-false (node_eq first node) 0 (suc (number_in (names ++ node ∷ []) node)) isnt
      ∙ ap (λ k. suc k) (number_last names node (later (list_any (node_eq node) names) refl))
]
  where
    later : (b : Bool) → list_any (node_eq node) names ≡ b → list_any (node_eq node) names ≡ false
    later false is = is
    later true is = absurd (false≢true (sym fresh ∙ or_right (node_eq node first) (list_any (node_eq node) names) is))

-- and has the name of that place
name_last : (names : List NodeName) (node : NodeName) → name_at (names ++ node ∷ []) (length names) ≡ node
name_last [] node = refl
name_last (first ∷ names) node = name_last names node

-- one name more, that isn't among them, leaves names apart
apart_more : (names : List NodeName) (node : NodeName) → AreApart names → list_any (node_eq node) names ≡ false → AreApart (names ++ node ∷ [])
apart_more names node apart fresh number within = elim (cases_eq number (length names)) [
  | inl last ↦
      (let at : name_at (names ++ node ∷ []) number ≡ node = ap (name_at (names ++ node ∷ [])) last ∙ name_last names node in
      ap (number_in (names ++ node ∷ [])) at ∙ number_last names node fresh ∙ sym last)
  | inr differs ↦
      (let below : number < length names = omega (arith, within, differs, length-append names (node ∷ [])) in
      let at : name_at (names ++ node ∷ []) number ≡ name_at names number = get_or_append_left names (node ∷ []) Root number below in
      let is = apart number below in
      ap (number_in (names ++ node ∷ [])) at
      ∙ number_more names (node ∷ []) (name_at names number) (subst (λ k. k < length names) (sym is) below) ∙ is)
]

-- and so do the new names of a load
pub apart_new : (names nodes : List NodeName) → AreApart names → AreApart (names ++ new_names names nodes)
apart_new names [] apart = subst AreApart (sym (append-nil names)) apart
apart_new names (node ∷ nodes) apart = elim (cases_Bool (list_any (node_eq node) names)) [
  | inl there ↦
      subst (λ new. AreApart (names ++ new))
      (sym (cond-true (list_any (node_eq node) names) (new_names names nodes) (node ∷ new_names (names ++ node ∷ []) nodes) there))
      (apart_new names nodes apart)
  | inr fresh ↦
      subst (λ new. AreApart (names ++ new))
      (sym (cond-false (list_any (node_eq node) names) (new_names names nodes) (node ∷ new_names (names ++ node ∷ []) nodes) fresh))
      (subst AreApart (append_assoc names (node ∷ []) (new_names (names ++ node ∷ []) nodes))
      (apart_new (names ++ node ∷ []) nodes (apart_more names node apart fresh)))
]
