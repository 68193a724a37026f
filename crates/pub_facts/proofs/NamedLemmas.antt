-- Nodes that a load names are known behind those that were.
use Rattle.std.proofs.Common.{◌≡◌, ◌<◌, ◌⊎◌, ◌||◌, ℕ, zero, suc, Bool, true, false, List, [], ◌∷◌, ◌++◌, ◌+◌, drop, get_or, length, map, Contains, refl, sym, ap, ◌∙◌, subst, inl, inr, arith, append_assoc}
use Rattle.std.specs.List.{list_any}
use Rattle.std.proofs.lemmas.Bool.{cases_Bool, cond-false, cond-true, false≢true, or_cases}
use Rattle.std.proofs.lemmas.List.Folds.{list_any-append}
use Rattle.pub_term.specs.NodeLaws.{node_eq, node_equiv}
use Rattle.pub_term.specs.declared.node.NodeName.{NodeName}
use Rattle.pub_facts.specs.Numbered.{AreNamed, new_names, number_in, written_nodes}
use Rattle.pub_facts.specs.declared.fact.Fact.{Fact}
use Rattle.pub_facts.specs.declared.fact.Written.{Written}
use Rattle.pub_facts.proofs.FactLemmas.{node_same}
use Rattle.pub_facts.proofs.NewNames.{new_names_append}
use Rattle.pub_facts.proofs.Members.{contains_cases, contains_nothing}

-- a node that is among the names has a number
pub numbered_there : (names : List NodeName) (node : NodeName) → list_any (node_eq node) names ≡ true → number_in names node < length names
numbered_there [] node there = absurd (false≢true there)
numbered_there (first ∷ names) node there = elim (cases_Bool (node_eq first node)) [
  | inl is ↦ (let n : number_in (first ∷ names) node ≡ 0 = cond-true (node_eq first node) 0 (suc (number_in names node)) is in omega (arith, n))
  | inr isnt ↦
      (let n : number_in (first ∷ names) node ≡ suc (number_in names node) = cond-false (node_eq first node) 0 (suc (number_in names node)) isnt in
      let later = numbered_there names node (behind isnt (or_cases (node_eq node first) (list_any (node_eq node) names) there)) in
      omega (arith, n, later))
]
  where
    behind : node_eq first node ≡ false → (node_eq node first ≡ true) ⊎ (list_any (node_eq node) names ≡ true) → list_any (node_eq node) names ≡ true
    behind isnt (inl same) =
        absurd (false≢true (sym isnt ∙ subst (λ n. node_eq first n ≡ true) (sym (node_same node first same)) (node_equiv.refl first)))
    behind isnt (inr later) = later

in_left : (test : NodeName → Bool) (xs ys : List NodeName) → list_any test xs ≡ true → list_any test (xs ++ ys) ≡ true
in_left test xs ys there = list_any-append test xs ys ∙ ap (λ b. b || list_any test ys) there

in_right : (test : NodeName → Bool) (xs ys : List NodeName) → list_any test ys ≡ true → list_any test (xs ++ ys) ≡ true
in_right test xs ys there = list_any-append test xs ys ∙ right (list_any test xs) (list_any test ys) there
  where
    right : (a b : Bool) → b ≡ true → (a || b) ≡ true
    right true b is = refl
    right false b is = is

-- what is written is among the names that were known and those that are new
written_is_named : (names written : List NodeName) (node : NodeName) → Contains written node
    → list_any (node_eq node) (names ++ new_names names written) ≡ true
written_is_named names [] node here = absurd (contains_nothing node here)
written_is_named names (first ∷ written) node here = elim (cases_Bool (list_any (node_eq first) names)) [
  | inl known ↦
      (let e : new_names names (first ∷ written) ≡ new_names names written = cond-true (list_any (node_eq first) names) (new_names names written) _ known in
      elim (contains_cases first node written here) [
        | inl same ↦ in_left (node_eq node) names (new_names names (first ∷ written)) (subst (λ n. list_any (node_eq n) names ≡ true) same known)
        | inr later ↦ ap (λ more. list_any (node_eq node) (names ++ more)) e ∙ written_is_named names written node later
      ])
  | inr isnt ↦
      (let e : new_names names (first ∷ written) ≡ first ∷ new_names (names ++ first ∷ []) written
      = cond-false (list_any (node_eq first) names) (new_names names written) (first ∷ new_names (names ++ first ∷ []) written) isnt in
      elim (contains_cases first node written here) [
        | inl same ↦
            ap (λ more. list_any (node_eq node) (names ++ more)) e
            ∙ in_right (node_eq node) names (first ∷ new_names (names ++ first ∷ []) written)
            (ap (λ b. b || list_any (node_eq node) (new_names (names ++ first ∷ []) written)) (subst (λ n. node_eq n first ≡ true) same (node_equiv.refl first)))
        | inr later ↦
            ap (λ more. list_any (node_eq node) (names ++ more)) e
            ∙ (ap (list_any (node_eq node)) (sym (append_assoc names (first ∷ []) (new_names (names ++ first ∷ []) written)))
            ∙ written_is_named (names ++ first ∷ []) written node later)
      ])
]

-- the nodes of facts are known behind those that were
pub facts_are_named : (names : List NodeName) (facts : List Fact) → AreNamed (names ++ new_names names (written_nodes facts)) facts
facts_are_named names facts node here =
    numbered_there (names ++ new_names names (written_nodes facts)) node (written_is_named names (written_nodes facts) node here)

-- ---- the nodes of one fact more

more_named : (known names xs ys : List NodeName)
    → names ++ new_names (known ++ names) (xs ++ ys)
    ≡ (names ++ new_names (known ++ names) xs) ++ new_names (known ++ (names ++ new_names (known ++ names) xs)) ys
more_named known names xs ys =
    let new : List NodeName = new_names (known ++ names) xs in
    ap (λ more. names ++ more) (new_names_append (known ++ names) xs ys)
    ∙ (sym (append_assoc names new (new_names ((known ++ names) ++ new) ys))
    ∙ ap (λ all. (names ++ new) ++ new_names all ys) (append_assoc known names new))

-- the names, with those of one fact more
pub named_step : (known names next : List NodeName) (one : Fact) (rest : List Fact)
    → next ≡ names ++ new_names (known ++ names) (map (λ (term : Written). term.node) one.terms)
    → names ++ new_names (known ++ names) (written_nodes (one ∷ rest)) ≡ next ++ new_names (known ++ next) (written_nodes rest)
named_step known names next one rest is =
    more_named known names (map (λ (term : Written). term.node) one.terms) (written_nodes rest)
    ∙ ap (λ all. all ++ new_names (known ++ all) (written_nodes rest)) (sym is)

-- the names of facts that are given in pieces
pub names_are : (nodes known names : List NodeName) (written given facts : List Fact) → known ≡ nodes → given ≡ written → written ≡ facts
    → names ≡ new_names known (written_nodes given) → names ≡ new_names nodes (written_nodes facts)
names_are nodes known names written given facts is_known is_given is_written is =
    is ∙ (ap (λ ns. new_names ns (written_nodes given)) is_known ∙ ap (λ fs. new_names nodes (written_nodes fs)) (is_given ∙ is_written))
