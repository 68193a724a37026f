-- The node that is next, and its choice: it is named, open, and left that choice.
use Rattle.std.proofs.Common.{◌≡◌, ℕ, zero, suc, ◌+◌, ◌<◌, ◌≤◌, Bool, true, false, not, ◌&&◌, List, [], ◌∷◌, map, reverse, length, slice_get, All, Option, Some, None, refl, sym, ap, ◌∙◌, subst, inl, inr, arith}
use Rattle.std.specs.List.{filter, list_any}
use Rattle.std.specs.Ordering.{is_lt}
use Rattle.std.proofs.lemmas.Bool.{and_parts, cases_Bool, cond-false, cond-true, false≢true}
use Rattle.std.proofs.lemmas.List.{reverse-append}
use Rattle.std.proofs.lemmas.List.Elements.{All-append, All-cons, All-filter, All-head, All-nil, All-tail}
use Rattle.pub_set.specs.Choices.{numbers_below}
use Rattle.pub_facts.specs.Catalogue.{Lookups, release_at}
use Rattle.pub_term.specs.Node.{node_cmp}
use Rattle.pub_term.specs.declared.node.NodeName.{NodeName}
use Rattle.pub_term.specs.declared.node.NodeName.TheVariants.{Root, RootTrait, Package, PackageTrait}
use Rattle.pub_term.specs.declared.term.Term.{Term}
use Rattle.pub_trail.specs.First.{chosen, is_asked}
use Rattle.pub_trail.specs.Required.{is_open, loaded_facts}
use Rattle.pub_trail.specs.Trail.{allows, is_decided}
use Rattle.pub_trail.specs.Turn.{Next, State, or_some, when_true}
use Rattle.pub_trail.specs.declared.trail.Assigned.{Assigned}
use Rattle.spm_version.specs.Release.{Parts}
use Rattle.pub_plain.specs.Choosing.{Pins, choices_down, first_that, is_needed, is_pinned, is_ready, is_trait, least_from, lesser, next_at, next_in, next_named, next_node, next_package, owner_number, pin_of, ranked_in}
use Rattle.pub_plain.specs.Loading.{is_package, name_at}

-- ---- the least that passes

-- the place of a name that passes
record IsFound (test : ℕ → NodeName → Bool) (from : ℕ) (names : List NodeName) (found : ℕ × NodeName) : Type 0 where
  place : ℕ
  is : found.0 ≡ from + place
  within : place < length names
  named : name_at names place ≡ found.1
  passes : test found.0 found.1 ≡ true

-- the same with one more name before it
found_behind : (test : ℕ → NodeName → Bool) (from : ℕ) (name : NodeName) (names : List NodeName) (found : ℕ × NodeName)
    → IsFound test (from + 1) names found
    → IsFound test from (name ∷ names) found
found_behind test from name names found at =
    record { place = suc at.place; is = omega (arith, at.is); within = omega (arith, at.within); named = at.named; passes = at.passes }

-- the least that passes does pass
least_is : (test : ℕ → NodeName → Bool) (from : ℕ) (names : List NodeName) (found : ℕ × NodeName) → least_from test from names ≡ Some found
    → IsFound test from names found
least_is test from [] found is = cc
least_is test from (name ∷ names) found is =
    go (test from name) (least_from test (from + 1) names) refl (λ e. least_is test (from + 1) names found e) refl is
  where
    here : test from name ≡ true → (from, name) ≡ found → IsFound test from (name ∷ names) found
    here passes same =
        record {
          place = 0;
          is = ap (λ (f : ℕ × NodeName). f.0) (sym same) ∙ omega arith;
          within = omega arith;
          named = ap (λ (f : ℕ × NodeName). f.1) same;
          passes = ap (λ (f : ℕ × NodeName). test f.0 f.1) (sym same) ∙ passes;
        }

    some_same : (first second : ℕ × NodeName) → Some first ≡ Some second → first ≡ second
    some_same first second same = cc

    go : (b : Bool) (rest : Option (ℕ × NodeName)) → test from name ≡ b
        → (least_from test (from + 1) names ≡ Some found → IsFound test (from + 1) names found)
        → least_from test (from + 1) names ≡ rest → lesser (when_true b (from, name)) rest ≡ Some found → IsFound test from (name ∷ names) found
    go false rest fails next at is = found_behind test from name names found (next (at ∙ is))
    go true None passes next at is = here passes (some_same (from, name) found is)
    go true (Some second) passes next at is = elim (cases_Bool (is_lt (node_cmp second.1 name))) [
      | inl less ↦
          found_behind test from name names found
          (next (at ∙ (sym (cond-true (is_lt (node_cmp second.1 name)) (Some second) (Some (from, name)) less) ∙ is)))
      | inr more ↦
          here passes (some_same (from, name) found (sym (cond-false (is_lt (node_cmp second.1 name)) (Some second) (Some (from, name)) more) ∙ is))
    ]

-- ---- the choice

-- the choice is a release of the list
abbrev IsRelease : List Parts → ℕ → Type 0
IsRelease list k = (release : Parts) × (release_at list k ≡ Some release)

-- a place in a list has a release
got : (list : List Parts) (k : ℕ) → k < length list → (release : Parts) × (slice_get list k ≡ Some release)
got [] k below = absurd (omega (arith, below))
got (first ∷ list) zero below = (first, refl)
got (first ∷ list) (suc k) below = got list k (omega (arith, below))

-- each of the numbers from so many down is a release
down_releases : (list : List Parts) (n : ℕ) → n ≤ length list → All (IsRelease list) (map (λ k. suc k) (reverse (numbers_below n)))
down_releases list zero within = All-nil (IsRelease list)
down_releases list (suc n) within =
    subst (All (IsRelease list)) (sym (ap (map (λ k. suc k)) (reverse-append (numbers_below n) (n ∷ []))))
    (All-cons (IsRelease list) (suc n) (map (λ k. suc k) (reverse (numbers_below n))) (got list n (omega (arith, within)))
    (down_releases list n (omega (arith, within))))

-- each ranked choice is a release
ranked_releases : (pin : Option Parts) (list : List Parts) → All (IsRelease list) (ranked_in pin list)
ranked_releases pin list =
    let all = down_releases list (length list) (omega arith) in
    All-append (IsRelease list) (filter (λ k. is_pinned pin (release_at list k)) (choices_down list))
    (filter (λ k. not (is_pinned pin (release_at list k))) (choices_down list))
    (All-filter (λ k. is_pinned pin (release_at list k)) (IsRelease list) (choices_down list) all)
    (All-filter (λ k. not (is_pinned pin (release_at list k))) (IsRelease list) (choices_down list) all)

-- the first that passes is one of them, and passes
first_is : (P : ℕ → Type 0) (test : ℕ → Bool) (numbers : List ℕ) (k : ℕ) → All P numbers → first_that test numbers ≡ Some k → P k × (test k ≡ true)
first_is P test [] k all found = cc
first_is P test (x ∷ xs) k all found = elim (cases_Bool (test x)) [
  | inl passes ↦
      (let e : Some x ≡ Some k = sym (cond-true (test x) (Some x) (first_that test xs) passes) ∙ found in
      let same : x ≡ k = cc in
      (subst P same (All-head P x xs all), ap test (sym same) ∙ passes))
  | inr fails ↦ first_is P test xs k (All-tail P x xs all) (sym (cond-false (test x) (Some x) (first_that test xs) fails) ∙ found)
]

-- ---- what is next

-- a package is next at a release that is left, and is loaded there
pub record IsNextPackage (l : Lookups) (trail : List Assigned) (next : Next) (identity : List ℕ) : Type 0 where
  pub release : Parts
  pub there : release_at (l.list identity) next.choice ≡ Some release
  pub allowed : allows trail next.node next.choice ≡ true
  pub place_choice : next.place.choice ≡ next.choice

-- a trait is switched on, and is loaded at the choice of its owner, which is decided
pub record IsNextTrait (names : List NodeName) (trail : List Assigned) (next : Next) (name : NodeName) : Type 0 where
  pub on : next.choice ≡ 1
  pub owner : is_decided trail (owner_number names name) ≡ true
  pub place_choice : next.place.choice ≡ chosen trail (owner_number names name)

abbrev pub IsNextAt : Lookups → List NodeName → List Assigned → Next → NodeName → Type 0
IsNextAt l names trail next Root = ⊥
IsNextAt l names trail next (RootTrait name) = IsNextTrait names trail next (RootTrait name)
IsNextAt l names trail next (Package identity) = IsNextPackage l trail next identity
IsNextAt l names trail next (PackageTrait identity name) = IsNextTrait names trail next (PackageTrait identity name)

-- what is next is named and open, and loaded at its own number
pub record IsNext (l : Lookups) (names : List NodeName) (facts : List (List Term)) (trail : List Assigned) (next : Next) : Type 0 where
  pub known : next.node < length names
  pub asked : list_any (is_asked trail next.node) facts ≡ true
  pub undecided : is_decided trail next.node ≡ false
  pub place_node : next.place.node ≡ next.node
  pub at : IsNextAt l names trail next (name_at names next.node)

-- the owner of a trait that is next is decided
abbrev IsOwned : List NodeName → List Assigned → NodeName → Type 0
IsOwned names trail name = is_trait name ≡ true → is_decided trail (owner_number names name) ≡ true

-- a node that is next: named, open, and of a trait owned
record IsOpen (names : List NodeName) (facts : List (List Term)) (trail : List Assigned) (found : ℕ × NodeName) : Type 0 where
  known : found.0 < length names
  named : name_at names found.0 ≡ found.1
  is_opened : is_open facts trail found.0 ≡ true
  owned : IsOwned names trail found.1

-- a package is no trait
package_not_trait : (name : NodeName) → is_package name ≡ true → is_trait name ≡ true → ⊥
package_not_trait Root one other = false≢true one
package_not_trait (RootTrait name) one other = false≢true one
package_not_trait (Package identity) one other = false≢true other
package_not_trait (PackageTrait identity name) one other = false≢true one

-- the number of what is found among all names is its place
place_is : (test : ℕ → NodeName → Bool) (names : List NodeName) (found : ℕ × NodeName) → IsFound test 0 names found
    → (found.0 < length names) × (name_at names found.0 ≡ found.1)
place_is test names found at =
    let e : at.place ≡ found.0 = omega (arith, at.is) in
    (omega (arith, at.within), ap (name_at names) (sym e) ∙ at.named)

-- the next node is so
next_open : (names : List NodeName) (facts : List (List Term)) (trail : List Assigned) (found : ℕ × NodeName)
    → next_node names facts trail ≡ Some found
    → IsOpen names facts trail found
next_open names facts trail found is =
    go (least_from (is_ready names facts trail) 0 names) (λ e. least_is (is_ready names facts trail) 0 names found e) refl is
  where
    go : (first : Option (ℕ × NodeName))
        → (least_from (is_ready names facts trail) 0 names ≡ Some found → IsFound (is_ready names facts trail) 0 names found)
        → least_from (is_ready names facts trail) 0 names ≡ first → or_some first (least_from (is_needed facts trail) 0 names) ≡ Some found
        → IsOpen names facts trail found
    go (Some other) ready at is =
        let it = ready (at ∙ is) in
        let place = place_is (is_ready names facts trail) names found it in
        let parts = and_parts (is_trait found.1) (is_open facts trail found.0 && is_decided trail (owner_number names found.1)) it.passes in
        let rest = and_parts (is_open facts trail found.0) (is_decided trail (owner_number names found.1)) parts.1 in
        record { known = place.0; named = place.1; is_opened = rest.0; owned = λ trait. rest.1 }
    go None ready at is =
        let it = least_is (is_needed facts trail) 0 names found is in
        let place = place_is (is_needed facts trail) names found it in
        let parts = and_parts (is_package found.1) (is_open facts trail found.0) it.passes in
        record { known = place.0; named = place.1; is_opened = parts.1; owned = λ trait. absurd (package_not_trait found.1 parts.0 trait) }

-- what a name that is next comes to
record IsNamed (l : Lookups) (names : List NodeName) (trail : List Assigned) (number : ℕ) (name : NodeName) (next : Next) : Type 0 where
  node : next.node ≡ number
  place : next.place.node ≡ next.node
  at : IsNextAt l names trail next name

-- the next of a number is its own
some_next : (first second : Next) → Some first ≡ Some second → first ≡ second
some_next first second same = cc

named_is : (pins : Pins) (l : Lookups) (names : List NodeName) (trail : List Assigned) (number : ℕ) (name : NodeName) (next : Next)
    → IsOwned names trail name → next_named pins l names trail number name ≡ Some next → IsNamed l names trail number name next
named_is pins l names trail number Root next owned is = cc
named_is pins l names trail number (RootTrait name) next owned is =
    subst (IsNamed l names trail number (RootTrait name)) (some_next _ next is)
    (record { node = refl; place = refl; at = record { on = refl; owner = owned refl; place_choice = refl } })
named_is pins l names trail number (PackageTrait identity name) next owned is =
    subst (IsNamed l names trail number (PackageTrait identity name)) (some_next _ next is)
    (record { node = refl; place = refl; at = record { on = refl; owner = owned refl; place_choice = refl } })
named_is pins l names trail number (Package identity) next owned is =
    go (first_that (allows trail number) (ranked_in (pin_of pins identity) (l.list identity))) refl is
  where
    go : (found : Option ℕ) → first_that (allows trail number) (ranked_in (pin_of pins identity) (l.list identity)) ≡ found
        → next_package number found ≡ Some next → IsNamed l names trail number (Package identity) next
    go None at is = cc
    go (Some choice) at is =
        let it = first_is (IsRelease (l.list identity)) (allows trail number) (ranked_in (pin_of pins identity) (l.list identity)) choice
        (ranked_releases (pin_of pins identity) (l.list identity)) at in
        subst (IsNamed l names trail number (Package identity)) (some_next _ next is)
        (record { node = refl; place = refl; at = record { release = it.0.0; there = it.0.1; allowed = it.1; place_choice = refl } })

-- a test and the opposite of another
not_is : (b : Bool) → not b ≡ true → b ≡ false
not_is true is = absurd (false≢true is)
not_is false is = refl

-- what is next is named, open and left its choice
pub next_is : (pins : Pins) (l : Lookups) (state : State) (next : Next) → next_in pins l state ≡ Some next
    → IsNext l state.names (loaded_facts state.incompats state.origins) state.trail next
next_is pins l state next is = go (next_node state.names facts state.trail) refl is
  where
    facts : List (List Term)
    facts = loaded_facts state.incompats state.origins

    go : (found : Option (ℕ × NodeName)) → next_node state.names facts state.trail ≡ found
        → next_at pins l state.names state.trail found ≡ Some next → IsNext l state.names facts state.trail next
    go None at is = cc
    go (Some found) at is =
        let it = next_open state.names facts state.trail found at in
        let named = named_is pins l state.names state.trail found.0 found.1 next it.owned is in
        let parts = and_parts (list_any (is_asked state.trail found.0) facts) (not (is_decided state.trail found.0)) it.is_opened in
        record {
          known = subst (λ n. n < length state.names) (sym named.node) it.known;
          asked = ap (λ n. list_any (is_asked state.trail n) facts) named.node ∙ parts.0;
          undecided = ap (is_decided state.trail) named.node ∙ not_is (is_decided state.trail found.0) parts.1;
          place_node = named.place;
          at = subst (IsNextAt l state.names state.trail next) (sym (ap (name_at state.names) named.node ∙ it.named)) named.at;
        }
