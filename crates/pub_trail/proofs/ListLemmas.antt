-- Walks from the end of the lists.
use Rattle.std.proofs.Common.{◌≡◌, ℕ, ◌+◌, ◌-◌, ◌<◌, ◌≤◌, Bool, true, false, cond, List, [], ◌∷◌, ◌++◌, length, get_or, reverse, take, Option, Some, None, sym, ap, ◌∙◌, inl, inr, arith}
use Rattle.std.proofs.lemmas.Bool.{cases_Bool, cond-false, cond-true}
use Rattle.std.proofs.lemmas.List.{get_or-map, length-map, length-take-le, take_more}
use Rattle.pub_term.specs.declared.term.Incompat.{Incompat}
use Rattle.pub_term.specs.declared.term.Term.{Term}
use Rattle.pub_trail.specs.Trail.{up_to}
use Rattle.pub_trail.specs.Turn.{newest_from, or_some, when_true}
use Rattle.pub_trail.specs.Walk.{terms_of}
use Rattle.pub_trail.specs.declared.trail.Assigned.{Assigned}
use Rattle.pub_trail.proofs.BackLemmas.{up_to-drop, up_to-keep}
use Rattle.pub_trail.proofs.WalkLemmas.{split_at}

-- an assignment above the level is dropped from the end
pub drop_step : (level : ℕ) (trail : List Assigned) (kept : ℕ) (entry : Assigned) (whole : List Assigned) → 0 < kept → kept ≤ length trail
    → entry ≡ get_or trail (kept - 1) entry → level < entry.level → up_to level (reverse (take kept trail)) ≡ whole
    → up_to level (reverse (take (kept - 1) trail)) ≡ whole
drop_step level trail kept entry whole some within at above is =
    sym (ap (up_to level) (split_at trail kept entry some within at) ∙ up_to-drop level entry (reverse (take (kept - 1) trail)) above) ∙ is

-- one that isn't above it is the last
pub drop_end : (level : ℕ) (trail : List Assigned) (kept : ℕ) (entry : Assigned) (whole : List Assigned) → 0 < kept → kept ≤ length trail
    → entry ≡ get_or trail (kept - 1) entry → entry.level ≤ level → up_to level (reverse (take kept trail)) ≡ whole
    → reverse (take kept trail) ≡ whole
drop_end level trail kept entry whole some within at below is =
    let split = split_at trail kept entry some within at in
    split ∙ sym (up_to-keep level entry (reverse (take (kept - 1) trail)) below) ∙ sym (ap (up_to level) split) ∙ is

-- one more incompatibility is the newest, if it passes
pub newest_from-push : (test : List Term → Bool) (number : ℕ) (xs : List (List Term)) (x : List Term)
    → newest_from test number (xs ++ x ∷ []) ≡ cond (test x) (Some (number + length xs)) (newest_from test number xs)
newest_from-push test number [] x =
    elim (cases_Bool (test x)) [
      | inl passes ↦
          ap (λ b. when_true b number) passes ∙ ap (λ (n : ℕ). Some n) (omega arith) ∙ sym (cond-true (test x) (Some (number + 0)) None passes)
      | inr fails ↦ ap (λ b. when_true b number) fails ∙ sym (cond-false (test x) (Some (number + 0)) None fails)
    ]
newest_from-push test number (y ∷ ys) x =
    let rest = newest_from-push test (number + 1) ys x in
    elim (cases_Bool (test x)) [
      | inl passes ↦
          ap (λ r. or_some r (when_true (test y) number)) (rest ∙ cond-true (test x) (Some (number + 1 + length ys)) (newest_from test (number + 1) ys) passes)
          ∙ ap (λ (n : ℕ). Some n) (omega arith)
          ∙ sym (cond-true (test x) (Some (number + length (y ∷ ys))) (newest_from test number (y ∷ ys)) passes)
      | inr fails ↦
          ap (λ r. or_some r (when_true (test y) number)) (rest ∙ cond-false (test x) (Some (number + 1 + length ys)) (newest_from test (number + 1) ys) fails)
          ∙ sym (cond-false (test x) (Some (number + length (y ∷ ys))) (newest_from test number (y ∷ ys)) fails)
    ]

-- the incompatibilities up to a place: the last, and those before it
newest_split : (test : List Term → Bool) (incompats : List Incompat) (place : ℕ) (incompat : Incompat) → 0 < place → place ≤ length incompats
    → incompat ≡ get_or incompats (place - 1) incompat
    → newest_from test 0 (take place (terms_of incompats))
    ≡ cond (test incompat.terms) (Some (place - 1)) (newest_from test 0 (take (place - 1) (terms_of incompats)))
newest_split test incompats place incompat some within at =
    let e : place ≡ place - 1 + 1 = omega arith in
    let long : length (take (place - 1) (terms_of incompats)) ≡ place - 1
    = length-take-le (place - 1) (terms_of incompats) (omega (arith, length-map incompats (λ (i : Incompat). i.terms))) in
    let last : get_or (terms_of incompats) (place - 1) [] ≡ incompat.terms
    = get_or-map (λ (i : Incompat). i.terms) incompats (place - 1) incompat [] (omega arith) ∙ ap (λ (i : Incompat). i.terms) (sym at) in
    ap (λ n. newest_from test 0 (take n (terms_of incompats))) e
    ∙ ap (newest_from test 0) (take_more (terms_of incompats) (place - 1) [] (omega (arith, length-map incompats (λ (i : Incompat). i.terms))))
    ∙ ap (λ t. newest_from test 0 (take (place - 1) (terms_of incompats) ++ t ∷ [])) last
    ∙ newest_from-push test 0 (take (place - 1) (terms_of incompats)) incompat.terms
    ∙ ap (λ (n : ℕ). cond (test incompat.terms) (Some n) (newest_from test 0 (take (place - 1) (terms_of incompats)))) (omega (arith, long))

-- one that doesn't pass is passed over
pub newest_step : (test : List Term → Bool) (incompats : List Incompat) (place : ℕ) (incompat : Incompat) (whole : Option ℕ) → 0 < place → place ≤ length incompats
    → incompat ≡ get_or incompats (place - 1) incompat → test incompat.terms ≡ false → newest_from test 0 (take place (terms_of incompats)) ≡ whole
    → newest_from test 0 (take (place - 1) (terms_of incompats)) ≡ whole
newest_step test incompats place incompat whole some within at fails is =
    sym (newest_split test incompats place incompat some within at
    ∙ cond-false (test incompat.terms) (Some (place - 1)) (newest_from test 0 (take (place - 1) (terms_of incompats))) fails) ∙ is

-- the newest that passes is found
pub newest_found : (test : List Term → Bool) (incompats : List Incompat) (place : ℕ) (incompat : Incompat) (whole : Option ℕ) → 0 < place → place ≤ length incompats
    → incompat ≡ get_or incompats (place - 1) incompat → test incompat.terms ≡ true → newest_from test 0 (take place (terms_of incompats)) ≡ whole
    → Some (place - 1) ≡ whole
newest_found test incompats place incompat whole some within at passes is =
    sym (newest_split test incompats place incompat some within at
    ∙ cond-true (test incompat.terms) (Some (place - 1)) (newest_from test 0 (take (place - 1) (terms_of incompats))) passes) ∙ is
