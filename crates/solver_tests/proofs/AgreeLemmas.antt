-- What is asked of all terms, term by term.
use Rattle.std.proofs.Common.{◌≡◌, ℕ, ◌+◌, ◌<◌, ◌≤◌, IsSome, length, get_or, drop, List, [], ◌∷◌, sym, ◌∙◌, ap, subst, inl, inr}
use Rattle.std.proofs.lemmas.Bool.{cases_eq}
use Rattle.std.proofs.lemmas.List.{drop_all, drop_more}
use Rattle.pub_set.specs.Choices.{ChoiceSet, do_meet}
use Rattle.pub_term.specs.Resolvent.{CanResolve}
use Rattle.pub_term.specs.Term.{set_at}
use Rattle.pub_term.specs.declared.term.Term.{Term}
use Rattle.pub_term.proofs.AboveLemmas.{set_at-head, set_at-tail}
use Rattle.solver_tests.specs.Agreed.{Agree, Fits}

Agree-none : (second : List Term) (on : ℕ) → Agree [] second on
Agree-none second on = λ node a b at_first at_second. cc

Agree-cons : (term : Term) (first second : List Term) (on : ℕ) → Fits term (set_at second term.node) on → Agree first second on
    → Agree (term ∷ first) second on
Agree-cons term first second on fits agree =
    λ node a b at_first at_second.
    elim (cases_eq term.node node) [
      | inl same ↦
          (let here : term.choices ≡ a = (let e = set_at-head term first node same in cc) in
          let both = fits b (ap (set_at second) same ∙ at_second) in (
            ap (λ (s : ChoiceSet). s.size) (sym here) ∙ both.0,
            λ differs. ap (λ s. do_meet s b) (sym here) ∙ both.1 (λ e. differs (sym same ∙ e)),
          ))
      | inr differs ↦ agree node a b (sym (set_at-tail term first node differs) ∙ at_first) at_second
    ]

-- at a place of the list, and past its end
pub Agree-drop : (first second : List Term) (on i : ℕ) (term : Term) → i < length first → term ≡ get_or first i term
    → Fits term (set_at second term.node) on → Agree (drop (i + 1) first) second on → Agree (drop i first) second on
Agree-drop first second on i term within at fits agree =
    let opened : drop i first ≡ term ∷ drop (i + 1) first
    = drop_more first i term within ∙ ap (λ t. t ∷ drop (i + 1) first) (sym at) in
    subst (λ terms. Agree terms second on) (sym opened) (Agree-cons term (drop (i + 1) first) second on fits agree)

pub Agree-past : (first second : List Term) (on i : ℕ) → length first ≤ i → Agree (drop i first) second on
Agree-past first second on i past = subst (λ terms. Agree terms second on) (sym (drop_all i first past)) (Agree-none second on)

pub CanResolve-from_agree : (first second : List Term) (on : ℕ) → IsSome (set_at first on) → IsSome (set_at second on) → Agree first second on
    → CanResolve first second on
CanResolve-from_agree first second on some_first some_second agree = record {
  first_on = some_first;
  second_on = some_second;
  sizes = λ node a b at_first at_second. (agree node a b at_first at_second).0;
  meets = λ node a b differs at_first at_second. (agree node a b at_first at_second).1 differs;
}
