-- The opening state is one of the solver's; and a refutation is violated wherever the root has its choice.
use Rattle.std.proofs.Common.{◌≡◌, ℕ, zero, suc, ◌<◌, ◌==◌, true, List, [], ◌∷◌, slice_index, Some, refl, sym, ap, ◌∙◌, subst, inl, inr, arith, eqb-true}
use Rattle.std.proofs.lemmas.Bool.{and_parts, cases_eq}
use Rattle.pub_set.specs.Choices.{ChoiceSet, choices_of, has, is_among}
use Rattle.pub_term.specs.Term.{set_at, violates}
use Rattle.pub_term.specs.declared.node.NodeName.TheVariants.{Root}
use Rattle.pub_term.specs.declared.term.Term.{Term}
use Rattle.pub_term.proofs.AboveLemmas.{set_at-tail}
use Rattle.pub_trail.specs.Derived.{IsHistory}
use Rattle.pub_trail.specs.First.{IsChosen, Preference}
use Rattle.pub_trail.specs.Invariant.{IsState}
use Rattle.pub_trail.specs.Outcome.{IsAsked}
use Rattle.pub_trail.specs.Trail.{allows}
use Rattle.pub_trail.specs.Turn.{State, is_refutation}
use Rattle.pub_trail.specs.declared.trail.Reason.TheVariants.{Decided}
use Rattle.pub_trail.specs.declared.trail.Assigned.{Assigned}
use Rattle.pub_trail.proofs.HeldLemmas.{Within-holds, each_node}
use Rattle.pub_trail.proofs.TestLemmas.{passes-where}

-- the root is chosen, at the first level
abbrev root_entry : Assigned
root_entry = record { node = 0; choices = choices_of 2 (1 ∷ []); level = 1; reason = Decided }

-- where a solver begins
abbrev pub opening : State
opening = record { names = Root ∷ []; sizes = 2 ∷ []; incompats = []; origins = []; loads = []; trail = root_entry ∷ [] }

-- there is one node
one_node : (node : ℕ) → node < 1 → 0 ≡ node
one_node node below = omega arith

-- the opening lists are what lists are
pub opening_is : IsState [] opening
opening_is = record {
  some = λ node below. subst (λ n. 0 < slice_index (2 ∷ []) n) (one_node node below) (omega arith);
  formed = tt;
  stands = (
    record {
      choice = 1;
      known = omega arith;
      fresh = refl;
      left = record { choice = 1; below = omega arith; allowed = refl; passes = refl };
      choices = λ other below. two other below;
      level = refl;
    },
    tt,
  );
  begins = (refl, refl, refl);
  follows = λ assignment assigns none. tt;
}
  where
    two : (other : ℕ) → other < 2 → has (choices_of 2 (1 ∷ [])) other ≡ (other == 1)
    two zero below = refl
    two (suc zero) below = refl
    two (suc (suc other)) below = absurd (omega arith)

-- nothing is there whose origin could be wrong
pub opening_history : IsHistory [] opening
opening_history = record {
  origins = refl;
  are = record { formed = λ number known. absurd (omega arith); each = λ number known. absurd (omega arith) };
  given = λ fact there. absurd (omega (arith, there.1));
}

-- and no decision but the root's
pub opening_chosen : (prefers : Preference) → IsChosen prefers [] opening
opening_chosen prefers = record {
  bound = (λ k here. below_two k here, tt);
  choices = (tt, tt);
  shaped = λ fact there. absurd (omega (arith, there.1));
}
  where
    below_two : (k : ℕ) → has (choices_of 2 (1 ∷ [])) k ≡ true → k < 2
    below_two k here = (passes-where 2 k (is_among (1 ∷ [])) here).0

-- where the root's choice is left, and so in every assignment that has it, the terms are violated
pub refutation_violated : (sizes : List ℕ) (incompats : List (List Term)) (trail : List Assigned) (terms : List Term) (assignment : ℕ → ℕ)
    → IsAsked sizes incompats trail terms → is_refutation terms ≡ true → assignment 0 < slice_index sizes 0 → allows trail 0 (assignment 0) ≡ true
    → violates assignment terms ≡ true
refutation_violated sizes incompats trail terms assignment asked root below allowed =
    each_node (λ term. has term.choices (assignment term.node)) terms asked.formed.incompat.ascending
    (λ node set at.
    let zero_node : node ≡ 0 = on_root terms node set root at in
    ap (λ n. has set (assignment n)) zero_node
    ∙ Within-holds sizes trail terms node set asked.held at (assignment 0)
    (subst (λ n. assignment 0 < slice_index sizes n) (sym zero_node) below) (subst (λ n. allows trail n (assignment 0) ≡ true) (sym zero_node) allowed))
  where
    on_root : (terms : List Term) (node : ℕ) (set : ChoiceSet) → is_refutation terms ≡ true → set_at terms node ≡ Some set → node ≡ 0
    on_root [] node set root at = cc
    on_root (term ∷ terms) node set root at =
        let parts = and_parts (term.node == 0) (is_refutation terms) root in
        elim (cases_eq term.node node) [
          | inl same ↦ sym same ∙ eqb-true term.node 0 parts.0
          | inr differs ↦ on_root terms node set parts.1 (sym (set_at-tail term terms node differs) ∙ at)
        ]
