-- Rows of seats no two of which have a ticket or a number in common.
use Rattle.std.proofs.Common.{◌≡◌, ◌≢◌, ℕ, true, true≢false, List, [], ◌∷◌, ◌++◌, length, set, sym, ap, ◌∙◌, subst, inl, inr, ⊎_elim}
use mathlib.Core.Logic.{dite}
use mathlib.Core.Option.{some, some-injective}
use native.Mathlib.Decide.{ℕ_discrete}
use lib.ListN.{get_elem?}
use Rattle.atomic_table.proofs.Lists.{at_set, set_else, at_longer}
use Rattle.spm_turn.specs.declared.view.View.{View}
use Rattle.spm_turn.specs.Log.{has}
use Rattle.spm_turn.specs.Views.{spent}
use Rattle.spm_turn.specs.Rule.{AreApart, Clash, HasTicket, SomeView}
use Rattle.spm_turn.proofs.Rows.{at_end, set_at}

module _ {E C : Type 0} where
  -- two clash either way
  pub flip : (v w : View E C) → Clash v w → Clash w v
  flip v w c = ⊎_elim (λ t. inl (t.0, t.2, t.1)) (λ t. inr (t.0, t.2, t.1)) c

  -- one was set that clashes with no other
  pub apart_set : (vs : List (View E C)) (me : ℕ) (w : View E C) → AreApart vs → ((j : ℕ) (x : View E C) → j ≢ me → get_elem? vs j ≡ some x → Clash w x → ⊥) → AreApart (set vs me w)
  apart_set vs me w apart free i j v x ei ej clash = ⊎_elim
      (λ (a : (i ≡ me) × (w ≡ v)). ⊎_elim (λ (b : (j ≡ me) × (w ≡ x)). a.0 ∙ sym b.0)
      (λ (b : (j ≢ me) × (get_elem? vs j ≡ some x)). absurd (free j x b.0 b.1 (subst (λ (z : View E C). Clash z x) (sym a.1) clash))) (at_set vs me j w x ej))
      (λ (a : (i ≢ me) × (get_elem? vs i ≡ some v)). ⊎_elim (λ (b : (j ≡ me) × (w ≡ x)). absurd (free i v a.0 a.1 (flip v w (subst (λ (z : View E C). Clash v z) (sym b.1) clash))))
      (λ (b : (j ≢ me) × (get_elem? vs j ≡ some x)). apart i j v x a.1 b.1 clash) (at_set vs me j w x ej))
      (at_set vs me i w v ei)

  -- a view that claims no more than v did clashes with no other
  pub free_same : (vs : List (View E C)) (me : ℕ) (v w : View E C) → AreApart vs → get_elem? vs me ≡ some v → ((x : View E C) → Clash w x → Clash v x)
      → (j : ℕ) (x : View E C) → j ≢ me → get_elem? vs j ≡ some x → Clash w x → ⊥
  free_same vs me v w apart at less j x other e clash = other (sym (apart me j v x at e (less x clash)))

  -- who has no more tickets and numbers clashes with no more
  pub fewer : (v w : View E C) → ((k : ℕ) → HasTicket k w.stage → HasTicket k v.stage) → ((n : ℕ) → has w.numbers n ≡ true → has v.numbers n ≡ true) → (x : View E C) → Clash w x → Clash v x
  fewer v w tickets numbers x c = ⊎_elim (λ t. inl (t.0, tickets t.0 t.1, t.2)) (λ t. inr (t.0, numbers t.0 t.1, t.2)) c

  -- one was added that clashes with none
  pub apart_snoc : (vs : List (View E C)) (w : View E C) → AreApart vs → ((j : ℕ) (x : View E C) → get_elem? vs j ≡ some x → Clash w x → ⊥) → AreApart (vs ++ w ∷ [])
  apart_snoc vs w apart free i j v x ei ej clash = ⊎_elim
      (λ (a : get_elem? vs i ≡ some v). ⊎_elim (λ (b : get_elem? vs j ≡ some x). apart i j v x a b clash)
      (λ (b : (j ≡ length vs) × (w ≡ x)). absurd (free i v a (flip v w (subst (λ (z : View E C). Clash v z) (sym b.1) clash)))) (at_end vs w x j ej))
      (λ (a : (i ≡ length vs) × (w ≡ v)). ⊎_elim (λ (b : get_elem? vs j ≡ some x). absurd (free j x b (subst (λ (z : View E C). Clash z x) (sym a.1) clash)))
      (λ (b : (j ≡ length vs) × (w ≡ x)). a.0 ∙ sym b.0) (at_end vs w x j ej))
      (at_end vs w v i ei)

  -- one is still such after the step of a seat that is such afterwards if it was
  pub some_set : (P : View E C → Type 0) (vs : List (View E C)) (me : ℕ) (v w : View E C) → get_elem? vs me ≡ some v → (P v → P w) → SomeView P vs → SomeView P (set vs me w)
  some_set P vs me v w at f x = dite (ℕ_discrete x.0 me)
      (λ same. (me, w, set_at vs me v w at, f (subst P (some-injective x.1 v (sym x.2 ∙ (ap (get_elem? vs) same ∙ at))) x.3)))
      (λ other. (x.0, x.1, set_else vs me x.0 w other ∙ x.2, x.3))

  -- one is still such after another was added
  pub some_snoc : (P : View E C → Type 0) (vs : List (View E C)) (w : View E C) → SomeView P vs → SomeView P (vs ++ w ∷ [])
  some_snoc P vs w x = (x.0, x.1, at_longer vs (w ∷ []) x.0 x.1 x.2, x.3)

  -- a seat that is no more clashes with none
  pub spent_free : (c : C) (x : View E C) → Clash (spent c) x → ⊥
  spent_free c x clash = ⊎_elim (λ (t : (k : ℕ) × ⊥ × HasTicket k x.stage). t.1) (λ (t : (n : ℕ) × (has [] n ≡ true) × (has x.numbers n ≡ true)). true≢false (sym t.1)) clash

  -- after two seats met the one has the numbers that either had
  pub joined_number : (id : ℕ) (v : View E C) (other : ℕ) (w : View E C) (vs : List (View E C)) (both gone : View E C) → (other ≡ id → ⊥) → get_elem? vs id ≡ some v → get_elem? vs other ≡ some w → (k : ℕ)
      → (has v.numbers k ≡ true → has both.numbers k ≡ true) → (has w.numbers k ≡ true → has both.numbers k ≡ true) → SomeView (λ x. has x.numbers k ≡ true) vs
      → SomeView (λ x. has x.numbers k ≡ true) (set (set vs id both) other gone)
  joined_number id v other w vs both gone ne at near k left right x =
      let here : get_elem? (set (set vs id both) other gone) id ≡ some both = set_else (set vs id both) other id gone (λ e. ne (sym e)) ∙ set_at vs id v both at in dite (ℕ_discrete x.0 other)
      (λ same. (id, both, here, right (subst (λ (z : View E C). has z.numbers k ≡ true) (some-injective x.1 w (sym x.2 ∙ (ap (get_elem? vs) same ∙ near))) x.3)))
      (λ apart. dite (ℕ_discrete x.0 id)
      (λ same. (id, both, here, left (subst (λ (z : View E C). has z.numbers k ≡ true) (some-injective x.1 v (sym x.2 ∙ (ap (get_elem? vs) same ∙ at))) x.3)))
      (λ away. (x.0, x.1, set_else (set vs id both) other x.0 gone apart ∙ (set_else vs id x.0 both away ∙ x.2), x.3)))
