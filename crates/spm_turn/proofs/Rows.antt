-- Lists that are read by position.
use Rattle.std.proofs.Common.{◌≡◌, ◌≢◌, ℕ, zero, suc, List, [], ◌∷◌, ◌++◌, length, set, sym, refl, ap, subst, ◌⊎◌, inl, inr, ⊎_elim}
use mathlib.Core.Option.{some, some-injective, some-ne-none}
use lib.ListN.{get_elem?}
use Rattle.atomic_table.proofs.Lists.{at_set, at_snoc}

module _ {V : Type 0} where
  -- what was set stands there
  pub set_at : (vs : List V) (me : ℕ) (v w : V) → get_elem? vs me ≡ some v → get_elem? (set vs me w) me ≡ some w
  set_at [] me v w e = absurd (some-ne-none v (sym e))
  set_at (x ∷ xs) zero v w e = refl
  set_at (x ∷ xs) (suc me) v w e = set_at xs me v w e

  -- each is such after one was set
  pub each_set : (P : V → Type 0) (vs : List V) (me : ℕ) (w : V) → P w → ((j : ℕ) (v : V) → j ≢ me → get_elem? vs j ≡ some v → P v) → (j : ℕ) (v : V) → get_elem? (set vs me w) j ≡ some v → P v
  each_set P vs me w mine others j v e = ⊎_elim (λ (t : (j ≡ me) × (w ≡ v)). subst P t.1 mine) (λ (t : (j ≢ me) × (get_elem? vs j ≡ some v)). others j v t.0 t.1) (at_set vs me j w v e)

  -- a row of one
  pub only_here : (v x : V) (i : ℕ) → get_elem? (v ∷ []) i ≡ some x → (i ≡ 0) × (v ≡ x)
  only_here v x zero e = (refl, some-injective v x e)
  only_here v x (suc i) e = absurd (some-ne-none x (sym e))

  -- each is such after one was added
  pub each_snoc : (P : V → Type 0) (vs : List V) (w : V) → P w → ((j : ℕ) (v : V) → get_elem? vs j ≡ some v → P v) → (j : ℕ) (v : V) → get_elem? (vs ++ w ∷ []) j ≡ some v → P v
  each_snoc P vs w mine others j v e = ⊎_elim (others j v) (λ (t : w ≡ v). subst P t mine) (at_snoc vs w v j e)

  -- what stands in a row with one more
  pub at_end : (vs : List V) (w x : V) (j : ℕ) → get_elem? (vs ++ w ∷ []) j ≡ some x → (get_elem? vs j ≡ some x) ⊎ ((j ≡ length vs) × (w ≡ x))
  at_end [] w x zero e = inr (refl, some-injective w x e)
  at_end [] w x (suc j) e = absurd (some-ne-none x (sym e))
  at_end (v ∷ vs) w x zero e = inl e
  at_end (v ∷ vs) w x (suc j) e = ⊎_elim (λ t. inl t) (λ t. inr (ap suc t.0, t.1)) (at_end vs w x j e)

  -- two are set in either order
  pub set_swap : (vs : List V) (i j : ℕ) (a b : V) → i ≢ j → set (set vs i a) j b ≡ set (set vs j b) i a
  set_swap [] i j a b ne = refl
  set_swap (v ∷ vs) zero zero a b ne = absurd (ne refl)
  set_swap (v ∷ vs) zero (suc j) a b ne = refl
  set_swap (v ∷ vs) (suc i) zero a b ne = refl
  set_swap (v ∷ vs) (suc i) (suc j) a b ne = ap (λ l. v ∷ l) (set_swap vs i j a b (λ e. ne (ap suc e)))
