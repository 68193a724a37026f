-- Logs each of whose entries carries a number below a count.
use Rattle.std.proofs.Common.{◌≡◌, ℕ, ◌<◌, true, cond, List, [], ◌∷◌, ◌++◌, refl, ap, ◌∙◌}
use Rattle.spm_turn.specs.Log.{has, of_numbers, AreMarkedBelow}
use Rattle.spm_turn.proofs.Booleans.{not_both}
use Rattle.spm_turn.proofs.Follows.{quiet_parts}

module _ {E : Type 0} (by : E → ℕ) (count : ℕ) where
  -- one more entry
  pub marked_more : (log : List E) (e : E) → AreMarkedBelow by count log → by e < count → AreMarkedBelow by count (log ++ e ∷ [])
  marked_more [] e m l = (l, tt)
  marked_more (x ∷ xs) e m l = (m.0, marked_more xs e m.1 l)

  -- what is behind a beginning
  pub marked_rest : (seen rest : List E) → AreMarkedBelow by count (seen ++ rest) → AreMarkedBelow by count rest
  marked_rest [] rest m = m
  marked_rest (x ∷ xs) rest m = marked_rest xs rest m.1

  -- who has all numbers, and no entry, knows an empty log
  pub all_quiet : (ns : List ℕ) (log : List E) → ((n : ℕ) → n < count → has ns n ≡ true) → AreMarkedBelow by count log → of_numbers by ns log ≡ [] → log ≡ []
  all_quiet ns [] all m h = refl
  all_quiet ns (e ∷ es) all m h = absurd (not_both (has ns (by e)) (all (by e) m.0) (quiet_parts ns by e es h).0)

  -- to who has all numbers each entry is an own one
  pub all_own : (ns : List ℕ) (log : List E) → ((n : ℕ) → n < count → has ns n ≡ true) → AreMarkedBelow by count log → of_numbers by ns log ≡ log
  all_own ns [] all m = refl
  all_own ns (e ∷ es) all m = ap (λ b. cond b (e ∷ of_numbers by ns es) (of_numbers by ns es)) (all (by e) m.0) ∙ ap (λ (l : List E). e ∷ l) (all_own ns es all m.1)
