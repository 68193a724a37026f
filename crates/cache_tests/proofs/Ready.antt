-- What the pass of a test may spend.
use Rattle.std.proofs.Common.{◌≡◌, ℕ, true, false, ◌||◌, List, [], ◌∷◌, refl, ap, ap₂, ◌∙◌, eq-eqb}
use Rattle.spm_turn.specs.Log.{has}

-- the one number is there
pub own_number : (numbers : List ℕ) (actor ticket : ℕ) → numbers ≡ actor ∷ [] → ticket ≡ actor → has numbers ticket ≡ true
own_number numbers actor ticket one own =
    ap₂ (λ (ns : List ℕ) (n : ℕ). has ns n) one own ∙ ap (λ b. b || false) (eq-eqb actor actor refl)
