-- Two ways to cut one text.
use Rattle.std.proofs.Common.{◌≡◌, ℕ, List, [], ◌∷◌, ◌++◌, refl, sym, inl, inr}
use Rattle.std.specs.Prelude.{◌⊎◌}

-- the first cut stands at or behind the second, or before it
abbrev pub Meets : List ℕ → List ℕ → List ℕ → List ℕ → Type 0
Meets a b c d =
    ((between : List ℕ) × (a ≡ c ++ between) × (d ≡ between ++ b))
    ⊎ ((next : ℕ) × (between : List ℕ) × (c ≡ a ++ next ∷ between) × (b ≡ (next ∷ between) ++ d))

-- with one more byte at the front of both
meets_behind : (a b c d : List ℕ) (x y : ℕ) → x ≡ y → Meets a b c d → Meets (x ∷ a) b (y ∷ c) d
meets_behind a b c d x y e (inl m) = inl (m.0, cc (e, m.1), m.2)
meets_behind a b c d x y e (inr m) = inr (m.0, m.1, cc (e, m.2), m.3)

-- two cuts of one text meet so
pub meets : (a b c d : List ℕ) → a ++ b ≡ c ++ d → Meets a b c d
meets a b [] d h = inl (a, refl, sym h)
meets [] b (y ∷ c) d h = inr (y, c, refl, h)
meets (x ∷ a) b (y ∷ c) d h =
    let head : x ≡ y = cc h in
    let tail : a ++ b ≡ c ++ d = cc h in
    meets_behind a b c d x y head (meets a b c d tail)
