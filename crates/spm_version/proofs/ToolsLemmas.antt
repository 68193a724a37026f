-- A text cut at its first dot, and a number read digit by digit.
use Rattle.std.proofs.Common.{◌≡◌, ◌==◌, ◌<◌, ◌≤◌, ℕ, suc, ◌+◌, ◌*◌, ◌^◌, List, [], ◌∷◌, length, drop, refl, arith, inl, inr, lit<, take, None}
use Rattle.std.proofs.lemmas.Bool.{cases_Bool}
use Rattle.std.proofs.Math.Nat.{pow-le-pow_right}
use Rattle.std.specs.List.{after_first, before_first, position_or_len, slice_split}
use Rattle.semver.specs.OrderLaws.{parts-shape}
use Rattle.spm_version.specs.ToolsVersion.{tools_of_parts}

-- with no dot there is one part
pub no_dot : (text : List ℕ) → position_or_len (λ byte. byte == 46) text ≡ length text → slice_split (λ byte. byte == 46) text ≡ text ∷ []
no_dot [] h = refl
no_dot (b ∷ rest) h = elim (cases_Bool (b == 46)) [
  | inl dot ↦ absurd (omega (arith, rw dot at h))
  | inr other ↦ rw (other, no_dot rest (omega (arith, rw other at h))) refl
]

-- a part with one more byte at its front
longer : (b count : ℕ) (rest : List ℕ) → (take (1 + count) (b ∷ rest) ≡ b ∷ take count rest) × (drop (1 + count + 1) (b ∷ rest) ≡ drop (count + 1) rest)
longer b count rest =
    let more : 1 + count ≡ suc count = omega arith in
    let behind : 1 + count + 1 ≡ suc (count + 1) = omega arith in
    (rw more refl, rw behind refl)

-- the first part, and the parts behind its dot
pub some_dot : (text : List ℕ) → position_or_len (λ byte. byte == 46) text < length text
    → slice_split (λ byte. byte == 46) text ≡ before_first (λ byte. byte == 46) text ∷ slice_split (λ byte. byte == 46) (after_first (λ byte. byte == 46) text)
some_dot [] h = absurd (omega arith)
some_dot (b ∷ rest) h = elim (cases_Bool (b == 46)) [
  | inl dot ↦ rw dot refl
  | inr other ↦
      let part = longer b (position_or_len (λ byte. byte == 46) rest) rest in
      rw (other, some_dot rest (omega (arith, rw other at h)), part.0, part.1) refl
]

-- four parts or more are no tools version
pub four_parts : (first second third rest : List ℕ) → tools_of_parts (first ∷ second ∷ third ∷ slice_split (λ byte. byte == 46) rest) ≡ None
four_parts first second third rest = let shape = parts-shape rest in rw shape.2 refl

-- a number so far has room for one more digit
pub room : (value index : ℕ) → value < 10 ^ index → index < 9 → value * 10 + 9 < 2 ^ 32
room value index below within =
    let less : index ≤ 8 = omega arith in
    let most = pow-le-pow_right {n = 10} (lit< tt) less in
    omega (arith, most)
