-- A byte of a text passes a test where the first such place is in the text.
use Rattle.std.proofs.Common.{◌≡◌, ℕ, suc, ◌+◌, Bool, true, false, cond, not, ◌||◌, nat_lt, List, [], ◌∷◌, length, refl, arith}
use Rattle.std.specs.List.{list_any, position_or_len}
use Rattle.std.proofs.lemmas.Bool.Decides.{nat_tests}

-- one byte more before the place
one_more : (q more : Bool) (place len : ℕ) → more ≡ nat_lt place len → (q || more) ≡ nat_lt (cond (not q) (1 + place) 0) (suc len)
one_more true more place len e = grind (arith, nat_tests)
one_more false more place len e = grind (arith, nat_tests)

-- a byte passes the test where its place is within the text
pub list_any_by_place : (p : ℕ → Bool) (text : List ℕ) → list_any p text ≡ nat_lt (position_or_len p text) (length text)
list_any_by_place p [] = refl
list_any_by_place p (b ∷ bs) =
    one_more (p b) (list_any p bs) (position_or_len p bs) (length bs) (list_any_by_place p bs)
