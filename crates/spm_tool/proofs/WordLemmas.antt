-- Tests of the texts of words.
use Rattle.std.proofs.Common.{◌≡◌, ℕ, List, [], ◌∷◌, ◌&&◌, ◌||◌, map, Bool, refl, ap}
use Rattle.std.specs.List.{list_all, list_any}

pub any_text : {S : Type 0} (test : List ℕ → Bool) (text : S → List ℕ) (words : List S)
    → list_any (λ word. test (text word)) words ≡ list_any test (map text words)
any_text test text [] = refl
any_text test text (word ∷ words) = ap (λ b. test (text word) || b) (any_text test text words)

pub all_texts : {S : Type 0} (test : List ℕ → Bool) (text : S → List ℕ) (words : List S)
    → list_all (λ word. test (text word)) words ≡ list_all test (map text words)
all_texts test text [] = refl
all_texts test text (word ∷ words) = ap (λ b. test (text word) && b) (all_texts test text words)
