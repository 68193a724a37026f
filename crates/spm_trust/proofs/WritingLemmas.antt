-- Pieces with commas between them, as a loop writes them.
use Rattle.std.proofs.Common.{◌≡◌, ℕ, ◌+◌, ◌<◌, ◌≤◌, List, ◌∷◌, ◌++◌, length, drop, get_or, sym, ap, ◌∙◌, append_assoc, append-nil}
use Rattle.std.specs.Prelude.{codes}
use Rattle.std.proofs.Math.ListN.{drop_of_length-le}
use Rattle.std.proofs.lemmas.List.{drop_more}
use Rattle.spm_trust.specs.TrustText.{behind_commas, between_commas}

-- four parts in a row, from the left or from the right
four_parts : (a b c d : List ℕ) → ((a ++ b) ++ c) ++ d ≡ a ++ (b ++ (c ++ d))
four_parts a b c d = simp append_assoc

-- what is left from a place on
rest_is : {X : Type 0} (xs : List X) (i : ℕ) (x : X) → i < length xs → x ≡ get_or xs i x → drop i xs ≡ x ∷ drop (i + 1) xs
rest_is xs i x below is = drop_more xs i x below ∙ ap (λ first. first ∷ drop (i + 1) xs) (sym is)

-- behind a comma and a piece, what is left is one less
pub one_more : {X : Type 0} (piece : X → List ℕ) (before after : List ℕ) (xs : List X) (i : ℕ) (x : X)
    → i < length xs → x ≡ get_or xs i x → after ≡ (before ++ codes ",") ++ piece x
    → after ++ behind_commas piece (drop (i + 1) xs) ≡ before ++ behind_commas piece (drop i xs)
one_more piece before after xs i x below is added =
    ap (λ text. text ++ behind_commas piece (drop (i + 1) xs)) added
    ∙ four_parts before (codes ",") (piece x) (behind_commas piece (drop (i + 1) xs))
    ∙ ap (λ left. before ++ behind_commas piece left) (sym (rest_is xs i x below is))

-- at the end none is left, and the text has them all
pub all_pieces : {X : Type 0} (piece : X → List ℕ) (start opened text : List ℕ) (all others : List X) (i : ℕ) (first : X)
    → all ≡ first ∷ others → opened ≡ start ++ piece first → length others ≤ i
    → text ++ behind_commas piece (drop i others) ≡ opened ++ behind_commas piece others → text ≡ start ++ between_commas piece all
all_pieces piece start opened text all others i first split begun done kept =
    sym (append-nil text) ∙ ap (λ left. text ++ behind_commas piece left) (sym (drop_of_length-le others done)) ∙ kept
    ∙ ap (λ front. front ++ behind_commas piece others) begun ∙ append_assoc start (piece first) (behind_commas piece others)
    ∙ ap (λ whole. start ++ between_commas piece whole) (sym split)
