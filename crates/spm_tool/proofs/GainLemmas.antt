-- The fingerprints that roots gain, one root after the other.
use Rattle.std.proofs.Common.{◌≡◌, ℕ, ◌+◌, ◌<◌, List, [], ◌∷◌, ◌++◌, length, drop, get_or, ◌||◌, ◌⊎◌, is_some, not, refl, sym, ap, ◌∙◌, inl, inr}
use Rattle.std.proofs.lemmas.List.{drop_more}
use Rattle.std.proofs.lemmas.List.Folds.{list_any-append}
use Rattle.std.specs.List.{list_any, zip}
use Rattle.spm_session.specs.Archives.{Fingerprints, Pin}
use Rattle.spm_trust.specs.Trust.{kept_in}
use Rattle.spm_tool.specs.Ending.{gains, kept_with, kept_with_all, sums_in, sums_of}
use Rattle.spm_tool.specs.declared.ending.RootRun.{RootRun}

-- those of some, and then of others
pub kept_on : (fingerprints : Fingerprints) (found others : List (Pin × List ℕ))
    → kept_with_all fingerprints (found ++ others) ≡ kept_with_all (kept_with_all fingerprints found) others
kept_on fingerprints [] others = refl
kept_on fingerprints (one ∷ found) others = kept_on (kept_with fingerprints one) found others

-- the roots gain one exactly where one of them does
pub gains_runs : (fingerprints : Fingerprints) (runs : List RootRun)
    → list_any (λ (run : RootRun). gains fingerprints (sums_of run.outcome)) runs ≡ gains fingerprints (sums_in runs)
gains_runs fingerprints [] = refl
gains_runs fingerprints (run ∷ runs) =
    ap (λ b. gains fingerprints (sums_of run.outcome) || b) (gains_runs fingerprints runs)
    ∙ sym (list_any-append (λ (one : Pin × List ℕ). not (is_some (kept_in one.0.0 one.0.1 fingerprints))) (sums_of run.outcome) (sums_in runs))

-- at the end of a `zip` none is left
pub none_left : {A B : Type 0} (xs : List A) (ys : List B) → (xs ≡ []) ⊎ (ys ≡ []) → zip xs ys ≡ []
none_left [] ys none = refl
none_left (x ∷ xs) [] none = refl
none_left (x ∷ xs) (y ∷ ys) (inl none) = cc
none_left (x ∷ xs) (y ∷ ys) (inr none) = cc

-- what is left of the roots at one of them
pub runs_next : (runs : List RootRun) (place : ℕ) (run : RootRun) → place < length runs → run ≡ get_or runs place run
    → drop place runs ≡ run ∷ drop (place + 1) runs
runs_next runs place run below is = drop_more runs place run below ∙ ap (λ first. first ∷ drop (place + 1) runs) (sym is)
