-- Faults of the desk, one call after the other.
use Rattle.std.proofs.Common.{◌≡◌, ℕ, ◌<◌, List, [], ◌∷◌, ◌++◌, Option, Some, None, option_map, refl, sym, ap, ◌∙◌, subst, inl, inr, arith, append_assoc, append-nil}
use Rattle.spm_outside.specs.Desk.{DeskState}
use Rattle.spm_outside.specs.Faults.{Rises}
use Rattle.spm_tool.specs.Left.{FaultsLeft}

rises_on : (old mid new : ℕ) → Rises old mid → Rises mid new → Rises old new
rises_on old mid new (inl first) (inl second) = inl (omega (arith, first, second))
rises_on old mid new (inl first) (inr at) = inl (subst (λ n. old < n) (at.0 ∙ sym at.1) first)
rises_on old mid new (inr at) (inl second) = inl (subst (λ n. n < new) (at.1 ∙ sym at.0) second)
rises_on old mid new (inr at) (inr still) = inr (at.0, still.1)

-- those of a step and those of the next
pub faults_on : (names more : List (List ℕ)) (before between after : DeskState) → FaultsLeft names before between → FaultsLeft more between after
    → FaultsLeft (names ++ more) before after
faults_on [] [] before between after first second = (second.0 ∙ first.0, second.1 ∙ first.1)
faults_on [] (name ∷ more) before between after first second =
    (second.0 ∙ ap (option_map (λ failed. failed ++ name ∷ more)) first.0, subst (λ n. Rises n after.faults) first.1 second.1)
faults_on (name ∷ names) [] before between after first second = (
  second.0 ∙ first.0 ∙ ap (λ list. option_map (λ failed. failed ++ name ∷ list) before.failed) (sym (append-nil names)),
  subst (λ n. Rises before.faults n) (sym second.1) first.1,
)
faults_on (name ∷ names) (other ∷ more) before between after first second = (
  second.0 ∙ ap (option_map (λ failed. failed ++ other ∷ more)) first.0 ∙ joined before.failed,
  rises_on before.faults between.faults after.faults first.1 second.1,
)
  where
    joined : (failed : Option (List (List ℕ)))
        → option_map (λ f. f ++ other ∷ more) (option_map (λ f. f ++ name ∷ names) failed)
        ≡ option_map (λ f. f ++ name ∷ (names ++ other ∷ more)) failed
    joined None = refl
    joined (Some f) = ap (λ list. Some list) (append_assoc f (name ∷ names) (other ∷ more))
