-- A package that a search finds, with the sums that come of adding one.
use Rattle.std.proofs.Common.{◌≡◌, ◌<◌, ℕ, List, length, get_or, set, Result, Ok, Err, subst, sym, ap, ◌∙◌}
use Rattle.std.specs.Prelude.{OnErr, OnOk}
use Rattle.std.specs.List.{HoldsAt}
use Rattle.std.specs.declared.cmp.Ordering.TheVariants.{Equal}
use Rattle.std.proofs.lemmas.List.{set-get_or}
use Rattle.spm_version.specs.Release.{Parts}
use Rattle.spm_trust.specs.Adding.{beside}
use Rattle.spm_trust.specs.Trust.{IsTrust, added, added_sum}
use Rattle.spm_trust.specs.declared.file.KeptPackage.{KeptPackage}
use Rattle.spm_trust.specs.declared.file.KeptSum.{KeptSum}
use Rattle.spm_trust.proofs.AddedLemmas.{IsTrust-added}
use Rattle.spm_trust.proofs.Searching.{added-found}

-- the package, with these sums
abbrev with_sums : KeptPackage → List KeptSum → KeptPackage
with_sums entry sums = record { identity = entry.identity; sums = sums }

-- with a sum added, the packages are those of the definition
pub set-added : {E : Type 0} (identity : List ℕ) (release : Parts) (sum : List ℕ) (entries : List KeptPackage) (place : ℕ) (found : KeptPackage) (sums : List KeptSum)
    (result : Result (Unit {0}) E) → IsTrust entries → place < length entries → HoldsAt (λ entry. beside identity entry ≡ Equal) entries place
    → found ≡ get_or entries place found → OnOk result (sums ≡ added_sum release sum found.sums)
    → OnOk result (set entries place (with_sums found sums) ≡ added identity release sum entries)
set-added identity release sum entries place found sums (Ok done) trust within here is ok =
    ap (λ s. set entries place (with_sums found s)) ok ∙ added-found identity release sum entries place found trust.ascending within here is
set-added identity release sum entries place found sums (Err fault) trust within here is ok = tt

-- with a sum added or with none they are a map
pub IsTrust-set : {E : Type 0} (identity : List ℕ) (release : Parts) (sum : List ℕ) (entries : List KeptPackage) (place : ℕ) (found : KeptPackage) (sums : List KeptSum)
    (result : Result (Unit {0}) E) → IsTrust entries → place < length entries → HoldsAt (λ entry. beside identity entry ≡ Equal) entries place
    → found ≡ get_or entries place found → OnOk result (sums ≡ added_sum release sum found.sums) → OnErr result (sums ≡ found.sums)
    → IsTrust (set entries place (with_sums found sums))
IsTrust-set {E} identity release sum entries place found sums (Ok done) trust within here is ok err =
    subst IsTrust (sym (set-added {E = E} identity release sum entries place found sums (Ok done) trust within here is ok)) (IsTrust-added identity release sum entries trust)
IsTrust-set identity release sum entries place found sums (Err fault) trust within here is ok err =
    subst IsTrust (sym (ap (λ s. set entries place (with_sums found s)) err ∙ ap (set entries place) is ∙ set-get_or entries place found)) trust
