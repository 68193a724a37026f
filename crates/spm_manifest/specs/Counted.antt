-- How the code counts uses: each identity has the number of a dependency, and a use counts for nobody, for everybody, or
-- for the dependencies with one number. `proofs/Counting.antt` shows that this is what a use counts for.
use Rattle.std.specs.Prelude.{ℕ, ◌+◌, ◌==◌, List, [], ◌∷◌, Bool, true, false, Option, Some, None, if◌then◌else◌}
use Rattle.std.specs.Str.{bytes_eq, str_to_ascii_lowercase}
use Rattle.spm_manifest.specs.declared.dependency.Dependency.{Dependency}
use Rattle.spm_manifest.specs.declared.guard.Counted.{Counted}
use Rattle.spm_manifest.specs.declared.guard.Counted.TheVariants.{Everybody, Nobody, Number}
use Rattle.spm_manifest.specs.declared.guard.CountedUse.{CountedUse}
use Rattle.spm_manifest.specs.Guard.{guard_by}
use Rattle.spm_manifest.specs.declared.need.Need.{Need}
use Rattle.spm_manifest.specs.declared.uses.Named.{Named}
use Rattle.spm_manifest.specs.declared.uses.Named.TheVariants.{Everything, Name, Package}
use Rattle.spm_manifest.specs.declared.uses.Use.{Use}

-- the number of the last dependency with this identity in lower case, of those from this number on or the one found before
abbrev pub number_after : Option ℕ → ℕ → List ℕ → List Dependency → Option ℕ
number_after found number identity [] = found
number_after found number identity (dependency ∷ others) =
    number_after (if bytes_eq (str_to_ascii_lowercase dependency.identity) identity then Some number else found) (number + 1) identity others

abbrev pub number_of : List Dependency → List ℕ → Option ℕ
number_of dependencies identity = number_after None 0 identity dependencies

abbrev pub by_number : Option ℕ → Counted
by_number (Some number) = Number number
by_number None = Everybody

-- for whom a use counts
abbrev pub counted_of : (List ℕ → Option ℕ) → (List ℕ → Bool) → Named → Counted
counted_of number is_target (Package name) = by_number (number (str_to_ascii_lowercase name))
counted_of number is_target (Name name) = if is_target name then Nobody else by_number (number (str_to_ascii_lowercase name))
counted_of number is_target Everything = Everybody

abbrev pub counts_at : ℕ → Counted → Bool
counts_at number Nobody = false
counts_at number Everybody = true
counts_at number (Number other) = other == number

-- a use, with whom it counts for
abbrev pub counted_use : CountedUse → Counted × Use
counted_use one = (one.counted, one.found.now)

-- the uses that count for the dependencies with this number
abbrev pub uses_at : ℕ → List (Counted × Use) → List Use
uses_at number [] = []
uses_at number (one ∷ others) = if counts_at number one.0 then one.1 ∷ uses_at number others else uses_at number others

-- the uses, each with whom it counts for
abbrev pub with_counted : (List ℕ → Option ℕ) → (List ℕ → Bool) → List Use → List (Counted × Use)
with_counted number is_target [] = []
with_counted number is_target (found ∷ others) = (counted_of number is_target found.named, found) ∷ with_counted number is_target others

-- the need that a dependency is, by its number
abbrev pub need_at : ℕ → List (Counted × Use) → Dependency → Need
need_at number counted dependency = record {
  target = dependency.target;
  requirement = dependency.requirement;
  guard = guard_by (uses_at number counted);
  asked = dependency.asked;
}
