-- Which releases a requirement contains (SemVer 2.0 section 11, and SwiftPM's rule for pre-releases in
-- ranges), and their places in a list.
use Rattle.std.specs.Str.{bytes_eq}
use Rattle.std.specs.Prelude.{ℕ, ◌+◌, ◌==◌, ◌&&◌, ◌||◌, List, [], ◌∷◌, Bool, false, not, IsTrue, if◌then◌else◌}
use Rattle.std.specs.Ordering.{is_lt, is_ge}
use Rattle.spm_version.specs.Release.{Parts, is_prerelease, parts_text, precedence}
use Rattle.spm_version.specs.declared.requirement.Requirement.{Requirement}
use Rattle.spm_version.specs.declared.requirement.Requirement.TheVariants.{Exact, Range, Branch, Revision, Path}

-- the same three numbers
abbrev pub same_numbers : Parts → Parts → Bool
same_numbers first second = first.0 == second.0 && first.1 == second.1 && first.2 == second.2

-- A pre-release is in question only where a bound has a pre-release, and one of the upper bound's own
-- numbers only where the upper bound has a pre-release.
abbrev pub allows_prerelease : Parts → Parts → Parts → Bool
allows_prerelease low high release =
    (is_prerelease low || is_prerelease high) && (is_prerelease high || not (same_numbers release high))

-- at least the lower bound and below the upper bound, in precedence
abbrev pub is_between : Parts → Parts → Parts → Bool
is_between low high release = is_ge (precedence release low) && is_lt (precedence release high)

abbrev pub contains : Requirement → Parts → Bool
contains (Exact exact) release = bytes_eq (parts_text exact) (parts_text release)
contains (Range low high) release = (not (is_prerelease release) || allows_prerelease low high release) && is_between low high release
contains (Branch name) release = false
contains (Revision name) release = false
contains Path release = false

abbrev pub Contains : Requirement → Parts → Type 0
Contains requirement release = IsTrue (contains requirement release)

-- the places of the releases that are contained, where the list's first has the place `place`
abbrev pub places_from : ℕ → Requirement → List Parts → List ℕ
places_from place requirement [] = []
places_from place requirement (release ∷ list) = if contains requirement release
    then place ∷ places_from (place + 1) requirement list
    else places_from (place + 1) requirement list

-- the same, counted from 1
abbrev pub ranks_of : Requirement → List Parts → List ℕ
ranks_of requirement list = places_from 1 requirement list
