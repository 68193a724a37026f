-- A release is a version of SemVer 2.0 with numbers of 64 bits. `semver` sees it as five parts: the three
-- numbers, the pre-release and the build metadata.
use Rattle.std.specs.Prelude.{◌≡◌, ℕ, List, length, codes, Bool, nat_eq, nat_lt, Option}
use Rattle.std.specs.List.{ends_with}
use Rattle.std.specs.Ordering.{nat_cmp, ordering_then}
use Rattle.std.specs.Result.{result_ok}
use Rattle.std.specs.declared.cmp.Ordering.{Ordering}
use Rattle.semver.specs.Order.{pre_cmp}
pub use Rattle.semver.specs.Parse.{Parts, version_parts}
pub use Rattle.semver.specs.Grammar.{IsValid}
pub use Rattle.semver.specs.Identifiers.{parts_text}

-- the text is these parts, spelled by the grammar of SemVer 2.0 (section 9 and the BNF)
abbrev pub Spells : List ℕ → Parts → Type 0
Spells text parts = IsValid parts × (parts_text parts ≡ text)

-- the release that a text is
abbrev pub release_of : List ℕ → Option Parts
release_of text = result_ok (version_parts text)

-- a version with a pre-release (section 9)
abbrev pub is_prerelease : Parts → Bool
is_prerelease parts = nat_lt 0 (length parts.3)

-- precedence (section 11): build metadata has no part in it (section 10)
abbrev pub precedence : Parts → Parts → Ordering
precedence first second = ordering_then (nat_cmp first.0 second.0) (ordering_then (nat_cmp first.1 second.1)
    (ordering_then (nat_cmp first.2 second.2) (pre_cmp first.3 second.3)))

-- a text whose path is that of an archive, if it is the last of a path
abbrev pub ends_in_zip : List ℕ → Bool
ends_in_zip text = ends_with nat_eq text (codes ".zip")
