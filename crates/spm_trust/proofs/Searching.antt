-- A binary search among packages that ascend finds the first match, or the place where one belongs.
use Rattle.std.proofs.Common.{◌≡◌, ℕ, zero, suc, ◌+◌, ◌<◌, ◌≤◌, Bool, false, List, [], ◌∷◌, length, get_or, None, Result, Ok, Err, Ordering, cond, refl, sym, ap, ◌∙◌, inl, inr, arith, set}
use Rattle.std.specs.Prelude.{IfErr, IfOk, insert}
use Rattle.std.specs.Cmp.Lexicographic.{nat_list_cmp_total, texts_ties}
use Rattle.std.specs.List.{All, HoldsAt}
use Rattle.std.specs.List.Sorted.{IsBinarySearchResult, IsPartitionPoint, IsStrictlySortedBy}
use Rattle.std.specs.Ordering.{is_eq, is_lt, match_ordering, ordering_reverse}
use Rattle.std.specs.declared.cmp.Ordering.TheVariants.{Equal, Greater, Less}
use Rattle.std.proofs.lemmas.Bool.{cases_lt}
use Rattle.std.proofs.lemmas.List.Elements.{All-head, All-tail}
use Rattle.std.proofs.lemmas.List.Sorted.{ranks_by, searchable_from_sorted}
use Rattle.spm_version.specs.Release.{Parts}
use Rattle.spm_trust.specs.Adding.{beside}
use Rattle.spm_trust.specs.File.{is_package}
use Rattle.spm_trust.specs.Trust.{AreAscending, added, added_sum, kept_in, package_with, sum_in}
use Rattle.spm_trust.specs.declared.file.KeptPackage.{KeptPackage}
use Rattle.spm_trust.proofs.Ascending.{below_at, below_next, is_before, order, reversed}

-- of packages that ascend none stands before the one before it
sorted_at : (entries : List KeptPackage) → AreAscending entries → (k : ℕ) (d : KeptPackage) → k + 1 < length entries → is_before (get_or entries (k + 1) d) (get_or entries k d) ≡ false
sorted_at entries ascending k d below =
    (ranks_by nat_list_cmp_total (λ (p : KeptPackage). p.identity)).one_way (get_or entries k d) (get_or entries (k + 1) d)
    (ap is_lt (below_next (λ (p : KeptPackage). p.identity) entries ascending k d below))

-- what a search finds has the identity
pub search-found : (identity : List ℕ) (entries : List KeptPackage) (found : Result ℕ ℕ) → IsBinarySearchResult (beside identity) entries found
    → IfOk found (HoldsAt (λ entry. beside identity entry ≡ Equal) entries)
search-found identity entries (Ok place) is = is
search-found identity entries (Err place) is = tt

-- where a search finds none, the packages before the place are less and the others greater
pub search-missed : (identity : List ℕ) (entries : List KeptPackage) (found : Result ℕ ℕ) → AreAscending entries → IsBinarySearchResult (beside identity) entries found
    → IfErr found (IsPartitionPoint (λ entry. beside identity entry ≡ Less) (λ entry. beside identity entry ≡ Greater) entries)
search-missed identity entries (Ok place) ascending is = tt
search-missed identity entries (Err place) ascending is =
    is (searchable_from_sorted nat_list_cmp_total (λ (p : KeptPackage). p.identity) entries identity (λ k d low below. sorted_at entries ascending k d below))

-- a package has an identity where it stands beside it as equal
pub is_package-beside : (identity : List ℕ) (entry : KeptPackage) (o : Ordering) → beside identity entry ≡ o → is_package identity entry ≡ is_eq o
is_package-beside identity entry o is = texts_ties entry.identity identity ∙ ap is_eq is

-- a package before the one that was found is less than what was looked for
before_the_found : (identity : List ℕ) (entry found : KeptPackage) → order entry.identity found.identity ≡ Less → beside identity found ≡ Equal → beside identity entry ≡ Less
before_the_found identity entry found first here =
    nat_list_cmp_total.antisymm entry.identity identity
    ∙ ap ordering_reverse (sym (nat_list_cmp_total.congr found.identity identity entry.identity here) ∙ nat_list_cmp_total.antisymm found.identity entry.identity ∙ ap ordering_reverse first)

-- ---- looking

-- the sums of what a search finds are those that are looked through
pub kept_in-found : (identity : List ℕ) (release : Parts) (entries : List KeptPackage) (place : ℕ) (found : KeptPackage) → AreAscending entries → place < length entries
    → HoldsAt (λ entry. beside identity entry ≡ Equal) entries place → found ≡ get_or entries place found → sum_in release found.sums ≡ kept_in identity release entries
unfolding IsStrictlySortedBy
kept_in-found identity release [] place found ascending within here is = absurd (omega (arith, within))
kept_in-found identity release (entry ∷ entries) zero found ascending within here is =
    ap (λ (e : KeptPackage). sum_in release e.sums) is
    ∙ sym (ap (λ (same : Bool). cond same (sum_in release entry.sums) (kept_in identity release entries)) (is_package-beside identity entry Equal (here entry)))
kept_in-found identity release (entry ∷ entries) (suc place) found ascending within here is =
    let below : place < length entries = omega (arith, within) in
    let before = before_the_found identity entry (get_or entries place found)
    (below_at (λ (p : KeptPackage). p.identity) entry.identity entries ascending.0 place found below) (here found) in
    kept_in-found identity release entries place found ascending.1 below here is
    ∙ sym (ap (λ (same : Bool). cond same (sum_in release entry.sums) (kept_in identity release entries)) (is_package-beside identity entry Less before))

-- where no package has the identity nothing is kept
none_kept : (identity : List ℕ) (release : Parts) (entries : List KeptPackage) → All (λ entry. is_package identity entry ≡ false) entries → kept_in identity release entries ≡ None
none_kept identity release [] none = refl
none_kept identity release (entry ∷ entries) none =
    ap (λ (same : Bool). cond same (sum_in release entry.sums) (kept_in identity release entries)) (All-head (λ e. is_package identity e ≡ false) entry entries none)
    ∙ none_kept identity release entries (All-tail (λ e. is_package identity e ≡ false) entry entries none)

-- where a search finds none there is none
pub kept_in-missed : (identity : List ℕ) (release : Parts) (entries : List KeptPackage) (place : ℕ)
    → IsPartitionPoint (λ entry. beside identity entry ≡ Less) (λ entry. beside identity entry ≡ Greater) entries place → None ≡ kept_in identity release entries
kept_in-missed identity release entries place parts =
    sym (none_kept identity release entries (λ k d within. elim (cases_lt k place) [
      | inl below ↦ is_package-beside identity (get_or entries k d) Less (parts.0 k d (omega arith) below)
      | inr above ↦ is_package-beside identity (get_or entries k d) Greater (parts.1 k d above within)
    ]))

-- ---- adding

-- a package before the place of what is added stays
added-later : (identity : List ℕ) (release : Parts) (sum : List ℕ) (entry : KeptPackage) (entries : List KeptPackage) → beside identity entry ≡ Less
    → added identity release sum (entry ∷ entries) ≡ entry ∷ added identity release sum entries
added-later identity release sum entry entries before =
    ap (λ o. match_ordering o (package_with identity release sum ∷ entry ∷ entries)
    (record { identity = entry.identity; sums = added_sum release sum entry.sums } ∷ entries) (entry ∷ added identity release sum entries))
    (reversed entry.identity identity Less before)

-- what a search finds gets the sum
pub added-found : (identity : List ℕ) (release : Parts) (sum : List ℕ) (entries : List KeptPackage) (place : ℕ) (found : KeptPackage) → AreAscending entries
    → place < length entries → HoldsAt (λ entry. beside identity entry ≡ Equal) entries place → found ≡ get_or entries place found
    → set entries place (record { identity = found.identity; sums = added_sum release sum found.sums }) ≡ added identity release sum entries
unfolding IsStrictlySortedBy
added-found identity release sum [] place found ascending within here is = absurd (omega (arith, within))
added-found identity release sum (entry ∷ entries) zero found ascending within here is =
    ap (λ (e : KeptPackage). record { identity = e.identity; sums = added_sum release sum e.sums } ∷ entries) is
    ∙ sym (ap (λ o. match_ordering o (package_with identity release sum ∷ entry ∷ entries)
    (record { identity = entry.identity; sums = added_sum release sum entry.sums } ∷ entries) (entry ∷ added identity release sum entries))
    (reversed entry.identity identity Equal (here entry)))
added-found identity release sum (entry ∷ entries) (suc place) found ascending within here is =
    let below : place < length entries = omega (arith, within) in
    let before = before_the_found identity entry (get_or entries place found)
    (below_at (λ (p : KeptPackage). p.identity) entry.identity entries ascending.0 place found below) (here found) in
    ap (λ rest. entry ∷ rest) (added-found identity release sum entries place found ascending.1 below here is)
    ∙ sym (added-later identity release sum entry entries before)

-- where a search finds none a package is put
pub added-missed : (identity : List ℕ) (release : Parts) (sum : List ℕ) (entries : List KeptPackage) (place : ℕ) → place ≤ length entries
    → IsPartitionPoint (λ entry. beside identity entry ≡ Less) (λ entry. beside identity entry ≡ Greater) entries place
    → insert entries place (package_with identity release sum) ≡ added identity release sum entries
added-missed identity release sum [] zero within parts = refl
added-missed identity release sum [] (suc place) within parts = absurd (omega (arith, within))
added-missed identity release sum (entry ∷ entries) zero within parts =
    sym (ap (λ o. match_ordering o (package_with identity release sum ∷ entry ∷ entries)
    (record { identity = entry.identity; sums = added_sum release sum entry.sums } ∷ entries) (entry ∷ added identity release sum entries))
    (reversed entry.identity identity Greater (parts.1 0 entry (omega arith) (omega arith))))
added-missed identity release sum (entry ∷ entries) (suc place) within parts =
    let below : place ≤ length entries = omega (arith, within) in
    ap (λ rest. entry ∷ rest) (added-missed identity release sum entries place below (
      λ k d low high. parts.0 (suc k) d (omega arith) (omega (arith, high)),
      λ k d low high. parts.1 (suc k) d (omega (arith, low)) (omega (arith, high)),
    ))
    ∙ sym (added-later identity release sum entry entries (parts.0 0 entry (omega arith) (omega arith)))
