-- What is added is kept, what was kept stays, and a map stays a map.
use Rattle.std.specs.Str.{bytes_eq}
use Rattle.std.proofs.Common.{◌≡◌, ◌≢◌, ◌==◌, ◌⊎◌, map, ℕ, suc, Bool, true, false, not, IsTrue, List, [], ◌∷◌, length, All, Option, Some, None, Ordering, cond, refl, sym, ap, ◌∙◌, inl, inr, arith}
use Rattle.std.specs.Cmp.Lexicographic.{nat_list_eq_equiv, texts_ties}
use Rattle.std.specs.List.{AllByRecursion}
use Rattle.std.specs.List.Sorted.{IsStrictlySortedBy}
use Rattle.std.specs.Ordering.{is_eq, match_ordering}
use Rattle.std.specs.declared.cmp.Ordering.TheVariants.{Equal, Greater, Less}
use Rattle.std.proofs.lemmas.Bool.{cases_Bool}
use Rattle.std.proofs.lemmas.Bool.Decides.{nat_tests}
use Rattle.std.proofs.lemmas.List.Elements.{All-cons, All-head, All-nil, All-tail}
use Rattle.std.proofs.lemmas.Slice.Eq.{bytes_eq-Decides}
use Rattle.spm_version.specs.Release.{Parts, parts_text}
use Rattle.spm_trust.specs.File.{is_package}
use Rattle.spm_trust.specs.Trust.{AreAscending, AreSums, IsTrust, added, added_sum, differs, has_sums, is_version, kept_in, package_with, sum_in}
use Rattle.spm_trust.specs.declared.file.KeptPackage.{KeptPackage}
use Rattle.spm_trust.specs.declared.file.KeptSum.{KeptSum}
use Rattle.spm_trust.proofs.Ascending.{ascend_front, below_more, order, reversed}

-- ---- choices

-- whether two texts are the same, by their order the other way round
same_by : (x y : List ℕ) (o : Ordering) → order x y ≡ o → bytes_eq y x ≡ is_eq (match_ordering o Greater Equal Less)
same_by x y Less is = texts_ties y x ∙ ap is_eq (reversed x y Less is)
same_by x y Equal is = texts_ties y x ∙ ap is_eq (reversed x y Equal is)
same_by x y Greater is = texts_ties y x ∙ ap is_eq (reversed x y Greater is)

-- a choice whose first side is the second where it is taken
front_other : {A : Type 0} (test : Bool) (first rest : A) → (test ≡ true → first ≡ rest) → cond test first rest ≡ rest
front_other true first rest same = same refl
front_other false first rest same = refl

-- a choice of another first side, which is the same where it is taken
front_same : {A : Type 0} (test : Bool) (first second rest : A) → (test ≡ true → first ≡ second) → cond test first rest ≡ cond test second rest
front_same true first second rest same = same refl
front_same false first second rest same = refl

-- a sum that doesn't differ is the one that is kept
same_sum : (kept sum : List ℕ) → differs (Some kept) sum ≡ false → kept ≡ sum
same_sum kept sum same = elim (cases_Bool (bytes_eq kept sum)) [
  | inl is ↦ (bytes_eq-Decides kept sum).0 is
  | inr other ↦ absurd (no_other (bytes_eq kept sum) other same)
]
  where
    no_other : (test : Bool) → test ≡ false → not test ≡ false → ⊥
    no_other true is not_so = cc
    no_other false is not_so = cc

-- ---- the sums of a package

-- a version and its sum
abbrev sum_of : Parts → List ℕ → KeptSum
sum_of release sum = record { release = release; sum = sum }

-- what adding a sum before these comes to, by the order of the first
abbrev sums_by : Ordering → Parts → List ℕ → KeptSum → List KeptSum → List KeptSum
sums_by o release sum kept sums = match_ordering o (sum_of release sum ∷ kept ∷ sums) (kept ∷ sums) (kept ∷ added_sum release sum sums)

-- the sum that was added is found
sum_in-by : (release : Parts) (sum : List ℕ) (kept : KeptSum) (sums : List KeptSum) (o : Ordering) → order (parts_text release) (parts_text kept.release) ≡ o
    → (differs (sum_in release sums) sum ≡ false → sum_in release (added_sum release sum sums) ≡ Some sum)
    → differs (sum_in release (kept ∷ sums)) sum ≡ false → sum_in release (sums_by o release sum kept sums) ≡ Some sum
sum_in-by release sum kept sums Less is later same =
    ap (λ (test : Bool). cond test (Some sum) (sum_in release (kept ∷ sums))) (nat_list_eq_equiv.refl (parts_text release))
sum_in-by release sum kept sums Equal is later same =
    let found : sum_in release (kept ∷ sums) ≡ Some kept.sum =
    ap (λ (test : Bool). cond test (Some kept.sum) (sum_in release sums)) (same_by (parts_text release) (parts_text kept.release) Equal is) in
    found ∙ ap Some (same_sum kept.sum sum (sym (ap (λ o. differs o sum) found) ∙ same))
sum_in-by release sum kept sums Greater is later same =
    let other : is_version release kept ≡ false = same_by (parts_text release) (parts_text kept.release) Greater is in
    ap (λ (test : Bool). cond test (Some kept.sum) (sum_in release (added_sum release sum sums))) other
    ∙ later (sym (ap (λ (test : Bool). differs (cond test (Some kept.sum) (sum_in release sums)) sum) other) ∙ same)

-- the sum that was added is found
sum_in-added_sum : (release : Parts) (sum : List ℕ) (sums : List KeptSum) → differs (sum_in release sums) sum ≡ false → sum_in release (added_sum release sum sums) ≡ Some sum
sum_in-added_sum release sum [] same = ap (λ (test : Bool). cond test (Some sum) None) (nat_list_eq_equiv.refl (parts_text release))
sum_in-added_sum release sum (kept ∷ sums) same =
    sum_in-by release sum kept sums (order (parts_text release) (parts_text kept.release)) refl (sum_in-added_sum release sum sums) same

-- that of another version stays
sum_in-by_other : (release : Parts) (sum : List ℕ) (kept : KeptSum) (sums : List KeptSum) (version : Parts) (o : Ordering)
    → bytes_eq (parts_text release) (parts_text version) ≡ false → sum_in version (added_sum release sum sums) ≡ sum_in version sums
    → sum_in version (sums_by o release sum kept sums) ≡ sum_in version (kept ∷ sums)
sum_in-by_other release sum kept sums version Less other later =
    ap (λ (test : Bool). cond test (Some sum) (sum_in version (kept ∷ sums))) other
sum_in-by_other release sum kept sums version Equal other later = refl
sum_in-by_other release sum kept sums version Greater other later =
    ap (λ (rest : Option (List ℕ)). cond (is_version version kept) (Some kept.sum) rest) later

-- that of another version stays
sum_in-added_other : (release : Parts) (sum : List ℕ) (sums : List KeptSum) (version : Parts) → bytes_eq (parts_text release) (parts_text version) ≡ false
    → sum_in version (added_sum release sum sums) ≡ sum_in version sums
sum_in-added_other release sum [] version other = ap (λ (test : Bool). cond test (Some sum) None) other
sum_in-added_other release sum (kept ∷ sums) version other =
    sum_in-by_other release sum kept sums version (order (parts_text release) (parts_text kept.release)) other (sum_in-added_other release sum sums version other)

-- ---- the sums ascend

-- the text of a version
abbrev version_text : KeptSum → List ℕ
version_text kept = parts_text kept.release

-- a text below that of what is added and of the sums is below all
below_added_sum : (x : List ℕ) (release : Parts) (sum : List ℕ) (sums : List KeptSum) → order x (parts_text release) ≡ Less
    → AllByRecursion (λ y. order x y ≡ Less) (map version_text sums) → AllByRecursion (λ y. order x y ≡ Less) (map version_text (added_sum release sum sums))
below_added_sum x release sum [] first below = (first, tt)
below_added_sum x release sum (kept ∷ sums) first below =
    by (order (parts_text release) (parts_text kept.release)) (below_added_sum x release sum sums first below.1)
  where
    by : (o : Ordering) → AllByRecursion (λ y. order x y ≡ Less) (map version_text (added_sum release sum sums))
        → AllByRecursion (λ y. order x y ≡ Less) (map version_text (sums_by o release sum kept sums))
    by Less rest = (first, below)
    by Equal rest = below
    by Greater rest = (below.0, rest)

-- sums that ascend still do
AreSums-by : (release : Parts) (sum : List ℕ) (kept : KeptSum) (sums : List KeptSum) (o : Ordering) → order (parts_text release) (parts_text kept.release) ≡ o
    → AreSums (kept ∷ sums) → AreSums (added_sum release sum sums) → AreSums (sums_by o release sum kept sums)
unfolding IsStrictlySortedBy
AreSums-by release sum kept sums Less is all rest = ascend_front (parts_text release) (parts_text kept.release) (map version_text sums) is all
AreSums-by release sum kept sums Equal is all rest = all
AreSums-by release sum kept sums Greater is all rest =
    (below_added_sum (parts_text kept.release) release sum sums (reversed (parts_text release) (parts_text kept.release) Greater is) all.0, rest)

-- sums that ascend still do
AreSums-added_sum : (release : Parts) (sum : List ℕ) (sums : List KeptSum) → AreSums sums → AreSums (added_sum release sum sums)
unfolding IsStrictlySortedBy
AreSums-added_sum release sum [] all = (tt, tt)
AreSums-added_sum release sum (kept ∷ sums) all =
    AreSums-by release sum kept sums (order (parts_text release) (parts_text kept.release)) refl all (AreSums-added_sum release sum sums all.1)

-- a number above another isn't zero
not_zero : (n : ℕ) → not (suc n == 0) ≡ true
not_zero n = grind (arith, nat_tests)

-- there is one at least
added_sum-some : (release : Parts) (sum : List ℕ) (sums : List KeptSum) → IsTrue (not (length (added_sum release sum sums) == 0))
added_sum-some release sum [] = refl
added_sum-some release sum (kept ∷ sums) = by (order (parts_text release) (parts_text kept.release))
  where
    by : (o : Ordering) → IsTrue (not (length (sums_by o release sum kept sums) == 0))
    by Less = not_zero (length (kept ∷ sums))
    by Equal = not_zero (length sums)
    by Greater = not_zero (length (added_sum release sum sums))

-- ---- the packages

-- the package with the sum that was added
abbrev with_sum : Parts → List ℕ → KeptPackage → KeptPackage
with_sum release sum entry = record { identity = entry.identity; sums = added_sum release sum entry.sums }

-- what adding before these comes to, by the order of the first
abbrev packages_by : Ordering → List ℕ → Parts → List ℕ → KeptPackage → List KeptPackage → List KeptPackage
packages_by o identity release sum entry entries = match_ordering o (package_with identity release sum ∷ entry ∷ entries)
    (with_sum release sum entry ∷ entries) (entry ∷ added identity release sum entries)

-- the one sum of a new package
sum_in-alone : (release : Parts) (sum : List ℕ) → sum_in release (sum_of release sum ∷ []) ≡ Some sum
sum_in-alone release sum = ap (λ (test : Bool). cond test (Some sum) None) (nat_list_eq_equiv.refl (parts_text release))

-- what was added is kept
kept_in-by : (identity : List ℕ) (release : Parts) (sum : List ℕ) (entry : KeptPackage) (entries : List KeptPackage) (o : Ordering) → order identity entry.identity ≡ o
    → (differs (kept_in identity release entries) sum ≡ false → kept_in identity release (added identity release sum entries) ≡ Some sum)
    → differs (kept_in identity release (entry ∷ entries)) sum ≡ false → kept_in identity release (packages_by o identity release sum entry entries) ≡ Some sum
kept_in-by identity release sum entry entries Less is later same =
    ap (λ (test : Bool). cond test (sum_in release (sum_of release sum ∷ [])) (kept_in identity release (entry ∷ entries))) (nat_list_eq_equiv.refl identity)
    ∙ sum_in-alone release sum
kept_in-by identity release sum entry entries Equal is later same =
    let here : is_package identity entry ≡ true = same_by identity entry.identity Equal is in
    ap (λ (test : Bool). cond test (sum_in release (added_sum release sum entry.sums)) (kept_in identity release entries)) here
    ∙ sum_in-added_sum release sum entry.sums
    (sym (ap (λ (test : Bool). differs (cond test (sum_in release entry.sums) (kept_in identity release entries)) sum) here) ∙ same)
kept_in-by identity release sum entry entries Greater is later same =
    let other : is_package identity entry ≡ false = same_by identity entry.identity Greater is in
    ap (λ (test : Bool). cond test (sum_in release entry.sums) (kept_in identity release (added identity release sum entries))) other
    ∙ later (sym (ap (λ (test : Bool). differs (cond test (sum_in release entry.sums) (kept_in identity release entries)) sum) other) ∙ same)

-- what was added is kept
pub kept_in-added : (identity : List ℕ) (release : Parts) (sum : List ℕ) (entries : List KeptPackage) → differs (kept_in identity release entries) sum ≡ false
    → kept_in identity release (added identity release sum entries) ≡ Some sum
kept_in-added identity release sum [] same =
    ap (λ (test : Bool). cond test (sum_in release (sum_of release sum ∷ [])) None) (nat_list_eq_equiv.refl identity) ∙ sum_in-alone release sum
kept_in-added identity release sum (entry ∷ entries) same =
    kept_in-by identity release sum entry entries (order identity entry.identity) refl (kept_in-added identity release sum entries) same

-- nothing is kept for an identity below all
kept_in-below : (identity : List ℕ) (version : Parts) (entries : List KeptPackage) → AllByRecursion (λ y. order identity y ≡ Less) (map (λ entry. entry.identity) entries)
    → kept_in identity version entries ≡ None
kept_in-below identity version [] below = refl
kept_in-below identity version (entry ∷ entries) below =
    ap (λ (test : Bool). cond test (sum_in version entry.sums) (kept_in identity version entries)) (same_by identity entry.identity Less below.0)
    ∙ kept_in-below identity version entries below.1

-- of two keys with one identity the versions differ
abbrev AreApart : List ℕ → Parts → List ℕ → Parts → Type 0
AreApart identity release other version = bytes_eq identity other ≡ true → bytes_eq (parts_text release) (parts_text version) ≡ false

-- nothing is kept for an identity before the first of packages that ascend
kept_in-before : (identity : List ℕ) (other : List ℕ) (version : Parts) (entry : KeptPackage) (entries : List KeptPackage) → AreAscending (entry ∷ entries)
    → order identity entry.identity ≡ Less → bytes_eq identity other ≡ true → kept_in other version (entry ∷ entries) ≡ None
unfolding IsStrictlySortedBy
kept_in-before identity other version entry entries ascending is same =
    ap (λ (i : List ℕ). kept_in i version (entry ∷ entries)) (sym ((bytes_eq-Decides identity other).0 same))
    ∙ kept_in-below identity version (entry ∷ entries) (is, below_more identity entry.identity (map (λ (e : KeptPackage). e.identity) entries) is ascending.0)

-- one sum of another version is nothing for this one
sum_in-alone_other : (release : Parts) (sum : List ℕ) (version : Parts) → bytes_eq (parts_text release) (parts_text version) ≡ false
    → sum_in version (sum_of release sum ∷ []) ≡ None
sum_in-alone_other release sum version other = ap (λ (test : Bool). cond test (Some sum) None) other

-- what is kept for another key stays
kept_in-by_other : (identity : List ℕ) (release : Parts) (sum : List ℕ) (entry : KeptPackage) (entries : List KeptPackage) (other : List ℕ) (version : Parts) (o : Ordering)
    → order identity entry.identity ≡ o → AreAscending (entry ∷ entries) → AreApart identity release other version
    → kept_in other version (added identity release sum entries) ≡ kept_in other version entries
    → kept_in other version (packages_by o identity release sum entry entries) ≡ kept_in other version (entry ∷ entries)
kept_in-by_other identity release sum entry entries other version Less is ascending apart later =
    front_other (bytes_eq identity other) (sum_in version (sum_of release sum ∷ [])) (kept_in other version (entry ∷ entries))
    (λ same. sum_in-alone_other release sum version (apart same) ∙ sym (kept_in-before identity other version entry entries ascending is same))
kept_in-by_other identity release sum entry entries other version Equal is ascending apart later =
    front_same (is_package other entry) (sum_in version (added_sum release sum entry.sums)) (sum_in version entry.sums) (kept_in other version entries)
    (λ same. sum_in-added_other release sum entry.sums version
    (apart (ap (λ (i : List ℕ). bytes_eq i other) (sym ((bytes_eq-Decides entry.identity identity).0 (same_by identity entry.identity Equal is))) ∙ same)))
kept_in-by_other identity release sum entry entries other version Greater is ascending apart later =
    ap (λ (rest : Option (List ℕ)). cond (is_package other entry) (sum_in version entry.sums) rest) later

-- what is kept for another key stays
kept_in-added_apart : (identity : List ℕ) (release : Parts) (sum : List ℕ) (entries : List KeptPackage) (other : List ℕ) (version : Parts) → AreAscending entries
    → AreApart identity release other version → kept_in other version (added identity release sum entries) ≡ kept_in other version entries
unfolding IsStrictlySortedBy
kept_in-added_apart identity release sum [] other version ascending apart =
    front_other (bytes_eq identity other) (sum_in version (sum_of release sum ∷ [])) None (λ same. sum_in-alone_other release sum version (apart same))
kept_in-added_apart identity release sum (entry ∷ entries) other version ascending apart =
    kept_in-by_other identity release sum entry entries other version (order identity entry.identity) refl ascending apart
    (kept_in-added_apart identity release sum entries other version ascending.1 apart)

-- two texts that aren't the same don't pass the test
other_text : (x y : List ℕ) → y ≢ x → bytes_eq x y ≡ false
other_text x y other = elim (cases_Bool (bytes_eq x y)) [
  | inl same ↦ absurd (other (sym ((bytes_eq-Decides x y).0 same)))
  | inr not_so ↦ not_so
]

-- another key is one with another identity or another version
AreApart-from : (identity : List ℕ) (release : Parts) (other : List ℕ) (version : Parts) → (other ≢ identity) ⊎ (parts_text version ≢ parts_text release)
    → AreApart identity release other version
AreApart-from identity release other version (inl differ) = λ same. absurd (differ (sym ((bytes_eq-Decides identity other).0 same)))
AreApart-from identity release other version (inr differ) = λ same. other_text (parts_text release) (parts_text version) differ

-- what is kept for every other key stays
pub kept_in-added_other : (identity : List ℕ) (release : Parts) (sum : List ℕ) (entries : List KeptPackage) → IsTrust entries → (other : List ℕ) (version : Parts)
    → (other ≢ identity) ⊎ (parts_text version ≢ parts_text release) → kept_in other version (added identity release sum entries) ≡ kept_in other version entries
kept_in-added_other identity release sum entries trust other version differ =
    kept_in-added_apart identity release sum entries other version trust.ascending (AreApart-from identity release other version differ)

-- ---- a map stays a map

-- an identity below that of what is added and of the packages is below all
below_added : (x : List ℕ) (identity : List ℕ) (release : Parts) (sum : List ℕ) (entries : List KeptPackage) → order x identity ≡ Less
    → AllByRecursion (λ y. order x y ≡ Less) (map (λ entry. entry.identity) entries)
    → AllByRecursion (λ y. order x y ≡ Less) (map (λ entry. entry.identity) (added identity release sum entries))
below_added x identity release sum [] first below = (first, tt)
below_added x identity release sum (entry ∷ entries) first below =
    by (order identity entry.identity) (below_added x identity release sum entries first below.1)
  where
    by : (o : Ordering) → AllByRecursion (λ y. order x y ≡ Less) (map (λ entry. entry.identity) (added identity release sum entries))
        → AllByRecursion (λ y. order x y ≡ Less) (map (λ entry. entry.identity) (packages_by o identity release sum entry entries))
    by Less rest = (first, below)
    by Equal rest = below
    by Greater rest = (below.0, rest)

-- packages that ascend still do
AreAscending-by : (identity : List ℕ) (release : Parts) (sum : List ℕ) (entry : KeptPackage) (entries : List KeptPackage) (o : Ordering) → order identity entry.identity ≡ o
    → AreAscending (entry ∷ entries) → AreAscending (added identity release sum entries) → AreAscending (packages_by o identity release sum entry entries)
unfolding IsStrictlySortedBy
AreAscending-by identity release sum entry entries Less is all rest = ascend_front identity entry.identity (map (λ (e : KeptPackage). e.identity) entries) is all
AreAscending-by identity release sum entry entries Equal is all rest = all
AreAscending-by identity release sum entry entries Greater is all rest =
    (below_added entry.identity identity release sum entries (reversed identity entry.identity Greater is) all.0, rest)

-- packages that ascend still do
AreAscending-added : (identity : List ℕ) (release : Parts) (sum : List ℕ) (entries : List KeptPackage) → AreAscending entries → AreAscending (added identity release sum entries)
unfolding IsStrictlySortedBy
AreAscending-added identity release sum [] all = (tt, tt)
AreAscending-added identity release sum (entry ∷ entries) all =
    AreAscending-by identity release sum entry entries (order identity entry.identity) refl all (AreAscending-added identity release sum entries all.1)

-- what holds of a package with one sum, and of one with a sum more, holds of all
All-added : (P : KeptPackage → Type 0) (identity : List ℕ) (release : Parts) (sum : List ℕ) → P (package_with identity release sum)
    → ((entry : KeptPackage) → P entry → P (with_sum release sum entry)) → (entries : List KeptPackage) → All P entries → All P (added identity release sum entries)
All-added P identity release sum new more [] all = All-cons P (package_with identity release sum) [] new (All-nil P)
All-added P identity release sum new more (entry ∷ entries) all =
    by (order identity entry.identity) (All-added P identity release sum new more entries (All-tail P entry entries all))
  where
    by : (o : Ordering) → All P (added identity release sum entries) → All P (packages_by o identity release sum entry entries)
    by Less rest = All-cons P (package_with identity release sum) (entry ∷ entries) new all
    by Equal rest = All-cons P (with_sum release sum entry) entries (more entry (All-head P entry entries all)) (All-tail P entry entries all)
    by Greater rest = All-cons P entry (added identity release sum entries) (All-head P entry entries all) rest

-- one sum ascends
AreSums-alone : (release : Parts) (sum : List ℕ) → AreSums (sum_of release sum ∷ [])
unfolding IsStrictlySortedBy
AreSums-alone release sum = (tt, tt)

-- a map stays a map
pub IsTrust-added : (identity : List ℕ) (release : Parts) (sum : List ℕ) (entries : List KeptPackage) → IsTrust entries → IsTrust (added identity release sum entries)
IsTrust-added identity release sum entries trust = record {
  ascending = AreAscending-added identity release sum entries trust.ascending;
  sums = All-added (λ entry. AreSums entry.sums) identity release sum (AreSums-alone release sum) (λ entry. AreSums-added_sum release sum entry.sums) entries trust.sums;
  kept = All-added (λ entry. IsTrue (has_sums entry)) identity release sum refl (λ entry here. added_sum-some release sum entry.sums) entries trust.kept;
}

-- the map of nothing
pub IsTrust-nil : IsTrust []
unfolding IsStrictlySortedBy
IsTrust-nil = record { ascending = tt; sums = All-nil (λ entry. AreSums entry.sums); kept = All-nil (λ entry. IsTrue (has_sums entry)) }
