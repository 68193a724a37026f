-- The data that a fingerprint file's text is.
use Rattle.std.proofs.Common.{◌≡◌, ℕ, ◌≤◌, List, [], ◌∷◌, All, Some, map, option_map, option_and_then, refl, sym, ap, ◌∙◌, append-nil, arith}
use Rattle.std.specs.Prelude.{codes}
use Rattle.std.specs.List.{AllByRecursion}
use Rattle.std.specs.List.Sorted.{IsStrictlySortedBy}
use Rattle.std.specs.Ordering.{match_ordering}
use Rattle.std.specs.declared.cmp.Ordering.TheVariants.{Greater, Less}
use Rattle.std.proofs.lemmas.List.Elements.{All-head, All-tail}
use Rattle.json.specs.Json as json
use Rattle.json.specs.Tree.{depth, members_depth, json_tokens}
use Rattle.json.proofs.Printed.Trees.{value-json_tokens}
use Rattle.serde_json.specs.Data.{Data, Members, member, no_members, number, object, put, string, unsigned}
use Rattle.serde_json.specs.Read.{max_depth, of_json, of_members, read}
use Rattle.serde_json.proofs.OnLiterals.{serde_json_on_literals}
use Rattle.spm_digest.specs.Digest.{encode_lower}
use Rattle.spm_trust.specs.Trust.{AreSums, Ascend, IsTrust}
use Rattle.spm_trust.specs.TrustText.{trust_text}
use Rattle.spm_trust.specs.declared.file.KeptPackage.{KeptPackage}
use Rattle.spm_trust.specs.declared.file.KeptSum.{KeptSum}
use Rattle.spm_trust.proofs.Ascending.{order, reversed}
use Rattle.spm_trust.proofs.TrustTokens.{AreTame, identity_text, json_by, package_json, packages_json, sum_json, sums_json, tokens-trust_text, trust_json, version_text}

-- ---- the data

-- members with these keys and values
abbrev pub data_by : {X : Type 0} → (X → List ℕ) → (X → Data) → List X → Members
data_by key value [] = no_members
data_by key value (x ∷ xs) = member (key x) (value x) (data_by key value xs)

-- the data of a sum
abbrev pub sum_data : KeptSum → Data
sum_data kept = string (encode_lower kept.sum)

-- those of a package
abbrev pub package_data : KeptPackage → Data
package_data entry = object (data_by version_text sum_data entry.sums)

-- those of packages
abbrev pub packages_data : List KeptPackage → Members
packages_data packages = data_by identity_text package_data packages

-- those of a file
abbrev pub trust_data : List KeptPackage → Data
trust_data packages = object (member (codes "fingerprints") (object (packages_data packages))
    (member (codes "version") (number (unsigned 1)) no_members))

-- ---- members that are put behind others

-- members behind others
abbrev join : Members → Members → Members
join no_members later = later
join (member k d ms) later = member k d (join ms later)

-- none behind others
join-none : (ms : Members) → join ms no_members ≡ ms
join-none no_members = refl
join-none (member k d ms) = ap (member k d) (join-none ms)

-- one and more behind others
join-one : (ms : Members) (key : List ℕ) (d : Data) (later : Members) → join (join ms (member key d no_members)) later ≡ join ms (member key d later)
join-one no_members key d later = refl
join-one (member k e ms) key d later = ap (member k e) (join-one ms key d later)

-- the keys are below this one
abbrev AreBelow : Members → List ℕ → Type 0
AreBelow no_members key = Unit {0}
AreBelow (member k d ms) key = (order key k ≡ Greater) × AreBelow ms key

-- what is put at a key above all stands behind them
put-last : (key : List ℕ) (d : Data) (ms : Members) → AreBelow ms key → put key d ms ≡ join ms (member key d no_members)
put-last key d no_members below = refl
put-last key d (member k e ms) below =
    ap (λ o. match_ordering o (member key d (member k e ms)) (member k d ms) (member k e (put key d ms))) below.0
    ∙ ap (member k e) (put-last key d ms below.1)

-- one more below a key
AreBelow-one : (ms : Members) (k : List ℕ) (d : Data) (key : List ℕ) → AreBelow ms key → order key k ≡ Greater → AreBelow (join ms (member k d no_members)) key
AreBelow-one no_members k d key below last = (last, tt)
AreBelow-one (member l e ms) k d key below last = (below.0, AreBelow-one ms k d key below.1 last)

-- one more below all that are left
below_rest : (ms : Members) (k : List ℕ) (d : Data) (keys : List (List ℕ)) → AllByRecursion (λ key. AreBelow ms key) keys → AllByRecursion (λ key. order k key ≡ Less) keys
    → AllByRecursion (λ key. AreBelow (join ms (member k d no_members)) key) keys
below_rest ms k d [] below first = tt
below_rest ms k d (key ∷ keys) below first =
    (AreBelow-one ms k d key below.0 (reversed k key Less first.0), below_rest ms k d keys below.1 first.1)

-- none is below all
none_below : (keys : List (List ℕ)) → AllByRecursion (λ key. AreBelow no_members key) keys
none_below [] = tt
none_below (key ∷ keys) = (tt, none_below keys)

-- ---- from the grammar's value

-- members in the order of their keys are read in this order
of_members-by : {X : Type 0} (key : X → List ℕ) (as_json : X → json.Json) (as_data : X → Data) (xs : List X) (found : Members)
    → AllByRecursion (λ x. of_json (as_json x) ≡ Some (as_data x)) xs → Ascend (map key xs) → AllByRecursion (λ k. AreBelow found k) (map key xs)
    → of_members (json_by key as_json xs) found ≡ Some (join found (data_by key as_data xs))
unfolding IsStrictlySortedBy
of_members-by key as_json as_data [] found each ascending below = ap Some (sym (join-none found))
of_members-by key as_json as_data (x ∷ xs) found each ascending below =
    ap (λ read. option_and_then (λ d. of_members (json_by key as_json xs) (put (key x) d found)) read) each.0
    ∙ ap (of_members (json_by key as_json xs)) (put-last (key x) (as_data x) found below.0)
    ∙ of_members-by key as_json as_data xs (join found (member (key x) (as_data x) no_members)) each.1 ascending.1
    (below_rest found (key x) (as_data x) (map key xs) below.1 ascending.0)
    ∙ ap Some (join-one found (key x) (as_data x) (data_by key as_data xs))

-- the JSON of each sum is its data
each_sum : (sums : List KeptSum) → AllByRecursion (λ kept. of_json (sum_json kept) ≡ Some (sum_data kept)) sums
each_sum [] = tt
each_sum (kept ∷ sums) = (refl, each_sum sums)

-- so is that of a package
of_json-package_json : (entry : KeptPackage) → AreSums entry.sums → of_json (package_json entry) ≡ Some (package_data entry)
of_json-package_json entry ascending =
    ap (option_map object) (of_members-by version_text sum_json sum_data entry.sums no_members (each_sum entry.sums) ascending (none_below (map version_text entry.sums)))

-- so is that of each package
each_package : (entries : List KeptPackage) → All (λ entry. AreSums entry.sums) entries
    → AllByRecursion (λ entry. of_json (package_json entry) ≡ Some (package_data entry)) entries
each_package [] ascending = tt
each_package (entry ∷ entries) ascending =
    let P : KeptPackage → Type 0 = λ e. AreSums e.sums in
    (of_json-package_json entry (All-head P entry entries ascending), each_package entries (All-tail P entry entries ascending))

-- the version behind the fingerprints
version-read : (d : Data) → of_members (json.member (codes "version") (json.number (codes "1")) json.no_members) (member (codes "fingerprints") d no_members)
    ≡ Some (member (codes "fingerprints") d (member (codes "version") (number (unsigned 1)) no_members))
unfolding serde_json_on_literals
version-read d = refl

-- the JSON of a file is its data
of_json-trust_json : (packages : List KeptPackage) → IsTrust packages → of_json (trust_json packages) ≡ Some (trust_data packages)
of_json-trust_json packages trust =
    ap (λ read. option_map object (option_and_then (λ d. of_members (json.member (codes "version") (json.number (codes "1")) json.no_members)
    (put (codes "fingerprints") d no_members)) (option_map object read)))
    (of_members-by identity_text package_json package_data packages no_members (each_package packages trust.sums) trust.ascending (none_below (map identity_text packages)))
    ∙ ap (option_map object) (version-read (object (packages_data packages)))

-- ---- from the tokens

-- sums nest no level
depth-sums : (sums : List KeptSum) → members_depth (sums_json sums) ≤ 0
depth-sums [] = omega arith
depth-sums (kept ∷ sums) = let rest = depth-sums sums in omega arith

-- packages nest one
depth-packages : (entries : List KeptPackage) → members_depth (packages_json entries) ≤ 1
depth-packages [] = omega arith
depth-packages (entry ∷ entries) =
    let first = depth-sums entry.sums in
    let rest = depth-packages entries in
    omega arith

-- a file nests no deeper than a reader goes
depth-trust_json : (packages : List KeptPackage) → depth (trust_json packages) ≤ max_depth
depth-trust_json packages = let inside = depth-packages packages in omega arith

-- a file's JSON is read as its data
value-trust_json : (packages : List KeptPackage) → json.value max_depth (json_tokens (trust_json packages)) ≡ Some (trust_json packages, [])
value-trust_json packages =
    ap (json.value max_depth) (sym (append-nil (json_tokens (trust_json packages))))
    ∙ value-json_tokens (trust_json packages) max_depth [] (depth-trust_json packages)

-- a file's text is read as its data
pub read-trust_text : (packages : List KeptPackage) → IsTrust packages → AreTame packages → read (trust_text packages) ≡ Some (trust_data packages)
read-trust_text packages trust tame =
    ap (λ ts. option_and_then of_json (option_and_then (λ p. json.if_last p.0 p.1) (json.value max_depth ts))) (tokens-trust_text packages tame)
    ∙ ap (λ found. option_and_then of_json (option_and_then (λ p. json.if_last p.0 p.1) found)) (value-trust_json packages)
    ∙ of_json-trust_json packages trust
