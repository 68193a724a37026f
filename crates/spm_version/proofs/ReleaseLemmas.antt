-- A release's parts and its text: each is told by the other.
use Rattle.std.proofs.Common.{◌≡◌, ℕ, List, Some, Result, Ok, Err, true, nat_eq, refl, sym, ap, ◌∙◌}
use Rattle.std.proofs.lemmas.Bool.{eqb-true}
use Rattle.std.specs.Cmp.{both_ways, first_so, second_so}
use Rattle.std.specs.Cmp.Lexicographic.{nat_list_eq_equiv, pointwise}
use Rattle.std.specs.Result.{result_ok}
use Rattle.semver.proofs.Grammar.{version_parts-complete, version_parts-sound}
use Rattle.semver.specs.OrderLaws.{same_text}
use Rattle.spm_version.specs.Release.{IsValid, Parts, Spells, parts_text, release_of, version_parts}
use Rattle.spm_version.specs.ReleaseLaws.{release_eq, release_equiv}

-- what has an `Ok` part is that
Ok-from_part : {A E : Type 0} (r : Result A E) (x : A) → result_ok r ≡ Some x → r ≡ Ok x
Ok-from_part (Ok y) x h = cc
Ok-from_part (Err e) x h = cc

-- what is read is spelled so
pub Spells-release_of : (text : List ℕ) (parts : Parts) → release_of text ≡ Some parts → Spells text parts
Spells-release_of text parts h =
    let found = version_parts-sound text parts (Ok-from_part (version_parts text) parts h) in
    (found.1, found.0)

-- what is spelled so is read
pub release_of-Spells : (text : List ℕ) (parts : Parts) → Spells text parts → release_of text ≡ Some parts
release_of-Spells text parts h =
    ap result_ok (ap version_parts (sym h.1) ∙ version_parts-complete parts h.0)

-- valid parts with one text are the same
same_parts : (first second : Parts) → IsValid first → IsValid second → parts_text first ≡ parts_text second → first ≡ second
same_parts first second first_valid second_valid same =
    let one = version_parts-complete first first_valid in
    let other = version_parts-complete second second_valid in
    let read = ap version_parts same in
    cc

-- parts that `==` doesn't tell apart are the same
pub same_release : (first second : Parts) → release_eq first second ≡ true → first ≡ second
same_release first second h =
    let after_major = second_so _ _ h in
    let after_minor = second_so _ _ after_major in
    let after_patch = second_so _ _ after_minor in
    let major : first.0 ≡ second.0 = eqb-true _ _ (first_so _ _ h) in
    let minor : first.1 ≡ second.1 = eqb-true _ _ (first_so _ _ after_major) in
    let patch : first.2 ≡ second.2 = eqb-true _ _ (first_so _ _ after_minor) in
    let pre : first.3 ≡ second.3 = same_text _ _ (first_so _ _ after_patch) in
    let build : first.4 ≡ second.4 = same_text _ _ (second_so _ _ after_patch) in
    λ i. (major i, minor i, patch i, pre i, build i)

-- of valid parts, `==` compares the texts
pub release_eq-texts : (first second : Parts) → IsValid first → IsValid second → release_eq first second ≡ pointwise nat_eq (parts_text first) (parts_text second)
release_eq-texts first second first_valid second_valid = both_ways _ _
    (λ h. rw (same_release first second h) (nat_list_eq_equiv.refl (parts_text second)))
    (λ h. rw (same_parts first second first_valid second_valid (same_text _ _ h)) (release_equiv.refl second))
