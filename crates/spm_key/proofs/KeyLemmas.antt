-- Keys that their order doesn't tell apart are the same.
use Rattle.std.specs.Str.{bytes_eq}
use Rattle.std.proofs.Common.{◌≡◌, ℕ, true, List, ap, ◌∙◌}
use Rattle.std.proofs.lemmas.Slice.Eq.{bytes_eq-Decides}
use Rattle.std.specs.Cmp.{first_so, second_so}
use Rattle.std.specs.Ordering.{eq_by_cmp}
use Rattle.spm_version.proofs.ReleaseLemmas.{same_release}
use Rattle.spm_key.specs.KeyLaws.{key_cmp, key_eq, key_ties}
use Rattle.spm_key.specs.declared.key.Key.{Key}
use Rattle.spm_key.specs.declared.key.Key.TheVariants as key

-- two texts with the same bytes are one
same_text : (first second : List ℕ) → bytes_eq first second ≡ true → first ≡ second
same_text first second h = (bytes_eq-Decides first second).0 h

-- keys of one kind whose parts are the same are one
same_parts : (first second : Key) → key_eq first second ≡ true → first ≡ second
same_parts (key.List a) (key.List b) h = ap key.List (same_text a b (first_so _ _ (first_so _ _ h)))
same_parts (key.Manifest a r) (key.Manifest b s) h =
    λ i. key.Manifest (same_text a b (first_so _ _ (first_so _ _ h)) i) (same_release r s (second_so _ _ (first_so _ _ h)) i)
same_parts (key.Release a r) (key.Release b s) h =
    λ i. key.Release (same_text a b (first_so _ _ (first_so _ _ h)) i) (same_release r s (second_so _ _ (first_so _ _ h)) i)
same_parts (key.Archive a r) (key.Archive b s) h =
    λ i. key.Archive (same_text a b (first_so _ _ (first_so _ _ h)) i) (same_release r s (second_so _ _ (first_so _ _ h)) i)
same_parts (key.Identifiers a) (key.Identifiers b) h = ap key.Identifiers (same_text a b h)
same_parts first second h = cc

-- keys that the order doesn't tell apart are one
pub same_key : (first second : Key) → eq_by_cmp key_cmp first second ≡ true → first ≡ second
same_key first second h = same_parts first second (key_ties first second ∙ h)
