-- The order of keys: by kind, and then by their parts.
use Rattle.std.specs.Str.{bytes_eq}
use Rattle.std.specs.Prelude.{◌≡◌, ◌==◌, ◌&&◌, ℕ, List, Bool, Option, Some, None, refl}
use Rattle.std.specs.Cmp.{IsEquivalence, IsPartialOrder, IsTotalOrder, and_equiv, both_tied, nat_cmp_total, nat_eq_equiv, on_equiv, on_total, po, then_total, unsigned_ties}
use Rattle.std.specs.Cmp.Lexicographic.{nat_list_cmp_total, nat_list_eq_equiv, options_equiv, options_total, slice_cmp, texts_ties}
use Rattle.std.specs.Option.{option_cmp, option_eq}
use Rattle.std.specs.Ordering.{eq_by_cmp, nat_cmp, ordering_then}
use Rattle.std.specs.declared.cmp.Ordering.{Ordering}
use Rattle.spm_version.specs.Release.{Parts}
use Rattle.spm_version.specs.ReleaseLaws.{release_cmp, release_eq, release_equiv, release_ties, release_total}
use Rattle.spm_key.specs.declared.key.Key.{Key}
use Rattle.spm_key.specs.declared.key.Key.TheVariants as key

-- lists first, then manifests, releases, archives and identifiers
abbrev pub kind_of : Key → ℕ
kind_of (key.List identity) = 0
kind_of (key.Manifest identity release) = 1
kind_of (key.Release identity release) = 2
kind_of (key.Archive identity release) = 3
kind_of (key.Identifiers url) = 4

-- the parts of a key
abbrev pub identity_in : Key → Option (List ℕ)
identity_in (key.List identity) = Some identity
identity_in (key.Manifest identity release) = Some identity
identity_in (key.Release identity release) = Some identity
identity_in (key.Archive identity release) = Some identity
identity_in (key.Identifiers url) = None

abbrev pub release_in : Key → Option Parts
release_in (key.List identity) = None
release_in (key.Manifest identity release) = Some release
release_in (key.Release identity release) = Some release
release_in (key.Archive identity release) = Some release
release_in (key.Identifiers url) = None

abbrev pub url_in : Key → Option (List ℕ)
url_in (key.List identity) = None
url_in (key.Manifest identity release) = None
url_in (key.Release identity release) = None
url_in (key.Archive identity release) = None
url_in (key.Identifiers url) = Some url

-- the same kind and the same parts
abbrev pub key_eq : Key → Key → Bool
key_eq first second = kind_of first == kind_of second && option_eq (bytes_eq) (identity_in first) (identity_in second)
    && option_eq release_eq (release_in first) (release_in second) && option_eq (bytes_eq) (url_in first) (url_in second)

-- by kind, then by identity, by release and by URL
abbrev pub key_cmp : Key → Key → Ordering
key_cmp first second = ordering_then (ordering_then (ordering_then (nat_cmp (kind_of first) (kind_of second))
    (option_cmp (slice_cmp nat_cmp) (identity_in first) (identity_in second))) (option_cmp release_cmp (release_in first) (release_in second)))
    (option_cmp (slice_cmp nat_cmp) (url_in first) (url_in second))

pub key_equiv : IsEquivalence key_eq
key_equiv = and_equiv (and_equiv (and_equiv (on_equiv kind_of nat_eq_equiv) (on_equiv identity_in (options_equiv nat_list_eq_equiv)))
    (on_equiv release_in (options_equiv release_equiv))) (on_equiv url_in (options_equiv nat_list_eq_equiv))

pub key_total : IsTotalOrder key_cmp
key_total = then_total (then_total (then_total (on_total kind_of nat_cmp_total) (on_total identity_in (options_total nat_list_cmp_total)))
    (on_total release_in (options_total release_total))) (on_total url_in (options_total nat_list_cmp_total))

option_ties : {K : Type 0} (E : K → K → Bool) (R : K → K → Ordering) → ((x y : K) → E x y ≡ eq_by_cmp R x y)
    → (first second : Option K) → option_eq E first second ≡ eq_by_cmp (option_cmp R) first second
option_ties E R ties None None = refl
option_ties E R ties None (Some second) = refl
option_ties E R ties (Some first) None = refl
option_ties E R ties (Some first) (Some second) = ties first second

-- two keys are equal exactly where the order does not tell them apart
pub key_ties : (first second : Key) → key_eq first second ≡ eq_by_cmp key_cmp first second
key_ties first second = both_tied _ _ _ _ (both_tied _ _ _ _ (both_tied _ _ _ _ (unsigned_ties (kind_of first) (kind_of second))
    (option_ties (bytes_eq) (slice_cmp nat_cmp) texts_ties (identity_in first) (identity_in second)))
    (option_ties release_eq release_cmp release_ties (release_in first) (release_in second)))
    (option_ties (bytes_eq) (slice_cmp nat_cmp) texts_ties (url_in first) (url_in second))

pub key_po : IsPartialOrder key_eq (λ first second. Some (key_cmp first second))
key_po = po key_total key_ties
