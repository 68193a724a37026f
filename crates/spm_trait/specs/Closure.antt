-- The enabled traits of a package (SE-0450): the least set that has the traits that are asked, and what each of its
-- members enables. A set is told by a test.
use Rattle.std.specs.Str.{bytes_eq}
use Rattle.std.specs.Prelude.{◌≡◌, ℕ, ◌||◌, List, [], ◌∷◌, Bool, true, false, codes, Contains, if◌then◌else◌}
use Rattle.std.specs.Cmp.Lexicographic.{slice_cmp}
use Rattle.std.specs.List.{list_any}
use Rattle.std.specs.Ordering.{nat_cmp, is_le}
use Rattle.std.specs.declared.cmp.Ordering.TheVariants.{Less}
use Rattle.spm_trait.specs.declared.traits.TraitEntry.{TraitEntry}

-- what a trait of this name enables: what its entry says; the names of a manifest's entries are distinct, and else
-- the first counts
abbrev pub enabled_by : List TraitEntry → List ℕ → List (List ℕ)
enabled_by [] name = []
enabled_by (entry ∷ entries) name = if bytes_eq entry.name name then entry.enables else enabled_by entries name

-- the name of an entry, or `default`, which needs none
abbrev pub is_declared : List TraitEntry → List ℕ → Bool
is_declared entries name = bytes_eq name (codes "default") || list_any (λ entry. bytes_eq entry.name name) entries

-- a set that has the asked names, and what each of its members enables
pub record IsClosed (entries : List TraitEntry) (asked : List (List ℕ)) (has : List ℕ → Bool) : Type 0 where
  pub asked_names : (name : List ℕ) → Contains asked name → has name ≡ true
  pub enabled_names : (name other : List ℕ) → has name ≡ true → Contains (enabled_by entries name) other → has other ≡ true

-- a member of the least such set: one of every such set
abbrev pub IsInLeast : List TraitEntry → List (List ℕ) → List ℕ → Type 0
IsInLeast entries asked name = (has : List ℕ → Bool) → IsClosed entries asked has → has name ≡ true

-- in byte order, each name once
abbrev pub IsInOrder : List (List ℕ) → Type 0
IsInOrder [] = Unit {0}
IsInOrder (name ∷ []) = Unit {0}
IsInOrder (name ∷ next ∷ names) = (slice_cmp nat_cmp name next ≡ Less) × IsInOrder (next ∷ names)

-- The names are the least set, in byte order, and each of them is declared.
pub record IsClosure (entries : List TraitEntry) (asked names : List (List ℕ)) : Type 0 where
  -- it has the asked names, and what each of its members enables
  pub closed : IsClosed entries asked (λ name. list_any (bytes_eq name) names)
  -- it is below every such set
  pub least : (name : List ℕ) → Contains names name → IsInLeast entries asked name
  pub in_order : IsInOrder names
  pub declared : (name : List ℕ) → Contains names name → is_declared entries name ≡ true

-- The least set has this name, which isn't declared, and no lesser one that isn't.
pub record IsLeastUnknown (entries : List TraitEntry) (asked : List (List ℕ)) (name : List ℕ) : Type 0 where
  pub member : IsInLeast entries asked name
  pub undeclared : is_declared entries name ≡ false
  pub first : (other : List ℕ) → IsInLeast entries asked other → is_declared entries other ≡ false
      → is_le (slice_cmp nat_cmp name other) ≡ true
