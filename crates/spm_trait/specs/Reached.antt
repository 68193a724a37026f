-- What the steps of a closure say: an index of the entries, the names that are reached by it, and the first of them that
-- isn't declared.
use Rattle.std.specs.Str.{bytes_eq}
use Rattle.std.specs.Prelude.{◌≡◌, ◌++◌, ℕ, ◌||◌, List, [], ◌∷◌, Bool, true, false, codes, is_some, map, All, Contains, Option, Some, None}
use Rattle.std.specs.BTreeMap.{BTreeMap, get_by}
use Rattle.std.specs.BTreeSet.{BTreeSet}
use Rattle.std.specs.Cmp.Lexicographic.{slice_cmp}
use Rattle.std.specs.List.{list_any}
use Rattle.std.specs.Ordering.{nat_cmp}
use Rattle.std.specs.Borrow.{Bor}
use Rattle.spm_trait.specs.Closure.{IsInOrder, enabled_by}
use Rattle.spm_trait.specs.declared.closures.ClosureFault.{ClosureFault}
use Rattle.spm_trait.specs.declared.closures.ClosureFault.TheVariants.{Unknown, Memory}
use Rattle.spm_trait.specs.declared.traits.TraitEntry.{TraitEntry}

-- what traits enable, by their names
abbrev pub Index : Type 0
Index = BTreeMap (Bor (List ℕ)) (Bor (List (List ℕ)))

abbrev pub found_in : Index → List ℕ → Option (Bor (List (List ℕ)))
found_in index name = get_by (λ key. slice_cmp nat_cmp name key.now) index

abbrev pub names_or_none : Option (Bor (List (List ℕ))) → List (List ℕ)
names_or_none None = []
names_or_none (Some names) = names.now

-- what a trait of this name enables
abbrev pub enabled_in : Index → List ℕ → List (List ℕ)
enabled_in index name = names_or_none (found_in index name)

-- a name of the index, or `default`
abbrev pub is_declared_in : Index → List ℕ → Bool
is_declared_in index name = bytes_eq name (codes "default") || is_some (found_in index name)

-- the index answers as the entries do
pub record IsIndex (entries : List TraitEntry) (index : Index) : Type 0 where
  pub enabled : (name : List ℕ) → enabled_in index name ≡ enabled_by entries name
  pub named : (name : List ℕ) → is_some (found_in index name) ≡ list_any (λ entry. bytes_eq entry.name name) entries

-- the names of a list and of a set
abbrev pub names_of : List (Bor (List ℕ)) → List (List ℕ)
names_of list = map (λ name. name.now) list

abbrev pub names_in : BTreeSet (Bor (List ℕ)) → List (List ℕ)
names_in set = names_of set.keys

-- a set that has the asked names, and what each of its members enables
pub record IsClosedBy (enables : List ℕ → List (List ℕ)) (asked : List (List ℕ)) (has : List ℕ → Bool) : Type 0 where
  pub asked_names : (name : List ℕ) → Contains asked name → has name ≡ true
  pub enabled_names : (name other : List ℕ) → has name ≡ true → Contains (enables name) other → has other ≡ true

-- a member of the least such set: one of every such set
abbrev pub IsInLeastBy : (List ℕ → List (List ℕ)) → List (List ℕ) → List ℕ → Type 0
IsInLeastBy enables asked name = (has : List ℕ → Bool) → IsClosedBy enables asked has → has name ≡ true

-- the least such set, in byte order
pub record IsReached (enables : List ℕ → List (List ℕ)) (asked names : List (List ℕ)) : Type 0 where
  pub closed : IsClosedBy enables asked (λ name. list_any (bytes_eq name) names)
  pub least : (name : List ℕ) → Contains names name → IsInLeastBy enables asked name
  pub in_order : IsInOrder names

-- each of the names is declared
abbrev pub AreDeclared : Index → List (List ℕ) → Type 0
AreDeclared index names = All (λ name. is_declared_in index name ≡ true) names

-- copies of the names, each of which is declared
pub record AreDeclaredCopies (index : Index) (names copies : List (List ℕ)) : Type 0 where
  pub same : copies ≡ names
  pub declared : AreDeclared index names

-- the first of the names that isn't declared, behind others that are
pub record IsFirstUndeclared (index : Index) (names : List (List ℕ)) (name : List ℕ) : Type 0 where
  pub before : List (List ℕ)
  pub behind : List (List ℕ)
  pub place : names ≡ before ++ name ∷ behind
  pub declared : AreDeclared index before
  pub undeclared : is_declared_in index name ≡ false

-- such a name, or want of memory
abbrev pub IsUndeclaredFault : Index → List (List ℕ) → ClosureFault → Type 0
IsUndeclaredFault index names (Unknown name) = IsFirstUndeclared index names name
IsUndeclaredFault index names Memory = Unit {0}
