-- Lists from the front, and the members of an object under foreign keys in byte order. Each reading of
-- a member knows the members that were read before it, as a test for doubled names needs.
use Rattle.std.specs.Prelude.{ℕ, List, [], ◌∷◌, ◌++◌, length, Ok}
use Rattle.serde_json.specs.Data.{Data}
use Rattle.serde_json.specs.Find.{as_object}
use Rattle.spm_version.specs.declared.kind.Kind.TheVariants.{WrongKind}
use Rattle.spm_json.specs.Reading.{Reading, fault_here, or_fault, at_foreign_key, at_index, ◌>>=◌}
use Rattle.spm_json.specs.Shape.{limited_list_of, list_of, member_list}

-- the items behind those that were read already
abbrev pub items_after : {A : Type 0} → (Data → Reading A) → List A → List Data → Reading (List A)
items_after reading earlier [] = Ok earlier
items_after reading earlier (d ∷ ds) =
    at_index (length earlier) (reading d) >>= λ x. items_after reading (earlier ++ x ∷ []) ds

-- a list, each item read so
abbrev pub items_of : {A : Type 0} → (Data → Reading A) → Data → Reading (List A)
items_of reading d = list_of d >>= λ ds. items_after reading [] ds

-- a list of at most `limit` items, each read so
abbrev pub limited_items_of : {A : Type 0} → (Data → Reading A) → ℕ → Data → Reading (List A)
limited_items_of reading limit d = limited_list_of limit d >>= λ ds. items_after reading [] ds

abbrev pub sole_in : {A : Type 0} → (Data → Reading A) → List Data → Reading A
sole_in reading [] = fault_here WrongKind
sole_in reading (d ∷ []) = at_index 0 (reading d)
sole_in reading (d ∷ next ∷ others) = fault_here WrongKind

-- a list of one item, read so; a list of another length is of the wrong kind
abbrev pub sole_of : {A : Type 0} → (Data → Reading A) → Data → Reading A
sole_of reading d = list_of d >>= λ ds. sole_in reading ds

abbrev pub pair_in : {A B : Type 0} → (Data → Reading A) → (Data → Reading B) → List Data → Reading (A × B)
pair_in first second [] = fault_here WrongKind
pair_in first second (d ∷ []) = fault_here WrongKind
pair_in first second (d ∷ e ∷ []) = at_index 0 (first d) >>= λ x. at_index 1 (second e) >>= λ y. Ok (x, y)
pair_in first second (d ∷ e ∷ next ∷ others) = fault_here WrongKind

-- a list of two items, each read so; a list of another length is of the wrong kind
abbrev pub pair_of : {A B : Type 0} → (Data → Reading A) → (Data → Reading B) → Data → Reading (A × B)
pair_of first second d = list_of d >>= λ ds. pair_in first second ds

-- the members behind those that were read already
abbrev pub members_after : {A : Type 0} → (List A → List ℕ → Data → Reading A) → List A → List (List ℕ × Data) → Reading (List A)
members_after reading earlier [] = Ok earlier
members_after reading earlier (m ∷ ms) =
    at_foreign_key (reading earlier m.0 m.1) >>= λ x. members_after reading (earlier ++ x ∷ []) ms

-- all members of an object, each read so with the key that it has
abbrev pub members_of : {A : Type 0} → (List A → List ℕ → Data → Reading A) → Data → Reading (List A)
members_of reading d = or_fault WrongKind (as_object d) >>= λ members. members_after reading [] (member_list members)
