-- A manifest that is read has at most 512 dependencies.
use Rattle.std.proofs.Common.{◌≡◌, ℕ, ◌+◌, ◌≤◌, Bool, true, false, cond, List, [], ◌∷◌, ◌++◌, length, nat_lt, Option, Some, None, Ok, Err, refl, subst, arith, codes, length-append, IfOk}
use Rattle.std.proofs.lemmas.Bool.{ltb-false}
use Rattle.std.proofs.lemmas.List.{length-map}
use Rattle.serde_json.specs.Data.{Data}
use Rattle.spm_version.specs.declared.kind.Kind.TheVariants.{TooMany}
use Rattle.spm_json.specs.Field.{optional_field_of, optional_in, optional_member, some_reading}
use Rattle.spm_json.specs.Reading.{Reading, at_index, fault_here, in_document, within, ◌>>=◌}
use Rattle.spm_json.specs.Sequence.{items_after, limited_items_of}
use Rattle.spm_json.specs.Shape.{document_of, limited_list_of, list_of, whole_of}
use Rattle.spm_manifest.specs.Dependency.{dependencies_reading, dependency_reading, max_dependencies}
use Rattle.spm_manifest.specs.Guard.{need_of}
use Rattle.spm_manifest.specs.Profile.{contents_of, dump_reading, manifest_of}
use Rattle.spm_manifest.specs.Traits.{or_nothing}
use Rattle.spm_manifest.specs.declared.dependency.Dependency.{Dependency}
use Rattle.spm_manifest.specs.declared.dump.Contents.{Contents}
use Rattle.spm_manifest.specs.declared.dump.Dump.{Dump}

-- ---- what is so of the value of a reading, if it has one

-- of two readings one after another
after_reading : {A B : Type 0} (P : B → Type 0) (first : Reading A) (next : A → Reading B) → ((x : A) → first ≡ Ok x → IfOk (next x) P)
    → IfOk (first >>= next) P
after_reading P (Ok x) next each = each x refl
after_reading P (Err fault) next each = tt

-- of a member
of_member : {A : Type 0} (P : A → Type 0) (name : List ℕ) (reading : Reading A) → IfOk reading P → IfOk (within name reading) P
of_member P name (Ok x) is = is
of_member P name (Err fault) is = tt

-- of a whole document
of_document : {A : Type 0} (P : A → Type 0) (reading : Reading A) → IfOk reading P → IfOk (in_document reading) P
of_document P (Ok x) is = is
of_document P (Err fault) is = tt

-- where it has this one
of_value : {A : Type 0} (P : A → Type 0) (reading : Reading A) (x : A) → reading ≡ Ok x → IfOk reading P → P x
of_value P reading x is so = subst (λ r. IfOk r P) is so

-- and so is what follows from it
weaker : {A : Type 0} (P Q : A → Type 0) (reading : Reading A) → ((x : A) → P x → Q x) → IfOk reading P → IfOk reading Q
weaker P Q (Ok x) follows is = follows x is
weaker P Q (Err fault) follows is = tt

-- ---- dependencies

-- as many items are read as there are
items_many : {A : Type 0} (reading : Data → Reading A) (earlier : List A) (ds : List Data)
    → IfOk (items_after reading earlier ds) (λ xs. length xs ≡ length earlier + length ds)
items_many reading earlier [] = omega arith
items_many reading earlier (d ∷ ds) =
    after_reading (λ xs. length xs ≡ length earlier + length (d ∷ ds)) (at_index (length earlier) (reading d))
    (λ x. items_after reading (earlier ++ x ∷ []) ds)
    (λ x is.
    subst (λ n. IfOk (items_after reading (earlier ++ x ∷ []) ds) (λ xs. length xs ≡ n)) (one_more x)
    (items_many reading (earlier ++ x ∷ []) ds))
  where
    one_more : (x : _) → length (earlier ++ x ∷ []) + length ds ≡ length earlier + length (d ∷ ds)
    one_more x = omega (arith, length-append earlier (x ∷ []))

-- a list within a limit
list_few : (limit : ℕ) (d : Data) → IfOk (limited_list_of limit d) (λ items. length items ≤ limit)
list_few limit d =
    after_reading (λ items. length items ≤ limit) (list_of d) (λ items. cond (nat_lt limit (length items)) (fault_here TooMany) (Ok items))
    (λ items is. go items (nat_lt limit (length items)) refl)
  where
    go : (items : List Data) (many : Bool) → nat_lt limit (length items) ≡ many
        → IfOk (cond many (fault_here TooMany) (Ok items)) (λ kept. length kept ≤ limit)
    go items true at = tt
    go items false at = let few = ltb-false limit (length items) at in omega (arith, few)

-- and what is read of it
items_few : {A : Type 0} (reading : Data → Reading A) (limit : ℕ) (d : Data) → IfOk (limited_items_of reading limit d) (λ xs. length xs ≤ limit)
items_few reading limit d =
    after_reading (λ xs. length xs ≤ limit) (limited_list_of limit d) (λ ds. items_after reading [] ds)
    (λ ds is.
    let few = of_value (λ items. length items ≤ limit) (limited_list_of limit d) ds is (list_few limit d) in
    weaker (λ xs. length xs ≡ 0 + length ds) (λ xs. length xs ≤ limit) (items_after reading [] ds) (λ xs many. omega (arith, many, few))
    (items_many reading [] ds))

-- a member may be absent
member_few : (found : Option Data) → IfOk (optional_in dependencies_reading found) (λ kept. length (or_nothing kept) ≤ max_dependencies)
member_few None = omega arith
member_few (Some d) = go (dependencies_reading d) (items_few dependency_reading max_dependencies d)
  where
    go : (reading : Reading (List Dependency)) → IfOk reading (λ xs. length xs ≤ max_dependencies)
        → IfOk (some_reading reading) (λ kept. length (or_nothing kept) ≤ max_dependencies)
    go (Ok xs) few = few
    go (Err fault) few = tt

-- ---- manifests

abbrev AreFewOf : Dump → Type 0
AreFewOf dump = length dump.dependencies ≤ max_dependencies

-- the dependencies of a dump
found_few : (o : Data) (found : Option (List Dependency)) → optional_field_of dependencies_reading (codes "dependencies") o ≡ Ok found
    → length (or_nothing found) ≤ max_dependencies
found_few o found is =
    of_value (λ kept. length (or_nothing kept) ≤ max_dependencies) (optional_field_of dependencies_reading (codes "dependencies") o) found is
    (of_member (λ kept. length (or_nothing kept) ≤ max_dependencies) (codes "dependencies")
    (optional_in dependencies_reading (optional_member (codes "dependencies") o)) (member_few (optional_member (codes "dependencies") o)))

-- a dump has few dependencies
dump_few : (d : Data) → IfOk (dump_reading d) AreFewOf
dump_few d = search (after_reading, found_few) depth 9

-- a manifest that is read has few dependencies
pub manifest_few : (bytes : List ℕ) (contents : Contents) → manifest_of bytes ≡ Ok contents → length contents.needs ≤ max_dependencies
unfolding manifest_of
manifest_few bytes contents is =
    of_value (λ (it : Contents). length it.needs ≤ max_dependencies) (manifest_of bytes) contents is
    (after_reading (λ (it : Contents). length it.needs ≤ max_dependencies) (whole_of dump_reading bytes) (λ dump. Ok (contents_of dump))
    (λ dump read.
    let few = of_value AreFewOf (whole_of dump_reading bytes) dump read
    (of_document AreFewOf (document_of bytes >>= dump_reading) (after_reading AreFewOf (document_of bytes) dump_reading (λ d _. dump_few d))) in
    omega (arith, few, length-map dump.dependencies (need_of dump.targets dump.dependencies))))
