-- The files of a tree's entries are looked up as the tree is, and change as it does.
use Rattle.std.proofs.Common.{◌≡◌, ℕ, List, [], ◌∷◌, Some, cond, refl, ap, sym, ◌∙◌, map, string_bytes}
use Rattle.std.proofs.lemmas.Cmp.{eq_by_cmp_equiv}
use Rattle.std.proofs.lemmas.Map.Text.{btree_map_updates_text, is_eq-slice_cmp}
use Rattle.std.specs.BTreeMap.{BTreeMap, UpdatesBy, get_by_text}
use Rattle.std.specs.Cmp.Lexicographic.{nat_list_cmp_total, slice_cmp}
use Rattle.std.specs.FinMap as finite
use Rattle.std.specs.Map.{lookup}
use Rattle.std.specs.Ordering.{eq_by_cmp, is_eq, nat_cmp}
use Rattle.std.specs.Prelude.{String, bytes_eq, string_cmp}
use Rattle.spm_outside.specs.Files.{files_of}

-- the map of a list of files finds what the list has
find-map : {A : Type 0} (entries : List (String A × List ℕ)) (name : List ℕ) → finite.find (slice_cmp nat_cmp) name (map (λ entry. (string_bytes entry.0, entry.1)) entries) ≡ lookup (λ key. is_eq (slice_cmp nat_cmp name (string_bytes key))) entries
find-map [] name = refl
find-map (entry ∷ entries) name =
    ap (cond (is_eq (slice_cmp nat_cmp name (string_bytes entry.0))) (Some entry.1)) (find-map entries name)

-- a file is what the tree has at its name
pub get-files_of : {A : Type 0} (tree : BTreeMap (String A) (List ℕ)) (name : List ℕ) → finite.get (files_of tree.entries) name ≡ get_by_text tree name
get-files_of tree name = finite.get-from_entries nat_list_cmp_total _ name ∙ find-map tree.entries name

-- the two tests by which maps of texts find a key
bytes_eq-eq_by_cmp : (name other : List ℕ) → bytes_eq name other ≡ eq_by_cmp (slice_cmp nat_cmp) other name
bytes_eq-eq_by_cmp name other = sym (is_eq-slice_cmp name other) ∙ (eq_by_cmp_equiv nat_list_cmp_total).symm name other

-- a write to the tree is one to the files
pub files_of-set : {A : Type 0} (tree changed : BTreeMap (String A) (List ℕ)) (name bytes : List ℕ) → UpdatesBy string_cmp (λ key. slice_cmp nat_cmp name (string_bytes key)) tree changed (Some bytes) → files_of changed.entries ≡ finite.insert (files_of tree.entries) name bytes
files_of-set tree changed name bytes updates =
    finite.same_map nat_list_cmp_total (finite.slice_cmp-IsAntisymmetric finite.nat_cmp-IsAntisymmetric) _ _ (λ other.
    get-files_of changed other
    ∙ btree_map_updates_text name tree changed (Some bytes) updates other
    ∙ ap (λ same. cond same (Some bytes) (get_by_text tree other)) (bytes_eq-eq_by_cmp name other)
    ∙ ap (cond (eq_by_cmp (slice_cmp nat_cmp) other name) (Some bytes)) (sym (get-files_of tree other))
    ∙ sym (finite.get-insert nat_list_cmp_total (files_of tree.entries) name bytes other))
