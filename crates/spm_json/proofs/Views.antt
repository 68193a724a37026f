-- Lists and objects of the code, as the lists of data that readings go over.
use Rattle.std.proofs.Common.{◌≡◌, ℕ, List, [], ◌∷◌, Some, Ok, String, map, string_bytes, string_cmp, refl, ap}
use Rattle.std.specs.Cmp.Lexicographic.{slice_cmp}
use Rattle.std.specs.List.{AllByRecursion}
use Rattle.std.specs.List.Sorted.{IsStrictlySortedBy}
use Rattle.std.specs.Map.{keys_of}
use Rattle.std.specs.Ordering.{nat_cmp}
use Rattle.std.specs.declared.cmp.Ordering.TheVariants.{Less}
use Rattle.std.specs.declared.alloc.Global.{Global}
use Rattle.serde_json.specs.Data.{Data}
use Rattle.serde_json.specs.Find.{as_array, as_object}
use Rattle.serde_json.specs.View.{items_of, members_view, view}
use Rattle.serde_json.specs.declared.value.Value.{Value}
use Rattle.spm_json.specs.Shape.{HasAscendingKeys, item_list, list_of, member_list}

-- the items of a list of data are that list
pub item_list-items_of : (ds : List Data) → item_list (items_of ds) ≡ ds
item_list-items_of [] = refl
item_list-items_of (d ∷ ds) = ap (λ (rest : List Data). d ∷ rest) (item_list-items_of ds)

-- a list of the code is read as its data
pub list_of-items_of : (d : Data) (ds : List Data) → Some (items_of ds) ≡ as_array d → list_of d ≡ Ok ds
list_of-items_of d ds is = rw (← is, item_list-items_of ds) refl

-- the entries of a map, as the members of an object
abbrev pub entry_views : List (String Global × Value) → List (List ℕ × Data)
entry_views [] = []
entry_views (e ∷ es) = (string_bytes e.0, view e.1) ∷ entry_views es

-- the members of a map are its entries
pub member_list-members_view : (es : List (String Global × Value)) → member_list (members_view es) ≡ entry_views es
member_list-members_view [] = refl
member_list-members_view (e ∷ es) = ap (λ (rest : List (List ℕ × Data)). (string_bytes e.0, view e.1) ∷ rest) (member_list-members_view es)

-- a key that is below other keys as a text is below them by its bytes
below_all : (k : String Global) (es : List (String Global × Value)) → AllByRecursion (λ l. string_cmp k l ≡ Less) (keys_of es)
    → AllByRecursion (λ l. slice_cmp nat_cmp (string_bytes k) l ≡ Less) (map (λ m. m.0) (entry_views es))
below_all k [] below = tt
below_all k (e ∷ es) below = (below.0, below_all k es below.1)

-- keys that ascend as texts ascend by their bytes
pub ascending_views : (es : List (String Global × Value)) → IsStrictlySortedBy string_cmp (keys_of es) → IsStrictlySortedBy (slice_cmp nat_cmp) (map (λ m. m.0) (entry_views es))
unfolding IsStrictlySortedBy
ascending_views [] ascending = tt
ascending_views (e ∷ es) ascending = (below_all e.0 es ascending.0, ascending_views es ascending.1)

-- an object whose keys ascend as texts has ascending keys
pub HasAscendingKeys-entries : (d : Data) (es : List (String Global × Value)) → Some (members_view es) ≡ as_object d → IsStrictlySortedBy string_cmp (keys_of es) → HasAscendingKeys d
HasAscendingKeys-entries d es is ascending = rw (← is, member_list-members_view es) (ascending_views es ascending)
