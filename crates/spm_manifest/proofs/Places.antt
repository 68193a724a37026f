-- An item of a list of values, as one of the list of their data.
use Rattle.std.proofs.Common.{◌≡◌, ℕ, ◌<◌, ◌≤◌, List, length, get_or, map, Some, None, ap, ◌∙◌, sym, refl}
use Rattle.std.specs.List.{slice_get}
use Rattle.std.specs.Option.{option_map}
use Rattle.std.proofs.lemmas.Option.{slice_get-map, slice_get_past, slice_get_read}

-- the item at a place below the length
pub item_there : {A B : Type 0} (f : A → B) (xs : List A) (i : ℕ) (x : A) → i < length xs → x ≡ get_or xs i x → Some (f x) ≡ slice_get (map f xs) i
item_there f xs i x lt is = sym (slice_get-map f xs i ∙ ap (option_map f) (slice_get_read xs (length xs) i x refl lt is))

-- there is none from the length on
pub item_absent : {A B : Type 0} (f : A → B) (xs : List A) (i : ℕ) → length xs ≤ i → None ≡ slice_get (map f xs) i
item_absent f xs i le = sym (slice_get-map f xs i ∙ ap (option_map f) (slice_get_past xs i le))
