-- What is written has no float, so that its text is the compact one.
use Rattle.std.proofs.Common.{◌≡◌, ℕ, ◌||◌, false, List, [], ◌∷◌, map, Ordering, refl}
use Rattle.std.specs.Cmp.Lexicographic.{slice_cmp}
use Rattle.std.specs.Ordering.{match_ordering, nat_cmp}
use Rattle.std.specs.declared.cmp.Ordering.TheVariants.{Equal, Greater, Less}
use Rattle.std.proofs.lemmas.Bool.{or_from, or_parts}
use Rattle.serde_json.specs.Data.{Data, Members, member, no_members, put, string}
use Rattle.serde_json.specs.View.{items_of}
use Rattle.serde_json.specs.Written.{has_float, items_have_float, members_have_float}
use Rattle.spm_json.specs.Written.{put_all}

-- what holds of three lists of members holds of the one that an order takes
in_each : (o : Ordering) (first second third : Members) → members_have_float first ≡ false → members_have_float second ≡ false → members_have_float third ≡ false
    → members_have_float (match_ordering o first second third) ≡ false
in_each Less first second third a b c = a
in_each Equal first second third a b c = b
in_each Greater first second third a b c = c

-- a member without a float leaves the members without one
no_float_put : (key : List ℕ) (d : Data) (ms : Members) → has_float d ≡ false → members_have_float ms ≡ false → members_have_float (put key d ms) ≡ false
no_float_put key d no_members none rest = or_from (has_float d) false none refl
no_float_put key d (member l e ms) none rest =
    let parts = or_parts (has_float e) (members_have_float ms) rest in
    in_each (slice_cmp nat_cmp key l) (member key d (member l e ms)) (member l d ms) (member l e (put key d ms))
    (or_from (has_float d) (has_float e || members_have_float ms) none rest)
    (or_from (has_float d) (members_have_float ms) none parts.1)
    (or_from (has_float e) (members_have_float (put key d ms)) parts.0 (no_float_put key d ms none parts.1))

-- members without a float are put into members without one
pub no_float_put_all : {X : Type 0} (pair : X → List ℕ × Data) → ((x : X) → has_float (pair x).1 ≡ false) → (ms : Members) (xs : List X)
    → members_have_float ms ≡ false → members_have_float (put_all ms (map pair xs)) ≡ false
no_float_put_all pair none ms [] rest = rest
no_float_put_all pair none ms (x ∷ xs) rest =
    no_float_put_all pair none (put (pair x).0 (pair x).1 ms) xs (no_float_put (pair x).0 (pair x).1 ms (none x) rest)

-- texts have no float
pub no_float_in_texts : (texts : List (List ℕ)) → items_have_float (items_of (map string texts)) ≡ false
no_float_in_texts [] = refl
no_float_in_texts (text ∷ texts) = no_float_in_texts texts
