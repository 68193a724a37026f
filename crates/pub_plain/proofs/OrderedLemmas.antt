-- Data that is read: in each of its objects the keys ascend.
use Rattle.std.proofs.Common.{◌≡◌, ℕ, List, [], ◌∷◌, map, Option, Some, None, refl, ap, ◌∙◌, subst}
use Rattle.std.specs.Cmp.Lexicographic.{nat_list_cmp_total, slice_cmp}
use Rattle.std.specs.List.{AllByRecursion}
use Rattle.std.specs.List.Sorted.{IsStrictlySortedBy}
use Rattle.std.specs.Option.{option_and_then, option_map}
use Rattle.std.specs.Ordering.{match_ordering, nat_cmp, ordering_reverse}
use Rattle.std.specs.declared.cmp.Ordering.{Ordering}
use Rattle.std.specs.declared.cmp.Ordering.TheVariants.{Less, Equal, Greater}
use Rattle.std.proofs.lemmas.Option.{option_and_then_some, same_Some}
use Rattle.json.specs.Json as json
use Rattle.serde_json.specs.Data.{Data, null, boolean, number, string, array, object, Items, no_items, item, Members, no_members, member, put}
use Rattle.serde_json.specs.Find.{get, get_member}
use Rattle.json.specs.Lex.{tokens}
use Rattle.serde_json.specs.Read.{max_depth, number_of, of_items, of_json, of_members, read}
use Rattle.spm_json.specs.Shape.{member_list}

-- ---- what data is

-- the keys of an object
abbrev pub keys_in : Members → List (List ℕ)
keys_in members = map (λ m. m.0) (member_list members)

-- the keys of each object ascend
abbrev mutual
  pub IsOrdered : Data → Type 0
  IsOrdered null = Unit {0}
  IsOrdered (boolean b) = Unit {0}
  IsOrdered (number n) = Unit {0}
  IsOrdered (string s) = Unit {0}
  IsOrdered (array items) = AreItems items
  IsOrdered (object members) = IsStrictlySortedBy (slice_cmp nat_cmp) (keys_in members) × AreMembers members

  -- of each item
  pub AreItems : Items → Type 0
  AreItems no_items = Unit {0}
  AreItems (item d items) = IsOrdered d × AreItems items

  -- and of each member
  pub AreMembers : Members → Type 0
  AreMembers no_members = Unit {0}
  AreMembers (member key d members) = IsOrdered d × AreMembers members

-- ---- one member more

-- the key is below each of these
abbrev AllAbove : List ℕ → List (List ℕ) → Type 0
AllAbove key keys = AllByRecursion (λ other. slice_cmp nat_cmp key other ≡ Less) keys

-- a key that is below another is below those that the other is below
above_more : (key other : List ℕ) (keys : List (List ℕ)) → slice_cmp nat_cmp key other ≡ Less → AllAbove other keys → AllAbove key keys
above_more key other [] below above = tt
above_more key other (next ∷ keys) below above = (nat_list_cmp_total.trans key other next below above.0, above_more key other keys below above.1)

-- a key below all keys is below them with one more that it is below
put_above : (low key : List ℕ) (d : Data) (members : Members) → slice_cmp nat_cmp low key ≡ Less → AllAbove low (keys_in members)
    → AllAbove low (keys_in (put key d members))
put_above low key d no_members below above = (below, tt)
put_above low key d (member other e members) below above =
    go (slice_cmp nat_cmp key other) (put_above low key d members below above.1)
  where
    go : (order : Ordering) → AllAbove low (keys_in (put key d members))
        → AllAbove low (keys_in
        (match_ordering order (member key d (member other e members)) (member other d members) (member other e (put key d members))))
    go Less later = (below, above)
    go Equal later = above
    go Greater later = (above.0, later)

-- keys that ascend do so with one more
put_ascends : (key : List ℕ) (d : Data) (members : Members) → IsStrictlySortedBy (slice_cmp nat_cmp) (keys_in members)
    → IsStrictlySortedBy (slice_cmp nat_cmp) (keys_in (put key d members))
unfolding IsStrictlySortedBy
put_ascends key d no_members ascend = (tt, tt)
put_ascends key d (member other e members) ascend =
    go (slice_cmp nat_cmp key other) refl (put_ascends key d members ascend.1)
  where
    go : (order : Ordering) → slice_cmp nat_cmp key other ≡ order → IsStrictlySortedBy (slice_cmp nat_cmp) (keys_in (put key d members))
        → IsStrictlySortedBy (slice_cmp nat_cmp)
        (keys_in (match_ordering order (member key d (member other e members)) (member other d members) (member other e (put key d members))))
    go Less is later = ((is, above_more key other (keys_in members) is ascend.0), ascend)
    go Equal is later = ascend
    go Greater is later =
        (put_above other key d members (nat_list_cmp_total.antisymm other key ∙ ap ordering_reverse is) ascend.0, later)

-- and what they hold stays ordered
put_ordered : (key : List ℕ) (d : Data) (members : Members) → IsOrdered d → AreMembers members → AreMembers (put key d members)
put_ordered key d no_members here are = (here, tt)
put_ordered key d (member other e members) here are = go (slice_cmp nat_cmp key other) (put_ordered key d members here are.1)
  where
    go : (order : Ordering) → AreMembers (put key d members)
        → AreMembers (match_ordering order (member key d (member other e members)) (member other d members) (member other e (put key d members)))
    go Less later = (here, are)
    go Equal later = (here, are.1)
    go Greater later = (are.0, later)

-- ---- what is read

-- no keys ascend
sorted_nothing : IsStrictlySortedBy (slice_cmp nat_cmp) (keys_in no_members)
unfolding IsStrictlySortedBy
sorted_nothing = tt

-- what a map of an option makes is made of something
of_map : {A B : Type 0} (f : A → B) (from : Option A) (made : B) → option_map f from ≡ Some made → (x : A) × (from ≡ Some x) × (f x ≡ made)
of_map f None made is = cc
of_map f (Some x) made is = (x, refl, same_Some (f x) made is)

mutual
  -- each value is ordered
  json_ordered : (j : json.Json) (d : Data) → of_json j ≡ Some d → IsOrdered d
  json_ordered json.null d is = subst IsOrdered (same_Some null d is) tt
  json_ordered (json.boolean b) d is = subst IsOrdered (same_Some (boolean b) d is) tt
  json_ordered (json.number s) d is = (let made = of_map number (number_of s) d is in subst IsOrdered made.2 tt)
  json_ordered (json.string s) d is = subst IsOrdered (same_Some (string s) d is) tt
  json_ordered (json.array items) d is =
      (let made = of_map array (of_items items) d is in subst IsOrdered made.2 (items_ordered items made.0 made.1))
  json_ordered (json.object members) d is =
      (let made = of_map object (of_members members no_members) d is in
      subst IsOrdered made.2 (members_ordered members no_members made.0 made.1 sorted_nothing tt))

  -- and so are the items of a list
  items_ordered : (items : json.Items) (made : Items) → of_items items ≡ Some made → AreItems made
  items_ordered json.no_items made is = subst AreItems (same_Some no_items made is) tt
  items_ordered (json.item j items) made is =
      option_and_then_some (λ d. option_map (item d) (of_items items)) (of_json j) made is
      (λ d first rest.
      let others = of_map (item d) (of_items items) made rest in
      subst AreItems others.2 (json_ordered j d first, items_ordered items others.0 others.1))

  -- and the members of an object
  members_ordered : (members : json.Members) (found made : Members) → of_members members found ≡ Some made
      → IsStrictlySortedBy (slice_cmp nat_cmp) (keys_in found) → AreMembers found → IsOrdered (object made)
  members_ordered json.no_members found made is ascend are = subst (λ all. IsOrdered (object all)) (same_Some found made is) (ascend, are)
  members_ordered (json.member key j members) found made is ascend are =
      option_and_then_some (λ d. of_members members (put key d found)) (of_json j) made is
      (λ d first rest.
      members_ordered members (put key d found) made rest (put_ascends key d found ascend) (put_ordered key d found (json_ordered j d first) are))

-- what a text is read as is ordered
pub read_ordered : (text : List ℕ) (d : Data) → read text ≡ Some d → IsOrdered d
read_ordered text d is =
    option_and_then_some of_json (option_and_then (λ p. json.if_last p.0 p.1) (json.value max_depth (tokens text))) d is
    (λ j _ made. json_ordered j d made)

-- ---- inside

-- a member of ordered data is ordered
pub got_ordered : (key : List ℕ) (d made : Data) → IsOrdered d → get key d ≡ Some made → IsOrdered made
got_ordered key null made are is = cc
got_ordered key (boolean b) made are is = cc
got_ordered key (number n) made are is = cc
got_ordered key (string s) made are is = cc
got_ordered key (array items) made are is = cc
got_ordered key (object members) made are is = among members are.1 is
  where
    among : (members : Members) → AreMembers members → get_member key members ≡ Some made → IsOrdered made
    among no_members are is = cc
    among (member other e members) are is = go (slice_cmp nat_cmp key other) (among members are.1) is
      where
        go : (order : Ordering) → (get_member key members ≡ Some made → IsOrdered made)
            → match_ordering order (get_member key members) (Some e) (get_member key members) ≡ Some made → IsOrdered made
        go Less later is = later is
        go Equal later is = subst IsOrdered (same_Some e made is) are.0
        go Greater later is = later is
