-- How the logic stores the members of an object: as a tree, by which it tells them apart.
use Rattle.std.specs.Prelude.{◌≡◌, ◌⊎◌, ℕ, ℤ, List, Float, refl}
use Rattle.std.specs.Coded.{Coded, code_by, coded_bool, coded_list, coded_ℕ, coded_ℤ, coded⊎}
use Rattle.std.proofs.Common.{ap, inl, inr}
use Rattle.std.proofs.lemmas.Bool.{eqb-false}
use base.Stored.{Gv, coded_float, gcons, gnil, gnum}
use Rattle.serde_json.specs.Data.{Data, Items, Members, Num, array, boolean, float, item, member, negative, no_items, no_members, null, number, object, string, unsigned}

-- ---- numbers and texts

abbrev pub parts_of_num : Num → ℕ ⊎ (ℤ ⊎ Float)
parts_of_num (unsigned n) = inl n
parts_of_num (negative z) = inr (inl z)
parts_of_num (float x) = inr (inr x)

abbrev pub num_of_parts : ℕ ⊎ (ℤ ⊎ Float) → Num
num_of_parts (inl n) = unsigned n
num_of_parts (inr (inl z)) = negative z
num_of_parts (inr (inr x)) = float x

pub num_of_parts-parts_of_num : (n : Num) → num_of_parts (parts_of_num n) ≡ n
num_of_parts-parts_of_num (unsigned n) = refl
num_of_parts-parts_of_num (negative z) = refl
num_of_parts-parts_of_num (float x) = refl

abbrev pub num_code : Coded Num
num_code = code_by (ℕ ⊎ (ℤ ⊎ Float)) (coded⊎ coded_ℕ (coded⊎ coded_ℤ coded_float)) parts_of_num num_of_parts num_of_parts-parts_of_num

abbrev pub text_code : Coded (List ℕ)
text_code = coded_list coded_ℕ

-- ---- the trees of data, items and members

abbrev pub shape_number : Data → ℕ
shape_number null = 0
shape_number (boolean b) = 1
shape_number (number n) = 2
shape_number (string s) = 3
shape_number (array ds) = 4
shape_number (object ms) = 5

abbrev mutual
  pub content_tree : Data → Gv
  content_tree null = gnil
  content_tree (boolean b) = coded_bool.code b
  content_tree (number n) = num_code.code n
  content_tree (string s) = text_code.code s
  content_tree (array ds) = items_tree ds
  content_tree (object ms) = members_tree ms

  pub items_tree : Items → Gv
  items_tree no_items = gnil
  items_tree (item d ds) = gcons (gcons (gnum (shape_number d)) (content_tree d)) (items_tree ds)

  pub members_tree : Members → Gv
  members_tree no_members = gnil
  members_tree (member k d ms) = gcons (text_code.code k) (gcons (gcons (gnum (shape_number d)) (content_tree d)) (members_tree ms))

-- ---- they tell each other

head : Gv → Gv
head gnil = gnil
head (gnum n) = gnil
head (gcons first rest) = first

tail : Gv → Gv
tail gnil = gnil
tail (gnum n) = gnil
tail (gcons first rest) = rest

number_in : Gv → ℕ
number_in gnil = 0
number_in (gnum n) = n
number_in (gcons first rest) = 0

length_in : Gv → ℕ
length_in gnil = 0
length_in (gnum n) = 0
length_in (gcons first rest) = 1

mutual
  unfolding head tail number_in length_in

  content_inj : (x y : Data) → shape_number x ≡ shape_number y → content_tree x ≡ content_tree y → x ≡ y
  content_inj null null shape content = refl
  content_inj (boolean b) (boolean c) shape content = ap boolean (coded_bool.inj b c content)
  content_inj (number m) (number n) shape content = ap number (num_code.inj m n content)
  content_inj (string s) (string t) shape content = ap string (text_code.inj s t content)
  content_inj (array ds) (array es) shape content = ap array (items_inj ds es content)
  content_inj (object ms) (object ns) shape content = ap object (members_inj ms ns content)
  content_inj x y shape content = absurd (eqb-false (shape_number x) (shape_number y) refl shape)

  items_inj : (xs ys : Items) → items_tree xs ≡ items_tree ys → xs ≡ ys
  items_inj no_items no_items same = refl
  items_inj (item d ds) (item e es) same =
      λ i. item (content_inj d e (ap (λ t. number_in (head (head t))) same) (ap (λ t. tail (head t)) same) i) (items_inj ds es (ap tail same) i)
  items_inj no_items (item e es) same = absurd (eqb-false 0 1 refl (ap length_in same))
  items_inj (item d ds) no_items same = absurd (eqb-false 1 0 refl (ap length_in same))

  pub members_inj : (xs ys : Members) → members_tree xs ≡ members_tree ys → xs ≡ ys
  members_inj no_members no_members same = refl
  members_inj (member k d ms) (member l e ns) same =
      λ i. member (text_code.inj k l (ap head same) i)
      (content_inj d e (ap (λ t. number_in (head (head (tail t)))) same) (ap (λ t. tail (head (tail t))) same) i)
      (members_inj ms ns (ap (λ t. tail (tail t)) same) i)
  members_inj no_members (member l e ns) same = absurd (eqb-false 0 1 refl (ap length_in same))
  members_inj (member k d ms) no_members same = absurd (eqb-false 1 0 refl (ap length_in same))

abbrev pub members_code : Coded Members
members_code = record { code = members_tree; inj = members_inj }
