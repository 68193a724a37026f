-- The list of nodes of a file, read one by one; the terms of a fact, put in the order of their nodes.
use Rattle.std.proofs.Common.{◌≡◌, ℕ, suc, ◌+◌, ◌<◌, ◌≤◌, ◌==◌, ◌&&◌, Bool, true, false, nat_lt, List, [], ◌∷◌, ◌++◌, length, get_or, drop, map, Option, Some, None, is_some, Ok, if◌then◌else◌, refl, sym, ap, ap₂, ◌∙◌, arith}
use Rattle.std.specs.List.{All}
use Rattle.std.proofs.lemmas.Bool.{and_parts, false≢true, ltb-true}
use Rattle.std.proofs.lemmas.List.{drop_more}
use Rattle.std.proofs.lemmas.List.Elements.{All-cons}
use Rattle.serde_json.specs.Data.{Data}
use Rattle.pub_term.specs.NodeLaws.{node_eq, node_equiv}
use Rattle.pub_term.specs.declared.node.NodeName.{NodeName}
use Rattle.spm_json.specs.Reading.{Reading, at_index, ◌>>=◌}
use Rattle.spm_json.specs.Sequence.{pair_in}
use Rattle.spm_json.specs.Shape.{list_of}
use Rattle.pub_proof.specs.Order.{is_above}
use Rattle.pub_proof.specs.File.{NodeList, are_choices, new_name_reading, node_reading, nodes_after, place_after, place_of, size_reading}

-- ---- a pair

-- a list of two items is these two
two_items : {X : Type 0} (xs : List X) (a b : X) → 2 ≤ length xs → length xs < 3 → a ≡ get_or xs 0 a → b ≡ get_or xs 1 b → xs ≡ a ∷ b ∷ []
two_items [] a b least below first second = absurd (omega arith)
two_items (x ∷ []) a b least below first second = absurd (omega arith)
two_items (x ∷ y ∷ []) a b least below first second = ap₂ (λ f s. f ∷ s ∷ []) (sym first) (sym second)
two_items (x ∷ y ∷ z ∷ xs) a b least below first second = absurd (omega arith)

-- two items that are read are read as a pair
pair_read : {A B : Type 0} (first : Data → Reading A) (second : Data → Reading B) (d e : Data) (x : A) (y : B)
    → at_index 0 (first d) ≡ Ok x → at_index 1 (second e) ≡ Ok y → pair_in first second (d ∷ e ∷ []) ≡ Ok (x, y)
pair_read first second d e x y at_first at_second =
    ap (λ read. read >>= λ a. at_index 1 (second e) >>= λ b. Ok (a, b)) at_first ∙ ap (λ read. read >>= λ b. Ok (x, b)) at_second

-- a name and a size that are read are read as a node
pub node_read : {V : Type 0} (view : V → Data) (is_first : Bool) (is_doubled : NodeName → Bool) (d : Data) (vs : List V) (a b : V) (name : NodeName) (size : ℕ)
    → list_of d ≡ Ok (map view vs) → 2 ≤ length vs → length vs < 3 → a ≡ get_or vs 0 a → b ≡ get_or vs 1 b
    → at_index 0 (new_name_reading is_first is_doubled (view a)) ≡ Ok name → at_index 1 (size_reading (view b)) ≡ Ok size
    → node_reading is_first is_doubled d ≡ Ok (name, size)
node_read view is_first is_doubled d vs a b name size list least below first second at_name at_size =
    ap (λ read. read >>= λ ds. pair_in (new_name_reading is_first is_doubled) size_reading ds)
    (list ∙ ap (λ items. Ok (map view items)) (two_items vs a b least below first second))
    ∙ pair_read (new_name_reading is_first is_doubled) size_reading (view a) (view b) name size at_name at_size

-- ---- the places of names

-- names that are equal equal the same names
tied : (node name other : NodeName) → node_eq name other ≡ true → node_eq node name ≡ node_eq node other
tied node name other same = node_equiv.symm node name ∙ node_equiv.congr name other node same ∙ node_equiv.symm other node

-- and have one place
place_after-tied : (place : ℕ) (nodes : List NodeName) (name other : NodeName) → node_eq name other ≡ true
    → place_after place nodes name ≡ place_after place nodes other
place_after-tied place [] name other same = refl
place_after-tied place (node ∷ nodes) name other same =
    ap₂ (λ (at : Bool) rest. if at then Some place else rest) (tied node name other same) (place_after-tied (suc place) nodes name other same)

-- something isn't nothing
some-none : {X : Type 0} (x : X) → Some x ≡ None → ⊥
some-none x same = false≢true (sym (ap is_some same))

-- where a choice came to nothing neither side was there
chosen : (at : Bool) (place : ℕ) (rest : Option ℕ) → (if at then Some place else rest) ≡ None → (at ≡ false) × (rest ≡ None)
chosen true place rest none = absurd (some-none place none)
chosen false place rest none = (refl, none)

-- two choices that exclude each other may change places
swapped : (first second : Bool) (x y rest : Option ℕ) → (first ≡ true → second ≡ false)
    → (if first then x else if second then y else rest) ≡ (if second then y else if first then x else rest)
swapped true second x y rest apart = ap (λ (at : Bool). if at then y else x) (sym (apart refl))
swapped false second x y rest apart = refl

-- what would make a false test true is false
is_false : (a b : Bool) → a ≡ false → (b ≡ true → a ≡ true) → b ≡ false
is_false a true none gives = absurd (false≢true (sym none ∙ gives refl))
is_false a false none gives = refl

-- the place of a name in a list with one more at its end
place_after-snoc : (place : ℕ) (nodes : List NodeName) (name other : NodeName) → place_after place nodes name ≡ None
    → place_after place (nodes ++ name ∷ []) other ≡ (if node_eq name other then Some (place + length nodes) else place_after place nodes other)
place_after-snoc place [] name other none = ap (λ (at : ℕ). if node_eq name other then Some at else None) (omega arith)
place_after-snoc place (node ∷ nodes) name other none =
    let parts = chosen (node_eq node name) place (place_after (suc place) nodes name) none in
    ap (λ rest. if node_eq node other then Some place else rest) (place_after-snoc (suc place) nodes name other parts.1)
    ∙ swapped (node_eq node other) (node_eq name other) (Some place) (Some (suc place + length nodes)) (place_after (suc place) nodes other)
    (λ here. is_false (node_eq node name) (node_eq name other) parts.0 (λ same. tied node name other same ∙ here))
    ∙ ap (λ (at : ℕ). if node_eq name other then Some at else if node_eq node other then Some place else place_after (suc place) nodes other) (omega arith)

-- the same from the start
pub place_of-snoc : (nodes : List NodeName) (name other : NodeName) → place_of nodes name ≡ None
    → place_of (nodes ++ name ∷ []) other ≡ (if node_eq name other then Some (length nodes) else place_of nodes other)
place_of-snoc nodes name other none =
    place_after-snoc 0 nodes name other none ∙ ap (λ (at : ℕ). if node_eq name other then Some at else place_of nodes other) (omega arith)

-- ---- the loop over the nodes

-- one node more was read
pub nodes_next : {V : Type 0} (view : V → Data) (names : List NodeName) (sizes : List ℕ) (has : NodeName → Option ℕ) (vs : List V) (i : ℕ) (v : V)
    (name : NodeName) (size : ℕ) → i < length vs → v ≡ get_or vs i v → i ≡ length names → ((other : NodeName) → has other ≡ place_of names other)
    → node_reading (i == 0) (λ other. is_some (has other)) (view v) ≡ Ok (name, size)
    → nodes_after (record { names = names ++ name ∷ []; sizes = sizes ++ size ∷ [] }) (map view (drop (i + 1) vs))
    ≡ nodes_after (record { names = names; sizes = sizes }) (map view (drop i vs))
nodes_next view names sizes has vs i v name size within at place places read =
    let earlier : NodeList = record { names = names; sizes = sizes } in
    let rest = map view (drop (i + 1) vs) in
    let said : node_reading (length names == 0) (λ other. is_some (place_of names other)) (view v) ≡ Ok (name, size) =
    sym (ap₂ (λ (first : Bool) (is_doubled : NodeName → Bool). node_reading first is_doubled (view v)) (ap (λ (n : ℕ). n == 0) place)
    (λ j other. is_some (places other j))) ∙ read in
    sym (ap (λ items. nodes_after earlier (map view items)) (drop_more vs i v within ∙ ap (λ item. item ∷ drop (i + 1) vs) (sym at))
    ∙ ap (λ found. at_index (length names) found >>= λ node.
    nodes_after (record { names = names ++ node.0 ∷ []; sizes = sizes ++ node.1 ∷ [] }) rest) said)

-- ---- choices

-- choices of a set are below its size
pub below_size : (size : ℕ) (before : Option ℕ) (choices : List ℕ) → are_choices size before choices ≡ true → All (λ choice. choice < size) choices
below_size size before [] are = λ k d below. absurd (omega (arith, below))
below_size size before (choice ∷ choices) are =
    let parts = and_parts (is_above before choice && nat_lt choice size) (are_choices size (Some choice) choices) are in
    let first = and_parts (is_above before choice) (nat_lt choice size) parts.0 in
    All-cons (λ c. c < size) choice choices (ltb-true choice size first.1) (below_size size (Some choice) choices parts.1)
