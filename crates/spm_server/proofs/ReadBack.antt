-- JSON that was written is read back: a value whose numbers are small integers, whose texts are UTF-8 and whose objects have each key
-- once, in byte order.
use Rattle.std.proofs.Common.{◌≡◌, ℕ, suc, Bool, true, false, ◌^◌, ◌<◌, ◌≤◌, max, List, [], ◌∷◌, Option, Some, IsUtf8, Ok, refl, sym, ap, ◌∙◌, arith, append-nil}
use Rattle.std.specs.Prelude.{option_and_then, option_map, if◌then◌else◌}
use Rattle.std.specs.Fmt.{decimal}
use Rattle.std.specs.Cmp.Lexicographic.{nat_list_cmp_total, slice_cmp}
use Rattle.std.specs.Ordering.{match_ordering, nat_cmp, ordering_reverse}
use Rattle.std.specs.declared.cmp.Ordering.{Ordering}
use Rattle.std.specs.declared.cmp.Ordering.TheVariants.{Less, Greater}
use Rattle.std.proofs.lemmas.Str.{IsUtf8-append, is_utf8-from_IsUtf8}
use Rattle.json.specs.Json as json
use Rattle.json.specs.Lex.{tokens}
use Rattle.json.specs.Print.{quoted}
use Rattle.json.specs.Token.{Token}
use Rattle.json.specs.Tree as tree
use Rattle.json.proofs.Printed.Decimals.{IsNumber-decimal}
use Rattle.json.proofs.Printed.Tokens.{tokens-print}
use Rattle.json.proofs.Printed.Trees.{ArePrintable-json_tokens, value-json_tokens}
use Rattle.json.proofs.Printed.Utf8.{IsUtf8-are_ascii, IsUtf8-boolean, IsUtf8-quoted}
use Rattle.serde_json.specs.Data.{Data, Items, Members, Num, array, boolean, depth, float, item, items_depth, member, members_depth, negative, no_items, no_members, null, number, object, put, string, unsigned}
use Rattle.serde_json.specs.Read.{max_depth, of_items, of_json, of_members, read}
use Rattle.serde_json.specs.Written.{comma_if, compact_text, items_outline, items_text, members_outline, members_text, outline}
use Rattle.serde_json.proofs.Numbers.{number_of-decimal}
use Rattle.serde_json.proofs.Texts.{print-outline}
use Rattle.spm_json.specs.Reading.{fault_here, or_fault}
use Rattle.spm_json.specs.Shape.{document_of}
use Rattle.spm_version.specs.declared.kind.Kind.TheVariants.{NotJson}
use Rattle.spm_key.proofs.Classes.{decimal_class}
use Rattle.spm_key.proofs.PathParts.{is_path_byte}
use Rattle.spm_server.proofs.Paths.{path_is_text}

-- ---- values that can be written and read

-- the key is below all these
abbrev pub IsBelow : List ℕ → Members → Type 0
IsBelow key no_members = Unit {0}
IsBelow key (member other d ms) = (slice_cmp nat_cmp key other ≡ Less) × IsBelow key ms

-- a small integer that isn't negative
abbrev pub IsSmall : Num → Type 0
IsSmall (unsigned n) = n < 2 ^ 64
IsSmall (negative z) = ⊥
IsSmall (float x) = ⊥

-- such a value
abbrev mutual
  pub IsMade : Data → Type 0
  IsMade null = Unit {0}
  IsMade (boolean b) = Unit {0}
  IsMade (number n) = IsSmall n
  IsMade (string s) = IsUtf8 s
  IsMade (array ds) = AreMade ds
  IsMade (object ms) = AreMembers ms

  pub AreMade : Items → Type 0
  AreMade no_items = Unit {0}
  AreMade (item d ds) = IsMade d × AreMade ds

  pub AreMembers : Members → Type 0
  AreMembers no_members = Unit {0}
  AreMembers (member k d ms) = IsUtf8 k × IsMade d × IsBelow k ms × AreMembers ms

-- ---- its text

-- a number is text
number_utf8 : (n : Num) → IsSmall n → IsUtf8 (compact_text (number n))
number_utf8 (unsigned n) small = path_is_text (decimal n) (decimal_class is_path_byte refl n small)
number_utf8 (negative z) small = absurd small
number_utf8 (float x) small = absurd small

-- a comma is
comma_utf8 : (later : Bool) → IsUtf8 (comma_if later)
comma_utf8 true = IsUtf8-are_ascii (44 ∷ []) refl
comma_utf8 false = IsUtf8-are_ascii [] refl

-- a byte of ASCII before text
before : (byte : ℕ) (text : List ℕ) → IsUtf8 (byte ∷ []) → IsUtf8 text → IsUtf8 (byte ∷ text)
before byte text first others = IsUtf8-append (byte ∷ []) text first others

mutual
  -- what is written is UTF-8
  pub compact_utf8 : (d : Data) → IsMade d → IsUtf8 (compact_text d)
  compact_utf8 null made = IsUtf8-are_ascii (110 ∷ 117 ∷ 108 ∷ 108 ∷ []) refl
  compact_utf8 (boolean b) made = IsUtf8-boolean b
  compact_utf8 (number n) made = number_utf8 n made
  compact_utf8 (string s) made = IsUtf8-quoted s made
  compact_utf8 (array ds) made = before 91 _ (IsUtf8-are_ascii (91 ∷ []) refl) (items_utf8 false ds made)
  compact_utf8 (object ms) made = before 123 _ (IsUtf8-are_ascii (123 ∷ []) refl) (members_utf8 false ms made)

  items_utf8 : (later : Bool) (ds : Items) → AreMade ds → IsUtf8 (items_text later ds)
  items_utf8 later no_items made = IsUtf8-are_ascii (93 ∷ []) refl
  items_utf8 later (item d ds) made =
      IsUtf8-append (comma_if later) _ (comma_utf8 later) (IsUtf8-append (compact_text d) _ (compact_utf8 d made.0) (items_utf8 true ds made.1))

  members_utf8 : (later : Bool) (ms : Members) → AreMembers ms → IsUtf8 (members_text later ms)
  members_utf8 later no_members made = IsUtf8-are_ascii (125 ∷ []) refl
  members_utf8 later (member k d ms) made =
      IsUtf8-append (comma_if later) _ (comma_utf8 later) (IsUtf8-append (quoted k) _ (IsUtf8-quoted k made.0)
      (before 58 _ (IsUtf8-are_ascii (58 ∷ []) refl) (IsUtf8-append (compact_text d) _ (compact_utf8 d made.1) (members_utf8 true ms made.3))))

-- ---- its tokens

mutual
  -- its numbers are numbers of JSON
  has_numbers : (d : Data) → IsMade d → tree.HasNumbers (outline d)
  has_numbers null made = tt
  has_numbers (boolean b) made = tt
  has_numbers (number (unsigned n)) made = IsNumber-decimal n made
  has_numbers (number (negative z)) made = absurd made
  has_numbers (number (float x)) made = absurd made
  has_numbers (string s) made = tt
  has_numbers (array ds) made = items_have ds made
  has_numbers (object ms) made = members_have ms made

  items_have : (ds : Items) → AreMade ds → tree.ItemsHaveNumbers (items_outline ds)
  items_have no_items made = tt
  items_have (item d ds) made = (has_numbers d made.0, items_have ds made.1)

  members_have : (ms : Members) → AreMembers ms → tree.MembersHaveNumbers (members_outline ms)
  members_have no_members made = tt
  members_have (member k d ms) made = (has_numbers d made.1, members_have ms made.3)

mutual
  -- it nests as deep as its outline
  depth_is : (d : Data) → tree.depth (outline d) ≡ depth d
  depth_is null = refl
  depth_is (boolean b) = refl
  depth_is (number n) = refl
  depth_is (string s) = refl
  depth_is (array ds) = ap suc (items_depth_is ds)
  depth_is (object ms) = ap suc (members_depth_is ms)

  items_depth_is : (ds : Items) → tree.items_depth (items_outline ds) ≡ items_depth ds
  items_depth_is no_items = refl
  items_depth_is (item d ds) = λ i. max (depth_is d i) (items_depth_is ds i)

  members_depth_is : (ms : Members) → tree.members_depth (members_outline ms) ≡ members_depth ms
  members_depth_is no_members = refl
  members_depth_is (member k d ms) = λ i. max (depth_is d i) (members_depth_is ms i)

-- what is written is its tokens
tokens_are : (d : Data) → IsMade d → tokens (compact_text d) ≡ tree.json_tokens (outline d)
tokens_are d made =
    ap tokens (sym (print-outline d)) ∙ tokens-print (tree.json_tokens (outline d)) (ArePrintable-json_tokens (outline d) (has_numbers d made))

-- ---- members go in one after another

-- some members and then others
abbrev pub join : Members → Members → Members
join no_members ms = ms
join (member k d found) ms = member k d (join found ms)

-- the key is above all these
abbrev pub IsAbove : List ℕ → Members → Type 0
IsAbove key no_members = Unit {0}
IsAbove key (member other d ms) = (slice_cmp nat_cmp key other ≡ Greater) × IsAbove key ms

-- each of the others is above all these
abbrev pub Follow : Members → Members → Type 0
Follow found no_members = Unit {0}
Follow found (member k d ms) = IsAbove k found × Follow found ms

-- a member above all these goes to their end
pub put_last : (key : List ℕ) (d : Data) (found : Members) → IsAbove key found → put key d found ≡ join found (member key d no_members)
put_last key d no_members above = refl
put_last key d (member other e found) above =
    ap (λ (order : Ordering). match_ordering order (member key d (member other e found)) (member other d found) (member other e (put key d found))) above.0
    ∙ ap (member other e) (put_last key d found above.1)

-- one more is followed by what is above it and them
above_more : (key other : List ℕ) (d : Data) (found : Members) → IsAbove key found → slice_cmp nat_cmp key other ≡ Greater
    → IsAbove key (join found (member other d no_members))
above_more key other d no_members above more = (more, tt)
above_more key other d (member first e found) above more = (above.0, above_more key other d found above.1 more)

-- and so are all that follow
pub follow_more : (other : List ℕ) (d : Data) (found ms : Members) → Follow found ms → IsBelow other ms → Follow (join found (member other d no_members)) ms
follow_more other d found no_members follow below = tt
follow_more other d found (member k e ms) follow below = (
  above_more k other d found follow.0 (nat_list_cmp_total.antisymm k other ∙ ap ordering_reverse below.0),
  follow_more other d found ms follow.1 below.1,
)

-- joining one at a time
pub join_more : (found : Members) (k : List ℕ) (d : Data) (ms : Members) → join (join found (member k d no_members)) ms ≡ join found (member k d ms)
join_more no_members k d ms = refl
join_more (member first e found) k d ms = ap (member first e) (join_more found k d ms)

-- nothing follows
pub join_none : (found : Members) → join found no_members ≡ found
join_none no_members = refl
join_none (member k d found) = ap (member k d) (join_none found)

-- all follow nothing
pub follow_none : (ms : Members) → Follow no_members ms
follow_none no_members = tt
follow_none (member k d ms) = (tt, follow_none ms)

mutual
  -- the outline is read as the value
  read_outline : (d : Data) → IsMade d → of_json (outline d) ≡ Some d
  read_outline null made = refl
  read_outline (boolean b) made = refl
  read_outline (number (unsigned n)) made = ap (option_map number) (number_of-decimal n made)
  read_outline (number (negative z)) made = absurd made
  read_outline (number (float x)) made = absurd made
  read_outline (string s) made = refl
  read_outline (array ds) made = ap (option_map array) (read_items ds made)
  read_outline (object ms) made = ap (option_map object) (read_members ms no_members made (follow_none ms))

  read_items : (ds : Items) → AreMade ds → of_items (items_outline ds) ≡ Some ds
  read_items no_items made = refl
  read_items (item d ds) made =
      ap (option_and_then (λ d. option_map (item d) (of_items (items_outline ds)))) (read_outline d made.0) ∙ ap (option_map (item d)) (read_items ds made.1)

  read_members : (ms found : Members) → AreMembers ms → Follow found ms → of_members (members_outline ms) found ≡ Some (join found ms)
  read_members no_members found made follow = ap Some (sym (join_none found))
  read_members (member k d ms) found made follow =
      ap (option_and_then (λ d. of_members (members_outline ms) (put k d found))) (read_outline d made.1)
      ∙ ap (of_members (members_outline ms)) (put_last k d found follow.0)
      ∙ read_members ms (join found (member k d no_members)) made.3 (follow_more k d found ms follow.1 made.2)
      ∙ ap Some (join_more found k d ms)

-- ---- the whole

-- what is written is read back
read_made : (d : Data) → IsMade d → depth d ≤ 127 → read (compact_text d) ≡ Some d
read_made d made shallow =
    let within : tree.depth (outline d) ≤ max_depth = omega (arith, depth_is d, shallow) in
    ap (λ (read : Option (json.Json × List Token)). option_and_then of_json (option_and_then (λ p. json.if_last p.0 p.1) read))
    (ap (json.value max_depth) (tokens_are d made ∙ sym (append-nil _)) ∙ value-json_tokens (outline d) max_depth [] within) ∙ read_outline d made

-- as a document
pub document_made : (d : Data) → IsMade d → depth d ≤ 127 → document_of (compact_text d) ≡ Ok d
document_made d made shallow =
    ap (λ (text : Bool). if text then or_fault NotJson (read (compact_text d)) else fault_here NotJson) (is_utf8-from_IsUtf8 (compact_text d) (compact_utf8 d made))
    ∙ ap (or_fault NotJson) (read_made d made shallow)
