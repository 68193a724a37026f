-- What an item has to be: an object, a list, a text, a number. An item of another shape is of the wrong
-- kind. Objects have each key once, in byte order, the last value of a key that was written twice.
use Rattle.std.specs.Prelude.{ℕ, List, [], ◌∷◌, length, nat_lt, Ok, IfSome, if◌then◌else◌, map, option_and_then, option_map}
use Rattle.std.specs.Cmp.Lexicographic.{slice_cmp}
use Rattle.std.specs.List.Sorted.{IsStrictlySortedBy}
use Rattle.std.specs.Ordering.{nat_cmp}
use Rattle.std.specs.Str.{is_utf8}
use Rattle.serde_json.specs.Data.{Data, Items, no_items, item, Members, no_members, member}
use Rattle.serde_json.specs.Find.{as_array, as_number, as_object, as_str, as_u64}
use Rattle.serde_json.specs.Read.{read}
use Rattle.spm_version.specs.declared.kind.Kind.TheVariants.{NotJson, TooMany, WrongKind}
use Rattle.spm_json.specs.Reading.{Reading, fault_here, in_document, or_fault, ◌>>=◌}

abbrev pub item_list : Items → List Data
item_list no_items = []
item_list (item d items) = d ∷ item_list items

abbrev pub member_list : Members → List (List ℕ × Data)
member_list no_members = []
member_list (member key d members) = (key, d) ∷ member_list members

-- each key of the object, if it is one, is below those after it by its bytes
abbrev pub HasAscendingKeys : Data → Type 0
HasAscendingKeys d = IfSome (as_object d) (λ members. IsStrictlySortedBy (slice_cmp nat_cmp) (map (λ m. m.0) (member_list members)))

-- the document that the bytes spell (RFC 8259): UTF-8, and at most 127 levels of objects and lists
abbrev pub document_of : List ℕ → Reading Data
document_of bytes = if is_utf8 bytes then or_fault NotJson (read bytes) else fault_here NotJson

-- an item that is an object
abbrev pub object_of : Data → Reading Data
object_of d = or_fault WrongKind (option_map (λ _. d) (as_object d))

abbrev pub list_of : Data → Reading (List Data)
list_of d = or_fault WrongKind (option_map item_list (as_array d))

-- a list of at most `limit` items
abbrev pub limited_list_of : ℕ → Data → Reading (List Data)
limited_list_of limit d = list_of d >>= λ items. if nat_lt limit (length items) then fault_here TooMany else Ok items

abbrev pub text_of : Data → Reading (List ℕ)
text_of d = or_fault WrongKind (as_str d)

-- an integer from 0 to 2^64 - 1
abbrev pub whole_number_of : Data → Reading ℕ
whole_number_of d = or_fault WrongKind (option_and_then as_u64 (as_number d))

-- an integer from 0 to 2^32 - 1
abbrev pub small_number_of : Data → Reading ℕ
small_number_of d = whole_number_of d >>= λ number. if nat_lt number 4294967296 then Ok number else fault_here WrongKind

-- what the bytes of a whole document are read as, with places from its root
abbrev pub whole_of : {A : Type 0} → (Data → Reading A) → List ℕ → Reading A
whole_of reading bytes = in_document (document_of bytes >>= reading)
