-- Objects as they are written: their members in the byte order of their keys.
use Rattle.std.specs.Prelude.{ℕ, List, [], ◌∷◌, Option, Some, None}
use Rattle.serde_json.specs.Data.{Data, Members, no_members, object, put}

abbrev pub put_all : Members → List (List ℕ × Data) → Members
put_all members [] = members
put_all members (pair ∷ pairs) = put_all (put pair.0 pair.1 members) pairs

-- an object with these members, whose keys are foreign text
abbrev pub object_with : List (List ℕ × Data) → Data
object_with pairs = object (put_all no_members pairs)

-- the members, with one that may be absent
abbrev pub put_present : List ℕ → Option Data → Members → Members
put_present key None members = members
put_present key (Some d) members = put key d members
