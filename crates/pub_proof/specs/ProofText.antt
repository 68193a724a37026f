-- The text of a derivation's file: compact JSON with its keys in byte order, and a line feed.
use Rattle.std.specs.Prelude.{ℕ, ◌==◌, ◌||◌, suc, List, [], ◌∷◌, ◌++◌, map, codes, Bool, slice_get, slice_index_or, Option, Some, None, if◌then◌else◌}
use Rattle.std.specs.List.{list_any}
use Rattle.serde_json.specs.Data.{Data, array, member, no_members, number, object, string, unsigned}
use Rattle.serde_json.specs.View.{items_of}
use Rattle.serde_json.specs.Written.{compact_text}
use Rattle.pub_term.specs.Node.{node_text}
use Rattle.pub_term.specs.declared.node.NodeName.{NodeName}
use Rattle.pub_term.specs.declared.term.Term.{Term}
use Rattle.pub_proof.specs.Checked.{has_node}
use Rattle.pub_proof.specs.declared.derivation.Derivation.{Derivation}
use Rattle.pub_proof.specs.declared.derivation.Line.{Line}
use Rattle.pub_proof.specs.declared.derivation.Line.TheVariants.{Fact, Resolve}

abbrev pub list_data : List Data → Data
list_data items = array (items_of items)

abbrev pub number_data : ℕ → Data
number_data n = number (unsigned n)

abbrev pub pair_data : Data → Data → Data
pair_data first second = list_data (first ∷ second ∷ [])

-- the name of the node with this number. In a derivation that was checked each number is a node's; another one is written as
-- an empty text.
abbrev pub name_text : Option NodeName → List ℕ
name_text (Some name) = node_text name
name_text None = []

abbrev pub name_data : List NodeName → ℕ → Data
name_data nodes node = string (name_text (slice_get nodes node))

abbrev pub choices_data : List ℕ → Data
choices_data choices = list_data (map number_data choices)

abbrev pub term_data : List NodeName → Term → Data
term_data nodes term = pair_data (name_data nodes term.node) (choices_data term.choices.members)

abbrev pub line_data : List NodeName → Line → Data
line_data nodes (Fact incompat cause) = object (member (codes "fact") (list_data (map (term_data nodes) incompat.terms)) no_members)
line_data nodes (Resolve first second on) = object (member (codes "on") (name_data nodes on)
    (member (codes "resolve") (pair_data (number_data first) (number_data second)) no_members))

-- a line names the nodes of its terms, or the one on which it resolves
abbrev pub names_node : ℕ → Line → Bool
names_node node (Fact incompat cause) = has_node incompat.terms node
names_node node (Resolve first second on) = on == node

abbrev pub is_named : List Line → ℕ → Bool
is_named lines node = list_any (names_node node) lines

-- the nodes from this number on: the root, and those that a line names
abbrev pub nodes_data : (ℕ → Bool) → List ℕ → ℕ → List NodeName → List Data
nodes_data is_named sizes node [] = []
nodes_data is_named sizes node (name ∷ names) =
    if node == 0 || is_named node
    then pair_data (string (node_text name)) (number_data (slice_index_or sizes node 0)) ∷ nodes_data is_named sizes (suc node) names
    else nodes_data is_named sizes (suc node) names

abbrev pub file_data : Data → Data → Data
file_data lines nodes = object (member (codes "lines") lines (member (codes "nodes") nodes (member (codes "version") (number_data 1) no_members)))

abbrev pub derivation_data : Derivation → Data
derivation_data derivation = file_data (list_data (map (line_data derivation.nodes) derivation.lines))
    (list_data (nodes_data (is_named derivation.lines) derivation.sizes 0 derivation.nodes))

abbrev pub proof_text : Derivation → List ℕ
proof_text derivation = compact_text (derivation_data derivation) ++ 10 ∷ []
