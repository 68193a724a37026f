-- Reading a file of a derivation: what each node, choice and line of it has to be, and the derivation that it is.
use Rattle.std.specs.Str.{bytes_eq}
use Rattle.std.specs.Prelude.{ℕ, ◌&&◌, ◌==◌, suc, List, [], ◌∷◌, ◌++◌, length, map, codes, Bool, not, true, nat_lt, slice_index_or, Option, Some, None, is_some, unwrap_or, Ok, if◌then◌else◌}
use Rattle.std.specs.List.{after_first, before_first, filter, flat_map, position_or_len}
use Rattle.std.specs.Result.{result_ok}
use Rattle.serde_json.specs.Data.{Data}
use Rattle.serde_json.specs.Find.{get}
use Rattle.spm_version.specs.declared.kind.Kind.TheVariants.{BadIdentity, BadTrait, Doubled, Missing, WrongKind}
use Rattle.spm_trait.specs.TraitName.{trait_name_of}
use Rattle.spm_json.specs.Field.{field_of, some_reading}
use Rattle.spm_json.specs.Reading.{Reading, at_index, fault_here, or_fault, within, ◌>>=◌}
use Rattle.spm_json.specs.Sequence.{items_of, pair_in, pair_of}
use Rattle.spm_json.specs.Shape.{limited_list_of, list_of, object_of, small_number_of, text_of, whole_number_of, whole_of}
use Rattle.spm_json.specs.Value.{identity_in, version_field}
use Rattle.pub_set.specs.Choices.{ChoiceSet, choices_of, no_choices, numbers_below}
use Rattle.pub_term.specs.NodeLaws.{node_eq}
use Rattle.pub_term.specs.declared.cause.Cause.TheVariants.{Given}
use Rattle.pub_term.specs.declared.node.NodeName.{NodeName}
use Rattle.pub_term.specs.declared.node.NodeName.TheVariants.{Root, RootTrait, Package, PackageTrait}
use Rattle.pub_term.specs.declared.term.Term.{Term}
use Rattle.pub_proof.specs.Order.{is_above}
use Rattle.pub_proof.specs.declared.derivation.Derivation.{Derivation}
use Rattle.pub_proof.specs.declared.derivation.Line.{Line}
use Rattle.pub_proof.specs.declared.derivation.Line.TheVariants as line
use Rattle.pub_proof.specs.declared.written.WrittenLine.{WrittenLine}
use Rattle.pub_proof.specs.declared.written.WrittenLine.TheVariants.{Fact, Resolve}

-- ---- names of nodes: `root`, an identity, or one of these with `#` and a trait's name

abbrev pub is_hash : ℕ → Bool
is_hash byte = byte == 35

-- the text behind the first `#`, where there is one
abbrev pub behind_hash : List ℕ → Option (List ℕ)
behind_hash text = if nat_lt (position_or_len is_hash text) (length text) then Some (after_first is_hash text) else None

-- the package of a node, which `root` doesn't have
abbrev pub owner_in : List ℕ → Reading (Option (List ℕ))
owner_in text = if bytes_eq text (codes "root") then Ok None else some_reading (identity_in text)

abbrev pub trait_text : List ℕ → Reading (List ℕ)
trait_text text = or_fault BadTrait (result_ok (trait_name_of text))

abbrev pub trait_in : Option (List ℕ) → Reading (Option (List ℕ))
trait_in (Some text) = some_reading (trait_text text)
trait_in None = Ok None

abbrev pub node_of : Option (List ℕ) → Option (List ℕ) → NodeName
node_of None None = Root
node_of None (Some name) = RootTrait name
node_of (Some identity) None = Package identity
node_of (Some identity) (Some name) = PackageTrait identity name

-- the part before the `#` is read first
abbrev pub name_in : List ℕ → Reading NodeName
name_in text = owner_in (before_first is_hash text) >>= λ owner. trait_in (behind_hash text) >>= λ name. Ok (node_of owner name)

abbrev pub name_reading : Data → Reading NodeName
name_reading d = text_of d >>= name_in

-- ---- the list of nodes: the root first, no name twice, and of each the size of its sets of choices

pub record NodeList : Type 0 where
  pub names : List NodeName
  pub sizes : List ℕ

-- the place of a name in a list
abbrev pub place_after : ℕ → List NodeName → NodeName → Option ℕ
place_after place [] name = None
place_after place (node ∷ nodes) name = if node_eq node name then Some place else place_after (suc place) nodes name

abbrev pub place_of : List NodeName → NodeName → Option ℕ
place_of nodes name = place_after 0 nodes name

-- the first node is the root, and no name stands twice
abbrev pub new_name : Bool → Bool → NodeName → Reading NodeName
new_name is_first is_doubled name =
    if is_first && not (node_eq name Root) then fault_here BadIdentity
    else if is_doubled then fault_here Doubled
    else Ok name

abbrev pub new_name_reading : Bool → (NodeName → Bool) → Data → Reading NodeName
new_name_reading is_first is_doubled d = name_reading d >>= λ name. new_name is_first (is_doubled name) name

-- a size is a whole number from 2 to 4,097
abbrev pub size_reading : Data → Reading ℕ
size_reading d = small_number_of d >>= λ size. if nat_lt 1 size && nat_lt size 4098 then Ok size else fault_here WrongKind

abbrev pub node_reading : Bool → (NodeName → Bool) → Data → Reading (NodeName × ℕ)
node_reading is_first is_doubled d = list_of d >>= λ ds. pair_in (new_name_reading is_first is_doubled) size_reading ds

-- the nodes from here on, behind those before them
abbrev pub nodes_after : NodeList → List Data → Reading NodeList
nodes_after earlier [] = Ok earlier
nodes_after earlier (d ∷ ds) =
    at_index (length earlier.names) (node_reading (length earlier.names == 0) (λ name. is_some (place_of earlier.names name)) d) >>= λ node.
    nodes_after (record { names = earlier.names ++ node.0 ∷ []; sizes = earlier.sizes ++ node.1 ∷ [] }) ds

-- a list without nodes counts as absent
abbrev pub nodes_in : List Data → Reading NodeList
nodes_in [] = fault_here Missing
nodes_in (d ∷ ds) = nodes_after (record { names = []; sizes = [] }) (d ∷ ds)

abbrev pub nodes_reading : Data → Reading NodeList
nodes_reading d = limited_list_of 4096 d >>= nodes_in

-- ---- lines, as they are written

-- a node with choices
abbrev pub WrittenTerm : Type 0
WrittenTerm = NodeName × List ℕ

abbrev pub term_reading : Data → Reading WrittenTerm
term_reading d = pair_of name_reading (items_of small_number_of) d

-- the first present of `fact` and `resolve` decides what the line is
abbrev pub line_in : Option Data → Option Data → Data → Reading WrittenLine
line_in (Some terms) cited o = within (codes "fact") (items_of term_reading terms) >>= λ terms. Ok (Fact terms)
line_in None (Some cited) o = field_of name_reading (codes "on") o >>= λ on.
    within (codes "resolve") (pair_of whole_number_of whole_number_of cited) >>= λ cited. Ok (Resolve on cited)
line_in None None o = fault_here Missing

abbrev pub line_reading : Data → Reading WrittenLine
line_reading d = object_of d >>= λ o. line_in (get (codes "fact") o) (get (codes "resolve") o) o

-- ---- what the lines say

-- the number of a node is its place; a name that is no node's has the number behind the last
abbrev pub number_of : NodeList → NodeName → ℕ
number_of nodes name = unwrap_or (place_of nodes.names name) (length nodes.names)

abbrev pub size_of : NodeList → ℕ → ℕ
size_of nodes number = slice_index_or nodes.sizes number 0

-- choices of a set of this size: ascending, each once, each below the size
abbrev pub are_choices : ℕ → Option ℕ → List ℕ → Bool
are_choices size before [] = true
are_choices size before (choice ∷ choices) = is_above before choice && nat_lt choice size && are_choices size (Some choice) choices

-- a list that is no set's has no choices
abbrev pub set_in : ℕ → List ℕ → ChoiceSet
set_in size choices = if are_choices size None choices then choices_of size choices else no_choices size

abbrev pub term_of : NodeList → WrittenTerm → Term
term_of nodes written =
    let node = number_of nodes written.0 in
    record { node = node; choices = set_in (size_of nodes node) written.1 }

-- terms in the order of these numbers of nodes, those on one node in the order in which they stand
abbrev pub by_node : List ℕ → List Term → List Term
by_node numbers terms = flat_map (λ number. filter (λ term. term.node == number) terms) numbers

abbrev pub terms_of : NodeList → List WrittenTerm → List Term
terms_of nodes written = by_node (numbers_below (suc (length nodes.names))) (map (term_of nodes) written)

abbrev pub line_of : NodeList → WrittenLine → Line
line_of nodes (Fact terms) = line.Fact (record { terms = terms_of nodes terms }) Given
line_of nodes (Resolve on cited) = line.Resolve cited.0 cited.1 (number_of nodes on)

abbrev pub derivation_of : NodeList → List WrittenLine → Derivation
derivation_of nodes lines = record { nodes = nodes.names; sizes = nodes.sizes; lines = map (line_of nodes) lines }

-- ---- the file

abbrev pub derivation_reading : Data → Reading Derivation
derivation_reading d = object_of d >>= λ o.
    version_field 1 o >>= λ _.
    field_of nodes_reading (codes "nodes") o >>= λ nodes.
    field_of (items_of line_reading) (codes "lines") o >>= λ lines.
    Ok (derivation_of nodes lines)

-- what the bytes of a file of a derivation say, or the first fault in the reading order
abbrev pub derivation_in : List ℕ → Reading Derivation
derivation_in bytes = whole_of derivation_reading bytes
