-- The data of a derivation have no float, so that their text is the compact one.
use Rattle.std.proofs.Common.{◌≡◌, ℕ, suc, ◌==◌, ◌||◌, Bool, true, false, List, [], ◌∷◌, map, slice_index_or, if◌then◌else◌, refl}
use Rattle.std.proofs.lemmas.Bool.{or_from}
use Rattle.serde_json.specs.Data.{Data, string}
use Rattle.serde_json.specs.View.{items_of}
use Rattle.serde_json.specs.Written.{has_float, items_have_float}
use Rattle.pub_term.specs.Node.{node_text}
use Rattle.pub_term.specs.declared.node.NodeName.{NodeName}
use Rattle.pub_term.specs.declared.term.Term.{Term}
use Rattle.pub_proof.specs.declared.derivation.Derivation.{Derivation}
use Rattle.pub_proof.specs.declared.derivation.Line.{Line}
use Rattle.pub_proof.specs.declared.derivation.Line.TheVariants.{Fact, Resolve}
use Rattle.pub_proof.specs.ProofText.{choices_data, derivation_data, is_named, line_data, nodes_data, number_data, pair_data, term_data}

-- a list of data without floats has none
no_floats_in : {X : Type 0} (as_data : X → Data) → ((x : X) → has_float (as_data x) ≡ false) → (xs : List X) → items_have_float (items_of (map as_data xs)) ≡ false
no_floats_in as_data none [] = refl
no_floats_in as_data none (x ∷ xs) = or_from (has_float (as_data x)) (items_have_float (items_of (map as_data xs))) (none x) (no_floats_in as_data none xs)

-- choices have no float
no_float_in_choices : (choices : List ℕ) → has_float (choices_data choices) ≡ false
no_float_in_choices choices = no_floats_in number_data (λ n. refl) choices

-- nor have terms
no_float_in_term : (nodes : List NodeName) (term : Term) → has_float (term_data nodes term) ≡ false
no_float_in_term nodes term = or_from (has_float (choices_data term.choices.members)) false (no_float_in_choices term.choices.members) refl

-- nor lines
no_float_in_line : (nodes : List NodeName) (line : Line) → has_float (line_data nodes line) ≡ false
no_float_in_line nodes (Fact incompat cause) =
    or_from (items_have_float (items_of (map (term_data nodes) incompat.terms))) false (no_floats_in (term_data nodes) (no_float_in_term nodes) incompat.terms) refl
no_float_in_line nodes (Resolve first second on) = refl

-- nor a list from which some are left out
no_float_in_some : (at : Bool) (node : Data) (rest : List Data) → has_float node ≡ false → items_have_float (items_of rest) ≡ false
    → items_have_float (items_of (if at then node ∷ rest else rest)) ≡ false
no_float_in_some true node rest first none = or_from (has_float node) (items_have_float (items_of rest)) first none
no_float_in_some false node rest first none = none

-- nor the nodes
no_float_in_nodes : (is_named : ℕ → Bool) (sizes : List ℕ) (node : ℕ) (names : List NodeName) → items_have_float (items_of (nodes_data is_named sizes node names)) ≡ false
no_float_in_nodes is_named sizes node [] = refl
no_float_in_nodes is_named sizes node (name ∷ names) =
    no_float_in_some (node == 0 || is_named node) (pair_data (string (node_text name)) (number_data (slice_index_or sizes node 0)))
    (nodes_data is_named sizes (suc node) names) refl (no_float_in_nodes is_named sizes (suc node) names)

-- nor the whole
pub no_float_in_derivation : (derivation : Derivation) → has_float (derivation_data derivation) ≡ false
no_float_in_derivation derivation =
    or_from (items_have_float (items_of (map (line_data derivation.nodes) derivation.lines)))
    (items_have_float (items_of (nodes_data (is_named derivation.lines) derivation.sizes 0 derivation.nodes)) || (false || false))
    (no_floats_in (line_data derivation.nodes) (no_float_in_line derivation.nodes) derivation.lines)
    (or_from (items_have_float (items_of (nodes_data (is_named derivation.lines) derivation.sizes 0 derivation.nodes))) (false || false)
    (no_float_in_nodes (is_named derivation.lines) derivation.sizes 0 derivation.nodes) refl)
