-- What a solver comes to, as data: the derivation behind a refutation, the texts of its nodes' choices, and the pins.
use Rattle.std.specs.Prelude.{ℕ, List, [], ◌∷◌, map, reverse, length, nat_lt, codes, Bool, Option, None, filter_map, option_map, if◌then◌else◌}
use Rattle.std.specs.Ordering.{is_lt}
use Rattle.pub_facts.specs.Catalogue.{Lookups, release_at}
use Rattle.pub_facts.specs.Numbered.{number_in, sizes_of}
use Rattle.pub_proof.specs.declared.derivation.Derivation.{Derivation}
use Rattle.pub_proof.specs.declared.derivation.Line.{Line}
use Rattle.pub_proof.specs.declared.derivation.Line.TheVariants.{Fact, Resolve}
use Rattle.pub_term.specs.Node.{node_cmp}
use Rattle.pub_term.specs.declared.cause.Cause.{Cause}
use Rattle.pub_term.specs.declared.node.NodeName.{NodeName}
use Rattle.pub_term.specs.declared.node.NodeName.TheVariants.{Root, RootTrait, Package, PackageTrait}
use Rattle.pub_trail.specs.Derived as derived
use Rattle.pub_trail.specs.First.{chosen}
use Rattle.pub_trail.specs.Renamed.{renamed}
use Rattle.pub_trail.specs.Turn.{State, Step}
use Rattle.spm_version.specs.Release.{Parts, parts_text}
use Rattle.pub_plain.specs.Loading.{name_at}

-- ---- node order

abbrev pub put_node : NodeName → List NodeName → List NodeName
put_node node [] = node ∷ []
put_node node (other ∷ others) = if is_lt (node_cmp node other) then node ∷ other ∷ others else other ∷ put_node node others

abbrev pub ordered : List NodeName → List NodeName
ordered [] = []
ordered (node ∷ nodes) = put_node node (ordered nodes)

-- the place of a node in node order, by its number; a number of no node stays
abbrev pub rank_in : List NodeName → ℕ → ℕ
rank_in names number = if nat_lt number (length names) then number_in (ordered names) (name_at names number) else number

-- ---- the derivation behind a refutation

abbrev pub line_in : (ℕ → ℕ) → derived.Line → Line
line_in rank (derived.Given terms cause) = Fact (record { terms = renamed rank terms }) cause
line_in rank (derived.Resolves first second on) = Resolve first second (rank on)

-- its lines from the oldest on, by the places of the nodes in node order; `same` says which causes are equal
abbrev pub derivation_in : (Cause → Cause → Bool) → Lookups → State → ℕ → List Step → Derivation
derivation_in same l state first steps = record {
  nodes = ordered state.names;
  sizes = sizes_of l (ordered state.names);
  lines = map (λ (says : derived.Says). line_in (rank_in state.names) says.line) (reverse (derived.derivation same state first steps).lines);
}

-- ---- the texts of choices

abbrev pub texts_of : Lookups → NodeName → List (List ℕ)
texts_of l Root = codes "none" ∷ codes "chosen" ∷ []
texts_of l (RootTrait name) = codes "off" ∷ codes "on" ∷ []
texts_of l (Package identity) = codes "none" ∷ map parts_text (l.list identity)
texts_of l (PackageTrait identity name) = codes "off" ∷ codes "on" ∷ []

-- for each node, in node order
abbrev pub choice_texts : Lookups → List NodeName → List (List (List ℕ))
choice_texts l names = map (texts_of l) (ordered names)

-- ---- the pins

-- a package with the release that it is decided on
abbrev pub pin_at : Lookups → State → NodeName → Option (List ℕ × Parts)
pin_at l state Root = None
pin_at l state (RootTrait name) = None
pin_at l state (Package identity) =
    option_map (λ release. (identity, release)) (release_at (l.list identity) (chosen state.trail (number_in state.names (Package identity))))
pin_at l state (PackageTrait identity name) = None

-- the packages that are decided, in the order of their identities
abbrev pub pins_in : Lookups → State → List (List ℕ × Parts)
pins_in l state = filter_map (pin_at l state) (ordered state.names)
