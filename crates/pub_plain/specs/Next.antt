-- Which node is next, by what is kept of nodes: which are open, what is decided, and what is left.
use Rattle.std.specs.Prelude.{◌≡◌, ◌<◌, ℕ, ◌&&◌, List, length, get_or, is_some, Bool, true, false, not, Option, Some, None, option_map}
use Rattle.std.specs.Ordering.{is_lt}
use Rattle.pub_facts.specs.Known.{list_in}
use Rattle.pub_set.specs.Choices.{ChoiceSet, has}
use Rattle.pub_term.specs.Known.{known_at}
use Rattle.pub_term.specs.Node.{node_cmp}
use Rattle.pub_term.specs.declared.node.NodeName.{NodeName}
use Rattle.pub_term.specs.declared.node.NodeName.TheVariants.{Root, RootTrait, Package, PackageTrait}
use Rattle.pub_trail.specs.Required.{decision_in}
use Rattle.pub_trail.specs.Turn.{Next}
use Rattle.pub_plain.specs.Choosing.{first_that, is_trait, next_package, owner_number, pin_of, ranked_in}
use Rattle.pub_plain.specs.Loading.{is_package, name_at}
use Rattle.pub_plain.specs.declared.next.NextNode.{NextNode}
use Rattle.pub_plain.specs.declared.told.Told.{Told}

abbrev pub next_of : NextNode → Next
next_of next = record { node = next.node; choice = next.choice; place = next.place }

-- a number with the name of its node
abbrev pub numbered_name : List NodeName → Option ℕ → Option (ℕ × NodeName)
numbered_name names number = option_map (λ n. (n, name_at names n)) number

abbrev pub is_before : List NodeName → ℕ → Option ℕ → Bool
is_before names place None = true
is_before names place (Some other) = not (is_lt (node_cmp (name_at names other) (name_at names place)))

abbrev pub choice_or_none : Option ℕ → ℕ
choice_or_none None = 0
choice_or_none (Some choice) = choice

abbrev pub is_ready_in : List NodeName → List Bool → List (Option ℕ) → ℕ → NodeName → Bool
is_ready_in names opens decided number name =
    is_trait name && (get_or opens number false && is_some (decision_in decided (owner_number names name)))

abbrev pub is_needed_in : List Bool → ℕ → NodeName → Bool
is_needed_in opens number name = is_package name && get_or opens number false

-- for each node whether it passes
pub record ArePasses (test : ℕ → NodeName → Bool) (names : List NodeName) (passes : List Bool) : Type 0 where
  pub nodes : length passes ≡ length names
  pub each : (number : ℕ) → number < length names → get_or passes number false ≡ test number (name_at names number)

-- a trait that is next
abbrev pub trait_next : List NodeName → List (Option ℕ) → ℕ → NodeName → Next
trait_next names decided number name = record {
  node = number;
  choice = 1;
  place = record { node = number; choice = choice_or_none (decision_in decided (owner_number names name)) };
}

-- the node of a number as the next one
abbrev pub next_by : Told → List ChoiceSet → List (Option ℕ) → ℕ → NodeName → Option Next
next_by told left decided number Root = None
next_by told left decided number (RootTrait name) = Some (trait_next told.known.nodes decided number (RootTrait name))
next_by told left decided number (Package identity) =
    next_package number
    (first_that (has (known_at left number)) (ranked_in (pin_of told.pins identity) (list_in told.known.lists identity)))
next_by told left decided number (PackageTrait identity name) = Some (trait_next told.known.nodes decided number (PackageTrait identity name))
