-- Which node is next, and its choice: the least trait whose owner is decided, else the least package, that a fact requires and that isn't
-- decided; and of a package the first of its preferred choices that is left.
use Rattle.std.specs.Str.{bytes_eq}
use Rattle.std.specs.Prelude.{ℕ, suc, ◌+◌, ◌&&◌, List, [], ◌∷◌, ◌++◌, map, reverse, length, Bool, true, false, not, Option, Some, None, if◌then◌else◌}
use Rattle.std.specs.List.{filter}
use Rattle.std.specs.Ordering.{is_lt}
use Rattle.pub_set.specs.Choices.{numbers_below}
use Rattle.pub_facts.specs.Catalogue.{Lookups, release_at}
use Rattle.pub_facts.specs.Facts.{owner_node}
use Rattle.pub_facts.specs.Numbered.{number_in}
use Rattle.pub_term.specs.Node.{node_cmp, package_of}
use Rattle.pub_term.specs.declared.node.NodeName.{NodeName}
use Rattle.pub_term.specs.declared.node.NodeName.TheVariants.{Root, RootTrait, Package, PackageTrait}
use Rattle.pub_term.specs.declared.term.Term.{Term}
use Rattle.pub_trail.specs.First.{chosen}
use Rattle.pub_trail.specs.Required.{is_open, loaded_facts}
use Rattle.pub_trail.specs.Trail.{allows, is_decided}
use Rattle.pub_trail.specs.Turn.{Next, State, or_some, when_true}
use Rattle.pub_trail.specs.declared.trail.Assigned.{Assigned}
use Rattle.spm_version.specs.Release.{Parts}
use Rattle.spm_version.specs.ReleaseLaws.{release_eq}
use Rattle.pub_plain.specs.Loading.{is_package}

-- ---- the least node that passes, in node order: the root, its traits, then the packages, each before its traits

abbrev pub is_trait : NodeName → Bool
is_trait Root = false
is_trait (RootTrait name) = true
is_trait (Package identity) = false
is_trait (PackageTrait identity name) = true

-- of two numbered names the lesser
abbrev pub lesser : Option (ℕ × NodeName) → Option (ℕ × NodeName) → Option (ℕ × NodeName)
lesser None other = other
lesser (Some first) None = Some first
lesser (Some first) (Some second) = if is_lt (node_cmp second.1 first.1) then Some second else Some first

-- the least of the names that pass, where the first has this number
abbrev pub least_from : (ℕ → NodeName → Bool) → ℕ → List NodeName → Option (ℕ × NodeName)
least_from test number [] = None
least_from test number (name ∷ names) = lesser (when_true (test number name) (number, name)) (least_from test (number + 1) names)

-- ---- what is required

-- the number of the owner of a trait; a package and the root own themselves
abbrev pub owner_number : List NodeName → NodeName → ℕ
owner_number names name = number_in names (owner_node (package_of name))

-- an open trait whose owner is decided
abbrev pub is_ready : List NodeName → List (List Term) → List Assigned → ℕ → NodeName → Bool
is_ready names facts trail number name = is_trait name && (is_open facts trail number && is_decided trail (owner_number names name))

-- an open package
abbrev pub is_needed : List (List Term) → List Assigned → ℕ → NodeName → Bool
is_needed facts trail number name = is_package name && is_open facts trail number

abbrev pub next_node : List NodeName → List (List Term) → List Assigned → Option (ℕ × NodeName)
next_node names facts trail = or_some (least_from (is_ready names facts trail) 0 names) (least_from (is_needed facts trail) 0 names)

-- ---- preference: the pinned release if it is a choice, then the others from the greatest down

abbrev pub Pins : Type 0
Pins = List (List ℕ × Parts)

-- the release that is pinned of a package
abbrev pub pin_of : Pins → List ℕ → Option Parts
pin_of [] identity = None
pin_of (pin ∷ pins) identity = if bytes_eq pin.0 identity then Some pin.1 else pin_of pins identity

abbrev pub is_pinned : Option Parts → Option Parts → Bool
is_pinned None release = false
is_pinned (Some pin) None = false
is_pinned (Some pin) (Some release) = release_eq pin release

-- the choices of a list, but none, from the greatest down
abbrev pub choices_down : List Parts → List ℕ
choices_down list = map (λ k. suc k) (reverse (numbers_below (length list)))

abbrev pub ranked_in : Option Parts → List Parts → List ℕ
ranked_in pin list =
    filter (λ k. is_pinned pin (release_at list k)) (choices_down list) ++ filter (λ k. not (is_pinned pin (release_at list k))) (choices_down list)

-- the first number that passes
abbrev pub first_that : (ℕ → Bool) → List ℕ → Option ℕ
first_that test [] = None
first_that test (x ∷ xs) = if test x then Some x else first_that test xs

-- ---- what is next

-- a trait is decided on, and loaded at its owner's choice
abbrev pub next_trait : List NodeName → List Assigned → ℕ → NodeName → Next
next_trait names trail number name = record {
  node = number;
  choice = 1;
  place = record { node = number; choice = chosen trail (owner_number names name) };
}

-- a package is loaded at the choice that it is decided on
abbrev pub next_package : ℕ → Option ℕ → Option Next
next_package number None = None
next_package number (Some choice) = Some (record { node = number; choice = choice; place = record { node = number; choice = choice } })

abbrev pub next_named : Pins → Lookups → List NodeName → List Assigned → ℕ → NodeName → Option Next
next_named pins l names trail number Root = None
next_named pins l names trail number (RootTrait name) = Some (next_trait names trail number (RootTrait name))
next_named pins l names trail number (Package identity) =
    next_package number (first_that (allows trail number) (ranked_in (pin_of pins identity) (l.list identity)))
next_named pins l names trail number (PackageTrait identity name) = Some (next_trait names trail number (PackageTrait identity name))

abbrev pub next_at : Pins → Lookups → List NodeName → List Assigned → Option (ℕ × NodeName) → Option Next
next_at pins l names trail None = None
next_at pins l names trail (Some found) = next_named pins l names trail found.0 found.1

abbrev pub next_in : Pins → Lookups → State → Option Next
next_in pins l state =
    next_at pins l state.names state.trail (next_node state.names (loaded_facts state.incompats state.origins) state.trail)
