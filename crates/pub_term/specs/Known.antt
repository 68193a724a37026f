-- What is known of each node: a set of choices that are left for it.
use Rattle.std.specs.Prelude.{◌≡◌, ℕ, ◌<◌, List, [], ◌∷◌, length, Bool, true, not, slice_index_or, Option, Some, None, if◌then◌else◌}
use Rattle.std.specs.List.{filter, list_all}
use Rattle.pub_set.specs.Choices.{ChoiceSet, do_meet, has, is_within, no_choices}
use Rattle.pub_term.specs.declared.term.Term.{Term}

abbrev pub known_at : List ChoiceSet → ℕ → ChoiceSet
known_at known node = slice_index_or known node (no_choices 0)

-- there is a set of the right size for each node that is named
abbrev pub AreKnown : List ChoiceSet → List Term → Type 0
AreKnown known [] = Unit {0}
AreKnown known (term ∷ terms) = (term.node < length known) × ((known_at known term.node).size ≡ term.choices.size) × AreKnown known terms

-- an assignment's choice on each node is one of those that are left
abbrev pub LiesIn : (ℕ → ℕ) → List ChoiceSet → Type 0
LiesIn assignment known = (node : ℕ) → node < length known → has (known_at known node) (assignment node) ≡ true

-- what is known lies within the term's set
abbrev pub is_held : List ChoiceSet → Term → Bool
is_held known term = is_within (known_at known term.node) term.choices

-- each term is held
abbrev pub holds : List ChoiceSet → List Term → Bool
holds known terms = list_all (is_held known) terms

abbrev pub the_one : List ChoiceSet → List Term → Option ℕ
the_one known [] = None
the_one known (term ∷ []) = if do_meet (known_at known term.node) term.choices then Some term.node else None
the_one known (term ∷ next ∷ terms) = None

-- the node of the one term that isn't held, if what is known meets it
abbrev pub almost_on : List ChoiceSet → List Term → Option ℕ
almost_on known terms = the_one known (filter (λ term. not (is_held known term)) terms)
