-- What is almost satisfied, by the choices that are kept for each node.
use Rattle.std.specs.Prelude.{ℕ, ◌+◌, List, [], ◌∷◌, not, Option, Some, None, if◌then◌else◌}
use Rattle.std.specs.List.{filter}
use Rattle.pub_set.specs.Choices.{ChoiceSet, do_meet}
use Rattle.pub_term.specs.Known.{is_held, known_at}
use Rattle.pub_term.specs.declared.term.Term.{Term}
use Rattle.pub_trail.specs.Turn.{Forced, forced_by, or_some}

-- the one term, if what is kept for its node meets it
abbrev pub the_one : List ChoiceSet → List Term → Option Term
the_one known [] = None
the_one known (term ∷ []) = if do_meet (known_at known term.node) term.choices then Some term else None
the_one known (term ∷ next ∷ terms) = None

-- the one term that isn't held, if what is kept for its node meets it
abbrev pub kept_almost : List ChoiceSet → List Term → Option Term
kept_almost known terms = the_one known (filter (λ term. not (is_held known term)) terms)

-- the newest incompatibility that is almost satisfied, where the first has this number
abbrev pub kept_forced : List ChoiceSet → ℕ → List (List Term) → Option Forced
kept_forced known number [] = None
kept_forced known number (terms ∷ others) = or_some (kept_forced known (number + 1) others) (forced_by number (kept_almost known terms))
