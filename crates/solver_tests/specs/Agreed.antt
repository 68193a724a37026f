-- What a resolution asks of the sets on a node that both incompatibilities name.
use Rattle.std.specs.Prelude.{◌≡◌, ◌≢◌, ℕ, List, Option, Some, true}
use Rattle.pub_set.specs.Choices.{ChoiceSet, do_meet}
use Rattle.pub_term.specs.Term.{set_at}
use Rattle.pub_term.specs.declared.term.Term.{Term}

-- a term and the other list's set on its node, where it has one
abbrev pub Fits : Term → Option ChoiceSet → ℕ → Type 0
Fits term other on =
    (set : ChoiceSet) → other ≡ Some set → (term.choices.size ≡ set.size) × (term.node ≢ on → do_meet term.choices set ≡ true)

-- all terms of a list, and the other list's sets
abbrev pub Agree : List Term → List Term → ℕ → Type 0
Agree first second on = (node : ℕ) (a b : ChoiceSet) → set_at first node ≡ Some a → set_at second node ≡ Some b
    → (a.size ≡ b.size) × (node ≢ on → do_meet a b ≡ true)
