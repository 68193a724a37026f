-- The law of equality of terms and of incompatibilities: the same nodes, with the same sets.
use Rattle.std.specs.Prelude.{◌==◌, ◌&&◌, Bool}
use Rattle.std.specs.Cmp.{IsEquivalence, and_equiv, nat_eq_equiv, on_equiv}
use Rattle.std.specs.Cmp.Lexicographic.{lists_equiv, pointwise}
use Rattle.pub_set.specs.Choices.{same_set}
use Rattle.pub_set.specs.ChoicesLaws.{same_set_equiv}
use Rattle.pub_term.specs.declared.term.Term.{Term}
use Rattle.pub_term.specs.declared.term.Incompat.{Incompat}

-- the same node and the same set
abbrev pub same_term : Term → Term → Bool
same_term first second = first.node == second.node && same_set first.choices second.choices

abbrev pub same_terms : Incompat → Incompat → Bool
same_terms first second = pointwise same_term first.terms second.terms

pub same_term_equiv : IsEquivalence same_term
same_term_equiv = and_equiv (on_equiv (λ (term : Term). term.node) nat_eq_equiv) (on_equiv (λ (term : Term). term.choices) same_set_equiv)

pub same_terms_equiv : IsEquivalence same_terms
same_terms_equiv = on_equiv (λ (incompat : Incompat). incompat.terms) (lists_equiv same_term_equiv)
