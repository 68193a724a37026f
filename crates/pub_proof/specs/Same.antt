-- Incompatibilities with equal terms.
use Rattle.std.specs.Prelude.{Bool, List}
use Rattle.std.specs.Cmp.Lexicographic.{pointwise}
use Rattle.pub_term.specs.TermLaws.{same_term}
use Rattle.pub_term.specs.declared.term.Term.{Term}

abbrev pub same_terms : List Term → List Term → Bool
same_terms first second = pointwise same_term first second
