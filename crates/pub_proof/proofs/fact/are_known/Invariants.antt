use Rattle.std.proofs.Common.{◌≡◌, nat_lt, length, drop}
use Rattle.std.specs.List.{list_all}
use Rattle.pub_term.specs.declared.term.Term.{Term}
use Rattle.pub_proof.proofs.fact.are_known.Given as goal

abbrev pub invariant-loop-term : goal.invariant-loop-term
invariant-loop-term l =
    list_all (λ (term : Term). nat_lt term.node (length l.sizes)) (drop l.term-index l.terms)
    ≡ list_all (λ (term : Term). nat_lt term.node (length l.sizes)) l.terms
