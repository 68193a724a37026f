use Rattle.std.proofs.Common.{◌≡◌, ◌++◌, ◌<◌, length, not, drop}
use Rattle.std.specs.List.{filter}
use Rattle.std.specs.Option.{option_copied, option_to_list}
use Rattle.std.specs.List.{All}
use Rattle.pub_term.specs.declared.term.Term.{Term}
use Rattle.pub_trail.specs.Required.{decision_in, is_kept}
use Rattle.pub_trail.proofs.required.required_in.Given as goal

-- the term that is remembered and the terms that are left have all that aren't kept
abbrev pub invariant-loop-term : goal.invariant-loop-term
invariant-loop-term l = record {
  among : All (λ (term : Term). term.node < length l.decisions) (option_to_list (option_copied l.missing));
  left :
      option_to_list (option_copied l.missing) ++ filter (λ term. not (is_kept (decision_in l.decisions term.node) term)) (drop l.term-index l.term-items)
      ≡ filter (λ term. not (is_kept (decision_in l.decisions term.node) term)) l.fact.terms;
}
