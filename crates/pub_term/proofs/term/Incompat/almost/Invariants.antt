use Rattle.std.proofs.Common.{◌≡◌, ◌++◌, not, drop}
use Rattle.std.specs.List.{filter}
use Rattle.std.specs.Option.{option_copied, option_to_list}
use Rattle.pub_term.specs.Known.{AreKnown, is_held}
use Rattle.pub_term.proofs.term.Incompat.almost.Given as goal

-- the term that is remembered and the terms that are left have all that aren't held
abbrev pub invariant-loop-term : goal.invariant-loop-term
invariant-loop-term l = record {
  known_open : AreKnown l.known (option_to_list (option_copied l.open));
  known_left : AreKnown l.known (drop l.term-index l.term-items);
  left :
      option_to_list (option_copied l.open) ++ filter (λ term. not (is_held l.known term)) (drop l.term-index l.term-items)
      ≡ filter (λ term. not (is_held l.known term)) l.self.terms;
}
