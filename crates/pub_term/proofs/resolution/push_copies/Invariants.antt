use Rattle.std.proofs.Common.{◌≡◌, ◌++◌, take}
use Rattle.pub_term.proofs.resolution.push_copies.Given as goal

abbrev pub invariant-loop-term : goal.invariant-loop-term
invariant-loop-term l = l.terms ≡ l.initial.terms ++ take l.term-index l.more
