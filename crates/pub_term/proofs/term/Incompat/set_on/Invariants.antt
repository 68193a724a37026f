use Rattle.std.proofs.Common.{◌≡◌, drop}
use Rattle.pub_term.specs.Term.{set_at}
use Rattle.pub_term.proofs.term.Incompat.set_on.Given as goal

-- the node's set stands among the terms that are left
abbrev pub invariant-loop-term : goal.invariant-loop-term
invariant-loop-term l = set_at (drop l.term-index l.term-items) l.node ≡ set_at l.self.terms l.node
