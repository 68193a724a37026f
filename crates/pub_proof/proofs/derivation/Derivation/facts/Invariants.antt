use Rattle.std.proofs.Common.{◌≡◌, ◌++◌, drop}
use Rattle.pub_proof.specs.Checks.{own_facts, terms_of}
use Rattle.pub_proof.proofs.derivation.Derivation.facts.Given as goal

abbrev pub invariant-loop-line : goal.invariant-loop-line
invariant-loop-line l = terms_of l.facts ++ own_facts (drop l.line-index l.line-items) ≡ own_facts l.self.lines
