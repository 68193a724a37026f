use Rattle.std.proofs.Common.{◌≡◌, drop}
use Rattle.std.specs.List.{list_any}
use Rattle.pub_proof.specs.Checks.{terms_of}
use Rattle.pub_proof.specs.Same.{same_terms}
use Rattle.pub_proof.proofs.fact.is_among.Given as goal

abbrev pub invariant-loop-fact : goal.invariant-loop-fact
invariant-loop-fact l =
    list_any (same_terms l.incompat.terms) (terms_of (drop l.fact-index l.facts))
    ≡ list_any (same_terms l.incompat.terms) (terms_of l.facts)
