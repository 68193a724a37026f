use Rattle.std.proofs.Common.{◌≡◌, ◌++◌, All, map}
use Rattle.std.specs.Vec.Iter.{into_iter_items}
use Rattle.pub_facts.specs.Merging.{HaveSizes}
use Rattle.pub_facts.specs.Numbered.{number_in, numbered, term_of}
use Rattle.pub_facts.specs.declared.fact.Fact.{Fact}
use Rattle.pub_facts.proofs.numbering.numbered.Given as goal

abbrev pub invariant-loop-fact : goal.invariant-loop-fact
invariant-loop-fact l = record {
  rest : l.facts ++ numbered (number_in l.known.nodes) (into_iter_items l.fact-iterator) ≡ numbered (number_in l.known.nodes) l.fn.written;
  left : All (λ (one : Fact). HaveSizes (map (term_of (number_in l.known.nodes)) one.terms)) (into_iter_items l.fact-iterator);
}
