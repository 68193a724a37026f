use Rattle.std.proofs.Common.{◌≡◌, ◌++◌, ◌∷◌, All, ap, ◌∙◌, map, subst, sym, rules}
use Rattle.std.specs.Vec.Iter.{into_iter_items}
use Rattle.pub_facts.specs.Merging.{HaveSizes}
use Rattle.pub_facts.specs.Numbered.{number_in, numbered, term_of}
use Rattle.pub_facts.specs.declared.fact.Fact.{Fact}
use Rattle.pub_facts.proofs.LoopLemmas.{first_of_all, numbered_step, rest_of_all}
use Rattle.pub_facts.proofs.numbering.numbered.Goals as goal

pub loop-fact-init : goal.loop-fact-init
loop-fact-init c =
    let items : into_iter_items c.into_iter-fact-iterator.result ≡ c.args.written = search rules in
    record {
      rest = ap (λ facts. facts ++ numbered (number_in c.args.known.now.nodes) (into_iter_items c.into_iter-fact-iterator.result)) c.new-facts.ensures
          ∙ ap (numbered (number_in c.args.known.now.nodes)) items;
      left = subst (All (λ (one : Fact). HaveSizes (map (term_of (number_in c.args.known.now.nodes)) one.terms))) (sym items) c.requires.sized;
    }

pub caused-requires-clause-sized : goal.caused-requires-clause-sized
caused-requires-clause-sized c =
    first_of_all (λ (one : Fact). HaveSizes (map (term_of (number_in c.args.known.now.nodes)) one.terms)) c.in-Some.fact (into_iter_items c.next.new.self)
    (into_iter_items c.loop-fact.fact-iterator) c.in-Some.ensures.steps.0 c.loop-fact.invariant.left

pub loop-fact-preserved : goal.loop-fact-preserved
loop-fact-preserved c =
    let number = number_in c.args.known.now.nodes in
    record {
      rest = numbered_step number c.loop-fact.facts c.push_found.new.facts c.in-Some.fact (into_iter_items c.next.new.self) c.in_ok-found.found
          c.in_ok-found.ensures c.in_ok-push_found.ensures
          ∙ (ap (λ items. c.loop-fact.facts ++ numbered number items) (sym c.in-Some.ensures.steps.0) ∙ c.loop-fact.invariant.rest);
      left = rest_of_all (λ (one : Fact). HaveSizes (map (term_of number) one.terms)) c.in-Some.fact (into_iter_items c.next.new.self)
          (into_iter_items c.loop-fact.fact-iterator) c.in-Some.ensures.steps.0 c.loop-fact.invariant.left;
    }
