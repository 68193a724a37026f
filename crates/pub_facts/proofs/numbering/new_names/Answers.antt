use Rattle.std.proofs.Common.{◌≡◌, ◌+◌, ◌++◌, ◌∷◌, ap, ◌∙◌, drop, sym, rules}
use Rattle.pub_facts.specs.Numbered.{new_names, written_nodes}
use Rattle.pub_facts.proofs.ListSteps.{drop_next}
use Rattle.pub_facts.proofs.NamedLemmas.{named_step}
use Rattle.pub_facts.proofs.numbering.new_names.Goals as goal

pub loop-fact-preserved : goal.loop-fact-preserved
loop-fact-preserved c =
    let rest = drop (c.loop-fact.fact-index + 1) c.args.facts.now in
    let split : drop c.loop-fact.fact-index c.args.facts.now ≡ c.fact-item.result ∷ rest
    = drop_next c.args.facts.now c.loop-fact.fact-index c.fact-item.result c.loop-fact-test.true (sym c.fact-item.is) in
    sym (named_step c.args.known.now c.loop-fact.names c.push_names.new.names c.fact-item.result rest (search rules))
    ∙ (ap (λ left. c.loop-fact.names ++ new_names (c.args.known.now ++ c.loop-fact.names) (written_nodes left)) (sym split) ∙ c.loop-fact.invariant)
