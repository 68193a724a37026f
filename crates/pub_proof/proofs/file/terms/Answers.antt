use Rattle.std.proofs.Common.{◌∙◌, length, map, rules, suc}
use Rattle.std.proofs.lemmas.List.Sorted.{answers_always}
use Rattle.pub_term.specs.declared.term.Term.{Term}
use Rattle.pub_proof.specs.File.{term_of}
use Rattle.pub_proof.proofs.SortLemmas.{by_node-sorted, numbered_below}
use Rattle.pub_proof.proofs.file.terms.Goals as goal

pub returns : goal.returns
returns c =
    let nodes = c.args.nodes.now in
    let sort = c.in_ok-sort_by_key.ensures in
    c.from_vec.ensures
    ∙ by_node-sorted (suc (length nodes.names)) (map (term_of nodes) c.args.written.now) _
    (numbered_below nodes c.args.written.now) (rw c.in_ok-terms.ensures at sort.permutation)
    (sort.sorted (λ (term : Term). term.node) (answers_always _ _ _ (λ f a r after called. search rules)))
    (rw c.in_ok-terms.ensures at (sort.stable (λ (term : Term). term.node) (answers_always _ _ _ (λ f a r after called. search rules))))
