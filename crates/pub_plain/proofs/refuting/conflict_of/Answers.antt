use Rattle.std.proofs.Common.{◌∙◌, ap, arith, length}
use Rattle.pub_plain.specs.Kept.{Kept}
use Rattle.pub_plain.proofs.RefutedLemmas.{conflict_same, entries_of, newest_asked, newest_terms, newest_within}
use Rattle.pub_plain.proofs.refuting.conflict_of.Goals as goal

pub index-requires : goal.index-requires
index-requires c =
    let below = newest_within c.args.lists.now c.args.first c.requires.found in
    omega (arith, below, c.lists.inside.incompats.ok.0, ap (λ (k : Kept). length k.incompats) c.lists.view_is)

pub walk_down-requires-clause-entries : goal.walk_down-requires-clause-entries
walk_down-requires-clause-entries c =
    entries_of c.args.told.now c.args.lists.now _ c.deref.result.now c.deref-3.result.now c.requires.turning c.lists.view_is c.deref.ensures.value
    c.deref-3.ensures.value

pub walk_down-requires-clause-asked : goal.walk_down-requires-clause-asked
walk_down-requires-clause-asked c =
    newest_asked c.args.told.now c.args.lists.now _ c.deref.result.now c.deref-2.result.now c.deref-3.result.now c.args.first c.index.result.now.terms
    c.requires.turning c.lists.view_is c.deref.ensures.value c.deref-2.ensures.value c.deref-3.ensures.value c.requires.found
    (newest_terms c.args.lists.now _ c.args.first c.index.result.now c.lists.view_is c.index.ensures c.requires.found)

pub returns : goal.returns
returns c =
    c.in_ok-ending.ensures
    ∙ conflict_same c.args.lists.now _ c.deref.result.now c.deref-2.result.now c.deref-3.result.now c.args.first c.index.result.now.terms c.lists.view_is
    c.deref.ensures.value c.deref-2.ensures.value c.deref-3.ensures.value
    (newest_terms c.args.lists.now _ c.args.first c.index.result.now c.lists.view_is c.index.ensures c.requires.found)
