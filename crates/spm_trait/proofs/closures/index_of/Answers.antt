use Rattle.std.proofs.Common.{ap, ◌∙◌, reverse}
use Rattle.std.proofs.lemmas.Iterator.Adapters.{YieldsList-from_rev_slice}
use Rattle.std.proofs.lemmas.Iterator.Consumers.{YieldsList-end}
use Rattle.std.proofs.lemmas.List.{reverse-reverse}
use Rattle.std.proofs.lemmas.Map.Text.{btree_map_updates_str}
use Rattle.spm_trait.proofs.IndexLemmas.{IsIndex-put, passed, passed_push}
use Rattle.spm_trait.proofs.closures.index_of.Goals as goal

pub loop-entry-preserved : goal.loop-entry-preserved
loop-entry-preserved c =
    let entry = c.in-Some.entry.now in
    rw (passed_push c.loop-entry.yielded c.in-Some.entry)
    (IsIndex-put entry (passed c.loop-entry.yielded) c.loop-entry.index c.insert.new.self c.as_slice.result c.as_slice.ensures
    (btree_map_updates_str entry.name c.loop-entry.index c.insert.new.self _ c.in_ok-insert.ensures.updates)
    c.loop-entry.invariant)

pub returns : goal.returns
returns c =
    let entries = c.args.entries.now in
    let chain = YieldsList-from_rev_slice {s = c.into_iter-entry-iterator.result} entries cc in
    let end = YieldsList-end chain c.loop-entry.yielded _ c.loop-entry.yielded_by _ _ c.in-None.is c.next.ensures.steps in
    rw (ap reverse end.0 ∙ reverse-reverse entries) at c.loop-entry.invariant
