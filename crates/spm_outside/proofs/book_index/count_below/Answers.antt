use Rattle.std.proofs.Common.{rules}
use Rattle.std.proofs.lemmas.List.Sorted.{IsPartitionPoint-from_clause}
use Rattle.spm_outside.proofs.BookLemmas.{IsPartitionedBy-is_below}
use Rattle.spm_outside.specs.BookOrder.{is_below}
use Rattle.spm_outside.proofs.book_index.count_below.Goals as goal

pub returns : goal.returns
returns c =
    let entries = c.args.entries.now in
    let to = c.args.to.now in
    let request = c.args.request.now in
    let places = c.args.places.now in
    IsPartitionPoint-from_clause (is_below entries to request) places _ c.partition_point.ensures.partitioned
    (IsPartitionedBy-is_below entries to request places c.requires) (λ a r q k. search rules)
