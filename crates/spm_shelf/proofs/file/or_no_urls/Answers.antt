use Rattle.std.specs.List.Sorted.{IsStrictlySortedBy}
use Rattle.spm_shelf.proofs.file.or_no_urls.Goals as goal

pub invariant_of-result : goal.invariant_of-result
unfolding IsStrictlySortedBy
invariant_of-result c = rw c.new.ensures tt
