use Rattle.std.proofs.Common.{◌≡◌, ◌++◌, drop}
use Rattle.std.specs.List.{flat_map}
use Rattle.spm_server.specs.Pages.{entries_for}
use Rattle.spm_server.proofs.pages.book.Given as goal

abbrev pub invariant-loop-key : goal.invariant-loop-key
invariant-loop-key l = l.entries.items ++ flat_map (entries_for l.shelf l.base) (drop l.key-index l.key-items) ≡ flat_map (entries_for l.shelf l.base) l.key-items
