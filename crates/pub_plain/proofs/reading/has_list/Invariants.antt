use Rattle.std.proofs.Common.{◌≡◌, drop}
use Rattle.std.specs.Prelude.{is_some}
use Rattle.pub_plain.specs.Given.{list_given}
use Rattle.pub_plain.proofs.reading.has_list.Given as goal

abbrev pub invariant-loop-package : goal.invariant-loop-package
invariant-loop-package l = is_some (list_given (drop l.package-index l.lists) l.identity) ≡ is_some (list_given l.lists l.identity)
