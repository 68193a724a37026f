use Rattle.std.proofs.Common.{◌≡◌, drop}
use Rattle.pub_facts.specs.Known.{list_in}
use Rattle.pub_facts.proofs.known.Known.list_of.Given as goal

abbrev pub invariant-loop-package : goal.invariant-loop-package
invariant-loop-package l = list_in (drop l.package-index l.self.lists) l.identity ≡ list_in l.self.lists l.identity
