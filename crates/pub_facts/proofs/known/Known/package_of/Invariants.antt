use Rattle.std.proofs.Common.{◌≡◌, drop}
use Rattle.pub_facts.specs.Known.{package_in}
use Rattle.pub_facts.proofs.known.Known.package_of.Given as goal

abbrev pub invariant-loop-known : goal.invariant-loop-known
invariant-loop-known l = package_in (drop l.known-index l.self.urls) l.url ≡ package_in l.self.urls l.url
