use Rattle.std.proofs.Common.{◌≡◌, drop}
use Rattle.pub_plain.specs.Given.{package_given}
use Rattle.pub_plain.proofs.reading.package_given.Given as goal

abbrev pub invariant-loop-known : goal.invariant-loop-known
invariant-loop-known l = package_given (drop l.known-index l.urls) l.url ≡ package_given l.urls l.url
