use Rattle.std.proofs.Common.{◌≡◌, ◌++◌, drop, map}
use Rattle.pub_facts.specs.Facts.{words_ask}
use Rattle.pub_facts.proofs.load.words_clauses.Given as goal

abbrev pub invariant-loop-name : goal.invariant-loop-name
invariant-loop-name l = l.clauses ++ map words_ask (drop l.name-index l.known.asked) ≡ map words_ask l.known.asked
