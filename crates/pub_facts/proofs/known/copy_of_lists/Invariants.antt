use Rattle.std.proofs.Common.{◌≡◌, take}
use Rattle.pub_facts.proofs.known.copy_of_lists.Given as goal

abbrev pub invariant-loop-identity : goal.invariant-loop-identity
invariant-loop-identity l = l.copy ≡ take l.identity-index l.lists
