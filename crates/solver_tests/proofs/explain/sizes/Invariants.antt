use Rattle.std.proofs.Common.{◌≡◌, ◌++◌, drop, length, map}
use Rattle.solver_tests.proofs.explain.sizes.Given as goal

abbrev pub invariant-loop-texts : goal.invariant-loop-texts
invariant-loop-texts g l = l.sizes ++ map length (drop l.texts-index l.choices) ≡ map length l.choices
