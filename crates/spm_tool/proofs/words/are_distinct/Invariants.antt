use Rattle.std.proofs.Common.{◌≡◌, length, map, string_bytes}
use Rattle.spm_tool.specs.Words.{are_distinct}
use Rattle.spm_tool.proofs.words.are_distinct.Given as goal

-- the roots so far are named once
abbrev pub invariant-loop-rest : goal.invariant-loop-rest
invariant-loop-rest l = are_distinct (map string_bytes l.rest) ≡ are_distinct (map string_bytes l.roots)

abbrev pub decreases-loop-rest : goal.decreases-loop-rest
decreases-loop-rest l = length l.rest
