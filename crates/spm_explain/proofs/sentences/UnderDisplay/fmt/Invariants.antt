use Rattle.std.proofs.Common.{◌++◌, codes, take}
use Rattle.std.specs.Fmt.{HasWritten, IsPlainFormatter}
use Rattle.std.specs.List.{flat_map}
use Rattle.spm_explain.proofs.sentences.UnderDisplay.fmt.Given as goal

abbrev pub invariant-loop-name : goal.invariant-loop-name
invariant-loop-name g l = IsPlainFormatter l.initial.f
    → HasWritten g.W.Write.write_str_gives l.initial.f (flat_map (λ name. codes " and " ++ name) (take l.name-index l.others)) l.f
