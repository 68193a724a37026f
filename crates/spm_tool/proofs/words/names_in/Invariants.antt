use Rattle.std.proofs.Common.{◌≡◌, [], drop, map}
use Rattle.spm_tool.specs.Words.{names_after}
use Rattle.spm_tool.proofs.words.names_in.Given as goal

abbrev pub invariant-loop-piece : goal.invariant-loop-piece
invariant-loop-piece l =
    names_after l.names (map (λ piece. piece.now) (drop l.piece-index l.pieces)) ≡ names_after [] (map (λ piece. piece.now) l.pieces)
