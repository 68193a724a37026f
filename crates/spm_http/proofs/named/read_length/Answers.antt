use Rattle.std.proofs.Common.{arith}
use Rattle.spm_http.proofs.Lengths.{room}
use Rattle.spm_http.proofs.named.read_length.Goals as goal

pub overflow_mul-said : goal.overflow_mul-said
overflow_mul-said c =
    omega (arith, room c.loop-digit.said c.loop-digit.digit-index c.loop-digit.invariant.below (omega arith))

pub overflow_add-said : goal.overflow_add-said
overflow_add-said c =
    omega (arith, room c.loop-digit.said c.loop-digit.digit-index c.loop-digit.invariant.below (omega arith), c.if-not-is_ascii_digit.ensures.cases)
