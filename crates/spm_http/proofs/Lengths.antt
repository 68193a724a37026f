-- A number read digit by digit.
use Rattle.std.proofs.Common.{ℕ, ◌+◌, ◌*◌, ◌^◌, ◌<◌, ◌≤◌, arith, lit<}
use Rattle.std.proofs.Math.Nat.{pow-le-pow_right}

-- a number of at most 18 digits has room for one more
pub room : (value index : ℕ) → value < 10 ^ index → index < 19 → value * 10 + 9 < 2 ^ 64
room value index below within =
    let less : index ≤ 18 = omega arith in
    let most = pow-le-pow_right {n = 10} (lit< tt) less in
    omega (arith, most)
