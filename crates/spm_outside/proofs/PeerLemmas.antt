-- The bytes that a peer in memory hands over.
use Rattle.std.proofs.Common.{◌≡◌, ℕ, ◌+◌, ◌≤◌, List, ◌++◌, length, take, drop, sym, ap, ◌∙◌, arith}
use Rattle.std.proofs.Math.Seq.{take-add}
use Rattle.std.proofs.lemmas.List.{length-take-le, take-append-le, take_all}

-- the piece begins with a copy of the bytes that are left
pub taken_more : (bytes copied behind : List ℕ) (taken count : ℕ) → count ≤ length (drop taken bytes) → copied ≡ take count (drop taken bytes)
    → take (taken + count) bytes ≡ take taken bytes ++ take count (copied ++ behind)
taken_more bytes copied behind taken count within copy =
    let long = ap length copy ∙ length-take-le count (drop taken bytes) within in
    take-add taken count bytes
    ∙ ap (λ more. take taken bytes ++ more)
    (sym (take-append-le count copied behind (omega (arith, long)) ∙ take_all count copied (omega (arith, long)) ∙ copy))
