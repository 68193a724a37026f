-- What a sink has written after several puts.
use Rattle.std.proofs.Common.{◌≡◌, ℕ, ◌+◌, ◌-◌, ◌≤◌, List, ◌++◌, length, take, drop, Option, Some, None, option_map, refl, ap, sym, ◌∙◌, append_assoc, arith, length-drop}
use Rattle.std.proofs.Math.Seq.{take-add}
use Rattle.std.proofs.lemmas.List.{take_rest}

-- a put of the bytes that are left takes no more than them
pub within_more : (bytes : List ℕ) (done count : ℕ) → done ≤ length bytes → count ≤ length (take (length bytes - done) (drop done bytes)) → done + count ≤ length bytes
within_more bytes done count within takes =
    let rest : count ≤ length (drop done bytes) = rw take_rest at takes in
    omega (arith, length-drop done bytes)

-- two pieces in a row are one longer piece
both_written : (written : Option (List ℕ)) (bytes : List ℕ) (done count : ℕ) → option_map (λ old. old ++ take count (drop done bytes)) (option_map (λ old. old ++ take done bytes) written) ≡ option_map (λ old. old ++ take (done + count) bytes) written
both_written None bytes done count = refl
both_written (Some old) bytes done count =
    ap (λ new. Some new) (append_assoc old (take done bytes) (take count (drop done bytes)) ∙ ap (λ more. old ++ more) (sym (take-add done count bytes)))

-- it adds them to what is written
pub written_more : (first before after : Option (List ℕ)) (bytes : List ℕ) (done count : ℕ) → before ≡ option_map (λ old. old ++ take done bytes) first → after ≡ option_map (λ old. old ++ take count (take (length bytes - done) (drop done bytes))) before → after ≡ option_map (λ old. old ++ take (done + count) bytes) first
written_more first before after bytes done count so_far put =
    put
    ∙ ap (λ rest. option_map (λ old. old ++ take count rest) before) (take_rest bytes done)
    ∙ ap (option_map (λ old. old ++ take count (drop done bytes))) so_far
    ∙ both_written first bytes done count
