use Rattle.std.proofs.Common.{◌≡◌, ◌+◌, ◌==◌, ◌++◌, ◌<◌, true, false, length, nat_lt, arith, sym, ap, ◌∙◌, List, ℕ, take, length-append, length-take}
use Rattle.std.proofs.lemmas.Bool.Decides.{nat_tests}
use Rattle.spm_http.specs.Chunked.{chunked_body}
use Rattle.spm_http.specs.declared.response_head.Heard.TheVariants.{Whole}
use Rattle.spm_http.proofs.Chunks.{Goes, no_chunk, too_long_chunk, last_chunk, cut_chunk, goes_on}
use Rattle.spm_http.proofs.chunked.read_chunks.Goals as goal
use Rattle.spm_http.proofs.chunked.read_chunks.Goals.{Else-size-limit, In_ok-extend_from_slice-in-Some-split_chunk}

-- with this chunk the body is within the limit
fits : (c : Else-size-limit) → nat_lt c.args.limit (length c.loop-size.body.items + c.in-Some.size) ≡ false
fits c = grind (arith, nat_tests, c.if-size-limit.false, c.len.ensures, c.loop-size.body.ok.0, c.loop-size.invariant.within)

pub returns-then-size-limit : goal.returns-then-size-limit
returns-then-size-limit c =
    let long : nat_lt c.args.limit (length c.loop-size.body.items + c.in-Some.size) ≡ true =
    grind (arith, nat_tests, c.if-size-limit.true, c.len.ensures, c.loop-size.body.ok.0, c.loop-size.invariant.within) in
    sym (too_long_chunk _ _ _ _ _ _ _ (sym c.in-Some.ensures) c.loop-size.invariant.goes long)

pub returns-then-size-eq0 : goal.returns-then-size-eq0
returns-then-size-eq0 c =
    let last : (c.in-Some.size == 0) ≡ true = grind (arith, nat_tests, c.if-size-eq0.true) in
    ap (λ (body : List ℕ). Whole c.args.status body) c.from_vec.ensures
    ∙ sym (last_chunk _ _ _ _ _ _ _ (sym c.in-Some.ensures) c.loop-size.invariant.goes (fits (goal.at.returns-then-size-eq0 c).Else-size-limit) last)

pub returns-in-None : goal.returns-in-None
returns-in-None c =
    let more : (c.in-Some.size == 0) ≡ false = grind (arith, nat_tests, c.if-size-eq0.false) in
    sym (cut_chunk _ _ _ _ _ _ _ (sym c.in-Some.ensures) c.loop-size.invariant.goes (fits (goal.at.returns-in-None c).Else-size-limit) more (sym c.in-None.ensures.rest))

-- what is left behind this chunk, and that it is less
next : (c : In_ok-extend_from_slice-in-Some-split_chunk)
    → Goes c.args.status c.args.limit (c.loop-size.body.items ++ take c.in-Some.size c.in-Some.behind.now) c.in-Some-split_chunk.rest.now
    (chunked_body c.args.status c.args.limit c.args.bytes.now)
    × (length c.in-Some-split_chunk.rest.now < length c.loop-size.left.now)
next c =
    let more : (c.in-Some.size == 0) ≡ false = grind (arith, nat_tests, c.if-size-eq0.false) in
    goes_on _ _ _ _ _ _ _ (sym c.in-Some.ensures) c.loop-size.invariant.goes (fits (goal.at.loop-size-preserved c).Else-size-limit) more
    c.in-Some-split_chunk.rest.now (sym c.in-Some-split_chunk.ensures.rest)

pub loop-size-smaller : goal.loop-size-smaller
loop-size-smaller c = (next c).1

pub loop-size-preserved : goal.loop-size-preserved
loop-size-preserved c =
    let items = c.in_ok-extend_from_slice-in-Some-split_chunk.ensures.items
    ∙ ap (λ (t : List ℕ). c.loop-size.body.items ++ t) c.in-Some-split_chunk.ensures.chunk in
    rw items record {
      within = omega (
        arith,
        length-append c.loop-size.body.items (take c.in-Some.size c.in-Some.behind.now),
        length-take c.in-Some.size c.in-Some.behind.now,
        c.if-size-limit.false,
        c.len.ensures,
        c.loop-size.body.ok.0,
        c.loop-size.invariant.within,
      );
      goes = (next c).0;
    }

pub returns : goal.returns
returns c = sym (no_chunk _ _ _ _ _ c.loop-size.invariant.goes (sym c.in_default.ensures))
