use Rattle.std.proofs.Common.{◌∙◌, ◌≤◌, ◌-◌, ◌++◌, ap, arith, drop, length, take}
use Rattle.std.proofs.lemmas.Result.{err_from_is_err_and}
use Rattle.spm_outside.proofs.ExchangeLemmas.{front_of, left_at_end, length_more, read_more, read_to_end, sums_add, whole_again, within_limit}
use Rattle.spm_outside.proofs.link.read_all.Goals as goal

pub loop-piece-preserved : goal.loop-piece-preserved
loop-piece-preserved g c =
    let inv = c.loop-piece.invariant in
    let read = c.in_ok-count.ensures in
    let bytes = c.loop-piece.bytes.items in
    let piece = c.read.new.piece in
    let count = c.in_ok-count.count in
    let wanted = c.min-wanted.result in
    let same = c.in_ok-extend_from_slice.ensures.items ∙ ap (λ more. bytes ++ more) (front_of count piece (drop wanted c.loop-piece.piece) read.rest.1) in
    let small : wanted ≤ c.args.limit - length bytes = grind (arith, c.min-wanted.ensures) in
    record {
      within = rw same (within_limit bytes piece c.loop-piece.piece count wanted c.args.limit read.rest.1 c.read.auto.piece small inv.within);
      piece = whole_again piece c.loop-piece.piece wanted c.read.auto.piece ∙ inv.piece;
      book = read.book ∙ inv.book;
      calls = read.calls ∙ inv.calls;
      faults = read.faults ∙ inv.faults;
      taken = rw same (sums_add _ _ _ _ _ _ inv.taken read.taken (length_more bytes piece count read.rest.1));
      rest = rw same (read_more bytes piece count _ _ _ inv.rest read.rest);
    }

pub returns-then-count-eq0-clause-response : goal.returns-then-count-eq0-clause-response
returns-then-count-eq0-clause-response g c =
    rw c.from_vec.ensures
    (read_to_end c.loop-piece.bytes.items c.read.new.piece c.args.limit _ _ _ c.loop-piece.invariant.rest c.loop-piece.invariant.within
    (rw c.if-count-eq0.true at c.in_ok-count.ensures.rest))

pub returns-then-count-eq0-clause-rest : goal.returns-then-count-eq0-clause-rest
returns-then-count-eq0-clause-rest g c =
    left_at_end c.loop-piece.bytes.items c.read.new.piece c.args.limit _ _ _ c.loop-piece.invariant.rest c.loop-piece.invariant.within
    (rw c.if-count-eq0.true at c.in_ok-count.ensures.rest)

pub returns-in_err-extend_from_slice-clause-rest : goal.returns-in_err-extend_from_slice-clause-rest
returns-in_err-extend_from_slice-clause-rest g c =
    let inv = c.loop-piece.invariant in
    let read = c.in_ok-count.ensures in
    let bytes = c.loop-piece.bytes.items in
    let piece = c.read.new.piece in
    let count = c.in_ok-count.count in
    let wanted = c.min-wanted.result in
    let small : wanted ≤ c.args.limit - length bytes = grind (arith, c.min-wanted.ensures) in
    let exit = err_from_is_err_and c.from_residual-in_err-extend_from_slice.result c.from_residual-in_err-extend_from_slice.ensures.1 in
    rw exit.1 (
      length (bytes ++ take count piece),
      within_limit bytes piece c.loop-piece.piece count wanted c.args.limit read.rest.1 c.read.auto.piece small inv.within,
      (read_more bytes piece count _ _ _ inv.rest read.rest).left_is,
    )

pub returns-in_err-extend_from_slice-clause-taken : goal.returns-in_err-extend_from_slice-clause-taken
returns-in_err-extend_from_slice-clause-taken g c =
    let inv = c.loop-piece.invariant in
    let read = c.in_ok-count.ensures in
    let bytes = c.loop-piece.bytes.items in
    let piece = c.read.new.piece in
    let count = c.in_ok-count.count in
    let small : c.min-wanted.result ≤ c.args.limit - length bytes = grind (arith, c.min-wanted.ensures) in (
      length (bytes ++ take count piece),
      within_limit bytes piece c.loop-piece.piece count c.min-wanted.result c.args.limit read.rest.1 c.read.auto.piece small inv.within,
      sums_add _ _ _ _ _ _ inv.taken read.taken (length_more bytes piece count read.rest.1),
    )
