use Rattle.std.proofs.Common.{◌≤◌, ◌∙◌, ◌-◌, ◌++◌, Err, ap, arith, drop, inr, length, subst, take}
use Rattle.spm_http.specs.Request.{ReadsHead}
use Rattle.spm_http.specs.declared.request_head.HttpFault.TheVariants as fault
use Rattle.spm_outside.proofs.ExchangeLemmas.{front_of, whole_again, within_limit}
use Rattle.spm_server.proofs.ServingLemmas.{in_time, one_piece, still_in_time, told_more}
use Rattle.spm_server.proofs.serving.take_request.Goals as goal

pub returns-in_err-count-clause-in_time : goal.returns-in_err-count-clause-in_time
returns-in_err-count-clause-in_time g c =
    let inv = c.loop-alloc.invariant in
    still_in_time c.loop-alloc.request.items _ _ inv.taken c.in_err-count.ensures.taken inv.unfinished

pub returns-then-count-eq0-clause-in_time : goal.returns-then-count-eq0-clause-in_time
returns-then-count-eq0-clause-in_time g c =
    let inv = c.loop-alloc.invariant in
    in_time c.loop-alloc.request.items (take c.in_ok-count.count c.read.new.piece) _ _ inv.taken c.in_ok-count.ensures.taken
    (one_piece c.in_ok-count.count c.min-wanted.result c.read.new.piece c.loop-alloc.piece c.in_ok-count.ensures.rest.1 c.read.auto.piece inv.piece) inv.unfinished

pub returns-in_err-extend_from_slice-clause-in_time : goal.returns-in_err-extend_from_slice-clause-in_time
returns-in_err-extend_from_slice-clause-in_time g c =
    let inv = c.loop-alloc.invariant in
    in_time c.loop-alloc.request.items (take c.in_ok-count.count c.read.new.piece) _ _ inv.taken c.in_ok-count.ensures.taken
    (one_piece c.in_ok-count.count c.min-wanted.result c.read.new.piece c.loop-alloc.piece c.in_ok-count.ensures.rest.1 c.read.auto.piece inv.piece) inv.unfinished

pub returns-in_err-is_settled-clause-in_time : goal.returns-in_err-is_settled-clause-in_time
returns-in_err-is_settled-clause-in_time g c =
    let inv = c.loop-alloc.invariant in
    in_time c.loop-alloc.request.items (take c.in_ok-count.count c.read.new.piece) _ _ inv.taken c.in_ok-count.ensures.taken
    (one_piece c.in_ok-count.count c.min-wanted.result c.read.new.piece c.loop-alloc.piece c.in_ok-count.ensures.rest.1 c.read.auto.piece inv.piece) inv.unfinished

pub returns-then-branch-clause-in_time : goal.returns-then-branch-clause-in_time
returns-then-branch-clause-in_time g c =
    let inv = c.loop-alloc.invariant in
    in_time c.loop-alloc.request.items (take c.in_ok-count.count c.read.new.piece) _ _ inv.taken c.in_ok-count.ensures.taken
    (one_piece c.in_ok-count.count c.min-wanted.result c.read.new.piece c.loop-alloc.piece c.in_ok-count.ensures.rest.1 c.read.auto.piece inv.piece) inv.unfinished

pub loop-alloc-preserved : goal.loop-alloc-preserved
loop-alloc-preserved g c =
    let inv = c.loop-alloc.invariant in
    let read = c.in_ok-count.ensures in
    let request = c.loop-alloc.request.items in
    let piece = c.read.new.piece in
    let count = c.in_ok-count.count in
    let wanted = c.min-wanted.result in
    let same = c.in_ok-extend_from_slice.ensures.items ∙ ap (λ more. request ++ more) (front_of count piece (drop wanted c.loop-alloc.piece) read.rest.1) in
    let small : wanted ≤ 65536 - length request = grind (arith, c.min-wanted.ensures) in
    record {
      within = rw same (within_limit request piece c.loop-alloc.piece count wanted 65536 read.rest.1 c.read.auto.piece small inv.within);
      piece = whole_again piece c.loop-alloc.piece wanted c.read.auto.piece ∙ inv.piece;
      unfinished = inr (subst (ReadsHead (Err fault.Partial)) c.as_slice.ensures.value (c.in_ok-is_settled.ensures.unfinished c.if-branch.false));
      taken = rw same (told_more request (take count piece) _ _ inv.taken read.taken);
      written = read.written ∙ inv.written;
      faults = read.faults ∙ inv.faults;
    }
