use Rattle.std.proofs.Common.{◌∙◌, refl, subst}
use Rattle.spm_server.specs.Answer.{IsAnswer}
use Rattle.spm_server.proofs.ServingLemmas.{cut_short, nothing_written, stays_whole, written_whole}
use Rattle.spm_server.proofs.serving.serve_connection.Goals as goal

pub returns-in_err-request-clause-cut : goal.returns-in_err-request-clause-cut
returns-in_err-request-clause-cut g c = nothing_written _ _ _ _ _ c.take_request.ensures.written

pub returns-in_err-answer-clause-cut : goal.returns-in_err-answer-clause-cut
returns-in_err-answer-clause-cut g c = nothing_written _ _ _ _ _ c.take_request.ensures.written

pub returns-in_err-text-clause-cut : goal.returns-in_err-text-clause-cut
returns-in_err-text-clause-cut g c = nothing_written _ _ _ _ _ c.take_request.ensures.written

pub returns-in_err-send-clause-cut : goal.returns-in_err-send-clause-cut
returns-in_err-send-clause-cut g c =
    let is = subst (λ request. IsAnswer c.args.shelf.now request c.in_ok-answer.answer) c.as_slice.ensures.value c.in_ok-answer.ensures in
    cut_short _ c.args.shelf.now c.in_ok-request.request.items c.in_ok-answer.answer c.as_slice-2.result.now _ _ _ _ _ is
    (c.as_slice-2.ensures ∙ c.in_ok-text.ensures)
    c.in_ok-request.ensures.taken c.in_err-send.ensures.taken c.take_request.ensures.written c.in_err-send.ensures.written

pub returns-clause-whole : goal.returns-clause-whole
returns-clause-whole g c =
    stays_whole c.in_ok-request.request.items _ _ _ _ c.in_ok-request.ensures.taken c.in_ok-request.ensures.whole c.in_ok-send.ensures.taken
    c.in_ok-send.ensures.rest

pub returns-clause-answered : goal.returns-clause-answered
returns-clause-answered g c =
    let is = subst (λ request. IsAnswer c.args.shelf.now request c.in_ok-answer.answer) c.as_slice.ensures.value c.in_ok-answer.ensures in
    written_whole c.args.shelf.now c.in_ok-request.request.items c.in_ok-answer.answer c.as_slice-2.result.now _ _ _ _ _ _ is
    (c.as_slice-2.ensures ∙ c.in_ok-text.ensures) refl
    c.in_ok-request.ensures.taken c.in_ok-send.ensures.taken c.take_request.ensures.written c.in_ok-send.ensures.written
