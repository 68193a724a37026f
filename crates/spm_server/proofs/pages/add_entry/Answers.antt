use Rattle.std.proofs.Common.{◌≡◌, ◌≤◌, ◌∙◌, ◌++◌, ◌∷◌, [], ap, arith, length, sym, true}
use Rattle.spm_api.specs.Endpoint.{request_for}
use Rattle.spm_server.specs.Answer.{answer_text, content_answer}
use Rattle.spm_server.specs.Pages.{has_plain_version}
use Rattle.spm_server.proofs.PagesLemmas.{entry_is, entry_served, served}
use Rattle.spm_server.proofs.pages.add_entry.Goals as goal

pub returns : goal.returns
returns c =
    let shelf = c.args.shelf.now in
    let base = c.args.base.now in
    let key = c.args.key.now in
    let request = c.in_ok-request.ensures in
    let short : length (request_for base key) ≤ 65536 = omega (arith, ap length (c.as_slice.ensures ∙ request), c.if-as_slice-gt-MAX_HEAD.false) in
    let plain : has_plain_version key ≡ true = sym c.in_ok-has_plain_version.ensures ∙ c.if-not-branch.false in
    let answer = c.in_ok-response.ensures ∙ ap answer_text (c.in_ok-answer.ensures ∙ ap content_answer c.in_ok-content.ensures) in
    c.in_ok-push.ensures.items ∙ ap (λ entry. c.args.entries.now.items ++ entry ∷ []) (entry_is shelf base key _ _ _ c.in_ok-copy.ensures request answer)
    ∙ ap (λ entries. c.args.entries.now.items ++ entries) (sym (entry_served shelf base key (served base key short plain)))
