use Rattle.std.proofs.Common.{◌∙◌, ◌++◌, ℕ, List, ap}
use Rattle.spm_http.proofs.Phrases.{lines_and_body}
use Rattle.spm_http.proofs.writing.response.Goals as goal

pub returns : goal.returns
returns c =
    c.from_vec.ensures ∙ c.in_ok-extend_from_slice.ensures.items ∙ ap (λ (t : List ℕ). t ++ c.args.body.now) c.in_ok-bytes.ensures
    ∙ lines_and_body c.args.status c.phrase.result.now c.args.kind.now c.args.body.now c.phrase.ensures
