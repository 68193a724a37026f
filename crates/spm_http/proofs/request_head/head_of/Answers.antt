use Rattle.std.proofs.Common.{◌≡◌, ◌∙◌, take}
use Rattle.spm_http.specs.Request.{accept_in}
use Rattle.spm_http.proofs.Found.{accept_is}
use Rattle.spm_http.proofs.request_head.head_of.Goals as goal

pub returns : goal.returns
returns c =
    let head = c.requires.of.0 in
    let at = c.requires.of.1 in
    let method : c.in_ok-method.method ≡ head.method = c.in_ok-method.ensures ∙ c.of.ensures ∙ at.method in
    let target : c.in_ok-target.target ≡ head.target = c.in_ok-target.ensures ∙ c.of-2.ensures ∙ at.path in
    let accept : c.in_ok-accept.accept ≡ accept_in head.fields =
    c.in_ok-accept.ensures ∙ accept_is c.args.front.now (take c.args.spans.headers c.args.fields.now) head.fields at.fields in
    (head, at, λ i. record { method = method i; target = target i; accept = accept i; length = at.len i })
