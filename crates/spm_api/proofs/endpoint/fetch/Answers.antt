use Rattle.std.proofs.Common.{◌∙◌, ◌+◌, ◌*◌, ap, subst}
use Rattle.spm_api.specs.Endpoint.{IsReply, request_for}
use Rattle.spm_api.proofs.CatalogueLemmas.{catalogue_told}
use Rattle.spm_api.proofs.FetchLemmas.{reply_told}
use Rattle.spm_api.proofs.endpoint.fetch.Goals as goal

pub returns-clause-reply : goal.returns-clause-reply
returns-clause-reply g c =
    let key = c.args.key.now in
    let reply = c.in_ok-reply_of.field-0 in
    reply_told (g.L.Link.state c.args.link.now).book key c.args.base.now.to c.as_slice.result.now (request_for c.args.base.now key) c.in_ok-response.response
    (2 * c.limit_for.result + 65536 + 1) reply (c.as_slice.ensures ∙ c.in_ok-request.ensures) (ap (λ limit. 2 * limit + 65536 + 1) c.limit_for.ensures)
    c.in_ok-response.ensures.response (subst (λ bytes. IsReply key bytes reply) c.as_slice-2.ensures c.in_ok-reply_of.ensures)

pub returns-clause-catalogue : goal.returns-clause-catalogue
returns-clause-catalogue g c =
    catalogue_told (g.L.Link.state c.args.link.now).book c.args.base.now c.args.key.now c.in_ok-reply_of.field-0 (returns-clause-reply g c)
