use Rattle.spm_outside.proofs.CallLemmas.{after_exchange}
use Rattle.spm_outside.proofs.ExchangeLemmas.{rest_after_exchange, taken_after_exchange}
use Rattle.spm_outside.proofs.link.exchange.Goals as goal

pub returns-clause-calls : goal.returns-clause-calls
returns-clause-calls g c =
    after_exchange c.read_all.result c.args.to.now c.args.request.now _ _ _ c.in_ok-open.ensures.calls c.read_all.ensures.calls

pub returns-clause-rest : goal.returns-clause-rest
returns-clause-rest g c =
    rest_after_exchange c.read_all.result _ c.args.to.now c.args.request.now c.args.limit _ _ _ c.in_ok-open.ensures.rest.1 c.read_all.ensures.rest

pub returns-clause-taken : goal.returns-clause-taken
returns-clause-taken g c =
    taken_after_exchange c.read_all.result c.args.limit _ _ _ c.in_ok-open.ensures.taken c.read_all.ensures.taken
