use Rattle.std.proofs.Common.{Some, None}
use Rattle.spm_api.specs.Bodies.{releases_of}
use Rattle.spm_api.proofs.NewestLemmas.{list_keys, one_key}
use Rattle.spm_api.proofs.guesses.guess_list.Goals as goal

pub returns-in_default : goal.returns-in_default
returns-in_default c =
    list_keys c.args.identity.now (releases_of c.args.body.now) c.in-Ok.releases c.as_slice.result.now None c.new-keys.result c.in-Ok.ensures
    c.as_slice.ensures c.in_default.ensures c.new-keys.ensures

pub returns : goal.returns
returns c =
    list_keys c.args.identity.now (releases_of c.args.body.now) c.in-Ok.releases c.as_slice.result.now (Some c.in-Some.newest.now) c.push.new.self
    c.in-Ok.ensures c.as_slice.ensures c.in-Some.ensures
    (one_key c.args.identity.now c.in_ok-identity.identity c.in-Some.newest.now c.in_ok-copy.field-0 c.new-keys.result c.push.new.self
    c.in_ok-push.ensures.ok c.new-keys.ensures c.in_ok-identity.ensures c.in_ok-copy.ensures)
