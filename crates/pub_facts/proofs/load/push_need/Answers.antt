use Rattle.std.proofs.Common.{sym}
use Rattle.pub_facts.specs.Facts.{load_of}
use Rattle.pub_facts.specs.Known.{lookups_of}
use Rattle.pub_facts.proofs.LoadLemmas.{need_put}
use Rattle.pub_facts.proofs.load.push_need.Goals as goal

pub returns : goal.returns
returns c =
    need_put (lookups_of c.args.known.now) (load_of c.args.place.now.node c.args.place.now.choice) c.args.need.now c.in-Some.target.now
    c.in_ok-required.field-0 c.as_slice.result.now c.args.clauses.now c.push-2.new.self c.push_asks.new.clauses (sym c.in-Some.ensures)
    c.in_ok-required.ensures c.in_ok-push.ensures.ok c.as_slice.ensures c.in_ok-push_asks.ensures
