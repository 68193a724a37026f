use Rattle.std.proofs.Common.{rules, ◌≡◌, [], length, subst, sym}
use Rattle.pub_term.specs.contracts.cause.CausePartialEq.TheImpl.{eq-value}
use Rattle.spm_run.specs.Actors.{AreActed}
use Rattle.spm_run.proofs.PartLemmas.{each_did}
use Rattle.spm_run.proofs.LinkLemmas.{whole_again}
use Rattle.spm_run.proofs.actor.act_all.Goals as goal

-- src/actor.rt
pub returns : goal.returns
returns g c =
    let before = c.args.actors.now.items in
    let after = c.act_each.new.actors in
    let are = AreActed g.L.Link.state eq-value.it c.args.run.now.base.now c.args.trust.now c.args.hints in
    let all : c.args.actors.now.len ≡ length before = search rules in
    let as_many : length after ≡ length before = search rules in
    record {
      acted = subst (are before) (sym (whole_again after before c.args.actors.now.len all as_many))
          (subst (λ olds. are olds after) c.as_mut_slice.ensures.value
          (each_did g.L.Link.state
          (record { same = eq-value.it; base = c.args.run.now.base.now; fingerprints = c.args.trust.now; hints = c.args.hints; history = [] })
          c.as_mut_slice.result.now after c.act_each.ensures.len c.act_each.ensures.each));
    }
