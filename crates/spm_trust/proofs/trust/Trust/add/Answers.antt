use Rattle.std.proofs.Common.{◌≡◌, ◌∙◌, ap, subst, sym}
use Rattle.std.specs.Prelude.{insert}
use Rattle.spm_trust.specs.Trust.{IsTrust, added}
use Rattle.spm_trust.proofs.AddedLemmas.{IsTrust-added}
use Rattle.spm_trust.proofs.Searching.{added-missed}
use Rattle.spm_trust.proofs.Setting.{IsTrust-set, set-added}
use Rattle.spm_trust.proofs.trust.Trust.add.Goals as goal

-- the packages with a new one in its place
placed : (c : goal.In_ok-insert-in-Err) → c.insert.new.self.items ≡ added c.args.identity.now c.args.release.now c.args.sum c.self.inside.packages.items
placed c =
    let items = c.self.inside.packages.items in
    c.in_ok-insert-in-Err.ensures.items ∙ ap (insert items c.in-Err.place) c.in_ok-entry-in-Err.ensures
    ∙ added-missed c.args.identity.now c.args.release.now c.args.sum items c.in-Err.place
    (rw c.as_slice.ensures.value at c.in-Err.ensures.range) (rw c.as_slice.ensures.value at c.in-Err.ensures.missed)

pub invariant_of-self : goal.invariant_of-self
invariant_of-self c =
    let items = c.as_slice.ensures.value in
    IsTrust-set c.args.identity.now c.args.release.now c.args.sum c.self.inside.packages.items c.in-Ok.place c.index_mut.result.now c.add_sum.new.sums c.add_sum.result
    c.self.invariant (rw items at c.in-Ok.ensures.range) (rw items at c.in-Ok.ensures.found) c.index_mut.ensures.value c.add_sum.ensures.ok c.add_sum.ensures.err

pub invariant_of-self-in-Err : goal.invariant_of-self-in-Err
invariant_of-self-in-Err c =
    subst IsTrust (sym (placed c)) (IsTrust-added c.args.identity.now c.args.release.now c.args.sum c.self.inside.packages.items c.self.invariant)

pub returns-in-Ok-clause-ok : goal.returns-in-Ok-clause-ok
returns-in-Ok-clause-ok c =
    let items = c.as_slice.ensures.value in
    rw (← c.self.view_is)
    (set-added c.args.identity.now c.args.release.now c.args.sum c.self.inside.packages.items c.in-Ok.place c.index_mut.result.now c.add_sum.new.sums c.add_sum.result
    c.self.invariant (rw items at c.in-Ok.ensures.range) (rw items at c.in-Ok.ensures.found) c.index_mut.ensures.value c.add_sum.ensures.ok)

pub returns-in_ok-insert-in-Err-clause-ok : goal.returns-in_ok-insert-in-Err-clause-ok
returns-in_ok-insert-in-Err-clause-ok c = placed c ∙ ap (added c.args.identity.now c.args.release.now c.args.sum) c.self.view_is
