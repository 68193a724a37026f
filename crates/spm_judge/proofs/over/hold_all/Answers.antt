use Rattle.std.proofs.Common.{◌∙◌, arith, inr, refl, subst, sym}
use Rattle.spm_judge.specs.Held.{held_in}
use Rattle.spm_judge.specs.Over.{AreFrom}
use Rattle.spm_judge.proofs.FetchLemmas.{more_on}
use Rattle.spm_judge.proofs.RoundLemmas.{but_end, but_step}
use Rattle.spm_judge.proofs.over.hold_all.Goals as goal

pub loop-key-init : goal.loop-key-init
loop-key-init g c = record {
  more = λ asked reply is. is;
  there = λ asked here. inr here;
  from = λ from. from;
  book = refl;
  faults = refl;
}

pub loop-key-preserved : goal.loop-key-preserved
loop-key-preserved g c =
    let before = c.loop-key.invariant in
    let kept = c.in_ok-hold.ensures in
    record {
      more = more_on (held_in c.args.held.now) (held_in c.loop-key.held) (held_in c.hold.new.held) before.more kept.more;
      there =
          but_step c.args.keys.now c.loop-key.key-index c.key-item.result (held_in c.loop-key.held) (held_in c.hold.new.held) c.loop-key-test.true
          c.key-item.is kept.more kept.there before.there;
      from = λ from.
          subst (λ book. AreFrom book c.args.base.now (held_in c.hold.new.held)) before.book
          (kept.from (subst (λ book. AreFrom book c.args.base.now (held_in c.loop-key.held)) (sym before.book) (before.from from)));
      book = kept.book ∙ before.book;
      faults = kept.faults ∙ before.faults;
    }

pub returns-clause-there : goal.returns-clause-there
returns-clause-there g c = but_end c.args.keys.now c.loop-key.key-index (held_in c.loop-key.held) (omega arith) c.loop-key.invariant.there
