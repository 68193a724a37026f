use Rattle.std.proofs.Common.{◌<◌, arith, length, sym, ◌∙◌, subst}
use Rattle.spm_turn.specs.Log.{without}
use Rattle.spm_turn.specs.Sitting.{Sitting}
use Rattle.spm_cache_core.specs.declared.event.Event.{Event}
use Rattle.spm_cache.specs.declared.kept.Terms.{Terms}
use Rattle.spm_cache.proofs.Opened.{row_another, row_less}
use Rattle.spm_cache.proofs.cache.Cache.first_pass.Goals as goal

pub split-seat-requires-clause-another : goal.split-seat-requires-clause-another
split-seat-requires-clause-another c = λ _.
    subst (λ (s : Sitting Event Terms). 0 < length (without c.args.actor s.numbers)) (sym c.requires.seat)
    (row_another c.args.actor c.args.left c.requires.more)

pub returns-clause-kept : goal.returns-clause-kept
returns-clause-kept c =
    let more = c.requires.more in
    c.split-seat.ensures.kept ∙ row_less c.args.seat.now c.args.self.now.id c.args.actor c.args.left (omega (arith, more)) c.requires.seat
