-- How a source over a link of its own goes on.
use Rattle.std.proofs.Common.{ℕ, refl, sym, ap, ◌∙◌, subst}
use Rattle.std.specs.Borrow.{MutBor}
use Rattle.spm_key.specs.declared.key.Key.{Key}
use Rattle.spm_outside.specs.Link.{LinkState}
use Rattle.spm_session.specs.Alone.{FaultsWithout, GoesAlone, IsOn, MissesAlone}
use Rattle.spm_session.specs.Known.{IsWider, in_book}
use Rattle.spm_session.specs.declared.alone.Alone.{Alone}
use Rattle.spm_session.specs.declared.source.Missed.{Missed}

module _ {L : Type 0} (state : L → LinkState) where
  on_stays : (one : Alone L) → IsOn state one one
  on_stays one = record { base = refl; link = refl; book = refl }

  on_onward : (one two three : Alone L) → IsOn state one two → IsOn state two three → IsOn state one three
  on_onward one two three first second = record {
    base = second.base ∙ first.base;
    link = second.link ∙ ap (λ (link : MutBor L). record link { now = three.link.now }) first.link;
    book = second.book ∙ first.book;
  }

  -- what it knows stays
  on_keeps : (one two : Alone L) → IsOn state one two
      → IsWider (in_book (state one.link.now).book one.base.now) (in_book (state two.link.now).book two.base.now)
  on_keeps one two on asked reply has =
      subst (λ book. in_book book two.base.now asked reply) (sym on.book)
      (subst (λ b. in_book (state one.link.now).book b.now asked reply) (sym on.base) has)

  pub alone_stays : (one : Alone L) → GoesAlone state one one
  alone_stays one = record { on = on_stays one; faults = refl }

  pub alone_onward : (one two three : Alone L) → GoesAlone state one two → GoesAlone state two three → GoesAlone state one three
  alone_onward one two three first second = record { on = on_onward one two three first.on second.on; faults = second.faults ∙ first.faults }

  pub alone_then_misses : (one two three : Alone L) (asked : Key) (why : Missed) → GoesAlone state one two → MissesAlone state two three asked why
      → MissesAlone state one three asked why
  alone_then_misses one two three asked why first second = record {
    on = on_onward one two three first.on second.on;
    faults = subst (λ (count : ℕ). FaultsWithout why count (state three.link.now).faults) first.faults second.faults;
  }

  pub alone_keeps : (one two : Alone L) → GoesAlone state one two
      → IsWider (in_book (state one.link.now).book one.base.now) (in_book (state two.link.now).book two.base.now)
  alone_keeps one two goes = on_keeps one two goes.on

  pub alone_keeps_missed : (one two : Alone L) (asked : Key) (why : Missed) → MissesAlone state one two asked why
      → IsWider (in_book (state one.link.now).book one.base.now) (in_book (state two.link.now).book two.base.now)
  alone_keeps_missed one two asked why misses = on_keeps one two misses.on
