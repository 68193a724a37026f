use Rattle.std.proofs.Common.{length, sym, ◌∙◌, rules}
use Rattle.std.proofs.lemmas.Bool.{cond-false, cond-true}
use Rattle.std.proofs.lemmas.Iterator.{YieldsList-from_chars}
use Rattle.std.proofs.lemmas.Iterator.Consumers.{YieldsList-from_enumerate, YieldsList-turn, YieldsList-end}
use Rattle.std.proofs.lemmas.List.{length_push}
use Rattle.std.specs.Str.{chars}
use Rattle.spm_trait.proofs.Chars.{first_bad_from-start, first_bad_from-more, first_bad_from-end}
use Rattle.spm_trait.proofs.trait_name.first_bad.Goals as goal

pub loop-place-init : goal.loop-place-init
loop-place-init c = (search rules, search rules, first_bad_from-start (chars c.args.text.now))

pub returns-then-not-stands : goal.returns-then-not-stands
returns-then-not-stands c =
    let chain = YieldsList-from_enumerate {s = c.into_iter-place-iterator.result} (YieldsList-from_chars c.args.text.now c.utf8.text cc) cc in
    let turn = YieldsList-turn chain c.loop-place.yielded _ c.loop-place.yielded_by _ _ (c.in-Some.place, c.in-Some.ch) c.in-Some.is c.next.ensures.steps in
    let more = first_bad_from-more (chars c.args.text.now) (length c.loop-place.yielded) c.in-Some.place c.in-Some.ch turn.0 turn.1 in
    sym (more.1 ∙ cond-false _ _ _ (sym c.stands.ensures ∙ c.if-not-stands.true)) ∙ c.loop-place.invariant.2

pub loop-place-preserved : goal.loop-place-preserved
loop-place-preserved c =
    let chain = YieldsList-from_enumerate {s = c.into_iter-place-iterator.result} (YieldsList-from_chars c.args.text.now c.utf8.text cc) cc in
    let turn = YieldsList-turn chain c.loop-place.yielded _ c.loop-place.yielded_by _ _ (c.in-Some.place, c.in-Some.ch) c.in-Some.is c.next.ensures.steps in
    let more = first_bad_from-more (chars c.args.text.now) (length c.loop-place.yielded) c.in-Some.place c.in-Some.ch turn.0 turn.1 in
    let longer = length_push c.loop-place.yielded (c.in-Some.place, c.in-Some.ch) in
    (search rules, search rules, rw longer (sym (more.1 ∙ cond-true _ _ _ (sym c.stands.ensures ∙ c.if-not-stands.false)) ∙ c.loop-place.invariant.2))

pub returns : goal.returns
returns c =
    let chain = YieldsList-from_enumerate {s = c.into_iter-place-iterator.result} (YieldsList-from_chars c.args.text.now c.utf8.text cc) cc in
    let end = YieldsList-end chain c.loop-place.yielded _ c.loop-place.yielded_by _ _ c.in-None.is c.next.ensures.steps in
    sym (first_bad_from-end (chars c.args.text.now) (length c.loop-place.yielded) end.1) ∙ c.loop-place.invariant.2
