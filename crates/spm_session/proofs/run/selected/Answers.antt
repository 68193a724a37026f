use Rattle.std.proofs.Common.{Ok, Err, subst}
use Rattle.spm_session.specs.Archives.{pins_looked}
use Rattle.spm_session.specs.Run.{ArePinsAscending, IsKeyOfAny, LooksFrom}
use Rattle.spm_session.proofs.RunLemmas.{run_wider}
use Rattle.spm_session.proofs.SelectedLemmas.{found_ascend, is_resolved, is_stopped}
use Rattle.spm_session.proofs.run.selected.Goals as goal

-- src/run.rt
pub returns-in-Ok-look_at_pins-clause-end : goal.returns-in-Ok-look_at_pins-clause-end
returns-in-Ok-look_at_pins-clause-end g c = λ run.
    let known = g.S.Source.knows c.look_at_pins.new.source in
    let pins = c.in-Ok.pins in
    let later = run_wider _ known c.look_at_pins.ensures.wider c.args.plain.now run in
    is_resolved known c.args.plain.now pins c.turns-turns.result later c.requires.selected c.in-Ok.ensures c.turns-turns.ensures _ c.args.trust.now
    c.in-Ok-look_at_pins.checksums
    (subst (λ all. ArePinsAscending all
    → LooksFrom known (IsKeyOfAny all) (λ c'. pins_looked c.args.trust.now c' all) (Ok c.in-Ok-look_at_pins.checksums)) c.as_slice.ensures
    c.in-Ok-look_at_pins.ensures.looks
    (found_ascend known c.args.plain.now pins c.turns-turns.result later c.requires.selected c.in-Ok.ensures c.turns-turns.ensures))

pub returns-in-Err-look_at_pins-clause-end : goal.returns-in-Err-look_at_pins-clause-end
returns-in-Err-look_at_pins-clause-end g c = λ run.
    let known = g.S.Source.knows c.look_at_pins.new.source in
    let pins = c.in-Ok.pins in
    let later = run_wider _ known c.look_at_pins.ensures.wider c.args.plain.now run in
    is_stopped known c.args.plain.now pins c.turns-turns.result later c.requires.selected c.in-Ok.ensures c.turns-turns.ensures _ c.args.trust.now
    c.in-Err-look_at_pins.outcome
    (subst (λ all. ArePinsAscending all
    → LooksFrom known (IsKeyOfAny all) (λ c'. pins_looked c.args.trust.now c' all) (Err c.in-Err-look_at_pins.outcome)) c.as_slice.ensures
    c.in-Err-look_at_pins.ensures.looks
    (found_ascend known c.args.plain.now pins c.turns-turns.result later c.requires.selected c.in-Ok.ensures c.turns-turns.ensures))
    c.in-Err-look_at_pins.ensures.kind
