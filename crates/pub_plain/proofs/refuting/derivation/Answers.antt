use Rattle.std.proofs.Common.{◌≡◌, ◌∙◌, [], ap, arith, length, map, subst, sym}
use Rattle.pub_facts.specs.Known.{lookups_of}
use Rattle.pub_facts.specs.Numbered.{sizes_of}
use Rattle.pub_plain.specs.Derivation.{line_in, ordered, rank_in}
use Rattle.pub_plain.specs.Kept.{Kept}
use Rattle.pub_plain.specs.Writing.{AreSteps, says_of, written_steps}
use Rattle.pub_plain.proofs.RefutedLemmas.{derivation_is, refuted_once, steps_writable}
use Rattle.pub_plain.proofs.WritingLemmas.{same_cause}
use Rattle.pub_plain.proofs.refuting.derivation.Goals as goal

pub write_steps-requires-clause-steps : goal.write_steps-requires-clause-steps
write_steps-requires-clause-steps c =
    let kept = c.args.lists.now in
    let depth : c.len-depth.result ≡ length kept.incompats
    = omega (arith, c.len-depth.ensures, c.lists.inside.incompats.ok.0, ap (λ (k : Kept). length k.incompats) c.lists.view_is) in
    subst (λ d. AreSteps kept d c.in_ok-first.first c.as_slice.result.now) (sym depth)
    (subst (AreSteps kept (length kept.incompats) c.in_ok-first.first) (sym c.as_slice.ensures)
    (steps_writable c.args.told.now kept c.in_ok-first.first c.in_ok-first.steps c.requires.turning c.in_ok-first.ensures))

pub returns : goal.returns
returns c = λ terms first steps turn.
    let told = c.args.told.now in
    let kept = c.args.lists.now in
    let depth : c.len-depth.result ≡ length kept.incompats
    = omega (arith, c.len-depth.ensures, c.lists.inside.incompats.ok.0, ap (λ (k : Kept). length k.incompats) c.lists.view_is) in
    let once = refuted_once told kept c.in_ok-first.first first c.in_ok-first.steps steps terms c.in_ok-first.ensures turn in
    let lines = c.write_steps.new.lines.items in
    derivation_is same_cause told kept first c.in_ok-write_steps.field-0 steps lines c.in_ok-nodes.nodes c.in_ok-sizes.sizes c.in_ok-lines.lines
    (c.in_ok-write_steps.ensures
    ∙ ap (λ d. written_steps same_cause kept d c.in_ok-first.first c.as_slice.result.now c.new-lines.result.items) depth
    ∙ ap (λ ss. written_steps same_cause kept (length kept.incompats) c.in_ok-first.first ss c.new-lines.result.items) (c.as_slice.ensures ∙ once.1)
    ∙ ap (λ ls. written_steps same_cause kept (length kept.incompats) c.in_ok-first.first steps ls) c.new-lines.ensures.items
    ∙ ap (λ n. written_steps same_cause kept (length kept.incompats) n steps []) once.0)
    (c.in_ok-nodes.ensures ∙ ap ordered c.as_slice-names.ensures)
    (c.in_ok-sizes.ensures ∙ ap (sizes_of (lookups_of told.known)) c.as_slice-2.ensures)
    (c.in_ok-lines.ensures ∙ ap (λ names. map (λ line. line_in (rank_in names) (says_of line).line) lines) c.as_slice-names.ensures)
