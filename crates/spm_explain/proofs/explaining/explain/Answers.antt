use Rattle.std.proofs.Common.{◌∙◌, ◌++◌, ◌∷◌, [], ap, codes, sym}
use Rattle.std.specs.Result.{result_unwrap_or}
use Rattle.pub_proof.specs.Checks.{own_facts}
use Rattle.spm_explain.specs.DerivationText.{lines_text}
use Rattle.spm_explain.proofs.SaidLemmas.{lines_on, one_each, sized_said}
use Rattle.spm_explain.proofs.explaining.explain.Goals as goal

pub push_lines-requires-clause-one_each : goal.push_lines-requires-clause-one_each
push_lines-requires-clause-one_each c =
    let derivation = c.args.derivation.now in
    rw (c.as_slice.ensures, c.as_slice-lines.ensures)
    (one_each derivation.sizes (own_facts derivation.lines) derivation.lines _ c.in-Ok.ensures.checked)

pub push_lines-requires-clause-on : goal.push_lines-requires-clause-on
push_lines-requires-clause-on c =
    let derivation = c.args.derivation.now in
    rw (c.as_slice-lines.ensures, c.as_slice-nodes.ensures, ← c.requires.sizes)
    (lines_on derivation.sizes (own_facts derivation.lines) [] derivation.lines _ c.in-Ok.ensures.checked)

pub push_lines-requires-clause-sized : goal.push_lines-requires-clause-sized
push_lines-requires-clause-sized c =
    rw (c.as_slice.ensures, c.requires.choices) (sized_said c.args.derivation.now.sizes _ c.in-Ok.ensures.formed)

pub returns : goal.returns
returns c =
    let derivation = c.args.derivation.now in
    c.from_vec.ensures ∙ ap (λ v. v.items) c.into_bytes.ensures.value ∙ c.in_ok-push_str.ensures.bytes
    ∙ ap (λ text. text ++ (codes "So no selection exists." ++ 10 ∷ []))
    (c.in_ok-push_lines.ensures
    ∙ rw (c.new-text.ensures.bytes, c.as_slice-nodes.ensures, c.as_slice-lines.ensures, c.as_slice.ensures)
    (ap (λ said. lines_text derivation.nodes c.args.choices.now 1 derivation.lines (result_unwrap_or said []))
    (sym c.in-Ok.ensures.checked)))
