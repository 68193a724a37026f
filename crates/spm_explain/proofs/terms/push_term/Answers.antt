use Rattle.std.proofs.Common.{◌∙◌, ◌<◌, ◌++◌, ap, arith, codes, length, string_bytes, sym}
use Rattle.std.specs.List.{join_by}
use Rattle.std.proofs.lemmas.List.{length-map}
use Rattle.std.proofs.lemmas.Result.{on_ok_weaker}
use Rattle.pub_set.specs.Runs.{runs_of}
use Rattle.pub_term.specs.Node.{node_text}
use Rattle.spm_explain.specs.DerivationText.{run_text}
use Rattle.spm_explain.proofs.TextLemmas.{term_behind, term_text-at}
use Rattle.spm_explain.proofs.terms.push_term.Goals as goal

pub returns : goal.returns
returns c =
    let term = c.args.term.now in
    let name = c.index-nodes-term.result in
    let texts = c.index-choices-term.result in
    let old = string_bytes c.args.text.now in
    let inside : term.node < length c.args.choices.now =
    omega (arith, length-map c.args.choices.now length, c.requires.sized.0) in
    let within : term.node < length c.args.nodes.now = omega (arith, c.requires.nodes, inside) in
    on_ok_weaker c.push_runs.result
    (λ pushed.
    term_behind (string_bytes c.push_runs.new.text) (string_bytes c.write.new.self) old (node_text name) (codes " ")
    (join_by (run_text texts) (codes "|") (runs_of term.choices))
    (rw (c.as_slice-texts.ensures, c.runs_below.ensures.runs) at pushed)
    c.in_ok-write.ensures.bytes
    ∙ ap (λ text. old ++ text)
    (sym (term_text-at c.args.nodes.now c.args.choices.now term name texts within c.index-nodes-term.is
    inside c.index-choices-term.is)))
    c.push_runs.ensures
