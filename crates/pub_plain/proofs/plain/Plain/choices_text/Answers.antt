use Rattle.std.proofs.Common.{IfOk, ap, ap₂, map, subst, sym, ◌∙◌, ◌≡◌}
use Rattle.pub_plain.specs.Answers.{lookups_by}
use Rattle.pub_plain.specs.Derivation.{choice_texts, ordered, texts_of}
use Rattle.pub_plain.specs.Solver.{Solver, answers_now}
use Rattle.pub_plain.proofs.ToldLemmas.{lookups_told}
use Rattle.pub_plain.proofs.plain.Plain.choices_text.Goals as goal

pub returns : goal.returns
returns c =
    let told = c.self.inside.told in
    subst (λ all. IfOk c.choices_text.result (λ texts. texts ≡ all))
    (ap₂ (λ l nodes. map (texts_of l) nodes) (sym (lookups_told told))
    (c.as_slice-2.ensures ∙ c.in_ok-nodes.ensures ∙ ap ordered c.as_slice.ensures)
    ∙ ap (λ (s : Solver). choice_texts (lookups_by (answers_now s)) s.state.names) c.self.view_is)
    c.choices_text.ensures
