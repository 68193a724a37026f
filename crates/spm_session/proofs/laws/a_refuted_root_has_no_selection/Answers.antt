use Rattle.pub_plain.proofs.NoneLemmas.{none_valid}
use Rattle.pub_plain.specs.Answers.{answers_of}
use Rattle.spm_session.proofs.RunLemmas.{replies_short}
use Rattle.spm_session.proofs.laws.a_refuted_root_has_no_selection.Goals as goal

pub returns : goal.returns
returns c = λ same job pins catalogue found texts turns refuted more carries short selection valid.
    none_valid job pins (answers_of catalogue) more refuted.run.turns refuted.run.state refuted.terms refuted.first refuted.steps selection
    (replies_short catalogue) short carries refuted.run.after refuted.run.is valid
