use Rattle.std.proofs.Common.{◌≡◌, Option, IfOk, subst}
use Rattle.spm_key.specs.declared.key.Key.{Key}
use Rattle.spm_server.proofs.TargetLemmas.{no_text, text_is}
use Rattle.spm_server.proofs.target.key_of_target.Goals as goal

pub returns-in-Ok : goal.returns-in-Ok
returns-in-Ok c =
    subst (λ (k : Option Key). IfOk c.text_key.result (λ key. key ≡ k)) (text_is c.args.target.now c.in-Ok.target.now c.in-Ok.ensures.cases.0 c.in-Ok.ensures.cases.1)
    c.text_key.ensures

pub returns-in-Err : goal.returns-in-Err
returns-in-Err c = no_text c.args.target.now c.in-Err.ensures.cases.0
