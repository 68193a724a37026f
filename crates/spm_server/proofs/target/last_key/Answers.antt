use Rattle.std.proofs.Common.{◌∙◌, ap, sym, false}
use Rattle.std.specs.Prelude.{codes, option_map}
use Rattle.std.proofs.lemmas.Str.Pattern.{ends_text}
use Rattle.spm_key.specs.declared.key.Key.TheVariants as key
use Rattle.spm_server.proofs.TargetLemmas.{not_zipped}
use Rattle.spm_server.proofs.target.last_key.Goals as goal

pub returns-in-Some-3 : goal.returns-in-Some-3
returns-in-Some-3 c =
    ap (option_map (λ release. key.Release c.args.identity release)) (sym c.in-Some-3.is ∙ c.in_ok-release-in-None.ensures)
    ∙ not_zipped c.args.identity c.args.last.now (ends_text false (codes ".zip") c.args.last.now c.in-None.ensures.cases)

pub returns-in-None-3 : goal.returns-in-None-3
returns-in-None-3 c =
    ap (option_map (λ release. key.Release c.args.identity release)) (sym c.in-None-3.is ∙ c.in_ok-release-in-None.ensures)
    ∙ not_zipped c.args.identity c.args.last.now (ends_text false (codes ".zip") c.args.last.now c.in-None.ensures.cases)
