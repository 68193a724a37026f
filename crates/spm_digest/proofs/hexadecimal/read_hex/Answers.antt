use Rattle.std.proofs.Common.{ap, ◌∙◌}
use Rattle.std.specs.Result.{result_ok}
use Rattle.spm_digest.proofs.SumLemmas.{sum_of-sized}
use Rattle.spm_digest.proofs.hexadecimal.read_hex.Goals as goal

pub returns : goal.returns
returns c = c.ok.ensures.value ∙ ap result_ok c.from_hex.ensures ∙ sum_of-sized c.args.text.now
