use Rattle.std.proofs.Common.{rules, ◌∙◌, string_bytes}
use Rattle.std.proofs.lemmas.Iterator.{YieldsList-from_slice}
use Rattle.std.proofs.lemmas.Iterator.Search.{all_from_yields_List}
use Rattle.spm_tool.specs.Words.{is_value}
use Rattle.spm_tool.proofs.WordLemmas.{all_texts}
use Rattle.spm_tool.proofs.words.are_values.Goals as goal

pub returns : goal.returns
returns c =
    all_from_yields_List (λ other. is_value (string_bytes other)) _ _ _ c.all.ensures.ran
    (YieldsList-from_slice c.args.roots.now cc) (λ x b q k. search rules)
    ∙ all_texts is_value string_bytes c.args.roots.now
