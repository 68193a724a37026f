use Rattle.std.proofs.Common.{rules, ◌∙◌, string_bytes}
use Rattle.std.proofs.lemmas.Iterator.{YieldsList-from_slice}
use Rattle.std.proofs.lemmas.Iterator.Search.{any_from_yields_List}
use Rattle.std.specs.Str.{bytes_eq}
use Rattle.spm_tool.proofs.WordLemmas.{any_text}
use Rattle.spm_tool.proofs.words.is_named.Goals as goal

pub returns : goal.returns
returns c =
    any_from_yields_List (λ other. bytes_eq c.args.root.now (string_bytes other)) _ _ _ c.any.ensures.ran
    (YieldsList-from_slice c.args.roots.now cc) (λ x b q k. search rules)
    ∙ any_text (bytes_eq c.args.root.now) string_bytes c.args.roots.now
