use Rattle.std.proofs.Common.{◌∙◌, ◌<◌, ◌++◌, ap, arith}
use Rattle.std.specs.Prelude.{codes}
use Rattle.std.proofs.lemmas.List.Elements.{All-from_get_or}
use Rattle.percent_encoding.specs.Iter.{encoded_text}
use Rattle.spm_key.proofs.EncodedLemmas.{same_encoding}
use Rattle.spm_key.proofs.key.query_path.Goals as goal

pub returns : goal.returns
returns c =
    let small = All-from_get_or (λ byte. byte < 256) c.args.url.now 0 (λ i within. omega (arith, c.type_inv.url i)) in
    c.from_string.ensures ∙ c.in_ok-append_to.ensures.ok
    ∙ ap (λ text. text ++ encoded_text c.utf8_percent_encode.result) c.in_ok-text.ensures.ok
    ∙ ap (λ text. codes "/identifiers?url=" ++ text) (c.utf8_percent_encode.ensures.text ∙ same_encoding c.args.url.now small)
