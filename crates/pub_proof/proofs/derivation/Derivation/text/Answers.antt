use Rattle.std.proofs.Common.{◌∙◌, ◌++◌, ◌∷◌, [], ap}
use Rattle.serde_json.specs.Written.{compact_text, has_float}
use Rattle.pub_proof.proofs.TextLemmas.{no_float_in_derivation}
use Rattle.pub_proof.proofs.derivation.Derivation.text.Goals as goal

pub returns : goal.returns
returns c =
    let value = c.in_ok-value.ensures in
    c.from_vec.ensures ∙ ap (λ v. v.items) c.into_bytes.ensures.value ∙ c.in_ok-push_str.ensures.bytes
    ∙ ap (λ text. text ++ 10 ∷ []) (c.in_ok-text.ensures.text (ap has_float value ∙ no_float_in_derivation c.args.self.now) ∙ ap compact_text value)
