use Rattle.std.proofs.Common.{◌∙◌, ◌++◌, ◌∷◌, [], ap}
use Rattle.serde_json.specs.Written.{compact_text, has_float}
use Rattle.spm_shelf.specs.ShelfText.{shelf_data}
use Rattle.spm_shelf.proofs.TextLemmas.{no_float_in_shelf}
use Rattle.spm_shelf.proofs.shelf.Shelf.text.Goals as goal

pub returns : goal.returns
returns c =
    let value = rw (c.as_slice.ensures, c.as_slice-2.ensures) at c.in_ok-value.ensures in
    let same = value ∙ ap shelf_data c.self.view_is in
    c.from_vec.ensures ∙ ap (λ v. v.items) c.into_bytes.ensures.value ∙ c.in_ok-push_str.ensures.bytes
    ∙ ap (λ text. text ++ 10 ∷ []) (c.in_ok-text.ensures.text (ap has_float same ∙ no_float_in_shelf c.args.self.now) ∙ ap compact_text same)
