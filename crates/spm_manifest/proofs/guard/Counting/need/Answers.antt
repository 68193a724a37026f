use Rattle.std.proofs.Common.{◌≡◌, ◌∙◌, Some, ap, map, sym}
use Rattle.std.specs.BTreeMap.{get_by_text}
use Rattle.std.specs.Option.{option_copied}
use Rattle.std.specs.Str.{str_to_ascii_lowercase}
use Rattle.spm_manifest.specs.Guard.{guard_by}
use Rattle.spm_manifest.proofs.Counting.{same_need}
use Rattle.spm_manifest.proofs.guard.Counting.need.Goals as goal

pub returns : goal.returns
returns c =
    let numbered : get_by_text c.args.self.now.numbers (str_to_ascii_lowercase c.args.dependency.now.identity) ≡ Some c.unwrap-number.result.now =
    ap (get_by_text c.args.self.now.numbers) (sym (c.as_str-2.ensures.value ∙ c.in_ok-identity.ensures.ok ∙ ap str_to_ascii_lowercase c.as_str.ensures))
    ∙ sym c.get.ensures.value ∙ ap option_copied c.unwrap-number.ensures in
    rw numbered (same_need _ _ c.in_ok-copy.ensures c.in_ok-copy-2.ensures
    (c.in_ok-guard.ensures ∙ ap (λ uses. guard_by (map (λ found. found.now) uses)) c.as_slice.ensures.value ∙ ap guard_by c.in_ok-uses.ensures)
    c.in_ok-copy-3.ensures)
