use Rattle.std.proofs.Common.{◌∙◌, ap₂}
use Rattle.std.specs.Cmp.Lexicographic.{slice_cmp}
use Rattle.std.specs.Option.{option_cmp}
use Rattle.std.specs.Ordering.{nat_cmp, ordering_then}
use Rattle.spm_version.specs.ReleaseLaws.{release_cmp}
use Rattle.spm_key.proofs.OrderLemmas.{option_cmp-copied}
use Rattle.spm_key.proofs.key.KeyOrd.cmp.Goals as goal

pub returns : goal.returns
returns c =
    let kinds = c.cmp-by_kind.ensures ∙ ap₂ nat_cmp c.kind.ensures c.kind-2.ensures in
    let identities = c.cmp.ensures ∙ option_cmp-copied (slice_cmp nat_cmp) c.identity.result c.identity-2.result
    ∙ ap₂ (option_cmp (slice_cmp nat_cmp)) c.identity.ensures c.identity-2.ensures in
    let releases = c.cmp-2.ensures ∙ option_cmp-copied release_cmp c.release.result c.release-2.result
    ∙ ap₂ (option_cmp release_cmp) c.release.ensures c.release-2.ensures in
    let urls = c.cmp-3.ensures ∙ option_cmp-copied (slice_cmp nat_cmp) c.url.result c.url-2.result
    ∙ ap₂ (option_cmp (slice_cmp nat_cmp)) c.url.ensures c.url-2.ensures in
    c.then-3.ensures
    ∙ ap₂ ordering_then (c.then-2.ensures ∙ ap₂ ordering_then (c.then.ensures ∙ ap₂ ordering_then kinds identities) releases) urls
