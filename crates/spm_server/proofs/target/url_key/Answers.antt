use Rattle.std.proofs.Common.{◌∙◌, ◌++◌, ap, subst, sym}
use Rattle.std.specs.Prelude.{IsUtf8}
use Rattle.std.proofs.lemmas.Bool.{false≢true}
use Rattle.std.proofs.lemmas.Str.{IsUtf8-string_bytes}
use Rattle.percent_encoding.specs.Percent.{percent_decode}
use Rattle.spm_server.proofs.TargetLemmas.{no_url, url_is}
use Rattle.spm_server.proofs.target.url_key.Goals as goal

pub returns-in-Ok : goal.returns-in-Ok
returns-in-Ok c =
    let bytes = c.in_ok-append_to.ensures.ok ∙ ap (λ items. items ++ percent_decode c.percent_decode.result.bytes.now) c.new-bytes.ensures.items in
    let same = c.from_string.ensures ∙ ap (λ v. v.items) c.in-Ok.ensures.ok ∙ bytes ∙ c.percent_decode.ensures.bytes in
    url_is (percent_decode c.args.escaped.now) c.from_string.result same
    (subst IsUtf8 (sym c.from_string.ensures) (IsUtf8-string_bytes c.in-Ok.url))

pub returns : goal.returns
returns c =
    no_url (percent_decode c.args.escaped.now) c.append_to.new.out.items
    (c.in_ok-append_to.ensures.ok ∙ ap (λ items. items ++ percent_decode c.percent_decode.result.bytes.now) c.new-bytes.ensures.items ∙ c.percent_decode.ensures.bytes)
    (λ text. false≢true (c.in-Err.ensures.succeeds text))
