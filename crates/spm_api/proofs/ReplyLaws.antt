-- A response is a reply of a key, and one.
use Rattle.std.proofs.Common.{◌≡◌, ℕ, List, refl, sym, ap, ◌∙◌}
use Rattle.spm_http.proofs.OneAnswer.{heard_unique}
use Rattle.spm_http.proofs.SomeAnswer.{heard_somehow}
use Rattle.spm_key.specs.declared.key.Key.{Key}
use Rattle.spm_key.specs.declared.reply.Reply.{Reply}
use Rattle.spm_api.specs.Endpoint.{IsReply, heard_reply, limit_for}

-- what is heard of it is one, and tells the reply
pub reply_unique : (key : Key) (response : List ℕ) (first second : Reply) → IsReply key response first → IsReply key response second → first ≡ second
reply_unique key response first second a b =
    a.is ∙ ap (heard_reply key) (heard_unique (limit_for key) response a.what b.what a.hears b.hears) ∙ sym b.is

-- and something is heard of it
pub some_reply : (key : Key) (response : List ℕ) → (reply : Reply) × IsReply key response reply
some_reply key response =
    let heard = heard_somehow (limit_for key) response in
    (heard_reply key heard.0, record { what = heard.0; hears = heard.1; is = refl })
