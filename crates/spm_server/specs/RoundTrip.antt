-- Asking the server for a key, and reading what it answers.
use Rattle.std.specs.Prelude.{◌≡◌, ℕ, ◌<◌, ◌≤◌, ◌&&◌, [], length, All, Bool, true, nat_le, nat_lt, Option, Some, None, IfSome}
use Rattle.serde_json.specs.Written.{compact_text}
use Rattle.spm_api.specs.Endpoint.{IsReply, content_reply, limit_for, request_for}
use Rattle.spm_api.specs.declared.base.Base.{Base}
use Rattle.spm_key.specs.Key.{IsKey}
use Rattle.spm_key.specs.declared.key.Key.{Key}
use Rattle.spm_key.specs.declared.reply.Reply.{Reply}
use Rattle.spm_shelf.specs.declared.file.ShelfFile.{ShelfFile}
use Rattle.spm_server.specs.Answer.{IsAnswer, answer_text}
use Rattle.spm_server.specs.declared.answering.AnswerParts.{AnswerParts}
use Rattle.spm_server.specs.declared.content.Content.{Content}
use Rattle.spm_server.specs.Content.{content_of}
use Rattle.spm_server.specs.Keys.{HasPlainVersion}
use Rattle.spm_server.specs.Problem.{problem_data}
use Rattle.spm_server.specs.declared.problem.Problem.TheVariants.{NoResource}

-- a printable character of ASCII
abbrev pub is_printable : ℕ → Bool
is_printable byte = nat_le 32 byte && nat_lt byte 127

-- a base without prefix, whose host is of printable ASCII characters
pub record IsPlainBase (base : Base) : Type 0 where
  pub prefix : base.prefix ≡ []
  pub host : All (λ byte. is_printable byte ≡ true) base.to.host
  pub port : base.to.port < 65536

-- a request that fits
pub record IsAskable (base : Base) (asked : Key) : Type 0 where
  pub key : IsKey asked
  pub version : HasPlainVersion asked
  pub fits : length (request_for base asked) ≤ 65536

-- status 200 and the shelf's contents where the shelf has the resource, else 404
abbrev pub reply_for : Key → Option Content → Reply
reply_for asked (Some content) = content_reply asked 200 content.body
reply_for asked None = content_reply asked 404 (compact_text (problem_data NoResource))

-- the request has an answer, and that is a reply with the shelf's contents; no answer to it is another reply
pub record IsOneReply (shelf : ShelfFile) (base : Base) (asked : Key) : Type 0 where
  pub there : (answer : AnswerParts) × IsAnswer shelf (request_for base asked) answer × IsReply asked (answer_text answer) (reply_for asked (content_of shelf asked))
  pub alone : (answer : AnswerParts) (reply : Reply) → IsAnswer shelf (request_for base asked) answer → IsReply asked (answer_text answer) reply
      → reply ≡ reply_for asked (content_of shelf asked)

-- for such a base and request, and a body within its limit
abbrev pub ComesBack : ShelfFile → Base → Key → Type 0
ComesBack shelf base asked = IsPlainBase base → IsAskable base asked → IfSome (content_of shelf asked) (λ content. length content.body ≤ limit_for asked)
    → IsOneReply shelf base asked
