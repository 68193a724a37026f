-- The endpoints of a registry: the request for a key, and the reply that a response is (SE-0292 and the registry's service
-- specification).
use Rattle.std.specs.Prelude.{◌≡◌, ℕ, ◌==◌, List, ◌++◌, length, codes, Option, IfSome, Ok, if◌then◌else◌}
use Rattle.std.specs.Fmt.{decimal}
use Rattle.spm_digest.specs.Digest.{sha256}
use Rattle.spm_http.specs.Response.{Hears}
use Rattle.spm_http.specs.Writing.{request_text}
use Rattle.spm_http.specs.declared.response_head.Heard.{Heard}
use Rattle.spm_http.specs.declared.response_head.Heard.TheVariants as heard
use Rattle.spm_key.specs.Key.{key_text}
use Rattle.spm_key.specs.declared.key.Key.{Key}
use Rattle.spm_key.specs.declared.key.Key.TheVariants as key
use Rattle.spm_key.specs.declared.reply.Body.TheVariants.{Whole, Sum, Garbled, TooLong}
use Rattle.spm_key.specs.declared.reply.Reply.{Reply}
use Rattle.spm_outside.specs.Book.{Pages, response_of}
use Rattle.spm_outside.specs.declared.book.Authority.{Authority}
use Rattle.spm_api.specs.declared.base.Base.{Base}

-- ---- the request

-- the host, with the port unless it is 80
abbrev pub host_field : Authority → List ℕ
host_field to = if to.port == 80 then to.host else to.host ++ (codes ":" ++ decimal to.port)

-- archives are asked for as zip files, all else as JSON, in version 1 of the registry's API
abbrev pub accept_for : Key → List ℕ
accept_for (key.List identity) = codes "application/vnd.swift.registry.v1+json"
accept_for (key.Manifest identity release) = codes "application/vnd.swift.registry.v1+json"
accept_for (key.Release identity release) = codes "application/vnd.swift.registry.v1+json"
accept_for (key.Archive identity release) = codes "application/vnd.swift.registry.v1+zip"
accept_for (key.Identifiers url) = codes "application/vnd.swift.registry.v1+json"

-- the bytes of the request for a key
abbrev pub request_for : Base → Key → List ℕ
request_for base key = request_text (base.prefix ++ key_text key) (host_field base.to) (accept_for key)

-- ---- the reply

-- how many bytes a body may have
abbrev pub limit_for : Key → ℕ
limit_for (key.List identity) = 1048576
limit_for (key.Manifest identity release) = 1048576
limit_for (key.Release identity release) = 1048576
limit_for (key.Archive identity release) = 67108864
limit_for (key.Identifiers url) = 1048576

abbrev pub whole_reply : ℕ → List ℕ → Reply
whole_reply status body = record { status = status; body = Whole body }

-- of an archive that is there the sum and the length are kept
abbrev pub archive_reply : ℕ → List ℕ → Reply
archive_reply status body =
    if status == 200 then record { status = status; body = Sum (sha256 body) (length body) } else whole_reply status body

abbrev pub content_reply : Key → ℕ → List ℕ → Reply
content_reply (key.List identity) status body = whole_reply status body
content_reply (key.Manifest identity release) status body = whole_reply status body
content_reply (key.Release identity release) status body = whole_reply status body
content_reply (key.Archive identity release) status body = archive_reply status body
content_reply (key.Identifiers url) status body = whole_reply status body

abbrev pub heard_reply : Key → Heard → Reply
heard_reply key (heard.Whole status body) = content_reply key status body
heard_reply key heard.Garbled = record { status = 0; body = Garbled }
heard_reply key heard.TooLong = record { status = 0; body = TooLong }

-- the reply that a response to the request for a key is
pub record IsReply (key : Key) (response : List ℕ) (reply : Reply) : Type 0 where
  pub what : Heard
  pub hears : Hears (Ok what) (limit_for key) response
  pub is : reply ≡ heard_reply key what

-- the reply is that of the book's response to the request for the key, where the book is told
abbrev pub IsBookReply : Base → Option Pages → Key → Reply → Type 0
IsBookReply base book key reply = IfSome book (λ pages. IsReply key (response_of pages base.to (request_for base key)) reply)
