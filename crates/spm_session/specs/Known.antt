-- What is known of replies, and how a source of them goes on.
use Rattle.std.specs.FinMap as replies
use Rattle.std.specs.Prelude.{Option, IfSome}
use Rattle.spm_api.specs.Endpoint.{IsBookReply}
use Rattle.spm_api.specs.declared.base.Base.{Base}
use Rattle.spm_key.specs.Catalogue.{Catalogue}
use Rattle.spm_key.specs.declared.key.Key.{Key}
use Rattle.spm_key.specs.declared.reply.Reply.{Reply}
use Rattle.spm_outside.specs.Book.{Pages}

-- what is known of replies: which are those of their keys
abbrev pub Known : Type 1
Known = Key → Reply → Type 0

-- the second has all that the first has
abbrev pub IsWider : Known → Known → Type 0
IsWider first second = (asked : Key) (reply : Reply) → first asked reply → second asked reply

-- each reply of the catalogue is known
abbrev pub IsFrom : Known → Catalogue → Type 0
IsFrom known c = (asked : Key) → IfSome (replies.get c asked) (λ reply. known asked reply)

-- the replies that are those of the book's responses, where the book is told
abbrev pub in_book : Option Pages → Base → Known
in_book book base asked reply = IsBookReply base book asked reply
