-- Which replies a resolution can't use, what a catalogue answers, and which catalogues come from a book.
use Rattle.std.specs.Prelude.{◌≡◌, ℕ, ◌==◌, ◌&&◌, ◌||◌, List, length, Bool, true, false, not, nat_lt, Option, Some, None, IfSome, IsSome, is_ok, option_and_then, Ok, Err, if◌then◌else◌}
use Rattle.std.specs.FinMap as map
use Rattle.spm_json.specs.Reading.{Reading}
use Rattle.spm_key.specs.Catalogue.{Catalogue}
use Rattle.spm_key.specs.declared.key.Key.{Key}
use Rattle.spm_key.specs.declared.key.Key.TheVariants as key
use Rattle.spm_key.specs.declared.reply.Body.{Body}
use Rattle.spm_key.specs.declared.reply.Body.TheVariants.{Whole, Sum, Garbled, TooLong}
use Rattle.spm_key.specs.declared.reply.Reply.{Reply}
use Rattle.spm_outside.specs.Book.{Pages, response_of}
use Rattle.spm_version.specs.Release.{Parts}
use Rattle.spm_api.specs.Bodies.{all_some, identifiers_of, problem_of, releases_of}
use Rattle.spm_api.specs.Endpoint.{IsReply, request_for}
use Rattle.spm_api.specs.declared.base.Base.{Base}

-- why a reply is refused: it couldn't be read, or was longer than is allowed; the registry says another status, maybe with the
-- detail of a problem; or the body isn't of its form
pub data Refusal : Type 0 where
  garbled too_long unreadable : Refusal
  says : ℕ → Option (List ℕ) → Refusal

-- something is there, isn't there, or is gone
abbrev pub is_expected : ℕ → Bool
is_expected status = status == 200 || status == 404 || status == 410

abbrev pub lists_releases : Option (List ℕ) → Bool
lists_releases (Some bytes) = is_ok (releases_of bytes)
lists_releases None = false

abbrev pub names_identities : Option (List ℕ) → Bool
names_identities (Some bytes) = is_ok (identifiers_of bytes)
names_identities None = false

-- a list or identifiers have to be of their form
abbrev pub has_form : Key → Option (List ℕ) → Bool
has_form (key.List identity) bytes = lists_releases bytes
has_form (key.Manifest identity release) bytes = true
has_form (key.Release identity release) bytes = true
has_form (key.Archive identity release) bytes = true
has_form (key.Identifiers url) bytes = names_identities bytes

abbrev pub refusal_by : Key → ℕ → Option (List ℕ) → Option Refusal
refusal_by asked status bytes =
    if not (is_expected status) then Some (says status (option_and_then problem_of bytes))
    else if status == 200 && not (has_form asked bytes) then Some unreadable
    else None

abbrev pub refusal_in : Key → ℕ → Body → Option Refusal
refusal_in asked status (Whole bytes) = refusal_by asked status (Some bytes)
refusal_in asked status (Sum sum length) = refusal_by asked status None
refusal_in asked status Garbled = Some garbled
refusal_in asked status TooLong = Some too_long

-- the first reason for which the reply of a key is refused, if there is one
abbrev pub reply_refusal : Key → Reply → Option Refusal
reply_refusal asked reply = refusal_in asked reply.status reply.body

abbrev pub IsRefused : Key → Reply → Type 0
IsRefused asked reply = IsSome (reply_refusal asked reply)

-- more than 4,096 usable releases
abbrev pub has_too_many : Reading (List (Option Parts)) → Bool
has_too_many (Ok listed) = nat_lt 4096 (length (all_some listed))
has_too_many (Err fault) = false

abbrev pub is_long_list : Key → ℕ → Body → Bool
is_long_list (key.List identity) status (Whole bytes) = status == 200 && has_too_many (releases_of bytes)
is_long_list (key.List identity) status (Sum sum length) = false
is_long_list (key.List identity) status Garbled = false
is_long_list (key.List identity) status TooLong = false
is_long_list (key.Manifest identity release) status body = false
is_long_list (key.Release identity release) status body = false
is_long_list (key.Archive identity release) status body = false
is_long_list (key.Identifiers url) status body = false

-- the catalogue has a reply of the key that is neither refused nor too long a list
pub record Answers (catalogue : Catalogue) (asked : Key) : Type 0 where
  pub reply : Reply
  pub has : map.get catalogue asked ≡ Some reply
  pub isnt_refused : reply_refusal asked reply ≡ None
  pub isnt_long : is_long_list asked reply.status reply.body ≡ false

-- each reply of the catalogue is that of the book's response to the request for its key
abbrev pub ComesFrom : Catalogue → Pages → Base → Type 0
ComesFrom catalogue pages base = (asked : Key)
    → IfSome (map.get catalogue asked) (λ reply. IsReply asked (response_of pages base.to (request_for base asked)) reply)
