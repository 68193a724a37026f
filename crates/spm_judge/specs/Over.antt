-- Judging over a link: the replies of the keys that are read are fetched, and the pins judged by them.
use Rattle.std.specs.Prelude.{◌≡◌, ℕ, List, true, Contains, IfSome, Option, Some, Err}
use Rattle.spm_outside.specs.Book.{Pages, response_of}
use Rattle.spm_outside.specs.Faults.{Rises}
use Rattle.spm_key.specs.declared.key.Key.{Key}
use Rattle.spm_key.specs.declared.key.Key.TheVariants as key
use Rattle.spm_key.specs.declared.reply.Reply.{Reply}
use Rattle.spm_api.specs.Endpoint.{IsReply, request_for}
use Rattle.spm_api.specs.Said.{Says, reply_said}
use Rattle.spm_api.specs.declared.base.Base.{Base}
use Rattle.spm_api.specs.declared.replies.Said.TheVariants.{TooMany}
use Rattle.pub_facts.specs.Catalogue.{Job}
use Rattle.pub_plain.specs.Choosing.{Pins}
use Rattle.pub_term.specs.declared.node.NodeName.{NodeName}
use Rattle.spm_judge.specs.Held.{Held, is_held, says_of}
use Rattle.spm_judge.specs.Judged.{Breaks, Broken, Holds, Lacks, Verdict, keys_read, text_of, verdict, world_by}
use Rattle.spm_judge.specs.On.{AreOn}
use Rattle.spm_judge.specs.declared.over.Judged.{Judged}
use Rattle.spm_judge.specs.declared.over.Judged.TheVariants as judged

-- each reply that is held is the book's, where the link tells its book
abbrev pub AreFrom : Option Pages → Base → Held → Type 0
AreFrom book base held = IfSome book (λ pages. (asked : Key) (reply : Reply) → held asked ≡ Some reply
    → IsReply asked (response_of pages base.to (request_for base asked)) reply)

-- the verdict over replies of the book, of which each key that is read is held
pub record IsOver (book : Option Pages) (base : Base) (job : Job) (pins : Pins) (Says : Held → Verdict → Type 0) : Type 0 where
  pub held : Held
  pub from : AreFrom book base held
  pub on : List NodeName
  pub are : AreOn (world_by job (says_of held) pins) on
  pub all : (asked : Key) → Contains (keys_read job (says_of held) pins on) asked → is_held held asked ≡ true
  pub says : Says held (verdict job (says_of held) pins on)

-- a key that is read over replies of the book, and isn't one of theirs
pub record IsUnfetched (book : Option Pages) (base : Base) (job : Job) (pins : Pins) (asked : Key) : Type 0 where
  pub held : Held
  pub from : AreFrom book base held
  pub on : List NodeName
  pub are : AreOn (world_by job (says_of held) pins) on
  pub read : Contains (keys_read job (says_of held) pins on) asked

-- how the judging ends: the verdict, with the reason where a key isn't answered; a fault of the link at a key that is read; or want of memory
abbrev pub IsJudgedEnd : Option Pages → Base → Job → Pins → Judged → Type 0
IsJudgedEnd book base job pins judged.Valid = IsOver book base job pins (λ held said. said ≡ Holds)
IsJudgedEnd book base job pins (judged.Invalid text) =
    IsOver book base job pins (λ held said. (broken : Broken) × (said ≡ Breaks broken) × (text ≡ text_of broken))
IsJudgedEnd book base job pins (judged.Refused asked fault) =
    IsOver book base job pins (λ held said. (said ≡ Lacks asked) × ((reply : Reply) → held asked ≡ Some reply → Says (Err fault) (reply_said asked reply)))
IsJudgedEnd book base job pins (judged.TooWide identity) =
    IsOver book base job pins (λ held said. (said ≡ Lacks (key.List identity)) × (says_of held (key.List identity) ≡ Some TooMany))
IsJudgedEnd book base job pins (judged.Failed asked) = IsUnfetched book base job pins asked
IsJudgedEnd book base job pins judged.Memory = Unit {0}

-- the link's count of faults rises where a fetch failed, and stays else
abbrev pub FaultsBy : Judged → ℕ → ℕ → Type 0
FaultsBy (judged.Failed asked) old new = Rises old new
FaultsBy it old new = new ≡ old
