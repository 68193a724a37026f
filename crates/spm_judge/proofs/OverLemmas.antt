-- Judging over a link: what a reply that is put adds, and how the judgement over replies that have each key ends.
use Rattle.std.proofs.Common.{◌≡◌, ◌==◌, ℕ, Bool, true, false, cond, List, [], ◌∷◌, Contains, Option, Some, None, Ok, Err, refl, sym, ap, ◌∙◌, subst, inl, inr}
use Rattle.std.specs.Prelude.{IfSome, is_some}
use Rattle.std.proofs.lemmas.Bool.{cases_Bool, cond-false, cond-true, false≢true}
use Rattle.spm_manifest.specs.Profile.{manifest_of}
use Rattle.spm_key.specs.KeyLaws.{key_eq, key_equiv, key_ties}
use Rattle.spm_key.specs.declared.key.Key.{Key}
use Rattle.spm_key.specs.declared.key.Key.TheVariants as key
use Rattle.spm_key.specs.declared.reply.Reply.{Reply}
use Rattle.spm_key.proofs.KeyLemmas.{same_key}
use Rattle.spm_outside.specs.Book.{Pages, response_of}
use Rattle.spm_api.specs.Bodies.{identifiers_of}
use Rattle.spm_api.specs.Guess.{bytes_in}
use Rattle.spm_api.specs.Endpoint.{IsReply, request_for}
use Rattle.spm_api.specs.Refused.{Refusal, reply_refusal}
use Rattle.spm_api.specs.Said.{Says, absent, list_said, manifest_said, package_said, present, reply_said, said_of}
use Rattle.spm_api.specs.Said as api
use Rattle.spm_api.specs.declared.base.Base.{Base}
use Rattle.spm_api.specs.declared.replies.Said.{Said}
use Rattle.spm_api.specs.declared.replies.Said.TheVariants as said
use Rattle.pub_facts.specs.Catalogue.{Job}
use Rattle.pub_plain.specs.Answers.{Answers}
use Rattle.pub_plain.specs.Choosing.{Pins}
use Rattle.pub_term.specs.declared.node.NodeName.{NodeName}
use Rattle.spm_judge.specs.Fetching.{IsHoldEnd, IsListKey, IsMore, IsSettled, IsUnanswered}
use Rattle.spm_judge.specs.Held.{Held, is_answer, is_held, says_of}
use Rattle.spm_judge.specs.Judged.{Broken, IsJudged, Lacks, Verdict, first_broken, first_lacking, keys_read, verdict, verdict_by, world_by}
use Rattle.spm_judge.specs.On.{AreOn}
use Rattle.spm_judge.specs.Over.{AreFrom, FaultsBy, IsJudgedEnd, IsOver, IsUnfetched}
use Rattle.spm_judge.specs.declared.judgement.Judgement.TheVariants as judgement
use Rattle.spm_judge.specs.declared.over.Judged.{Judged}
use Rattle.spm_judge.specs.declared.over.Judged.TheVariants as judged
use Rattle.pub_facts.proofs.Members.{contains_head, contains_tail}
use Rattle.spm_judge.proofs.FirstLemmas.{on_are_one}

-- ---- a reply that is put

-- keys that are equal are one
key_one : (first second : Key) → key_eq first second ≡ true → first ≡ second
key_one first second is = same_key first second (sym (key_ties first second) ∙ is)

-- the replies once one more is put
abbrev pub Puts : Held → Key → Reply → Held → Type 0
Puts old asked reply new = (other : Key) → new other ≡ cond (key_eq asked other) (Some reply) (old other)

-- what was held still is
pub put_more : (old new : Held) (asked : Key) (reply : Reply) → is_held old asked ≡ false → Puts old asked reply new → IsMore old new
put_more old new asked reply absent puts = λ other found is. elim (cases_Bool (key_eq asked other)) [
  | inl same ↦
      absurd
      (false≢true
      (sym absent ∙ ap (is_held old) (key_one asked other same) ∙ ap is_some is))
  | inr differs ↦ puts other ∙ cond-false (key_eq asked other) (Some reply) (old other) differs ∙ is
]

-- the reply of the key is the one that was put
put_here : (old new : Held) (asked : Key) (reply : Reply) → Puts old asked reply new → new asked ≡ Some reply
put_here old new asked reply puts = puts asked ∙ cond-true (key_eq asked asked) (Some reply) (old asked) (key_equiv.refl asked)

-- and so is the key
pub put_held : (old new : Held) (asked : Key) (reply : Reply) → Puts old asked reply new → is_held new asked ≡ true
put_held old new asked reply puts = ap is_some (put_here old new asked reply puts)

-- a reply of the book
pub put_from : (book : Option Pages) (base : Base) (old new : Held) (asked : Key) (reply : Reply) → Puts old asked reply new
    → IfSome book (λ pages. IsReply asked (response_of pages base.to (request_for base asked)) reply) → AreFrom book base old → AreFrom book base new
put_from None base old new asked reply puts one from = tt
put_from (Some pages) base old new asked reply puts one from = λ other found is. elim (cases_Bool (key_eq asked other)) [
  | inl same ↦
      (let here : Some reply ≡ Some found = sym (cond-true (key_eq asked other) (Some reply) (old other) same) ∙ (sym (puts other) ∙ is) in
      let reply_is : reply ≡ found = cc in
      subst (λ k. IsReply k (response_of pages base.to (request_for base k)) found) (key_one asked other same)
      (subst (IsReply asked (response_of pages base.to (request_for base asked))) reply_is one))
  | inr differs ↦ from other found (sym (cond-false (key_eq asked other) (Some reply) (old other) differs) ∙ (sym (puts other) ∙ is))
]

-- no reply is a book's
pub none_from : (book : Option Pages) (base : Base) (held : Held) → ((asked : Key) → held asked ≡ None) → AreFrom book base held
none_from None base held none = tt
none_from (Some pages) base held none = λ asked reply is. absurd (none_some reply (sym (none asked) ∙ is))
  where
    none_some : (reply : Reply) → None ≡ Some reply → ⊥
    none_some reply e = cc

-- ---- a key that isn't answered

-- the first key that lacks is one of them, and isn't answered
pub lacking_is : (answers : Answers) (keys : List Key) (asked : Key) → first_lacking answers keys ≡ Some asked
    → Contains keys asked × (is_answer (answers asked) ≡ false)
lacking_is answers [] asked is = absurd (cc)
lacking_is answers (first ∷ keys) asked is = elim (cases_Bool (is_answer (answers first))) [
  | inl answered ↦
      (let later =
      lacking_is answers keys asked (sym (cond-true (is_answer (answers first)) (first_lacking answers keys) (Some first) answered) ∙ is) in
      (contains_tail first asked keys later.0, later.1))
  | inr lacks ↦
      (let here : Some first ≡ Some asked = sym (cond-false (is_answer (answers first)) (first_lacking answers keys) (Some first) lacks) ∙ is in
      let one : first ≡ asked = cc in
      (subst (λ k. Contains (k ∷ keys) asked) (sym one) (contains_head asked keys), subst (λ k. is_answer (answers k) ≡ false) one lacks))
]

-- a verdict that lacks a key has it
lacks_some : (lacking : Option Key) (broken : Option Broken) (asked : Key) → verdict_by lacking broken ≡ Lacks asked → lacking ≡ Some asked
lacks_some (Some one) broken asked is = (let same : one ≡ asked = cc in ap (λ (k : Key). Some k) same)
lacks_some None (Some one) asked is = absurd (cc)
lacks_some None None asked is = absurd (cc)

-- of a verdict that lacks a key
pub verdict_lacks : (job : Job) (answers : Answers) (pins : Pins) (on : List NodeName) (asked : Key) → verdict job answers pins on ≡ Lacks asked
    → Contains (keys_read job answers pins on) asked × (is_answer (answers asked) ≡ false)
verdict_lacks job answers pins on asked is =
    lacking_is answers (keys_read job answers pins on) asked
    (lacks_some (first_lacking answers (keys_read job answers pins on)) (first_broken job answers pins on) asked is)

-- what is said and is no answer is that there are too many
pub many_said : (found : Said) → is_answer (Some found) ≡ false → found ≡ said.TooMany
many_said said.TooMany is = refl
many_said other is = absurd (false≢true (sym is))

-- that there are too many
abbrev is_many : Said → Bool
is_many said.TooMany = true
is_many other = false

-- it isn't said of a manifest
manifest_few : (bytes : List ℕ) → is_many (manifest_said (manifest_of bytes)) ≡ false
manifest_few bytes = elim (manifest_of bytes) as (λ reading. is_many (manifest_said reading) ≡ false) [ Ok contents ↦ refl | Err first ↦ refl ]

-- nor of a look-up
package_few : (bytes : List ℕ) → is_many (package_said (identifiers_of bytes)) ≡ false
package_few bytes = elim (identifiers_of bytes) as (λ reading. is_many (package_said reading) ≡ false) [ Ok texts ↦ refl | Err first ↦ refl ]

-- with the status 200 it is said of a list alone
present_many : (asked : Key) (bytes : Option (List ℕ)) → is_many (present asked bytes) ≡ true → IsListKey asked
present_many (key.List identity) bytes is = (identity, refl)
present_many (key.Manifest identity release) None is = absurd (false≢true is)
present_many (key.Manifest identity release) (Some bytes) is = absurd (false≢true (sym (manifest_few bytes) ∙ is))
present_many (key.Release identity release) bytes is = absurd (false≢true is)
present_many (key.Archive identity release) bytes is = absurd (false≢true is)
present_many (key.Identifiers url) None is = absurd (false≢true is)
present_many (key.Identifiers url) (Some bytes) is = absurd (false≢true (sym (package_few bytes) ∙ is))

-- and with the status 404 or 410 too
absent_many : (asked : Key) → is_many (absent asked) ≡ true → IsListKey asked
absent_many (key.List identity) is = (identity, refl)
absent_many (key.Manifest identity release) is = absurd (false≢true is)
absent_many (key.Release identity release) is = absurd (false≢true is)
absent_many (key.Archive identity release) is = absurd (false≢true is)
absent_many (key.Identifiers url) is = absurd (false≢true is)

-- with either
of_many : (asked : Key) (bytes : Option (List ℕ)) (there : Bool) → is_many (cond there (present asked bytes) (absent asked)) ≡ true → IsListKey asked
of_many asked bytes true is = present_many asked bytes is
of_many asked bytes false is = absent_many asked is

-- what is said is what the reply says
unrefused : (refusal : Option Refusal) (one found : Said) → api.unless_refused refusal one ≡ Ok found → one ≡ found
unrefused None one found is = cc
unrefused (Some refusal) one found is = absurd (cc)

-- only of a list it is said that there are too many
pub many_list : (asked : Key) (reply : Reply) → reply_said asked reply ≡ Ok said.TooMany → IsListKey asked
many_list asked reply is =
    of_many asked (bytes_in reply.body) (reply.status == 200)
    (ap is_many (unrefused (reply_refusal asked reply) (said_of asked reply) said.TooMany is))

-- ---- the end

-- over replies that have each key that is read
pub over_from : (book : Option Pages) (base : Base) (job : Job) (pins : Pins) (held : Held) (SaysSo : Held → Verdict → Type 0) (on : List NodeName)
    → AreFrom book base held → IsSettled job pins held → AreOn (world_by job (says_of held) pins) on
    → SaysSo held (verdict job (says_of held) pins on) → IsOver book base job pins SaysSo
over_from book base job pins held SaysSo on from settled are so = record {
  held = held;
  from = from;
  on = on;
  are = are;
  all =
      subst (λ l. (asked : Key) → Contains (keys_read job (says_of held) pins l) asked → is_held held asked ≡ true)
      (on_are_one (world_by job (says_of held) pins) settled.on on settled.are are) settled.all;
  says = so;
}

-- the first key that lacks is held, and isn't answered
pub lacks_held : (job : Job) (pins : Pins) (held : Held) (asked : Key) → IsSettled job pins held
    → IsJudged job (says_of held) pins (Err (judgement.NoReply asked)) → (is_held held asked ≡ true) × (is_answer (says_of held asked) ≡ false)
lacks_held job pins held asked settled j =
    let lacks = verdict_lacks job (says_of held) pins j.on asked j.tells in
    let same = on_are_one (world_by job (says_of held) pins) j.on settled.on j.are settled.are in
    (settled.all asked (subst (λ l. Contains (keys_read job (says_of held) pins l) asked) same lacks.0), lacks.1)

-- why it isn't is how the judging ends
pub unanswered_end : (book : Option Pages) (base : Base) (job : Job) (pins : Pins) (held : Held) (asked : Key) (it : Judged) → AreFrom book base held
    → IsSettled job pins held → IsJudged job (says_of held) pins (Err (judgement.NoReply asked)) → IsUnanswered held asked it
    → IsJudgedEnd book base job pins it
unanswered_end book base job pins held asked judged.Valid from settled j why = absurd why
unanswered_end book base job pins held asked (judged.Invalid text) from settled j why = absurd why
unanswered_end book base job pins held asked (judged.Refused other fault) from settled j why =
    over_from book base job pins held
    (λ replies given. (given ≡ Lacks other) × ((reply : Reply) → replies other ≡ Some reply → Says (Err fault) (reply_said other reply))) j.on from
    settled j.are (
      j.tells ∙ ap Lacks (sym why.0),
      subst (λ k. (reply : Reply) → held k ≡ Some reply → Says (Err fault) (reply_said k reply)) (sym why.0) why.1,
    )
unanswered_end book base job pins held asked (judged.TooWide identity) from settled j why =
    over_from book base job pins held
    (λ replies given. (given ≡ Lacks (key.List identity)) × (says_of replies (key.List identity) ≡ Some said.TooMany)) j.on from settled j.are
    (j.tells ∙ ap Lacks why.0, ap (says_of held) (sym why.0) ∙ why.1)
unanswered_end book base job pins held asked (judged.Failed other) from settled j why = absurd why
unanswered_end book base job pins held asked judged.Memory from settled j why = tt

-- it is no fault of the link
pub unanswered_quiet : (held : Held) (asked : Key) (it : Judged) → IsUnanswered held asked it → (faults : ℕ) → FaultsBy it faults faults
unanswered_quiet held asked judged.Valid why faults = refl
unanswered_quiet held asked (judged.Invalid text) why faults = refl
unanswered_quiet held asked (judged.Refused other fault) why faults = refl
unanswered_quiet held asked (judged.TooWide identity) why faults = refl
unanswered_quiet held asked (judged.Failed other) why faults = absurd why
unanswered_quiet held asked judged.Memory why faults = refl

-- a fetch that ends is how the judging ends
pub hold_end : (book : Option Pages) (base : Base) (job : Job) (pins : Pins) (it : Judged) → IsHoldEnd (IsUnfetched book base job pins) it
    → IsJudgedEnd book base job pins it
hold_end book base job pins judged.Valid why = absurd why
hold_end book base job pins (judged.Invalid text) why = absurd why
hold_end book base job pins (judged.Refused other fault) why = absurd why
hold_end book base job pins (judged.TooWide identity) why = absurd why
hold_end book base job pins (judged.Failed other) why = why
hold_end book base job pins judged.Memory why = tt

-- the end of a fetch at another test
pub hold_other : (IsAt IsOther : Key → Type 0) (it : Judged) → ((asked : Key) → IsAt asked → IsOther asked) → IsHoldEnd IsAt it → IsHoldEnd IsOther it
hold_other IsAt IsOther judged.Valid more why = absurd why
hold_other IsAt IsOther (judged.Invalid text) more why = absurd why
hold_other IsAt IsOther (judged.Refused other fault) more why = absurd why
hold_other IsAt IsOther (judged.TooWide identity) more why = absurd why
hold_other IsAt IsOther (judged.Failed other) more why = more other why
hold_other IsAt IsOther judged.Memory more why = tt
