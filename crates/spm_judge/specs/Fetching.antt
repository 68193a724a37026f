-- How replies are fetched, round by round. No public contract speaks of it.
use Rattle.std.specs.Prelude.{◌≡◌, ◌+◌, ℕ, List, [], ◌∷◌, ◌++◌, flat_map, filter_map, true, Bool, false, Contains, Some, Result, Ok, Err}
use Rattle.spm_version.specs.Release.{Parts}
use Rattle.spm_key.specs.declared.key.Key.{Key}
use Rattle.spm_key.specs.declared.key.Key.TheVariants as key
use Rattle.spm_key.specs.declared.reply.Reply.{Reply}
use Rattle.spm_api.specs.Said.{Says, reply_said}
use Rattle.spm_api.specs.declared.replies.Said.TheVariants.{TooMany}
use Rattle.pub_facts.specs.Catalogue.{Job, needs_in}
use Rattle.pub_plain.specs.Answers.{Answers}
use Rattle.pub_plain.specs.Choosing.{Pins}
use Rattle.pub_term.specs.declared.node.NodeName.{NodeName}
use Rattle.spm_judge.specs.Held.{Held, is_held, says_of}
use Rattle.spm_judge.specs.Judged.{keys_read, list_keys, lookup_key, manifest_keys, world_by}
use Rattle.spm_judge.specs.On.{AreOn}
use Rattle.spm_judge.specs.Over.{FaultsBy}
use Rattle.spm_judge.specs.declared.over.Judged.{Judged}
use Rattle.spm_judge.specs.declared.over.Judged.TheVariants as judged

-- what was held still is
abbrev pub IsMore : Held → Held → Type 0
IsMore old new = (asked : Key) (reply : Reply) → old asked ≡ Some reply → new asked ≡ Some reply

-- each of the keys is held
abbrev pub AreHeld : List Key → Held → Type 0
AreHeld keys held = (asked : Key) → Contains keys asked → is_held held asked ≡ true

-- the lists and the manifests of the pins are held
abbrev pub ArePinsHeld : Pins → Held → Type 0
ArePinsHeld pins held = AreHeld (list_keys pins ++ manifest_keys pins) held

-- each key that is read is held
pub record IsSettled (job : Job) (pins : Pins) (held : Held) : Type 0 where
  pub on : List NodeName
  pub are : AreOn (world_by job (says_of held) pins) on
  pub all : AreHeld (keys_read job (says_of held) pins on) held

-- the look-ups of all needs of the root and of the pins
abbrev pub lookups_of_pin : Job → Answers → Pins → List ℕ × Parts → List Key
lookups_of_pin job answers pins pin = filter_map lookup_key (needs_in ((world_by job answers pins).contents (Some pin.0)))

abbrev pub all_lookups : Job → Answers → Pins → List Key
all_lookups job answers pins = filter_map lookup_key job.root.needs ++ flat_map (lookups_of_pin job answers pins) pins

-- one where a key isn't held
abbrev pub lack_of : Bool → ℕ
lack_of true = 0
lack_of false = 1

-- how many of the keys aren't held
abbrev pub count_left : Held → List Key → ℕ
count_left held [] = 0
count_left held (asked ∷ keys) = lack_of (is_held held asked) + count_left held keys

-- how many of the look-ups aren't held
abbrev pub keys_left : Job → Pins → Held → ℕ
keys_left job pins held = count_left held (all_lookups job (says_of held) pins)

-- a fetch ends with a fault at such a key, or with want of memory
abbrev pub IsHoldEnd : (Key → Type 0) → Judged → Type 0
IsHoldEnd IsAt (judged.Failed asked) = IsAt asked
IsHoldEnd IsAt judged.Memory = Unit {0}
IsHoldEnd IsAt it = ⊥

-- the link's count of faults stays unless a fetch failed
abbrev pub FaultsAfterHold : {T : Type 0} → Result T Judged → ℕ → ℕ → Type 0
FaultsAfterHold (Ok done) old new = new ≡ old
FaultsAfterHold (Err it) old new = FaultsBy it old new

-- why a key that is held isn't answered
abbrev pub IsUnanswered : Held → Key → Judged → Type 0
IsUnanswered held asked (judged.Refused other fault) =
    (other ≡ asked) × ((reply : Reply) → held asked ≡ Some reply → Says (Err fault) (reply_said asked reply))
IsUnanswered held asked (judged.TooWide identity) = (asked ≡ key.List identity) × (says_of held asked ≡ Some TooMany)
IsUnanswered held asked judged.Memory = Unit {0}
IsUnanswered held asked it = ⊥

-- a key of a list
abbrev pub IsListKey : Key → Type 0
IsListKey asked = (identity : List ℕ) × (asked ≡ key.List identity)

-- that its list is too long
abbrev pub IsWide : Key → Judged → Type 0
IsWide asked it = (identity : List ℕ) × (asked ≡ key.List identity) × (it ≡ judged.TooWide identity)
