-- Which release of a package is preferred, and what is meant by a catalogue that extends what was said, so that a solver's selection can be
-- called the first.
use Rattle.std.specs.Prelude.{◌≡◌, ℕ, List, true, false, Some, if◌then◌else◌}
use Rattle.std.specs.List.Sorted.{IsStrictlySortedBy}
use Rattle.std.specs.Ordering.{is_lt}
use Rattle.pub_facts.specs.Catalogue.{Catalogue}
use Rattle.pub_facts.specs.First.{Preference}
use Rattle.spm_key.specs.declared.key.Key.TheVariants as key
use Rattle.spm_api.specs.declared.replies.Said.TheVariants as said
use Rattle.spm_version.specs.Release.{Parts}
use Rattle.spm_version.specs.ReleaseLaws.{release_cmp}
use Rattle.pub_plain.specs.Answers.{Answers, AreShort, Carries, catalogue_by}
use Rattle.pub_plain.specs.Choosing.{Pins, is_pinned, pin_of}

-- the pinned release is preferred to all others, and of two others the greater
abbrev pub prefers_by : Pins → Preference
prefers_by pins identity first second =
    if is_pinned (pin_of pins identity) (Some second) then false
    else if is_pinned (pin_of pins identity) (Some first) then true
    else is_lt (release_cmp second first)

-- a catalogue in which nothing that was said is said otherwise
pub record IsWider (answers : Answers) (c wider : Catalogue) : Type 0 where
  pub more : Answers
  pub carries : Carries answers more
  pub short : AreShort more
  pub is : wider ≡ catalogue_by more

-- each list that is given ascends
abbrev pub AreAscending : Answers → Type 0
AreAscending answers = (identity : List ℕ) (list : List Parts) → answers (key.List identity) ≡ Some (said.Releases list)
    → IsStrictlySortedBy release_cmp list
