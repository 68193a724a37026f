-- The keys that are read and the first rule that is broken, over what was heard of the pins. No public contract speaks of it.
use Rattle.std.specs.Prelude.{◌≡◌, ℕ, List, ◌++◌, filter_map, flat_map, not, Option, Some, None, Result, Ok, Err, ⊤, if◌then◌else◌}
use Rattle.std.specs.List.{filter}
use Rattle.spm_manifest.specs.declared.dump.Contents.{Contents}
use Rattle.spm_key.specs.declared.key.Key.{Key}
use Rattle.pub_term.specs.Node.{package_of, trait_of}
use Rattle.pub_term.specs.declared.cause.Cause.{Cause}
use Rattle.pub_term.specs.declared.node.NodeName.{NodeName}
use Rattle.pub_facts.specs.Catalogue.{Owner, target_of}
use Rattle.pub_facts.specs.Enabled.{World}
use Rattle.pub_trail.specs.Turn.{or_some}
use Rattle.pub_plain.specs.Answers.{Answers, lookups_by}
use Rattle.pub_plain.specs.Choosing.{Pins}
use Rattle.spm_judge.specs.Heard.{contents_in}
use Rattle.spm_judge.specs.Held.{Held, is_held, says_of}
use Rattle.spm_judge.specs.On.{AreOn}
use Rattle.spm_judge.specs.declared.judgement.Judgement.{Judgement}
use Rattle.spm_judge.specs.Judged.{
  Because,
  Broken,
  Tells,
  Unlisted,
  Verdict,
  broken_in,
  first_lacking,
  first_of,
  list_keys,
  lookup_key,
  manifest_keys,
  needs_under,
  unreached,
  verdict_by,
}
use Rattle.spm_judge.specs.declared.pinned.Pinned.{Pinned}

-- the look-ups of what a node makes active
abbrev pub lookups_in : (Owner → Option Contents) → NodeName → List Key
lookups_in contents node = filter_map lookup_key (needs_under (trait_of node) (contents (package_of node)))

abbrev pub keys_in : (Owner → Option Contents) → Pins → List NodeName → List Key
keys_in contents pins on = list_keys pins ++ (manifest_keys pins ++ flat_map (lookups_in contents) on)

abbrev pub unlisted_in : Pinned → Option Broken
unlisted_in pin = if pin.listed then None else Some (Unlisted pin.identity pin.release)

abbrev pub unless_ok : Result Contents Cause → Option Broken
unless_ok (Ok contents) = None
unless_ok (Err cause) = Some (Because cause)

abbrev pub unusable_in : Pinned → Option Broken
unusable_in pin = unless_ok pin.contents

abbrev pub broken_by : Answers → Pins → (Owner → Option Contents) → NodeName → Option Broken
broken_by answers pins contents node = broken_in answers pins node (contents (package_of node))

abbrev pub first_in : Answers → Pins → (Owner → Option Contents) → List Pinned → List NodeName → Option Broken
first_in answers pins contents pinned on =
    or_some (first_of unlisted_in pinned)
    (or_some (first_of unusable_in pinned) (or_some (first_of (broken_by answers pins contents) on) (first_of (unreached on) pins)))

abbrev pub verdict_in : Answers → Pins → (Owner → Option Contents) → List Pinned → List NodeName → Verdict
verdict_in answers pins contents pinned on =
    verdict_by (first_lacking answers (keys_in contents pins on)) (first_in answers pins contents pinned on)

-- a world that was heard
abbrev pub world_heard : Contents → List (List ℕ) → Answers → List Pinned → World
world_heard root asked answers pinned = record {
  asked = asked;
  contents = contents_in root pinned;
  target = target_of (lookups_by answers);
}

-- the verdict over what was heard
pub record IsJudgedIn (root : Contents) (asked : List (List ℕ)) (answers : Answers) (pins : Pins) (pinned : List Pinned) (result : Result ⊤ Judgement) : Type 0 where
  pub on : List NodeName
  pub are : AreOn (world_heard root asked answers pinned) on
  pub tells : Tells result (verdict_in answers pins (contents_in root pinned) pinned on)

-- the keys that are wanted over what was heard
pub record AreWantedIn (root : Contents) (asked : List (List ℕ)) (held : Held) (pins : Pins) (pinned : List Pinned) (keys : List Key) : Type 0 where
  pub on : List NodeName
  pub are : AreOn (world_heard root asked (says_of held) pinned) on
  pub is : keys ≡ filter (λ one. not (is_held held one)) (keys_in (contents_in root pinned) pins on)
