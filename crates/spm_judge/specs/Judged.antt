-- How pins are judged: the keys that are read, in their order; the first rule of valid selections that is broken, in the order of the rules;
-- and what is answered.
use Rattle.std.specs.Prelude.{◌≡◌, List, ℕ, [], ◌∷◌, ◌++◌, map, codes, not, Option, Some, None, Result, Ok, Err, ⊤, filter_map, flat_map, if◌then◌else◌}
use Rattle.std.specs.List.{filter, list_any}
use Rattle.spm_version.specs.Release.{Parts, parts_text}
use Rattle.spm_version.specs.ReleaseLaws.{release_eq}
use Rattle.spm_trait.specs.Closure.{is_declared}
use Rattle.spm_trait.specs.declared.traits.TraitEntry.{TraitEntry}
use Rattle.spm_manifest.specs.declared.dump.Contents.{Contents}
use Rattle.spm_manifest.specs.declared.need.Need.{Need}
use Rattle.spm_manifest.specs.declared.need.Target.{Target}
use Rattle.spm_manifest.specs.declared.need.Target.TheVariants.{Registry, Url, Local}
use Rattle.spm_key.specs.declared.key.Key.{Key}
use Rattle.spm_key.specs.declared.key.Key.TheVariants as key
use Rattle.spm_api.specs.Guess.{is_looked_up}
use Rattle.pub_term.specs.Node.{package_of, trait_of}
use Rattle.pub_term.specs.NodeLaws.{node_eq}
use Rattle.pub_term.specs.declared.node.NodeName.{NodeName}
use Rattle.pub_term.specs.declared.node.NodeName.TheVariants.{Package}
use Rattle.pub_term.specs.declared.cause.Cause.{Cause}
use Rattle.pub_term.specs.declared.cause.Cause.TheVariants.{NoTrait, Requires}
use Rattle.pub_term.specs.declared.cause.Subject.{Subject}
use Rattle.spm_explain.specs.Sentence.{sentence}
use Rattle.pub_facts.specs.Catalogue.{Found, Job, contents_of, target_of}
use Rattle.pub_facts.specs.Enabled.{World, version_of, world_of}
use Rattle.pub_facts.specs.Facts.{is_inside, load_needs, named_owner, trouble, under_names, unmet_cause}
use Rattle.pub_trail.specs.Turn.{or_some}
use Rattle.pub_plain.specs.Answers.{Answers, catalogue_by, found_in, lookups_by, releases_in}
use Rattle.pub_plain.specs.Choosing.{Pins, pin_of}
use Rattle.spm_judge.specs.Held.{Held, is_answer, is_held, says_of}
use Rattle.spm_judge.specs.On.{AreOn}
use Rattle.spm_judge.specs.declared.judgement.Judgement.{Judgement}
use Rattle.spm_judge.specs.declared.judgement.Judgement.TheVariants as judgement

-- what the pins reach and enable
abbrev pub world_by : Job → Answers → Pins → World
world_by job answers pins = world_of job (catalogue_by answers) (pin_of pins)

-- the contents of a node's owner, if they can be used
abbrev pub contents_at : Job → Answers → Pins → NodeName → Option Contents
contents_at job answers pins node = (world_by job answers pins).contents (package_of node)

-- ---- the keys that are read

abbrev pub list_keys : Pins → List Key
list_keys pins = map (λ (pin : List ℕ × Parts). key.List pin.0) pins

abbrev pub manifest_keys : Pins → List Key
manifest_keys pins = map (λ (pin : List ℕ × Parts). key.Manifest pin.0 pin.1) pins

-- a dependency on a URL is looked up
abbrev pub target_key : Target → Option Key
target_key (Registry identity) = None
target_key (Url url) = Some (key.Identifiers url)
target_key (Local path) = None

-- if it is for a range or for one version
abbrev pub lookup_key : Need → Option Key
lookup_key need = if is_looked_up need.requirement then target_key need.target else None

abbrev pub needs_under : Option (List ℕ) → Option Contents → List Need
needs_under under None = []
needs_under under (Some contents) = load_needs under contents

-- the needs that a node that is on makes active: of the root or a package those that are always in force, of a trait those that it guards
abbrev pub needs_at : Job → Answers → Pins → NodeName → List Need
needs_at job answers pins node = needs_under (trait_of node) (contents_at job answers pins node)

abbrev pub lookup_keys : Job → Answers → Pins → NodeName → List Key
lookup_keys job answers pins node = filter_map lookup_key (needs_at job answers pins node)

-- the lists of the pins, their manifests, and the look-ups of what is active, node by node
abbrev pub keys_read : Job → Answers → Pins → List NodeName → List Key
keys_read job answers pins on = list_keys pins ++ (manifest_keys pins ++ flat_map (lookup_keys job answers pins) on)

-- ---- the rules

-- what breaks a rule
pub data Broken : Type 0 where
  -- a pin whose release isn't listed
  Unlisted : List ℕ → Parts → Broken
  -- a version that can't be used, a need that isn't met, or a trait that isn't declared
  Because : Cause → Broken
  -- a pin that nothing reaches
  Unreached : List ℕ → Broken

-- the first of some things that breaks a rule
abbrev pub first_of : {X : Type 0} → (X → Option Broken) → List X → Option Broken
first_of breaks [] = None
first_of breaks (x ∷ xs) = or_some (breaks x) (first_of breaks xs)

abbrev pub unlisted : Answers → List ℕ × Parts → Option Broken
unlisted answers pin = if list_any (release_eq pin.1) (releases_in (answers (key.List pin.0))) then None else Some (Unlisted pin.0 pin.1)

abbrev pub unless_usable : Subject → Found → Option Contents → Option Broken
unless_usable subject found None = Some (Because (trouble subject found))
unless_usable subject found (Some contents) = None

abbrev pub unusable_as : Job → Subject → Found → Option Broken
unusable_as job subject found = unless_usable subject found (contents_of job.tools found)

abbrev pub unusable : Job → Answers → List ℕ × Parts → Option Broken
unusable job answers pin = unusable_as job (record { owner = Some (pin.0, pin.1); under = [] }) (found_in (answers (key.Manifest pin.0 pin.1)))

-- the root or a pin, with the trait
abbrev pub subject_at : Pins → NodeName → Subject
subject_at pins node = record {
  owner = named_owner (package_of node) (version_of (pin_of pins) (package_of node));
  under = under_names (trait_of node);
}

abbrev pub undeclared : Subject → List TraitEntry → Option (List ℕ) → Option Broken
undeclared subject entries None = None
undeclared subject entries (Some name) = if is_declared entries name then None else Some (Because (NoTrait subject))

abbrev pub unmet_on : Pins → Subject → Need → Option (List ℕ) → Option Broken
unmet_on pins subject need None = Some (Because (unmet_cause subject need.requirement need.target))
unmet_on pins subject need (Some target) =
    if is_inside need.requirement (pin_of pins target) then None else Some (Because (Requires subject target need.requirement))

abbrev pub unmet : Answers → Pins → Subject → Need → Option Broken
unmet answers pins subject need = unmet_on pins subject need (target_of (lookups_by answers) need)

abbrev pub broken_in : Answers → Pins → NodeName → Option Contents → Option Broken
broken_in answers pins node None = None
broken_in answers pins node (Some contents) =
    or_some (undeclared (subject_at pins node) contents.traits.entries (trait_of node))
    (first_of (unmet answers pins (subject_at pins node)) (load_needs (trait_of node) contents))

-- of a node that is on: its trait is declared, and what it makes active is met
abbrev pub broken_at : Job → Answers → Pins → NodeName → Option Broken
broken_at job answers pins node = broken_in answers pins node (contents_at job answers pins node)

abbrev pub unreached : List NodeName → List ℕ × Parts → Option Broken
unreached on pin = if list_any (node_eq (Package pin.0)) on then None else Some (Unreached pin.0)

-- the pins are gone through for unlisted releases, then for versions that can't be used; then the nodes that are on; and then the pins for
-- those that nothing reaches
abbrev pub first_broken : Job → Answers → Pins → List NodeName → Option Broken
first_broken job answers pins on =
    or_some (first_of (unlisted answers) pins)
    (or_some (first_of (unusable job answers) pins) (or_some (first_of (broken_at job answers pins) on) (first_of (unreached on) pins)))

abbrev pub text_of : Broken → List ℕ
text_of (Unlisted identity release) = identity ++ (codes " " ++ (parts_text release ++ codes " isn't listed"))
text_of (Because cause) = sentence cause
text_of (Unreached identity) = identity ++ codes " isn't reached"

-- ---- the verdict

pub data Verdict : Type 0 where
  Lacks : Key → Verdict
  Breaks : Broken → Verdict
  Holds : Verdict

-- the first key that isn't answered
abbrev pub first_lacking : Answers → List Key → Option Key
first_lacking answers [] = None
first_lacking answers (asked ∷ keys) = if is_answer (answers asked) then first_lacking answers keys else Some asked

abbrev pub verdict_by : Option Key → Option Broken → Verdict
verdict_by (Some asked) broken = Lacks asked
verdict_by None (Some broken) = Breaks broken
verdict_by None None = Holds

abbrev pub verdict : Job → Answers → Pins → List NodeName → Verdict
verdict job answers pins on = verdict_by (first_lacking answers (keys_read job answers pins on)) (first_broken job answers pins on)

-- ---- what is answered

-- a judgement says the verdict; want of memory is free
abbrev pub Tells : Result ⊤ Judgement → Verdict → Type 0
Tells (Ok done) said = said ≡ Holds
Tells (Err (judgement.NoReply asked)) said = said ≡ Lacks asked
Tells (Err (judgement.Invalid text)) said = (broken : Broken) × (said ≡ Breaks broken) × (text ≡ text_of broken)
Tells (Err judgement.Memory) said = Unit {0}

-- the verdict over the nodes that are on
pub record IsJudged (job : Job) (answers : Answers) (pins : Pins) (result : Result ⊤ Judgement) : Type 0 where
  pub on : List NodeName
  pub are : AreOn (world_by job answers pins) on
  pub tells : Tells result (verdict job answers pins on)

-- of the keys that are read, those that aren't held, in the order of reading
pub record AreWanted (job : Job) (held : Held) (pins : Pins) (keys : List Key) : Type 0 where
  pub on : List NodeName
  pub are : AreOn (world_by job (says_of held) pins) on
  pub is : keys ≡ filter (λ asked. not (is_held held asked)) (keys_read job (says_of held) pins on)

-- where the judgement isn't Ok, the pins aren't valid
abbrev pub Refuses : Judgement → Type 0 → Type 0
Refuses (judgement.NoReply asked) Valid = Valid → ⊥
Refuses (judgement.Invalid text) Valid = Valid → ⊥
Refuses judgement.Memory Valid = Unit {0}
