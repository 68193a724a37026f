-- What judging says over what was heard of the pins is what the definitions say.
use Rattle.std.proofs.Common.{◌≡◌, ℕ, Bool, true, false, List, [], ◌∷◌, map, Option, Some, Result, Ok, Err, refl, sym, ap, ap₂, ◌∙◌, subst}
use Rattle.std.specs.Prelude.{IfErr, IsOk, not, ⊤}
use Rattle.std.specs.List.{filter}
use Rattle.std.proofs.lemmas.Bool.{false≢true}
use Rattle.spm_key.specs.declared.key.Key.{Key}
use Rattle.spm_key.specs.declared.key.Key.TheVariants as key
use Rattle.spm_version.specs.Release.{Parts}
use Rattle.spm_version.specs.declared.tools_version.ToolsVersion.{ToolsVersion}
use Rattle.spm_manifest.specs.declared.dump.Contents.{Contents}
use Rattle.pub_term.specs.declared.cause.Subject.{Subject}
use Rattle.pub_term.specs.declared.node.NodeName.{NodeName}
use Rattle.pub_facts.specs.Catalogue.{Faulty, Found, Gone, Job, Read, contents_of, is_above}
use Rattle.pub_facts.specs.Valid.{IsValid}
use Rattle.pub_trail.specs.Turn.{or_some}
use Rattle.pub_plain.specs.Answers.{Answers, catalogue_by, found_in}
use Rattle.pub_plain.specs.Choosing.{Pins, pin_of}
use Rattle.spm_judge.specs.Heard.{contents_in, heard, heard_of, usable_or}
use Rattle.spm_judge.specs.Held.{Held, is_held, says_of}
use Rattle.spm_judge.specs.Judged.{Breaks, AreWanted, Broken, Holds, IsJudged, Lacks, Refuses, Tells, first_broken, first_lacking, first_of, keys_read, unless_usable, unlisted, unreached, unusable, verdict, verdict_by, world_by}
use Rattle.spm_judge.specs.On.{AreOn}
use Rattle.spm_judge.specs.Steps.{AreWantedIn, IsJudgedIn, broken_by, first_in, keys_in, unless_ok, unlisted_in, unusable_in, verdict_in, world_heard}
use Rattle.spm_judge.specs.declared.judgement.Judgement.{Judgement}
use Rattle.spm_judge.specs.declared.judgement.Judgement.TheVariants as judgement
use Rattle.spm_judge.specs.declared.pinned.Pinned.{Pinned}
use Rattle.spm_judge.proofs.FirstLemmas.{Ascend}
use Rattle.spm_judge.proofs.ExistsLemmas.{on_exists}
use Rattle.spm_judge.proofs.HeardLemmas.{contents_same, world_same}
use Rattle.spm_judge.proofs.VerdictLemmas.{valid_verdict, verdict_valid}

-- ---- the rules, as heard

-- of a map the first that breaks a rule
first_of_map : {X Y : Type 0} (breaks : Y → Option Broken) (f : X → Y) (g : X → Option Broken) (xs : List X) → ((x : X) → breaks (f x) ≡ g x)
    → first_of breaks (map f xs) ≡ first_of g xs
first_of_map breaks f g [] same = refl
first_of_map breaks f g (x ∷ xs) same = ap₂ or_some (same x) (first_of_map breaks f g xs same)

-- contents that were read break the rule of manifests as they were heard
read_unless : (above : Bool) (tools : ToolsVersion) (subject : Subject) (contents : Contents) → is_above contents.tools tools ≡ above
    → unless_ok (usable_or tools subject (Read contents)) ≡ unless_usable subject (Read contents) (contents_of tools (Read contents))
read_unless true tools subject contents is = rw is refl
read_unless false tools subject contents is = rw is refl

-- so does whatever was found
usable_unless : (tools : ToolsVersion) (subject : Subject) (found : Found)
    → unless_ok (usable_or tools subject found) ≡ unless_usable subject found (contents_of tools found)
usable_unless tools subject Gone = refl
usable_unless tools subject (Faulty place kind) = refl
usable_unless tools subject (Read contents) = read_unless (is_above contents.tools tools) tools subject contents refl

-- a pin breaks the rule of manifests as it was heard
unusable_same : (job : Job) (answers : Answers) (pin : List ℕ × Parts) → unusable_in (heard_of job.tools answers pin) ≡ unusable job answers pin
unusable_same job answers pin =
    usable_unless job.tools (record { owner = Some (pin.0, pin.1); under = [] }) (found_in (answers (key.Manifest pin.0 pin.1)))

-- the first rule that is broken
pub first_same : (job : Job) (answers : Answers) (pins : Pins) (on : List NodeName)
    → first_in answers pins (contents_in job.root (heard job.tools answers pins)) (heard job.tools answers pins) on ≡ first_broken job answers pins on
first_same job answers pins on =
    ap₂ or_some (first_of_map unlisted_in (heard_of job.tools answers) (unlisted answers) pins (λ pin. refl))
    (ap₂ or_some (first_of_map unusable_in (heard_of job.tools answers) (unusable job answers) pins (unusable_same job answers))
    (ap (λ contents. or_some (first_of (broken_by answers pins contents) on) (first_of (unreached on) pins)) (contents_same job answers pins)))

-- the keys that are read
pub keys_same : (job : Job) (answers : Answers) (pins : Pins) (on : List NodeName)
    → keys_in (contents_in job.root (heard job.tools answers pins)) pins on ≡ keys_read job answers pins on
keys_same job answers pins on = ap (λ contents. keys_in contents pins on) (contents_same job answers pins)

-- the nodes that are on
pub on_same : (job : Job) (answers : Answers) (pins : Pins) (pinned : List Pinned) (on : List NodeName) → pinned ≡ heard job.tools answers pins
    → AreOn (world_heard job.root job.asked answers pinned) on → AreOn (world_by job answers pins) on
on_same job answers pins pinned on is are =
    subst (λ world. AreOn world on) (world_same job answers pins) (subst (λ p. AreOn (world_heard job.root job.asked answers p) on) is are)

-- ---- the verdict

-- the verdict over what was heard
pub verdict_same : (job : Job) (answers : Answers) (pins : Pins) (pinned : List Pinned) (on : List NodeName) → pinned ≡ heard job.tools answers pins
    → verdict_in answers pins (contents_in job.root pinned) pinned on ≡ verdict job answers pins on
verdict_same job answers pins pinned on is =
    ap (λ p. verdict_in answers pins (contents_in job.root p) p on) is
    ∙ ap₂ verdict_by (ap (first_lacking answers) (keys_same job answers pins on)) (first_same job answers pins on)

-- judging over what was heard is judging
pub judged_heard : (job : Job) (answers : Answers) (pins : Pins) (pinned : List Pinned) (result : Result ⊤ Judgement) → pinned ≡ heard job.tools answers pins
    → IsJudgedIn job.root job.asked answers pins pinned result → IsJudged job answers pins result
judged_heard job answers pins pinned result is j = record {
  on = j.on;
  are = on_same job answers pins pinned j.on is j.are;
  tells = subst (Tells result) (verdict_same job answers pins pinned j.on is) j.tells;
}

-- what is wanted over what was heard is what is wanted
pub wanted_as_heard : (job : Job) (held : Held) (pins : Pins) (pinned : List Pinned) (keys : List Key) → pinned ≡ heard job.tools (says_of held) pins
    → AreWantedIn job.root job.asked held pins pinned keys → AreWanted job held pins keys
wanted_as_heard job held pins pinned keys is w = record {
  on = w.on;
  are = on_same job (says_of held) pins pinned w.on is w.are;
  is =
      w.is
      ∙ ap (filter (λ one. not (is_held held one)))
      (ap (λ p. keys_in (contents_in job.root p) pins w.on) is ∙ keys_same job (says_of held) pins w.on);
}

-- want of memory
pub judged_memory : (job : Job) (answers : Answers) (pins : Pins) → IsJudged job answers pins (Err judgement.Memory)
judged_memory job answers pins =
    let found = on_exists job.root job.asked answers (heard job.tools answers pins) in
    record { on = found.0; are = on_same job answers pins (heard job.tools answers pins) found.0 refl found.1; tells = tt }

-- ---- what a judgement means

-- Ok is valid
judged_valid : (job : Job) (answers : Answers) (pins : Pins) (done : ⊤) → IsJudged job answers pins (Ok done)
    → IsValid job (catalogue_by answers) (pin_of pins)
judged_valid job answers pins done j = verdict_valid job answers pins j.on j.are j.tells

-- another verdict isn't valid
not_valid : (job : Job) (answers : Answers) (pins : Pins) (on : List NodeName) → Ascend pins → AreOn (world_by job answers pins) on
    → (verdict job answers pins on ≡ Holds → ⊥) → IsValid job (catalogue_by answers) (pin_of pins) → ⊥
not_valid job answers pins on ascend are differs valid = differs (valid_verdict job answers pins on ascend are valid)

-- Err refuses
judged_refuses : (job : Job) (answers : Answers) (pins : Pins) (why : Judgement) → Ascend pins → IsJudged job answers pins (Err why)
    → Refuses why (IsValid job (catalogue_by answers) (pin_of pins))
judged_refuses job answers pins (judgement.NoReply asked) ascend j =
    not_valid job answers pins j.on ascend j.are (λ holds. (let lacks : verdict job answers pins j.on ≡ Lacks asked = j.tells in lacks_holds asked (sym lacks ∙ holds)))
  where
    lacks_holds : (one : Key) → Lacks one ≡ Holds → ⊥
    lacks_holds one is = cc
judged_refuses job answers pins (judgement.Invalid text) ascend j =
    not_valid job answers pins j.on ascend j.are (λ holds. breaks_holds j.tells.0 (sym j.tells.1 ∙ holds))
  where
    breaks_holds : (one : Broken) → Breaks one ≡ Holds → ⊥
    breaks_holds one is = cc
judged_refuses job answers pins judgement.Memory ascend j = tt

-- the clauses of a judgement
pub valid_if_ok : (job : Job) (answers : Answers) (pins : Pins) (result : Result ⊤ Judgement) → IsJudged job answers pins result → IsOk result
    → IsValid job (catalogue_by answers) (pin_of pins)
valid_if_ok job answers pins (Ok done) j ok = judged_valid job answers pins done j
valid_if_ok job answers pins (Err why) j ok = absurd (false≢true ok)

-- and where it is no Ok
pub refuses_if_err : (job : Job) (answers : Answers) (pins : Pins) (result : Result ⊤ Judgement) → Ascend pins → IsJudged job answers pins result
    → IfErr result (λ why. Refuses why (IsValid job (catalogue_by answers) (pin_of pins)))
refuses_if_err job answers pins (Ok done) ascend j = tt
refuses_if_err job answers pins (Err why) ascend j = judged_refuses job answers pins why ascend j
