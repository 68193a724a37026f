-- The verdict holds exactly where the pins are a valid selection.
use Rattle.std.proofs.Common.{◌≡◌, List, Option, Some, None, refl, ap₂}
use Rattle.spm_key.specs.declared.key.Key.{Key}
use Rattle.pub_term.specs.declared.node.NodeName.{NodeName}
use Rattle.pub_facts.specs.Catalogue.{Job}
use Rattle.pub_facts.specs.Valid.{IsValid}
use Rattle.pub_plain.specs.Answers.{Answers, catalogue_by}
use Rattle.pub_plain.specs.Choosing.{Pins, pin_of}
use Rattle.spm_judge.specs.Judged.{Broken, Holds, first_broken, first_lacking, keys_read, verdict, verdict_by, world_by}
use Rattle.spm_judge.specs.On.{AreOn}
use Rattle.spm_judge.proofs.FirstLemmas.{Ascend}
use Rattle.spm_judge.proofs.HoldsLemmas.{none_broken, none_lacking}
use Rattle.spm_judge.proofs.ValidLemmas.{valid_since}

-- a verdict that holds has no key that lacks and no rule that is broken
pub holds_parts : (lacking : Option Key) (broken : Option Broken) → verdict_by lacking broken ≡ Holds → (lacking ≡ None) × (broken ≡ None)
holds_parts (Some asked) broken is = absurd (cc)
holds_parts None (Some broken) is = absurd (cc)
holds_parts None None is = (refl, refl)

-- where the verdict holds, the pins are valid
pub verdict_valid : (job : Job) (answers : Answers) (pins : Pins) (on : List NodeName) → AreOn (world_by job answers pins) on
    → verdict job answers pins on ≡ Holds → IsValid job (catalogue_by answers) (pin_of pins)
verdict_valid job answers pins on are is =
    valid_since job answers pins on are
    (holds_parts (first_lacking answers (keys_read job answers pins on)) (first_broken job answers pins on) is).1

-- where the pins are valid, the verdict holds
pub valid_verdict : (job : Job) (answers : Answers) (pins : Pins) (on : List NodeName) → Ascend pins → AreOn (world_by job answers pins) on
    → IsValid job (catalogue_by answers) (pin_of pins) → verdict job answers pins on ≡ Holds
valid_verdict job answers pins on ascend are valid =
    ap₂ verdict_by (none_lacking job answers pins on ascend are valid) (none_broken job answers pins on ascend are valid)
