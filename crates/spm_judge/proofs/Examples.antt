-- Worked verdicts, which compute: pins that are valid, and pins each of which breaks one rule.
use Rattle.std.proofs.Common.{◌≡◌, ℕ, List, [], ◌∷◌, None, Some, refl, if◌then◌else◌}
use Rattle.std.specs.Prelude.{codes}
use Rattle.std.specs.Str.{bytes_eq}
use Rattle.pub_facts.specs.Catalogue.{Job}
use Rattle.pub_term.specs.declared.cause.Cause.TheVariants.{NoTrait, Requires}
use Rattle.pub_term.specs.declared.node.NodeName.{NodeName}
use Rattle.pub_term.specs.declared.node.NodeName.TheVariants.{Root, RootTrait, Package, PackageTrait}
use Rattle.spm_api.specs.declared.replies.Said.TheVariants as said
use Rattle.spm_key.specs.declared.key.Key.TheVariants as key
use Rattle.spm_manifest.specs.declared.dump.Contents.{Contents}
use Rattle.spm_manifest.specs.declared.need.Ask.{Ask}
use Rattle.spm_manifest.specs.declared.need.Guard.{Guard}
use Rattle.spm_manifest.specs.declared.need.Guard.TheVariants.{Always, Any}
use Rattle.spm_manifest.specs.declared.need.Need.{Need}
use Rattle.spm_manifest.specs.declared.need.Target.TheVariants.{Registry}
use Rattle.spm_trait.specs.declared.traits.TraitEntry.{TraitEntry}
use Rattle.spm_version.specs.Release.{Parts}
use Rattle.spm_version.specs.declared.requirement.Requirement.TheVariants.{Range}
use Rattle.pub_plain.specs.Answers.{Answers}
use Rattle.pub_plain.specs.Choosing.{Pins}
use Rattle.spm_judge.specs.Judged.{Because, Breaks, Holds, Lacks, Unlisted, Unreached, verdict}

-- ---- the parts of examples

abbrev release : ℕ → ℕ → Parts
release major minor = (major, minor, 0, [], [])

-- the trait `default`, which a dependency without a word of traits asks
abbrev usual : List Ask
usual = record { name = codes "default"; under = [] } ∷ []

-- from 1.0.0 up to 2.0.0
abbrev need : List ℕ → Guard → List Ask → Need
need identity guard asked = record { target = Registry identity; requirement = Range (release 1 0) (release 2 0); guard = guard; asked = asked }

abbrev contents : List TraitEntry → List Need → Contents
contents entries needs = record {
  name = codes "it";
  tools = record { major = 5; minor = 9; patch = 0 };
  traits = record { entries = entries };
  needs = needs;
}

abbrev job : List Need → Job
job needs = record { root = contents [] needs; asked = codes "default" ∷ []; tools = record { major = 6; minor = 1; patch = 0 } }

-- ---- c, which needs d and x by its traits D and X, of which D is on by default; and z, which asks X of it

abbrev declared : List TraitEntry
declared =
    record { name = codes "default"; enables = codes "D" ∷ [] } ∷ record { name = codes "D"; enables = [] } ∷ record { name = codes "X"; enables = [] } ∷ []

abbrev c_contents : Contents
c_contents = contents declared (need (codes "mona.d") (Any (codes "D" ∷ [])) usual ∷ need (codes "mona.x") (Any (codes "X" ∷ [])) usual ∷ [])

abbrev z_contents : Contents
z_contents = contents [] (need (codes "mona.c") Always (record { name = codes "X"; under = [] } ∷ []) ∷ [])

abbrev says : List ℕ → Parts → Contents
says identity version =
    if bytes_eq identity (codes "mona.c") then c_contents else if bytes_eq identity (codes "mona.z") then z_contents else contents [] []

-- each package has two releases
abbrev answers : Answers
answers (key.List identity) = Some (said.Releases (release 1 0 ∷ release 2 0 ∷ []))
answers (key.Manifest identity version) = Some (said.Manifest (says identity version))
answers (key.Release identity version) = None
answers (key.Archive identity version) = None
answers (key.Identifiers url) = Some (said.Package None)

-- the root needs c, without its traits by default, and z
abbrev root : Job
root = job (need (codes "mona.c") Always [] ∷ need (codes "mona.z") Always usual ∷ [])

-- what is reached and enabled, where c and z are pinned at their first release
abbrev on : List NodeName
on =
    Root ∷ RootTrait (codes "default") ∷ Package (codes "mona.c") ∷ PackageTrait (codes "mona.c") (codes "X") ∷ Package (codes "mona.x")
    ∷ PackageTrait (codes "mona.x") (codes "default") ∷ Package (codes "mona.z") ∷ PackageTrait (codes "mona.z") (codes "default") ∷ []

abbrev pinned : List ℕ → ℕ → List ℕ × Parts
pinned identity major = (identity, release major 0)

all_valid : verdict root answers (pinned (codes "mona.c") 1 ∷ pinned (codes "mona.x") 1 ∷ pinned (codes "mona.z") 1 ∷ []) on ≡ Holds
all_valid = refl

-- x is missing, which X needs of c
missing : verdict root answers (pinned (codes "mona.c") 1 ∷ pinned (codes "mona.z") 1 ∷ []) on
    ≡ Breaks (Because (Requires (record { owner = Some (codes "mona.c", release 1 0); under = codes "X" ∷ [] }) (codes "mona.x")
    (Range (release 1 0) (release 2 0))))
missing = refl

-- d is pinned besides, and D isn't on
not_reached : verdict root answers
    (pinned (codes "mona.c") 1 ∷ pinned (codes "mona.d") 1 ∷ pinned (codes "mona.x") 1 ∷ pinned (codes "mona.z") 1 ∷ []) on
    ≡ Breaks (Unreached (codes "mona.d"))
not_reached = refl

-- x is outside of what is needed
outside : verdict root answers (pinned (codes "mona.c") 1 ∷ pinned (codes "mona.x") 2 ∷ pinned (codes "mona.z") 1 ∷ []) on
    ≡ Breaks (Because (Requires (record { owner = Some (codes "mona.c", release 1 0); under = codes "X" ∷ [] }) (codes "mona.x")
    (Range (release 1 0) (release 2 0))))
outside = refl

-- a release that no list has comes before all else
not_listed : verdict root answers (pinned (codes "mona.c") 1 ∷ pinned (codes "mona.x") 3 ∷ []) on ≡ Breaks (Unlisted (codes "mona.x") (release 3 0))
not_listed = refl

-- the list of the first pin is read first
list_first : verdict root (λ asked. None) (pinned (codes "mona.c") 1 ∷ []) on ≡ Lacks (key.List (codes "mona.c"))
list_first = refl
