-- Worked examples of facts, which compute.
use Rattle.std.proofs.Common.{◌≡◌, ℕ, List, [], ◌∷◌, None, refl}
use Rattle.std.specs.Prelude.{codes}
use Rattle.pub_term.specs.declared.cause.Cause.TheVariants.{Requires}
use Rattle.pub_term.specs.declared.node.NodeName.TheVariants.{Root, RootTrait, Package}
use Rattle.spm_manifest.specs.declared.dump.Contents.{Contents}
use Rattle.spm_manifest.specs.declared.need.Guard.TheVariants.{Always}
use Rattle.spm_manifest.specs.declared.need.Need.{Need}
use Rattle.spm_manifest.specs.declared.need.Target.TheVariants.{Registry}
use Rattle.spm_version.specs.Release.{Parts}
use Rattle.spm_version.specs.declared.requirement.Requirement.{Requirement}
use Rattle.spm_version.specs.declared.requirement.Requirement.TheVariants.{Range}
use Rattle.pub_facts.specs.Catalogue.{Lookups}
use Rattle.pub_facts.specs.Facts.{facts_in, load_of}
use Rattle.pub_facts.specs.Numbered.{new_names, number_in, numbered, written_nodes}

abbrev release : ℕ → Parts
release major = (major, 0, 0, [], [])

abbrev from_one : Requirement
from_one = Range (release 1) (release 2)

abbrev needed : Need
needed = record { target = Registry (codes "mona.a"); requirement = from_one; guard = Always; asked = [] }

abbrev root : Contents
root = record { name = codes "app"; tools = record { major = 5; minor = 9; patch = 0 }; traits = record { entries = [] }; needs = needed ∷ [] }

abbrev lists : List Parts → Lookups
lists list = record { list = λ identity. list; package_at = λ url. None }

-- a package without releases can't be had: its set is whole, and the fact says that the root can't be chosen
none_listed : numbered (number_in (Root ∷ Package (codes "mona.a") ∷ [])) (facts_in [] (lists []) (load_of Root 1) root)
    ≡ (
      record { terms = record { node = 0; choices = record { size = 2; members = 1 ∷ [] } } ∷ [] },
      Requires (record { owner = None; under = [] }) (codes "mona.a") from_one,
    ) ∷ []
none_listed = refl

-- of two releases the one that isn't contained is ruled out, and none
one_contained : numbered (number_in (Root ∷ Package (codes "mona.a") ∷ [])) (facts_in [] (lists (release 1 ∷ release 2 ∷ [])) (load_of Root 1) root)
    ≡ (
      record {
        terms = record { node = 0; choices = record { size = 2; members = 1 ∷ [] } }
            ∷ record { node = 1; choices = record { size = 3; members = 0 ∷ 2 ∷ [] } } ∷ [];
      },
      Requires (record { owner = None; under = [] }) (codes "mona.a") from_one,
    ) ∷ []
one_contained = refl

-- what the words ask comes first, and names its node first
asked_first : new_names (Root ∷ []) (written_nodes (facts_in (codes "default" ∷ []) (lists []) (load_of Root 1) root))
    ≡ RootTrait (codes "default") ∷ Package (codes "mona.a") ∷ []
asked_first = refl
