-- Worked runs of the plain solver, which compute: the counts of turns, what is pinned, and what is asked for first.
use Rattle.std.proofs.Common.{◌≡◌, ℕ, List, [], ◌∷◌, map, ◌==◌, None, Some, refl, if◌then◌else◌}
use Rattle.std.specs.List.{filter}
use Rattle.std.specs.Prelude.{codes}
use Rattle.std.specs.Str.{bytes_eq}
use Rattle.pub_facts.specs.Catalogue.{Job}
use Rattle.pub_facts.specs.Numbered.{number_in}
use Rattle.pub_trail.specs.First.{chosen}
use Rattle.pub_trail.specs.Turn.{Turn, Went, Needs, TooWide, Selected, Refuted}
use Rattle.pub_trail.specs.declared.turned.Wide.TheVariants.{Versions}
use Rattle.spm_api.specs.declared.replies.Said.TheVariants as said
use Rattle.spm_key.specs.declared.key.Key.TheVariants as key
use Rattle.spm_manifest.specs.declared.dump.Contents.{Contents}
use Rattle.spm_manifest.specs.declared.need.Ask.{Ask}
use Rattle.spm_manifest.specs.declared.need.Guard.{Guard}
use Rattle.spm_manifest.specs.declared.need.Guard.TheVariants.{Always, Any}
use Rattle.spm_manifest.specs.declared.need.Need.{Need}
use Rattle.spm_manifest.specs.declared.need.Target.TheVariants.{Registry, Url}
use Rattle.spm_trait.specs.declared.traits.TraitEntry.{TraitEntry}
use Rattle.spm_version.specs.Release.{Parts}
use Rattle.spm_version.specs.declared.requirement.Requirement.TheVariants.{Branch, Range}
use Rattle.pub_plain.specs.Answers.{Answers}
use Rattle.pub_plain.specs.Loading.{is_package}
use Rattle.pub_plain.specs.Plain.{plain_after}

-- ---- the parts of examples

abbrev release : ℕ → ℕ → Parts
release major minor = (major, minor, 0, [], [])

-- the trait `default`, which a dependency without a word of traits asks
abbrev usual : List Ask
usual = record { name = codes "default"; under = [] } ∷ []

abbrev need : List ℕ → ℕ → ℕ → Guard → List Ask → Need
need identity low high guard asked = record { target = Registry identity; requirement = Range (release low 0) (release high 0); guard = guard; asked = asked }

-- from the first major version on, without and with the usual trait
abbrev plain_need : List ℕ → Need
plain_need identity = need identity 1 2 Always []

abbrev usual_need : List ℕ → Need
usual_need identity = need identity 1 2 Always usual

abbrev contents : List TraitEntry → List Need → Contents
contents entries needs = record {
  name = codes "it";
  tools = record { major = 5; minor = 9; patch = 0 };
  traits = record { entries = entries };
  needs = needs;
}

abbrev job : List Need → Job
job needs = record { root = contents [] needs; asked = codes "default" ∷ []; tools = record { major = 6; minor = 1; patch = 0 } }

-- every package has these releases, and its manifests say this
abbrev answers : (List ℕ → List Parts) → (List ℕ → Parts → Contents) → Answers
answers listed says (key.List identity) = Some (said.Releases (listed identity))
answers listed says (key.Manifest identity version) = Some (said.Manifest (says identity version))
answers listed says (key.Release identity version) = None
answers listed says (key.Archive identity version) = None
answers listed says (key.Identifiers url) = Some (said.Package None)

-- how a turn ends: it goes on, needs a key, passes a limit, selects or refutes
abbrev ending : Turn → ℕ
ending (Went state) = 0
ending (Needs asked) = 1
ending (TooWide wide) = 2
ending Selected = 3
ending (Refuted terms first steps) = 4

-- the choices of the packages, by their names in the order of naming
abbrev pins_in : Turn → List ℕ
pins_in (Went state) = map (λ name. chosen state.trail (number_in state.names name)) (filter is_package state.names)
pins_in other = []

-- ---- a root without dependencies, in four turns

abbrev empty : Job
empty = job []

four : ending (plain_after empty [] (answers (λ identity. []) (λ identity version. contents [] [])) 4) ≡ 0
four = refl

selected_after_four : ending (plain_after empty [] (answers (λ identity. []) (λ identity version. contents [] [])) 5) ≡ 3
selected_after_four = refl

-- ---- one dependency with three releases, in ten turns

abbrev three_releases : Answers
three_releases = answers (λ identity. release 1 0 ∷ release 1 1 ∷ release 2 0 ∷ []) (λ identity version. contents [] [])

abbrev one_dependency : Job
one_dependency = job (usual_need (codes "mona.l") ∷ [])

-- the newest that is contained is pinned
ten : pins_in (plain_after one_dependency [] three_releases 10) ≡ 2 ∷ []
ten = refl

selected_after_ten : ending (plain_after one_dependency [] three_releases 11) ≡ 3
selected_after_ten = refl

-- a pin that is contained is kept, and another isn't
pinned : pins_in (plain_after one_dependency ((codes "mona.l", release 1 0) ∷ []) three_releases 10) ≡ 1 ∷ []
pinned = refl

pinned_outside : pins_in (plain_after one_dependency ((codes "mona.l", release 2 0) ∷ []) three_releases 10) ≡ 2 ∷ []
pinned_outside = refl

-- the root's load asks for the list first
abbrev nothing_given : Answers
nothing_given asked = None

list_first : plain_after one_dependency [] nothing_given 1 ≡ Needs (key.List (codes "mona.l"))
list_first = refl

-- a list that is too long ends the run at once
too_long : plain_after one_dependency [] (λ asked. Some said.TooMany) 1 ≡ TooWide (Versions (codes "mona.l"))
too_long = refl

-- ---- two versions of one package, and a package that isn't there

needed_twice : ending (plain_after (job (need (codes "mona.a") 1 2 Always usual ∷ need (codes "mona.a") 2 3 Always usual ∷ [])) []
    (answers (λ identity. release 1 0 ∷ release 2 0 ∷ []) (λ identity version. contents [] [])) 3) ≡ 0
needed_twice = refl

refuted_after_three : ending (plain_after (job (need (codes "mona.a") 1 2 Always usual ∷ need (codes "mona.a") 2 3 Always usual ∷ [])) []
    (answers (λ identity. release 1 0 ∷ release 2 0 ∷ []) (λ identity version. contents [] [])) 4) ≡ 4
refuted_after_three = refl

refuted_after_one : ending (plain_after (job (usual_need (codes "mona.none") ∷ [])) [] (answers (λ identity. []) (λ identity version. contents [] [])) 2) ≡ 4
refuted_after_one = refl

-- a branch can't be had
abbrev on_a_branch : Need
on_a_branch = record { target = Url (codes "https://example.com/l"); requirement = Branch (codes "main"); guard = Always; asked = usual }

branch_after_one : ending (plain_after (job (on_a_branch ∷ [])) [] (answers (λ identity. []) (λ identity version. contents [] [])) 2) ≡ 4
branch_after_one = refl

-- ---- two packages that need a third in different versions, in nineteen turns

abbrev a_b_c : Answers
a_b_c = answers
    (λ identity. if bytes_eq identity (codes "mona.a") then release 1 0 ∷ release 1 1 ∷ []
    else if bytes_eq identity (codes "mona.b") then release 1 0 ∷ []
    else release 1 0 ∷ release 2 0 ∷ [])
    (λ identity version. if bytes_eq identity (codes "mona.a") then
    (if version.1 == 1 then contents [] (need (codes "mona.c") 2 3 Always [] ∷ []) else contents [] (plain_need (codes "mona.c") ∷ []))
    else if bytes_eq identity (codes "mona.b") then contents [] (plain_need (codes "mona.c") ∷ [])
    else contents [] [])

nineteen : pins_in (plain_after (job (plain_need (codes "mona.a") ∷ plain_need (codes "mona.b") ∷ [])) [] a_b_c 19) ≡ 1 ∷ 1 ∷ 1 ∷ []
nineteen = refl

selected_after_nineteen : ending (plain_after (job (plain_need (codes "mona.a") ∷ plain_need (codes "mona.b") ∷ [])) [] a_b_c 20) ≡ 3
selected_after_nineteen = refl

-- ---- a partial satisfier, refuted after eighteen turns

abbrev shared_part : Answers
shared_part = answers
    (λ identity. if bytes_eq identity (codes "mona.s") then release 1 0 ∷ release 2 0 ∷ release 3 0 ∷ []
    else if bytes_eq identity (codes "mona.t") then release 1 0 ∷ release 2 0 ∷ []
    else release 1 0 ∷ [])
    (λ identity version. if bytes_eq identity (codes "mona.l") then contents [] (need (codes "mona.s") 2 4 Always [] ∷ [])
    else if bytes_eq identity (codes "mona.r") then contents [] (need (codes "mona.s") 1 3 Always [] ∷ [])
    else if bytes_eq identity (codes "mona.s") then
    (if version.0 == 2 then contents [] (need (codes "mona.t") 1 2 Always [] ∷ []) else contents [] [])
    else contents [] [])

abbrev needs_l_r_t : Job
needs_l_r_t = job (plain_need (codes "mona.l") ∷ plain_need (codes "mona.r") ∷ need (codes "mona.t") 2 3 Always [] ∷ [])

eighteen : ending (plain_after needs_l_r_t [] shared_part 18) ≡ 0
eighteen = refl

refuted_after_eighteen : ending (plain_after needs_l_r_t [] shared_part 19) ≡ 4
refuted_after_eighteen = refl

-- ---- traits and guards: a package that two others need, one of them with a trait

abbrev entry : List ℕ → List (List ℕ) → TraitEntry
entry name enables = record { name = name; enables = enables }

abbrev guarded : Answers
guarded = answers (λ identity. release 1 0 ∷ [])
    (λ identity version. if bytes_eq identity (codes "mona.a") then contents [] (usual_need (codes "mona.c") ∷ [])
    else if bytes_eq identity (codes "mona.b") then contents [] (need (codes "mona.c") 1 2 Always (record { name = codes "X"; under = [] } ∷ []) ∷ [])
    else if bytes_eq identity (codes "mona.c") then
    contents (entry (codes "default") (codes "D" ∷ []) ∷ entry (codes "D") [] ∷ entry (codes "X") [] ∷ [])
    (need (codes "mona.d") 1 2 (Any (codes "D" ∷ [])) usual ∷ need (codes "mona.x") 1 2 (Any (codes "X" ∷ [])) usual ∷ [])
    else contents [] [])

-- all five are pinned
forty : pins_in (plain_after (job (usual_need (codes "mona.a") ∷ usual_need (codes "mona.b") ∷ [])) [] guarded 40) ≡ 1 ∷ 1 ∷ 1 ∷ 1 ∷ 1 ∷ []
forty = refl

selected_after_forty : ending (plain_after (job (usual_need (codes "mona.a") ∷ usual_need (codes "mona.b") ∷ [])) [] guarded 41) ≡ 3
selected_after_forty = refl
