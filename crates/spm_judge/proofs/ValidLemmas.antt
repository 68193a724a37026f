-- Where no rule is broken, the pins are a valid selection.
use Rattle.std.proofs.Common.{◌≡◌, ℕ, true, List, [], Contains, Option, Some, None, refl, sym, ap, ◌∙◌, subst}
use Rattle.std.specs.List.{list_any}
use Rattle.std.proofs.lemmas.Bool.{false≢true}
use Rattle.spm_key.specs.declared.key.Key.TheVariants as key
use Rattle.spm_version.specs.Release.{Parts}
use Rattle.spm_version.specs.ReleaseLaws.{release_eq}
use Rattle.spm_version.specs.Requirement.{contains}
use Rattle.spm_version.specs.declared.requirement.Requirement.{Requirement}
use Rattle.spm_version.proofs.ReleaseLemmas.{same_release}
use Rattle.spm_trait.specs.Closure.{is_declared}
use Rattle.spm_manifest.specs.declared.dump.Contents.{Contents}
use Rattle.spm_manifest.specs.declared.need.Need.{Need}
use Rattle.pub_term.specs.Node.{package_of, trait_of}
use Rattle.pub_term.specs.NodeLaws.{node_eq}
use Rattle.pub_term.specs.declared.cause.Subject.{Subject}
use Rattle.pub_term.specs.declared.node.NodeName.{NodeName}
use Rattle.pub_term.specs.declared.node.NodeName.TheVariants.{Package}
use Rattle.pub_facts.specs.Catalogue.{Found, Job, Owner, contents_at, contents_of, entries_in, needs_in, target_of}
use Rattle.pub_facts.specs.Enabled.{Active, Enabled, Held, IsIn, by_always, by_guard, by_need}
use Rattle.pub_facts.specs.Facts.{is_inside, is_of, load_needs, owner_node, trait_node}
use Rattle.pub_facts.specs.Valid.{IsMet, IsUsable, IsValid}
use Rattle.pub_facts.proofs.FactLemmas.{node_same}
use Rattle.pub_facts.proofs.Members.{contains_filter}
use Rattle.pub_facts.proofs.Worlds.{owner_held}
use Rattle.pub_plain.specs.Answers.{Answers, catalogue_by, found_in, lookups_by, releases_in}
use Rattle.pub_plain.specs.Choosing.{Pins, pin_of}
use Rattle.spm_judge.specs.Judged.{broken_at, broken_in, first_broken, first_of, subject_at, undeclared, unless_usable, unlisted, unmet, unmet_on, unreached, unusable, world_by}
use Rattle.spm_judge.specs.On.{AreOn, spot_of}
use Rattle.spm_judge.proofs.FirstLemmas.{holds_since, none_breaks, or_none, pin_found}
use Rattle.spm_judge.proofs.HeardLemmas.{contents_of_need}
use Rattle.spm_judge.proofs.SoundLemmas.{any_found, owner_spot, trait_spot}

-- ---- nodes of owners and traits

-- the package of an owner's node is the owner
pub owner_package : (owner : Owner) → package_of (owner_node owner) ≡ owner
owner_package None = refl
owner_package (Some identity) = refl

-- an owner's node has no trait
pub owner_trait : (owner : Owner) → trait_of (owner_node owner) ≡ None
owner_trait None = refl
owner_trait (Some identity) = refl

-- the package of a trait's node is the owner
pub trait_package : (owner : Owner) (name : List ℕ) → package_of (trait_node owner name) ≡ owner
trait_package None name = refl
trait_package (Some identity) name = refl

-- a trait's node has the trait
pub trait_trait : (owner : Owner) (name : List ℕ) → trait_of (trait_node owner name) ≡ Some name
trait_trait None name = refl
trait_trait (Some identity) name = refl

-- ---- what was let through

-- contents that can be used
usable_since : (subject : Subject) (found : Found) (contents : Option Contents) → unless_usable subject found contents ≡ None
    → (one : Contents) × (contents ≡ Some one)
usable_since subject found None is = absurd (cc)
usable_since subject found (Some contents) is = (contents, refl)

-- a release that is inside
inside_since : (requirement : Requirement) (release : Option Parts) → is_inside requirement release ≡ true
    → (one : Parts) × (release ≡ Some one) × (contains requirement one ≡ true)
inside_since requirement None is = absurd (false≢true is)
inside_since requirement (Some release) is = (release, refl, is)

-- a need that breaks no rule is met
met_since : (answers : Answers) (pins : Pins) (subject : Subject) (need : Need) (target : Option (List ℕ))
    → target_of (lookups_by answers) need ≡ target → unmet_on pins subject need target ≡ None → IsMet (catalogue_by answers) (pin_of pins) need
met_since answers pins subject need None known is = absurd (cc)
met_since answers pins subject need (Some target) known is =
    let inside = inside_since need.requirement (pin_of pins target) (holds_since (is_inside need.requirement (pin_of pins target)) _ is) in
    record { target = target; known = known; release = inside.0; selected = inside.1; within = inside.2 }

-- a node at which no rule is broken
module _ (answers : Answers) (pins : Pins) (node : NodeName) (contents : Contents) where
  -- what it makes active is met
  pub met_at : (found : Option Contents) → found ≡ Some contents → broken_in answers pins node found ≡ None → (need : Need)
      → Contains (load_needs (trait_of node) contents) need → IsMet (catalogue_by answers) (pin_of pins) need
  met_at found there is need here =
      let none : broken_in answers pins node (Some contents) ≡ None = ap (broken_in answers pins node) (sym there) ∙ is in
      let parts =
      or_none (undeclared (subject_at pins node) contents.traits.entries (trait_of node))
      (first_of (unmet answers pins (subject_at pins node)) (load_needs (trait_of node) contents)) none in
      met_since answers pins (subject_at pins node) need (target_of (lookups_by answers) need) refl
      (none_breaks (unmet answers pins (subject_at pins node)) (load_needs (trait_of node) contents) parts.1 need here)

  -- its trait is declared
  pub declared_at : (found : Option Contents) (name : List ℕ) → found ≡ Some contents → trait_of node ≡ Some name → broken_in answers pins node found ≡ None
      → is_declared contents.traits.entries name ≡ true
  declared_at found name there named is =
      let none : broken_in answers pins node (Some contents) ≡ None = ap (broken_in answers pins node) (sym there) ∙ is in
      let parts =
      or_none (undeclared (subject_at pins node) contents.traits.entries (trait_of node))
      (first_of (unmet answers pins (subject_at pins node)) (load_needs (trait_of node) contents)) none in
      let one : undeclared (subject_at pins node) contents.traits.entries (Some name) ≡ None =
      ap (undeclared (subject_at pins node) contents.traits.entries) (sym named) ∙ parts.0 in
      holds_since (is_declared contents.traits.entries name) _ one

-- ---- valid

module _ (job : Job) (answers : Answers) (pins : Pins) (on : List NodeName) (are : AreOn (world_by job answers pins) on) (none : first_broken job answers pins on ≡ None) where
  -- no pin is unlisted
  listed_none : first_of (unlisted answers) pins ≡ None
  listed_none = (or_none (first_of (unlisted answers) pins) _ none).0

  -- each pin can be used
  usable_none : first_of (unusable job answers) pins ≡ None
  usable_none = (or_none (first_of (unusable job answers) pins) _ (or_none (first_of (unlisted answers) pins) _ none).1).0

  -- no node breaks a rule
  nodes_none : first_of (broken_at job answers pins) on ≡ None
  nodes_none =
      (or_none (first_of (broken_at job answers pins) on) _
      (or_none (first_of (unusable job answers) pins) _ (or_none (first_of (unlisted answers) pins) _ none).1).1).0

  -- each pin is reached
  reached_none : first_of (unreached on) pins ≡ None
  reached_none =
      (or_none (first_of (broken_at job answers pins) on) _
      (or_none (first_of (unusable job answers) pins) _ (or_none (first_of (unlisted answers) pins) _ none).1).1).1

  -- what is selected can be used
  usable : (identity : List ℕ) (release : Parts) → pin_of pins identity ≡ Some release → IsUsable job (catalogue_by answers) identity release
  usable identity release is =
      let here = pin_found pins identity release is in
      let listed =
      any_found (release_eq release) (releases_in (answers (key.List identity)))
      (holds_since (list_any (release_eq release) (releases_in (answers (key.List identity)))) _
      (none_breaks (unlisted answers) pins listed_none (identity, release) here)) in
      let found = found_in (answers (key.Manifest identity release)) in
      let read =
      usable_since (record { owner = Some (identity, release); under = [] }) found (contents_of job.tools found)
      (none_breaks (unusable job answers) pins usable_none (identity, release) here) in
      record {
        listed =
            subst (Contains (releases_in (answers (key.List identity)))) (sym (same_release release listed.0 listed.2)) listed.1;
        contents = read.0;
        read = read.1;
      }

  -- what breaks no rule at a node that is in the sets
  at_node : (node : NodeName) → IsIn (world_by job answers pins) (spot_of node) → broken_at job answers pins node ≡ None
  at_node node within = none_breaks (broken_at job answers pins) on nodes_none node (are.all node within)

  -- so the node of an owner that is reached breaks none
  at_owner : (owner : Owner) → IsIn (world_by job answers pins) (Held owner)
      → broken_in answers pins (owner_node owner) ((world_by job answers pins).contents owner) ≡ None
  at_owner owner held =
      ap (λ o. broken_in answers pins (owner_node owner) ((world_by job answers pins).contents o)) (sym (owner_package owner))
      ∙ at_node (owner_node owner) (subst (IsIn (world_by job answers pins)) (sym (owner_spot owner)) held)

  -- nor does that of a trait that is enabled
  at_trait : (owner : Owner) (name : List ℕ) → IsIn (world_by job answers pins) (Enabled owner name)
      → broken_in answers pins (trait_node owner name) ((world_by job answers pins).contents owner) ≡ None
  at_trait owner name enabled =
      ap (λ o. broken_in answers pins (trait_node owner name) ((world_by job answers pins).contents o)) (sym (trait_package owner name))
      ∙ at_node (trait_node owner name) (subst (IsIn (world_by job answers pins)) (sym (trait_spot owner name)) enabled)

  -- each active need is met
  needs : (owner : Owner) (need : Need) → IsIn (world_by job answers pins) (Active owner need) → IsMet (catalogue_by answers) (pin_of pins) need
  needs owner need (by_always o n held there always) =
      let found = contents_of_need ((world_by job answers pins).contents owner) need there in
      met_at answers pins (owner_node owner) found.0 ((world_by job answers pins).contents owner) found.1 (at_owner owner held) need
      (subst (λ under. Contains (load_needs under found.0) need) (sym (owner_trait owner))
      (contains_filter (is_of None) found.0.needs need always (subst (λ f. Contains (needs_in f) need) found.1 there)))
  needs owner need (by_guard o n name held there guarded enabled) =
      let found = contents_of_need ((world_by job answers pins).contents owner) need there in
      met_at answers pins (trait_node owner name) found.0 ((world_by job answers pins).contents owner) found.1 (at_trait owner name enabled) need
      (subst (λ under. Contains (load_needs under found.0) need) (sym (trait_trait owner name))
      (contains_filter (is_of (Some name)) found.0.needs need guarded (subst (λ f. Contains (needs_in f) need) found.1 there)))

  -- a package that is reached is selected
  selected : (identity : List ℕ) → IsIn (world_by job answers pins) (Held (Some identity)) → (release : Parts) × (pin_of pins identity ≡ Some release)
  selected identity (by_need owner need target active known) =
      let met = needs owner need active in
      let here : Some met.target ≡ Some identity = sym met.known ∙ known in
      let one : met.target ≡ identity = cc in
      (met.release, ap (pin_of pins) (sym one) ∙ met.selected)

  -- so what is reached has contents
  contents_held : (owner : Owner) → IsIn (world_by job answers pins) (Held owner)
      → (contents : Contents) × ((world_by job answers pins).contents owner ≡ Some contents)
  contents_held None held = (job.root, refl)
  contents_held (Some identity) held =
      let pin = selected identity held in
      let it = usable identity pin.0 pin.1 in (
        it.contents,
        subst (λ version. contents_at job (catalogue_by answers) (Some identity) version ≡ Some it.contents) (sym pin.1) it.read,
      )

  -- each enabled trait is declared
  declared : (owner : Owner) (name : List ℕ) → IsIn (world_by job answers pins) (Enabled owner name)
      → is_declared (entries_in ((world_by job answers pins).contents owner)) name ≡ true
  declared owner name enabled =
      let held = contents_held owner (owner_held (world_by job answers pins) (Enabled owner name) enabled) in
      ap (λ f. is_declared (entries_in f) name) held.1
      ∙ declared_at answers pins (trait_node owner name) held.0 ((world_by job answers pins).contents owner) name held.1 (trait_trait owner name)
      (at_trait owner name enabled)

  -- each selected package is reached
  reached : (identity : List ℕ) (release : Parts) → pin_of pins identity ≡ Some release → IsIn (world_by job answers pins) (Held (Some identity))
  reached identity release is =
      let here = none_breaks (unreached on) pins reached_none (identity, release) (pin_found pins identity release is) in
      let found = any_found (node_eq (Package identity)) on (holds_since (list_any (node_eq (Package identity)) on) _ here) in
      are.in_sets (Package identity) (subst (Contains on) (sym (node_same (Package identity) found.0 found.2)) found.1)

  -- where no rule is broken, the pins are valid
  pub valid_since : IsValid job (catalogue_by answers) (pin_of pins)
  valid_since = record { needs = needs; usable = usable; declared = declared; reached = reached }
