-- Of a valid selection each key that is read is answered, and no rule is broken.
use Rattle.std.proofs.Common.{◌≡◌, ℕ, true, cond, List, [], ◌∷◌, ◌++◌, Contains, Option, Some, None, refl, sym, ap, ◌∙◌, subst, inl, inr, ◌⊎◌}
use Rattle.std.specs.List.{cons_option, filter_map, flat_map, list_any}
use Rattle.std.proofs.lemmas.Bool.{cond-true}
use Rattle.std.proofs.lemmas.List.Elements.{Contains-append_cases}
use Rattle.std.proofs.lemmas.Map.Views.{list_any-from_Contains}
use Rattle.spm_key.specs.declared.key.Key.{Key}
use Rattle.spm_key.specs.declared.key.Key.TheVariants as key
use Rattle.spm_version.specs.Release.{Parts}
use Rattle.spm_version.specs.ReleaseLaws.{release_eq, release_equiv}
use Rattle.spm_version.specs.declared.requirement.Requirement.{Requirement}
use Rattle.spm_version.specs.declared.requirement.Requirement.TheVariants.{Exact, Range, Branch, Revision, Path}
use Rattle.spm_version.specs.declared.tools_version.ToolsVersion.{ToolsVersion}
use Rattle.spm_trait.specs.Closure.{is_declared}
use Rattle.spm_manifest.specs.declared.dump.Contents.{Contents}
use Rattle.spm_manifest.specs.declared.need.Need.{Need}
use Rattle.spm_manifest.specs.declared.need.Target.{Target}
use Rattle.spm_manifest.specs.declared.need.Target.TheVariants.{Registry, Url, Local}
use Rattle.spm_api.specs.Guess.{is_looked_up}
use Rattle.spm_api.specs.declared.replies.Said.{Said}
use Rattle.spm_api.specs.declared.replies.Said.TheVariants as said
use Rattle.pub_term.specs.Node.{package_of, trait_of}
use Rattle.pub_term.specs.NodeLaws.{node_eq, node_equiv}
use Rattle.pub_term.specs.declared.cause.Subject.{Subject}
use Rattle.pub_term.specs.declared.node.NodeName.{NodeName}
use Rattle.pub_term.specs.declared.node.NodeName.TheVariants.{Root, RootTrait, Package, PackageTrait}
use Rattle.pub_facts.specs.Catalogue.{Job, contents_of, entries_in, if_versioned, needs_in, package_of_target}
use Rattle.pub_facts.specs.Enabled.{Active, Enabled, Held, IsIn, World, by_always, by_guard}
use Rattle.pub_facts.specs.Facts.{is_inside, is_of, load_needs}
use Rattle.pub_facts.specs.Valid.{IsMet, IsUsable, IsValid}
use Rattle.pub_facts.proofs.Members.{contains_cases, contains_head, contains_nothing, contains_tail, from_filter, from_flat_map, from_map}
use Rattle.pub_facts.proofs.Worlds.{owner_held}
use Rattle.pub_plain.specs.Answers.{Answers, catalogue_by, found_in, lookups_by, package_in, releases_in}
use Rattle.pub_plain.specs.Choosing.{Pins, pin_of}
use Rattle.spm_judge.specs.Held.{is_answer}
use Rattle.spm_judge.specs.Judged.{broken_at, broken_in, first_broken, first_lacking, first_of, keys_read, list_keys, lookup_key, lookup_keys, manifest_keys, needs_under, subject_at, target_key, undeclared, unless_usable, unlisted, unmet, unmet_on, unreached, unusable, world_by}
use Rattle.spm_judge.specs.On.{AreOn, spot_of}
use Rattle.spm_judge.proofs.FirstLemmas.{Ascend, breaks_none, none_both, pin_there, unless}

-- ---- lists

-- what is in a list with maybe one more
one_more : {Y : Type 0} (found : Option Y) (ys : List Y) (y : Y) → Contains (cons_option found ys) y → (found ≡ Some y) ⊎ Contains ys y
one_more None ys y here = inr here
one_more (Some first) ys y here = elim (contains_cases first y ys here) [ inl same ↦ inl (ap (λ z. Some z) same) | inr later ↦ inr later ]

-- what is in a filtered map is made of something
pub from_filter_map : {X Y : Type 0} (f : X → Option Y) (xs : List X) (y : Y) → Contains (filter_map f xs) y → (x : X) × Contains xs x × (f x ≡ Some y)
from_filter_map f [] y here = absurd (contains_nothing y here)
from_filter_map f (x ∷ xs) y here = elim (one_more (f x) (filter_map f xs) y here) [
  | inl is ↦ (x, contains_head x xs, is)
  | inr later ↦ (let found = from_filter_map f xs y later in (found.0, contains_tail x found.0 xs found.1, found.2))
]

-- where all keys are answered, none lacks
pub none_lacks : (answers : Answers) (keys : List Key) → ((asked : Key) → Contains keys asked → is_answer (answers asked) ≡ true)
    → first_lacking answers keys ≡ None
none_lacks answers [] all = refl
none_lacks answers (asked ∷ keys) all =
    cond-true (is_answer (answers asked)) (first_lacking answers keys) (Some asked) (all asked (contains_head asked keys))
    ∙ none_lacks answers keys (λ other here. all other (contains_tail asked other keys here))

-- ---- answers

-- a look-up that gives a package is answered
package_answered : (found : Option Said) (package_ : List ℕ) → package_in found ≡ Some package_ → is_answer found ≡ true
package_answered None package_ is = absurd (cc)
package_answered (Some said.TooMany) package_ is = absurd (cc)
package_answered (Some other) package_ is = refl

-- a list that has a release is answered
list_answered : (found : Option Said) (release : Parts) → Contains (releases_in found) release → is_answer found ≡ true
list_answered None release here = absurd (contains_nothing release here)
list_answered (Some said.TooMany) release here = absurd (contains_nothing release here)
list_answered (Some other) release here = refl

-- a manifest that can be used is answered
manifest_answered : (tools : ToolsVersion) (found : Option Said) (contents : Contents) → contents_of tools (found_in found) ≡ Some contents
    → is_answer found ≡ true
manifest_answered tools None contents is = absurd (cc)
manifest_answered tools (Some said.TooMany) contents is = absurd (cc)
manifest_answered tools (Some other) contents is = refl

-- the look-up of a package that is known is answered
target_answered : (answers : Answers) (target : Target) (asked : Key) (package_ : List ℕ) → target_key target ≡ Some asked
    → package_of_target (lookups_by answers) target ≡ Some package_ → is_answer (answers asked) ≡ true
target_answered answers (Registry identity) asked package_ is known = absurd (cc)
target_answered answers (Url url) asked package_ is known =
    let one : key.Identifiers url ≡ asked = cc in
    subst (λ k. is_answer (answers k) ≡ true) one (package_answered (answers (key.Identifiers url)) package_ known)
target_answered answers (Local path) asked package_ is known = absurd (cc)

-- the look-up of a need on a package that is known is answered
lookup_answered : (answers : Answers) (requirement : Requirement) (target : Target) (asked : Key) (package_ : List ℕ)
    → cond (is_looked_up requirement) (target_key target) None ≡ Some asked
    → if_versioned requirement (package_of_target (lookups_by answers) target) ≡ Some package_ → is_answer (answers asked) ≡ true
lookup_answered answers (Exact release) target asked package_ is known = target_answered answers target asked package_ is known
lookup_answered answers (Range low high) target asked package_ is known = target_answered answers target asked package_ is known
lookup_answered answers (Branch name) target asked package_ is known = absurd (cc)
lookup_answered answers (Revision name) target asked package_ is known = absurd (cc)
lookup_answered answers Path target asked package_ is known = absurd (cc)

-- ---- nodes

-- the trait of a node that is in the sets is enabled
enabled_of : (world : World) (node : NodeName) (name : List ℕ) → trait_of node ≡ Some name → IsIn world (spot_of node)
    → IsIn world (Enabled (package_of node) name)
enabled_of world Root name is within = absurd (cc)
enabled_of world (RootTrait other) name is within = (let one : other ≡ name = cc in subst (λ n. IsIn world (Enabled None n)) one within)
enabled_of world (Package identity) name is within = absurd (cc)
enabled_of world (PackageTrait identity other) name is within =
    (let one : other ≡ name = cc in subst (λ n. IsIn world (Enabled (Some identity) n)) one within)

-- a node of no trait is reached
held_of : (world : World) (node : NodeName) → trait_of node ≡ None → IsIn world (spot_of node) → IsIn world (Held (package_of node))
held_of world Root is within = within
held_of world (RootTrait name) is within = absurd (cc)
held_of world (Package identity) is within = within
held_of world (PackageTrait identity name) is within = absurd (cc)

-- what a node makes active is in the sets
active_under : (world : World) (node : NodeName) (contents : Contents) (need : Need) (under : Option (List ℕ)) → trait_of node ≡ under
    → IsIn world (spot_of node) → world.contents (package_of node) ≡ Some contents → Contains (load_needs under contents) need
    → IsIn world (Active (package_of node) need)
active_under world node contents need None is within found here =
    let kept = from_filter (is_of None) contents.needs need here in
    by_always (package_of node) need (held_of world node is within) (subst (λ f. Contains (needs_in f) need) (sym found) kept.0) kept.1
active_under world node contents need (Some name) is within found here =
    let kept = from_filter (is_of (Some name)) contents.needs need here in
    let enabled = enabled_of world node name is within in
    by_guard (package_of node) need name (owner_held world (Enabled (package_of node) name) enabled)
    (subst (λ f. Contains (needs_in f) need) (sym found) kept.0) kept.1 enabled

-- a need that is met
met_none : (answers : Answers) (pins : Pins) (subject : Subject) (need : Need) → IsMet (catalogue_by answers) (pin_of pins) need
    → unmet answers pins subject need ≡ None
met_none answers pins subject need met =
    ap (unmet_on pins subject need) met.known
    ∙ unless (is_inside need.requirement (pin_of pins met.target)) _ (ap (is_inside need.requirement) met.selected ∙ met.within)

-- ---- no rule is broken

module _ (job : Job) (answers : Answers) (pins : Pins) (on : List NodeName) (ascend : Ascend pins) (are : AreOn (world_by job answers pins) on) (valid : IsValid job (catalogue_by answers) (pin_of pins)) where
  -- each pin can be used
  pin_usable : (pin : List ℕ × Parts) → Contains pins pin → IsUsable job (catalogue_by answers) pin.0 pin.1
  pin_usable pin here = valid.usable pin.0 pin.1 (pin_there pins ascend pin here)

  -- each pin is listed
  listed : (pin : List ℕ × Parts) → Contains pins pin → unlisted answers pin ≡ None
  listed pin here =
      unless (list_any (release_eq pin.1) (releases_in (answers (key.List pin.0)))) _
      (list_any-from_Contains release_equiv pin.1 (releases_in (answers (key.List pin.0))) (pin_usable pin here).listed)

  -- no pin breaks the rule of manifests
  usable : (pin : List ℕ × Parts) → Contains pins pin → unusable job answers pin ≡ None
  usable pin here =
      ap (unless_usable (record { owner = Some (pin.0, pin.1); under = [] }) (found_in (answers (key.Manifest pin.0 pin.1)))) (pin_usable pin here).read

  -- each pin is reached
  reached : (pin : List ℕ × Parts) → Contains pins pin → unreached on pin ≡ None
  reached pin here =
      unless (list_any (node_eq (Package pin.0)) on) _
      (list_any-from_Contains node_equiv (Package pin.0) on
      (are.all (Package pin.0) (valid.reached pin.0 pin.1 (pin_there pins ascend pin here))))

  -- the trait of a node is declared
  declared_under : (node : NodeName) (contents : Contents) (under : Option (List ℕ)) → trait_of node ≡ under
      → IsIn (world_by job answers pins) (spot_of node) → (world_by job answers pins).contents (package_of node) ≡ Some contents
      → undeclared (subject_at pins node) contents.traits.entries under ≡ None
  declared_under node contents None is within found = refl
  declared_under node contents (Some name) is within found =
      unless (is_declared contents.traits.entries name) _
      (ap (λ f. is_declared (entries_in f) name) (sym found)
      ∙ valid.declared (package_of node) name (enabled_of (world_by job answers pins) node name is within))

  -- what a node makes active is met
  needs_met : (node : NodeName) (contents : Contents) → IsIn (world_by job answers pins) (spot_of node)
      → (world_by job answers pins).contents (package_of node) ≡ Some contents → (need : Need) → Contains (load_needs (trait_of node) contents) need
      → IsMet (catalogue_by answers) (pin_of pins) need
  needs_met node contents within found need here =
      valid.needs (package_of node) need (active_under (world_by job answers pins) node contents need (trait_of node) refl within found here)

  -- a node breaks no rule, by the contents of its owner
  node_found : (node : NodeName) (found : Option Contents) → (world_by job answers pins).contents (package_of node) ≡ found
      → IsIn (world_by job answers pins) (spot_of node) → broken_in answers pins node found ≡ None
  node_found node None is within = refl
  node_found node (Some contents) is within =
      none_both (undeclared (subject_at pins node) contents.traits.entries (trait_of node))
      (first_of (unmet answers pins (subject_at pins node)) (load_needs (trait_of node) contents))
      (declared_under node contents (trait_of node) refl within is)
      (breaks_none (unmet answers pins (subject_at pins node)) (load_needs (trait_of node) contents)
      (λ need here. met_none answers pins (subject_at pins node) need (needs_met node contents within is need here)))

  -- no node that is on breaks a rule
  node_right : (node : NodeName) → Contains on node → broken_at job answers pins node ≡ None
  node_right node here = node_found node ((world_by job answers pins).contents (package_of node)) refl (are.in_sets node here)

  -- no rule is broken
  pub none_broken : first_broken job answers pins on ≡ None
  none_broken =
      none_both (first_of (unlisted answers) pins) _ (breaks_none (unlisted answers) pins listed)
      (none_both (first_of (unusable job answers) pins) _ (breaks_none (unusable job answers) pins usable)
      (none_both (first_of (broken_at job answers pins) on) (first_of (unreached on) pins) (breaks_none (broken_at job answers pins) on node_right)
      (breaks_none (unreached on) pins reached)))

  -- ---- each key is answered

  -- the look-ups of a node are answered, by the contents of its owner
  lookups_under : (node : NodeName) (found : Option Contents) (asked : Key) → (world_by job answers pins).contents (package_of node) ≡ found
      → IsIn (world_by job answers pins) (spot_of node) → Contains (filter_map lookup_key (needs_under (trait_of node) found)) asked
      → is_answer (answers asked) ≡ true
  lookups_under node None asked is within here = absurd (contains_nothing asked here)
  lookups_under node (Some contents) asked is within here =
      let made = from_filter_map lookup_key (load_needs (trait_of node) contents) asked here in
      let met = needs_met node contents within is made.0 made.1 in
      lookup_answered answers made.0.requirement made.0.target asked met.target made.2 met.known

  -- each list is answered
  list_right : (asked : Key) → Contains (list_keys pins) asked → is_answer (answers asked) ≡ true
  list_right asked here =
      let made = from_map (λ (pin : List ℕ × Parts). key.List pin.0) pins asked here in
      subst (λ k. is_answer (answers k) ≡ true) made.2
      (list_answered (answers (key.List made.0.0)) made.0.1 (pin_usable made.0 made.1).listed)

  -- each manifest is answered
  manifest_right : (asked : Key) → Contains (manifest_keys pins) asked → is_answer (answers asked) ≡ true
  manifest_right asked here =
      let made = from_map (λ (pin : List ℕ × Parts). key.Manifest pin.0 pin.1) pins asked here in
      subst (λ k. is_answer (answers k) ≡ true) made.2
      (manifest_answered job.tools (answers (key.Manifest made.0.0 made.0.1)) (pin_usable made.0 made.1).contents (pin_usable made.0 made.1).read)

  -- each look-up is answered
  lookup_right : (asked : Key) → Contains (flat_map (lookup_keys job answers pins) on) asked → is_answer (answers asked) ≡ true
  lookup_right asked here =
      let made = from_flat_map (lookup_keys job answers pins) on asked here in
      lookups_under made.0 ((world_by job answers pins).contents (package_of made.0)) asked refl (are.in_sets made.0 made.1) made.2

  -- each key is answered
  key_right : (asked : Key) → Contains (keys_read job answers pins on) asked → is_answer (answers asked) ≡ true
  key_right asked here =
      elim
      (Contains-append_cases (list_keys pins) (manifest_keys pins ++ flat_map (lookup_keys job answers pins) on) asked here) [
        | inl listed_key ↦ list_right asked listed_key
        | inr others ↦ elim (Contains-append_cases (manifest_keys pins) (flat_map (lookup_keys job answers pins) on) asked others) [
          | inl manifest_key ↦ manifest_right asked manifest_key
          | inr lookup ↦ lookup_right asked lookup
        ]
      ]

  -- no key lacks
  pub none_lacking : first_lacking answers (keys_read job answers pins on) ≡ None
  none_lacking = none_lacks answers (keys_read job answers pins on) key_right
