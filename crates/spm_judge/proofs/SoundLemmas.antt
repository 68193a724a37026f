-- Whatever a pass puts is in the least sets.
use Rattle.std.proofs.Common.{◌≡◌, ℕ, Bool, true, false, cond, List, [], ◌∷◌, Contains, Option, Some, None, refl, sym, ap, ◌∙◌, subst, inl, inr}
use Rattle.std.specs.Cmp.Lexicographic.{nat_list_eq_equiv}
use Rattle.std.specs.List.{list_any}
use Rattle.std.proofs.lemmas.Bool.{false≢true, or_cases, or_left, or_right}
use Rattle.std.proofs.lemmas.Map.Views.{list_any-from_Contains}
use Rattle.spm_trait.specs.Closure.{enabled_by}
use Rattle.spm_trait.specs.declared.traits.TraitEntry.{TraitEntry}
use Rattle.spm_manifest.specs.declared.dump.Contents.{Contents}
use Rattle.spm_manifest.specs.declared.need.Ask.{Ask}
use Rattle.spm_manifest.specs.declared.need.Guard.{Guard}
use Rattle.spm_manifest.specs.declared.need.Guard.TheVariants.{Always, Any}
use Rattle.spm_manifest.specs.declared.need.Need.{Need}
use Rattle.pub_term.specs.declared.node.NodeName.{NodeName}
use Rattle.pub_term.specs.declared.node.NodeName.TheVariants.{Root, RootTrait}
use Rattle.pub_facts.specs.Catalogue.{Owner, entries_in, is_always, is_guarded_by, needs_in}
use Rattle.pub_facts.specs.Enabled.{Active, Enabled, Held, IsIn, World, by_always, by_ask, by_ask_under, by_guard, by_need, by_root, by_trait, by_words}
use Rattle.pub_facts.specs.Facts.{owner_node, trait_node}
use Rattle.pub_facts.proofs.Members.{contains_cases, contains_head, contains_nothing, contains_tail}
use Rattle.pub_facts.proofs.Worlds.{owner_held}
use Rattle.spm_judge.specs.On.{spot_of}
use Rattle.spm_judge.specs.Spread.{each_put, is_active, is_asked, is_on, is_one_on, opening, put_on, put_trait, spread, spread_ask, spread_found, spread_need, spread_pin, spread_to, spread_trait}
use Rattle.spm_judge.specs.declared.pinned.Pinned.{Pinned}
use Rattle.spm_judge.proofs.OnLemmas.{put_cases}

-- ---- tests of lists

-- where a test finds one, one passes
pub any_found : {X : Type 0} (test : X → Bool) (xs : List X) → list_any test xs ≡ true → (x : X) × Contains xs x × (test x ≡ true)
any_found test [] is = absurd (false≢true is)
any_found test (x ∷ xs) is = elim (or_cases (test x) (list_any test xs) is) [
  | inl here ↦ (x, contains_head x xs, here)
  | inr later ↦ (let found = any_found test xs later in (found.0, contains_tail x found.0 xs found.1, found.2))
]

-- where one passes, the test finds one
pub any_here : {X : Type 0} (test : X → Bool) (xs : List X) (x : X) → Contains xs x → test x ≡ true → list_any test xs ≡ true
any_here test [] x here passes = absurd (contains_nothing x here)
any_here test (y ∷ xs) x here passes = elim (contains_cases y x xs here) [
  | inl same ↦ or_left (test y) (list_any test xs) (ap test same ∙ passes)
  | inr later ↦ or_right (test y) (list_any test xs) (any_here test xs x later passes)
]

-- ---- nodes and spots

-- the node of an owner stands for the owner
pub owner_spot : (owner : Owner) → spot_of (owner_node owner) ≡ Held owner
owner_spot None = refl
owner_spot (Some identity) = refl

-- the node of a trait stands for the trait
pub trait_spot : (owner : Owner) (name : List ℕ) → spot_of (trait_node owner name) ≡ Enabled owner name
trait_spot None name = refl
trait_spot (Some identity) name = refl

-- ---- sets below the least ones

-- each node that is on is in the least sets
abbrev pub IsSound : World → List NodeName → Type 0
IsSound world on = (node : NodeName) → is_on on node ≡ true → IsIn world (spot_of node)

-- a node of the least sets may be put
pub put_sound : (world : World) (on : List NodeName) (node : NodeName) → IsSound world on → IsIn world (spot_of node) → IsSound world (put_on on node)
put_sound world on node sound within = λ other is. elim (put_cases on node other is) [
  | inl same ↦ subst (λ n. IsIn world (spot_of n)) (sym same) within
  | inr was ↦ sound other was
]

-- so may what is put where a test holds
pub cond_sound : (world : World) (on after : List NodeName) (test : Bool) → IsSound world on → (test ≡ true → IsSound world after)
    → IsSound world (cond test after on)
cond_sound world on after true sound next = next refl
cond_sound world on after false sound next = sound

-- a step that keeps what is sound
abbrev pub KeepsSound : {X : Type 0} → World → (List NodeName → X → List NodeName) → X → Type 0
KeepsSound world step x = (on : List NodeName) → IsSound world on → IsSound world (step on x)

-- steps that keep what is sound, one after another
pub each_sound : {X : Type 0} (world : World) (step : List NodeName → X → List NodeName) (xs : List X)
    → ((x : X) → Contains xs x → KeepsSound world step x) → (on : List NodeName) → IsSound world on → IsSound world (each_put step on xs)
each_sound world step [] all on sound = sound
each_sound world step (x ∷ xs) all on sound =
    each_sound world step xs (λ y here. all y (contains_tail x y xs here)) (step on x) (all x (contains_head x xs) on sound)

-- ---- what a need puts

-- one of the traits of an owner that is on is enabled
one_enabled : (world : World) (owner : Owner) (on : List NodeName) (names : List (List ℕ)) → IsSound world on → is_one_on on owner names ≡ true
    → (name : List ℕ) × Contains names name × IsIn world (Enabled owner name)
one_enabled world owner on names sound is =
    let found = any_found (λ name. is_on on (trait_node owner name)) names is in
    (found.0, found.1, subst (IsIn world) (trait_spot owner found.0) (sound (trait_node owner found.0) found.2))

-- what is asked of a package is enabled there
asked_in : (world : World) (owner : Owner) (need : Need) (target : List ℕ) (ask : Ask) (on : List NodeName) (under : List (List ℕ))
    → IsIn world (Active owner need) → world.target need ≡ Some target → Contains need.asked ask → IsSound world on → ask.under ≡ under
    → is_asked on owner under ≡ true → IsIn world (Enabled (Some target) ask.name)
asked_in world owner need target ask on [] active known there sound is asked = by_ask owner need target ask active known there is
asked_in world owner need target ask on (name ∷ names) active known there sound is asked =
    let found = one_enabled world owner on (name ∷ names) sound asked in
    by_ask_under owner need target ask found.0 active known there (subst (λ l. Contains l found.0) (sym is) found.1) found.2

-- what an active need asks is sound
ask_sound : (world : World) (owner : Owner) (need : Need) (target : List ℕ) (ask : Ask) → IsIn world (Active owner need)
    → world.target need ≡ Some target → Contains need.asked ask → KeepsSound world (spread_ask owner target) ask
ask_sound world owner need target ask active known there = λ on sound.
    cond_sound world on (put_on on (trait_node (Some target) ask.name)) (is_asked on owner ask.under) sound
    (λ asked. put_sound world on (trait_node (Some target) ask.name) sound
    (subst (IsIn world) (sym (trait_spot (Some target) ask.name))
    (asked_in world owner need target ask on ask.under active known there sound refl asked)))

-- a need that is active is so in the least sets
active_in : (world : World) (owner : Owner) (need : Need) (on : List NodeName) (guard : Guard) → Contains (needs_in (world.contents owner)) need
    → IsSound world on → need.guard ≡ guard → is_active on owner guard ≡ true → IsIn world (Active owner need)
active_in world owner need on Always there sound is active =
    by_always owner need (subst (IsIn world) (owner_spot owner) (sound (owner_node owner) active)) there (ap is_always is)
active_in world owner need on (Any names) there sound is active =
    let found = one_enabled world owner on names sound active in
    by_guard owner need found.0 (owner_held world (Enabled owner found.0) found.2) there
    (ap (is_guarded_by found.0) is ∙ list_any-from_Contains nat_list_eq_equiv found.0 names found.1) found.2

-- what an active need puts is sound
to_sound : (world : World) (owner : Owner) (need : Need) (on : List NodeName) (target : Option (List ℕ)) → IsIn world (Active owner need)
    → world.target need ≡ target → IsSound world on → IsSound world (spread_to owner need on target)
to_sound world owner need on None active known sound = sound
to_sound world owner need on (Some target) active known sound =
    each_sound world (spread_ask owner target) need.asked (λ ask there. ask_sound world owner need target ask active known there)
    (put_on on (owner_node (Some target)))
    (put_sound world on (owner_node (Some target)) sound (by_need owner need target active known))

-- what a need puts is sound
pub need_sound : (world : World) (owner : Owner) (need : Need) → Contains (needs_in (world.contents owner)) need
    → KeepsSound world (spread_need world.target owner) need
need_sound world owner need there = λ on sound.
    cond_sound world on (spread_to owner need on (world.target need)) (is_active on owner need.guard) sound
    (λ active. to_sound world owner need on (world.target need) (active_in world owner need on need.guard there sound refl active) refl sound)

-- ---- what a trait puts

-- what a trait puts is sound
pub trait_sound : (world : World) (owner : Owner) (entry : TraitEntry) → KeepsSound world (spread_trait owner (entries_in (world.contents owner))) entry
trait_sound world owner entry = λ on sound.
    let entries = entries_in (world.contents owner) in
    cond_sound world on (each_put (put_trait owner) on (enabled_by entries entry.name)) (is_on on (trait_node owner entry.name)) sound
    (λ here.
    each_sound world (put_trait owner) (enabled_by entries entry.name)
    (λ other there on' sound'. put_sound world on' (trait_node owner other) sound'
    (subst (IsIn world) (sym (trait_spot owner other))
    (by_trait owner entry.name other (subst (IsIn world) (trait_spot owner entry.name) (sound (trait_node owner entry.name) here)) there)))
    on sound)

-- ---- what owners put

-- what an owner puts is sound
found_sound : (world : World) (owner : Owner) (on : List NodeName) (found : Option Contents) → world.contents owner ≡ found → IsSound world on
    → IsSound world (spread_found world.target owner on found)
found_sound world owner on None is sound = sound
found_sound world owner on (Some contents) is sound =
    let entries : entries_in (world.contents owner) ≡ contents.traits.entries = ap entries_in is in
    each_sound world (spread_trait owner contents.traits.entries) contents.traits.entries
    (λ entry there. subst (λ l. KeepsSound world (spread_trait owner l) entry) entries (trait_sound world owner entry))
    (each_put (spread_need world.target owner) on contents.needs)
    (each_sound world (spread_need world.target owner) contents.needs
    (λ need there. need_sound world owner need (subst (λ l. Contains (needs_in l) need) (sym is) there)) on sound)

-- a pass puts what is in the least sets
pub pass_sound : (world : World) (pinned : List Pinned) (on : List NodeName) → IsSound world on
    → IsSound world (spread world.target world.contents pinned on)
pass_sound world pinned on sound =
    each_sound world (spread_pin world.target world.contents) pinned
    (λ pin here on' sound'. found_sound world (Some pin.identity) on' (world.contents (Some pin.identity)) refl sound')
    (spread_found world.target None on (world.contents None)) (found_sound world None on (world.contents None) refl sound)

-- so is what is on before the first pass
pub opening_sound : (world : World) → IsSound world (opening world.asked)
opening_sound world =
    each_sound world (put_trait None) world.asked (λ name here on sound. put_sound world on (RootTrait name) sound (by_words name here))
    (put_on [] Root) (put_sound world [] Root (λ node is. absurd (false≢true is)) by_root)
