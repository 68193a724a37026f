-- What was heard of the pins has the contents of what a selection reaches, and a pass goes through each owner that has some.
use Rattle.std.specs.Str.{bytes_eq}
use Rattle.std.proofs.Common.{◌≡◌, ℕ, Bool, true, false, cond, List, [], ◌∷◌, map, Contains, Option, Some, None, refl, sym, ap, ◌∙◌, subst, inl, inr}
use Rattle.std.specs.Cmp.Lexicographic.{bytes_decides}
use Rattle.std.specs.List.Sorted.{IsStrictlySortedBy}
use Rattle.std.proofs.lemmas.Bool.{cases_Bool, cond-false}
use Rattle.spm_key.specs.declared.key.Key.TheVariants as key
use Rattle.spm_trait.specs.declared.traits.TraitEntry.{TraitEntry}
use Rattle.spm_manifest.specs.declared.dump.Contents.{Contents}
use Rattle.spm_manifest.specs.declared.need.Need.{Need}
use Rattle.spm_version.specs.Release.{Parts}
use Rattle.spm_version.specs.declared.tools_version.ToolsVersion.{ToolsVersion}
use Rattle.pub_term.specs.Node.{node_cmp}
use Rattle.pub_term.specs.declared.cause.Subject.{Subject}
use Rattle.pub_term.specs.declared.node.NodeName.{NodeName}
use Rattle.pub_term.specs.declared.node.NodeName.TheVariants.{Root, RootTrait}
use Rattle.pub_facts.specs.Catalogue.{Faulty, Found, Gone, Job, Owner, Read, contents_at, contents_of, entries_in, is_above, needs_in}
use Rattle.pub_facts.specs.Enabled.{World}
use Rattle.pub_facts.proofs.Members.{contains_cases, contains_head, contains_map, contains_nothing, contains_tail}
use Rattle.pub_plain.specs.Answers.{Answers, catalogue_by, found_in, lookups_by}
use Rattle.pub_plain.specs.Choosing.{Pins, pin_of}
use Rattle.pub_facts.specs.Catalogue.{target_of}
use Rattle.spm_judge.specs.Heard.{contents_heard, contents_in, contents_or, heard, usable_in, usable_or}
use Rattle.spm_judge.specs.Judged.{world_by}
use Rattle.spm_judge.specs.On.{AreOn}
use Rattle.spm_judge.specs.Spread.{each_put, is_on, opening, put_on, put_trait, spread}
use Rattle.spm_judge.specs.Steps.{world_heard}
use Rattle.spm_judge.specs.declared.pinned.Pinned.{Pinned}
use Rattle.spm_judge.proofs.ClosedLemmas.{IsClosed, on_from_closed}
use Rattle.spm_judge.proofs.MovesLemmas.{AllMove, each_moves, put_moves}
use Rattle.spm_judge.proofs.OnLemmas.{put_there}
use Rattle.spm_judge.proofs.PassLemmas.{IsPassed, need_puts_nothing, pass_moves, trait_puts_nothing}
use Rattle.spm_judge.proofs.SoundLemmas.{IsSound, opening_sound, pass_sound}

-- ---- contents

-- contents that were read, as heard and as found
usable_read : (tools : ToolsVersion) (subject : Subject) (contents : Contents)
    → usable_in (usable_or tools subject (Read contents)) ≡ contents_of tools (Read contents)
usable_read tools subject contents = by_test (is_above contents.tools tools) refl
  where
    by_test : (b : Bool) → is_above contents.tools tools ≡ b → usable_in (usable_or tools subject (Read contents)) ≡ contents_of tools (Read contents)
    by_test true is = rw is refl
    by_test false is = rw is refl

-- the contents that can be used, as heard and as found
pub usable_is : (tools : ToolsVersion) (subject : Subject) (found : Found) → usable_in (usable_or tools subject found) ≡ contents_of tools found
usable_is tools subject Gone = refl
usable_is tools subject (Faulty place kind) = refl
usable_is tools subject (Read contents) = usable_read tools subject contents

-- what was heard of the first pin, and of those behind it
first_heard : (job : Job) (answers : Answers) (pin : List ℕ × Parts) (identity : List ℕ) (rest : Option Contents) (others : Option Parts) (b : Bool)
    → bytes_eq pin.0 identity ≡ b → rest ≡ contents_at job (catalogue_by answers) (Some identity) others
    → cond b (usable_in (contents_or job.tools answers pin)) rest ≡ contents_at job (catalogue_by answers) (Some identity) (cond b (Some pin.1) others)
first_heard job answers pin identity rest others true is later =
    usable_is job.tools (record { owner = Some (pin.0, pin.1); under = [] }) (found_in (answers (key.Manifest pin.0 pin.1)))
    ∙ ap (λ (i : List ℕ). contents_of job.tools (found_in (answers (key.Manifest i pin.1)))) ((bytes_decides pin.0 identity).0 is)
first_heard job answers pin identity rest others false is later = later

-- of a package
pins_heard : (job : Job) (answers : Answers) (pins : Pins) (identity : List ℕ)
    → contents_heard (heard job.tools answers pins) identity ≡ contents_at job (catalogue_by answers) (Some identity) (pin_of pins identity)
pins_heard job answers [] identity = refl
pins_heard job answers (pin ∷ pins) identity =
    first_heard job answers pin identity (contents_heard (heard job.tools answers pins) identity) (pin_of pins identity) (bytes_eq pin.0 identity) refl
    (pins_heard job answers pins identity)

-- of an owner
owner_heard : (job : Job) (answers : Answers) (pins : Pins) (owner : Owner)
    → contents_in job.root (heard job.tools answers pins) owner ≡ (world_by job answers pins).contents owner
owner_heard job answers pins None = refl
owner_heard job answers pins (Some identity) = pins_heard job answers pins identity

-- what was heard has the contents
pub contents_same : (job : Job) (answers : Answers) (pins : Pins)
    → contents_in job.root (heard job.tools answers pins) ≡ (world_by job answers pins).contents
contents_same job answers pins = λ i owner. owner_heard job answers pins owner i

-- a world that was heard is that of the selection
pub world_same : (job : Job) (answers : Answers) (pins : Pins)
    → world_heard job.root job.asked answers (heard job.tools answers pins) ≡ world_by job answers pins
world_same job answers pins = λ i. record {
  asked = job.asked;
  contents = contents_same job answers pins i;
  target = target_of (lookups_by answers);
}

-- ---- owners

-- a package that has contents is one of those that were heard
pin_heard : (pinned : List Pinned) (identity : List ℕ) (contents : Contents) → contents_heard pinned identity ≡ Some contents
    → IsPassed pinned (Some identity)
pin_heard [] identity contents is = absurd (cc)
pin_heard (pin ∷ pinned) identity contents is = elim (cases_Bool (bytes_eq pin.identity identity)) [
  | inl same ↦ (pin, contains_head pin pinned, (bytes_decides pin.identity identity).0 same)
  | inr differs ↦
      (let found =
      pin_heard pinned identity contents
      (sym (cond-false (bytes_eq pin.identity identity) (usable_in pin.contents) (contents_heard pinned identity) differs) ∙ is) in
      (found.0, contains_tail pin found.0 pinned found.1, found.2))
]

-- an owner that has contents is passed
pub owner_passed : (root : Contents) (pinned : List Pinned) (owner : Owner) (contents : Contents) → contents_in root pinned owner ≡ Some contents
    → IsPassed pinned owner
owner_passed root pinned None contents is = tt
owner_passed root pinned (Some identity) contents is = pin_heard pinned identity contents is

-- what needs something has contents
pub contents_of_need : (found : Option Contents) (need : Need) → Contains (needs_in found) need → (contents : Contents) × (found ≡ Some contents)
contents_of_need None need there = absurd (contains_nothing need there)
contents_of_need (Some contents) need there = (contents, refl)

-- what has an entry has contents
contents_of_entry : (found : Option Contents) (entry : TraitEntry) → Contains (entries_in found) entry → (contents : Contents) × (found ≡ Some contents)
contents_of_entry None entry there = absurd (contains_nothing entry there)
contents_of_entry (Some contents) entry there = (contents, refl)

-- ---- passes

-- what is on between two passes
pub record IsSpreading (world : World) (on : List NodeName) : Type 0 where
  pub sound : IsSound world on
  pub root : is_on on Root ≡ true
  pub asked : (name : List ℕ) → Contains world.asked name → is_on on (RootTrait name) ≡ true

-- each trait that is put is on
each_there : (names : List (List ℕ)) (name : List ℕ) (on : List NodeName) → Contains names name
    → is_on (each_put (put_trait None) on names) (RootTrait name) ≡ true
each_there [] name on there = absurd (contains_nothing name there)
each_there (first ∷ names) name on there = elim (contains_cases first name names there) [
  | inl same ↦
      (let here : is_on (put_on on (RootTrait first)) (RootTrait name) ≡ true =
      subst (λ n. is_on (put_on on (RootTrait first)) (RootTrait n) ≡ true) same (put_there on (RootTrait first)) in
      (each_moves (map RootTrait names) (put_trait None) names (names_move names) (put_on on (RootTrait first))).kept (RootTrait name) here)
  | inr later ↦ each_there names name (put_on on (RootTrait first)) later
]
  where
    names_move : (names : List (List ℕ)) → AllMove (map RootTrait names) (put_trait None) names
    names_move names = λ name there on. put_moves (map RootTrait names) on (RootTrait name) (contains_map RootTrait names name there)

-- before the first pass
pub opening_spreads : (world : World) → IsSpreading world (opening world.asked)
opening_spreads world = record {
  sound = opening_sound world;
  root =
      (each_moves (map RootTrait world.asked) (put_trait None) world.asked
      (λ name there on. put_moves (map RootTrait world.asked) on (RootTrait name) (contains_map RootTrait world.asked name there))
      (put_on [] Root)).kept Root (put_there [] Root);
  asked = λ name there. each_there world.asked name (put_on [] Root) there;
}

-- a pass keeps it
pub pass_spreads : (world : World) (pinned : List Pinned) (on : List NodeName) → IsSpreading world on
    → IsSpreading world (spread world.target world.contents pinned on)
pass_spreads world pinned on s =
    let moves = pass_moves world.target world.contents pinned on in
    record {
      sound = pass_sound world pinned on s.sound;
      root = moves.kept Root s.root;
      asked = λ name there. moves.kept (RootTrait name) (s.asked name there);
    }

-- where a pass adds nothing, all is on
pub pass_ends : (root : Contents) (asked : List (List ℕ)) (answers : Answers) (pinned : List Pinned) (on : List NodeName)
    → IsSpreading (world_heard root asked answers pinned) on → IsStrictlySortedBy node_cmp on
    → spread (target_of (lookups_by answers)) (contents_in root pinned) pinned on ≡ on → AreOn (world_heard root asked answers pinned) on
pass_ends root asked answers pinned on s ordered same =
    let world = world_heard root asked answers pinned in
    let closed : IsClosed world on = record {
      root = s.root;
      asked = s.asked;
      needs = λ owner need there.
          let found = contents_of_need (contents_in root pinned owner) need there in
          need_puts_nothing world.target world.contents pinned on same owner (owner_passed root pinned owner found.0 found.1) need there;
      traits = λ owner entry there.
          let found = contents_of_entry (contents_in root pinned owner) entry there in
          trait_puts_nothing world.target world.contents pinned on same owner (owner_passed root pinned owner found.0 found.1) entry there;
    } in
    on_from_closed world on closed s.sound ordered
