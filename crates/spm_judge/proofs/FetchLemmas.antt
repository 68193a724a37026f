-- Fetching: what is held stays, a round leaves fewer look-ups that aren't held, and the end has each key that is read.
use Rattle.std.proofs.Common.{◌≡◌, ◌≤◌, ◌<◌, ◌+◌, ℕ, Bool, true, false, List, [], ◌∷◌, ◌++◌, Contains, Option, Some, None, refl, sym, ap, ap₂, ◌∙◌, subst, inl, inr, arith}
use Rattle.std.specs.List.{cons_option, filter, filter_map, flat_map}
use Rattle.std.specs.Prelude.{is_some, not, option_map}
use Rattle.std.proofs.lemmas.Bool.{cases_Bool, cond-false, cond-true, false≢true, not-true}
use Rattle.std.proofs.lemmas.List.Elements.{Contains-append_cases, Contains-append_left, Contains-append_right}
use Rattle.spm_key.specs.declared.key.Key.{Key}
use Rattle.spm_key.specs.declared.key.Key.TheVariants as key
use Rattle.spm_key.specs.declared.reply.Reply.{Reply}
use Rattle.spm_version.specs.Release.{Parts}
use Rattle.spm_manifest.specs.declared.dump.Contents.{Contents}
use Rattle.spm_manifest.specs.declared.need.Need.{Need}
use Rattle.spm_api.specs.Said.{reply_said}
use Rattle.pub_term.specs.Node.{package_of, trait_of}
use Rattle.pub_term.specs.declared.node.NodeName.{NodeName}
use Rattle.pub_facts.specs.Catalogue.{Job, Owner, contents_at, contents_of, needs_in}
use Rattle.pub_facts.specs.Facts.{is_of, load_needs}
use Rattle.pub_facts.proofs.Members.{contains_cases, contains_filter, contains_flat_map, contains_head, contains_map, contains_nothing, contains_tail, from_filter, from_flat_map}
use Rattle.pub_plain.specs.Answers.{Answers, catalogue_by, found_in, unless_refused}
use Rattle.pub_plain.specs.Choosing.{Pins, pin_of}
use Rattle.spm_judge.specs.Fetching.{AreHeld, ArePinsHeld, IsMore, IsSettled, all_lookups, count_left, keys_left, lack_of, lookups_of_pin}
use Rattle.spm_judge.specs.Held.{Held, is_held, says_of}
use Rattle.spm_judge.specs.Judged.{AreWanted, keys_read, list_keys, lookup_key, lookup_keys, manifest_keys, needs_under, world_by}
use Rattle.spm_judge.proofs.FirstLemmas.{pin_found}
use Rattle.spm_judge.proofs.HoldsLemmas.{from_filter_map}

-- ---- what is held

-- what is held is a reply
some_held : (found : Option Reply) → is_some found ≡ true → (reply : Reply) × (found ≡ Some reply)
some_held None is = absurd (false≢true is)
some_held (Some reply) is = (reply, refl)

-- what is held is the same later
pub held_same : (old new : Held) (asked : Key) → IsMore old new → is_held old asked ≡ true → new asked ≡ old asked
held_same old new asked more is = (let found = some_held (old asked) is in more asked found.0 found.1 ∙ sym found.1)

-- and it still is
pub held_still : (old new : Held) (asked : Key) → IsMore old new → is_held old asked ≡ true → is_held new asked ≡ true
held_still old new asked more is = ap is_some (held_same old new asked more is) ∙ is

-- what is held stays over two steps
pub more_on : (first second third : Held) → IsMore first second → IsMore second third → IsMore first third
more_on first second third a b = λ asked reply is. b asked reply (a asked reply is)

-- what is held says the same later
says_same : (old new : Held) (asked : Key) → IsMore old new → is_held old asked ≡ true → says_of new asked ≡ says_of old asked
says_same old new asked more is = ap (λ found. unless_refused (option_map (reply_said asked) found)) (held_same old new asked more is)

-- ---- how many aren't held

-- a key that is held still is, or comes
lack_falls : (was is : Bool) → (was ≡ true → is ≡ true) → lack_of is ≤ lack_of was
lack_falls true is stays = rw (stays refl) (omega arith)
lack_falls false true stays = omega arith
lack_falls false false stays = omega arith

-- where replies stay, no more keys are left
left_falls : (old new : Held) (keys : List Key) → IsMore old new → count_left new keys ≤ count_left old keys
left_falls old new [] more = omega arith
left_falls old new (asked ∷ keys) more =
    omega (arith, lack_falls (is_held old asked) (is_held new asked) (held_still old new asked more), left_falls old new keys more)

-- where one of the keys comes, fewer are left
left_less : (old new : Held) (keys : List Key) (asked : Key) → IsMore old new → Contains keys asked → is_held old asked ≡ false
    → is_held new asked ≡ true → count_left new keys + 1 ≤ count_left old keys
left_less old new [] asked more here absent comes = absurd (contains_nothing asked here)
left_less old new (first ∷ keys) asked more here absent comes = elim (contains_cases first asked keys here) [
  | inl same ↦
      (let was : lack_of (is_held old first) ≡ 1 = ap (λ k. lack_of (is_held old k)) same ∙ ap lack_of absent in
      let now : lack_of (is_held new first) ≡ 0 = ap (λ k. lack_of (is_held new k)) same ∙ ap lack_of comes in
      omega (arith, was, now, left_falls old new keys more))
  | inr later ↦
      omega
      (arith, lack_falls (is_held old first) (is_held new first) (held_still old new first more), left_less old new keys asked more later absent comes)
]

-- ---- the look-ups stay while the pins are held

-- the manifest of a pin is one of the keys of the pins
manifest_there : (pins : Pins) (identity : List ℕ) (release : Parts) → pin_of pins identity ≡ Some release
    → Contains (list_keys pins ++ manifest_keys pins) (key.Manifest identity release)
manifest_there pins identity release is =
    Contains-append_right (list_keys pins) (manifest_keys pins) (key.Manifest identity release)
    (contains_map (λ (pin : List ℕ × Parts). key.Manifest pin.0 pin.1) pins (identity, release) (pin_found pins identity release is))

-- the contents of a pin are the same later
version_same : (job : Job) (pins : Pins) (old new : Held) (identity : List ℕ) (version : Option Parts) → pin_of pins identity ≡ version
    → IsMore old new → ArePinsHeld pins old
    → contents_at job (catalogue_by (says_of new)) (Some identity) version ≡ contents_at job (catalogue_by (says_of old)) (Some identity) version
version_same job pins old new identity None is more held = refl
version_same job pins old new identity (Some release) is more held =
    ap (λ found. contents_of job.tools (found_in found))
    (says_same old new (key.Manifest identity release) more (held (key.Manifest identity release) (manifest_there pins identity release is)))

-- the contents of a package stay
contents_stay : (job : Job) (pins : Pins) (old new : Held) (identity : List ℕ) → IsMore old new → ArePinsHeld pins old
    → (world_by job (says_of new) pins).contents (Some identity) ≡ (world_by job (says_of old) pins).contents (Some identity)
contents_stay job pins old new identity more held = version_same job pins old new identity (pin_of pins identity) refl more held

-- flat maps by functions that agree
flat_same : {X Y : Type 0} (f g : X → List Y) (xs : List X) → ((x : X) → f x ≡ g x) → flat_map f xs ≡ flat_map g xs
flat_same f g [] same = refl
flat_same f g (x ∷ xs) same = ap₂ (λ a b. a ++ b) (same x) (flat_same f g xs same)

-- so the look-ups of all needs are the same
lookups_stay : (job : Job) (pins : Pins) (old new : Held) → IsMore old new → ArePinsHeld pins old
    → all_lookups job (says_of new) pins ≡ all_lookups job (says_of old) pins
lookups_stay job pins old new more held =
    ap (λ others. filter_map lookup_key job.root.needs ++ others)
    (flat_same (lookups_of_pin job (says_of new) pins) (lookups_of_pin job (says_of old) pins) pins
    (λ pin. ap (λ found. filter_map lookup_key (needs_in found)) (contents_stay job pins old new pin.0 more held)))

-- ---- each look-up of a node is one of them

-- the look-up of a need is among those of the needs
in_filter_map : (needs : List Need) (need : Need) (asked : Key) → Contains needs need → lookup_key need ≡ Some asked
    → Contains (filter_map lookup_key needs) asked
in_filter_map [] need asked here is = absurd (contains_nothing need here)
in_filter_map (first ∷ needs) need asked here is = elim (contains_cases first need needs here) [
  | inl same ↦ put (lookup_key first) (ap lookup_key same ∙ is)
  | inr later ↦ behind (lookup_key first) (in_filter_map needs need asked later is)
]
  where
    put : (found : Option Key) → found ≡ Some asked → Contains (cons_option found (filter_map lookup_key needs)) asked
    put None e = absurd (cc)
    put (Some one) e = (let same : one ≡ asked = cc in subst (λ k. Contains (k ∷ filter_map lookup_key needs) asked) (sym same) (contains_head asked (filter_map lookup_key needs)))

    behind : (found : Option Key) → Contains (filter_map lookup_key needs) asked → Contains (cons_option found (filter_map lookup_key needs)) asked
    behind None there = there
    behind (Some one) there = contains_tail one asked (filter_map lookup_key needs) there

-- a package that has contents is pinned
pinned_contents : (job : Job) (answers : Answers) (pins : Pins) (identity : List ℕ) (version : Option Parts) (contents : Contents)
    → pin_of pins identity ≡ version → contents_at job (catalogue_by answers) (Some identity) version ≡ Some contents
    → (release : Parts) × (pin_of pins identity ≡ Some release)
pinned_contents job answers pins identity None contents is there = absurd (cc)
pinned_contents job answers pins identity (Some release) contents is there = (release, is)

-- the look-up of a need of an owner that has contents is among all
need_lookup : (job : Job) (answers : Answers) (pins : Pins) (owner : Owner) (contents : Contents) (need : Need) (asked : Key)
    → (world_by job answers pins).contents owner ≡ Some contents → Contains contents.needs need → lookup_key need ≡ Some asked
    → Contains (all_lookups job answers pins) asked
need_lookup job answers pins None contents need asked there here is =
    let one : job.root ≡ contents = cc in
    Contains-append_left (filter_map lookup_key job.root.needs) (flat_map (lookups_of_pin job answers pins) pins) asked
    (in_filter_map job.root.needs need asked (subst (λ (c : Contents). Contains c.needs need) (sym one) here) is)
need_lookup job answers pins (Some identity) contents need asked there here is =
    let pin = pinned_contents job answers pins identity (pin_of pins identity) contents refl there in
    Contains-append_right (filter_map lookup_key job.root.needs) (flat_map (lookups_of_pin job answers pins) pins) asked
    (contains_flat_map (lookups_of_pin job answers pins) pins (identity, pin.0) asked (pin_found pins identity pin.0 pin.1)
    (in_filter_map (needs_in ((world_by job answers pins).contents (Some identity))) need asked
    (subst (λ found. Contains (needs_in found) need) (sym there) here) is))

-- so is a look-up of a node
node_lookup : (job : Job) (answers : Answers) (pins : Pins) (node : NodeName) (asked : Key) (found : Option Contents)
    → (world_by job answers pins).contents (package_of node) ≡ found → Contains (filter_map lookup_key (needs_under (trait_of node) found)) asked
    → Contains (all_lookups job answers pins) asked
node_lookup job answers pins node asked None there here = absurd (contains_nothing asked here)
node_lookup job answers pins node asked (Some contents) there here =
    let made = from_filter_map lookup_key (load_needs (trait_of node) contents) asked here in
    let kept = from_filter (is_of (trait_of node)) contents.needs made.0 made.1 in
    need_lookup job answers pins (package_of node) contents made.0 asked there kept.0 made.2

-- a key that is read and is none of the pins' is a look-up
pub read_lookup : (job : Job) (held : Held) (pins : Pins) (on : List NodeName) (asked : Key) → ArePinsHeld pins held
    → Contains (keys_read job (says_of held) pins on) asked → is_held held asked ≡ false → Contains (all_lookups job (says_of held) pins) asked
read_lookup job held pins on asked there here absent =
    elim (Contains-append_cases (list_keys pins) (manifest_keys pins ++ flat_map (lookup_keys job (says_of held) pins) on) asked here) [
      | inl listed ↦
          absurd (false≢true (sym absent ∙ there asked (Contains-append_left (list_keys pins) (manifest_keys pins) asked listed)))
      | inr others ↦ elim (Contains-append_cases (manifest_keys pins) (flat_map (lookup_keys job (says_of held) pins) on) asked others) [
        | inl manifest ↦
            absurd (false≢true (sym absent ∙ there asked (Contains-append_right (list_keys pins) (manifest_keys pins) asked manifest)))
        | inr lookup ↦
            (let made = from_flat_map (lookup_keys job (says_of held) pins) on asked lookup in
            node_lookup job (says_of held) pins made.0 asked ((world_by job (says_of held) pins).contents (package_of made.0)) refl made.2)
      ]
    ]

-- ---- rounds

-- what is wanted is read, and isn't held
pub wanted_read : (job : Job) (held : Held) (pins : Pins) (keys : List Key) → (w : AreWanted job held pins keys) → (asked : Key) → Contains keys asked
    → Contains (keys_read job (says_of held) pins w.on) asked × (is_held held asked ≡ false)
wanted_read job held pins keys w asked here =
    let kept = from_filter (λ one. not (is_held held one)) (keys_read job (says_of held) pins w.on) asked (subst (λ l. Contains l asked) w.is here) in
    (kept.0, not-true (is_held held asked) kept.1)

-- where none of the keys is left, all are held
unwanted : (held : Held) (keys : List Key) → filter (λ one. not (is_held held one)) keys ≡ [] → AreHeld keys held
unwanted held [] none = λ asked here. absurd (contains_nothing asked here)
unwanted held (first ∷ keys) none = elim (cases_Bool (is_held held first)) [
  | inl there ↦
      (let later : filter (λ one. not (is_held held one)) keys ≡ [] =
      sym
      (cond-false (not (is_held held first)) (first ∷ filter (λ one. not (is_held held one)) keys) (filter (λ one. not (is_held held one)) keys)
      (ap not there)) ∙ none in
      λ asked here. elim (contains_cases first asked keys here) [
        | inl same ↦ ap (is_held held) (sym same) ∙ there
        | inr behind ↦ unwanted held keys later asked behind
      ])
  | inr absent ↦
      (let here : first ∷ filter (λ one. not (is_held held one)) keys ≡ [] =
      sym
      (cond-true (not (is_held held first)) (first ∷ filter (λ one. not (is_held held one)) keys) (filter (λ one. not (is_held held one)) keys)
      (ap not absent)) ∙ none in
      absurd (cons_nil first (filter (λ one. not (is_held held one)) keys) here))
]
  where
    cons_nil : (x : Key) (xs : List Key) → x ∷ xs ≡ [] → ⊥
    cons_nil x xs e = cc

-- where nothing is wanted, each key that is read is held
pub settled_since : (job : Job) (held : Held) (pins : Pins) (keys : List Key) → AreWanted job held pins keys → keys ≡ [] → IsSettled job pins held
settled_since job held pins keys w none = record {
  on = w.on;
  are = w.are;
  all = unwanted held (keys_read job (says_of held) pins w.on) (sym w.is ∙ none);
}

-- after a round the pins are held
pub pins_held : (job : Job) (old new : Held) (pins : Pins) (keys : List Key) → AreWanted job old pins keys → IsMore old new → AreHeld keys new
    → ArePinsHeld pins new
pins_held job old new pins keys w more there = λ asked here.
    elim (cases_Bool (is_held old asked)) [
      | inl was ↦ held_still old new asked more was
      | inr absent ↦
          there asked
          (subst (λ l. Contains l asked) (sym w.is)
          (contains_filter (λ one. not (is_held old one)) (keys_read job (says_of old) pins w.on) asked (ap not absent)
          (pins_read asked here)))
    ]
  where
    pins_read : (asked : Key) → Contains (list_keys pins ++ manifest_keys pins) asked → Contains (keys_read job (says_of old) pins w.on) asked
    pins_read asked here = elim (Contains-append_cases (list_keys pins) (manifest_keys pins) asked here) [
      | inl listed ↦ Contains-append_left (list_keys pins) (manifest_keys pins ++ flat_map (lookup_keys job (says_of old) pins) w.on) asked listed
      | inr manifest ↦
          Contains-append_right (list_keys pins) (manifest_keys pins ++ flat_map (lookup_keys job (says_of old) pins) w.on) asked
          (Contains-append_left (manifest_keys pins) (flat_map (lookup_keys job (says_of old) pins) w.on) asked manifest)
    ]

-- a round that fetches something leaves fewer look-ups
pub round_falls : (job : Job) (old new : Held) (pins : Pins) (first : Key) (keys : List Key) → AreWanted job old pins (first ∷ keys) → IsMore old new
    → AreHeld (first ∷ keys) new → ArePinsHeld pins old → keys_left job pins new < keys_left job pins old
round_falls job old new pins first keys w more there held =
    let read = wanted_read job old pins (first ∷ keys) w first (contains_head first keys) in
    let less =
    left_less old new (all_lookups job (says_of old) pins) first more (read_lookup job old pins w.on first held read.0 read.1) read.1
    (there first (contains_head first keys)) in
    let same : count_left new (all_lookups job (says_of new) pins) ≡ count_left new (all_lookups job (says_of old) pins) =
    ap (count_left new) (lookups_stay job pins old new more held) in
    omega (arith, less, same)
