-- A pass moves within the nodes that needs and traits may put; where it comes to its start, each step does.
use Rattle.std.proofs.Common.{◌≡◌, ℕ, List, [], ◌∷◌, ◌++◌, map, Contains, Option, Some, None, subst}
use Rattle.std.specs.List.{flat_map}
use Rattle.std.proofs.lemmas.List.Elements.{Contains-append_left, Contains-append_right}
use Rattle.spm_trait.specs.Closure.{enabled_by}
use Rattle.spm_trait.specs.declared.traits.TraitEntry.{TraitEntry}
use Rattle.spm_manifest.specs.declared.dump.Contents.{Contents}
use Rattle.spm_manifest.specs.declared.need.Ask.{Ask}
use Rattle.spm_manifest.specs.declared.need.Need.{Need}
use Rattle.pub_term.specs.declared.node.NodeName.{NodeName}
use Rattle.pub_facts.specs.Catalogue.{Owner, entries_in, needs_in}
use Rattle.pub_facts.specs.Facts.{owner_node, trait_node}
use Rattle.pub_facts.proofs.Members.{contains_flat_map, contains_head, contains_map, contains_nothing, contains_tail}
use Rattle.spm_judge.specs.Spread.{
  each_put,
  is_active,
  is_asked,
  is_on,
  put_on,
  put_trait,
  spread,
  spread_ask,
  spread_found,
  spread_need,
  spread_pin,
  spread_to,
  spread_trait,
}
use Rattle.spm_judge.specs.declared.pinned.Pinned.{Pinned}
use Rattle.spm_judge.proofs.MovesLemmas.{AllMove, Moves, cond_moves, each_moves, each_same, first_same, moves_on, put_moves, stays}

-- ---- the nodes that may be put

-- by a need on this package
abbrev pub need_nodes : Need → Option (List ℕ) → List NodeName
need_nodes need None = []
need_nodes need (Some target) = owner_node (Some target) ∷ map (λ (ask : Ask). trait_node (Some target) ask.name) need.asked

-- by a trait
abbrev pub entry_nodes : Owner → List TraitEntry → TraitEntry → List NodeName
entry_nodes owner entries entry = map (trait_node owner) (enabled_by entries entry.name)

-- by an owner
abbrev pub found_nodes : (Need → Option (List ℕ)) → Owner → Option Contents → List NodeName
found_nodes target owner found =
    flat_map (λ (need : Need). need_nodes need (target need)) (needs_in found) ++ flat_map (entry_nodes owner (entries_in found)) (entries_in found)

-- by a pin
abbrev pub pin_nodes : (Need → Option (List ℕ)) → (Owner → Option Contents) → Pinned → List NodeName
pin_nodes target contents pin = found_nodes target (Some pin.identity) (contents (Some pin.identity))

-- by a pass
abbrev pub all_nodes : (Need → Option (List ℕ)) → (Owner → Option Contents) → List Pinned → List NodeName
all_nodes target contents pinned = found_nodes target None (contents None) ++ flat_map (pin_nodes target contents) pinned

-- nodes of a universe
abbrev pub AreWithin : List NodeName → List NodeName → Type 0
AreWithin universe nodes = (node : NodeName) → Contains nodes node → Contains universe node

module _ (universe : List NodeName) where
  -- ---- moves

  -- what is asked moves
  ask_moves : (owner : Owner) (target : List ℕ) (ask : Ask) → Contains universe (trait_node (Some target) ask.name) → (on : List NodeName)
      → Moves universe on (spread_ask owner target on ask)
  ask_moves owner target ask here on =
      cond_moves universe on (put_on on (trait_node (Some target) ask.name)) (is_asked on owner ask.under)
      (put_moves universe on (trait_node (Some target) ask.name) here)

  -- all that a need asks moves
  pub asks_move : (owner : Owner) (need : Need) (target : List ℕ) → AreWithin universe (need_nodes need (Some target))
      → AllMove universe (spread_ask owner target) need.asked
  asks_move owner need target within = λ ask there on.
      ask_moves owner target ask
      (within (trait_node (Some target) ask.name)
      (contains_tail (owner_node (Some target)) (trait_node (Some target) ask.name) (map (λ (one : Ask). trait_node (Some target) one.name) need.asked)
      (contains_map (λ (one : Ask). trait_node (Some target) one.name) need.asked ask there)))
      on

  -- the package of a need moves
  pub target_moves : (need : Need) (target : List ℕ) → AreWithin universe (need_nodes need (Some target)) → (on : List NodeName)
      → Moves universe on (put_on on (owner_node (Some target)))
  target_moves need target within on =
      put_moves universe on (owner_node (Some target))
      (within (owner_node (Some target))
      (contains_head (owner_node (Some target)) (map (λ (one : Ask). trait_node (Some target) one.name) need.asked)))

  -- an active need moves
  to_moves : (owner : Owner) (need : Need) (target : Option (List ℕ)) → AreWithin universe (need_nodes need target) → (on : List NodeName)
      → Moves universe on (spread_to owner need on target)
  to_moves owner need None within on = stays universe on
  to_moves owner need (Some target) within on =
      moves_on universe on (put_on on (owner_node (Some target))) (spread_to owner need on (Some target)) (target_moves need target within on)
      (each_moves universe (spread_ask owner target) need.asked (asks_move owner need target within) (put_on on (owner_node (Some target))))

  -- a need moves
  need_moves : (target : Need → Option (List ℕ)) (owner : Owner) (need : Need) → AreWithin universe (need_nodes need (target need))
      → (on : List NodeName) → Moves universe on (spread_need target owner on need)
  need_moves target owner need within on =
      cond_moves universe on (spread_to owner need on (target need)) (is_active on owner need.guard) (to_moves owner need (target need) within on)

  -- what a trait enables moves
  pub enabled_move : (owner : Owner) (entries : List TraitEntry) (entry : TraitEntry) → AreWithin universe (entry_nodes owner entries entry)
      → AllMove universe (put_trait owner) (enabled_by entries entry.name)
  enabled_move owner entries entry within = λ name there on.
      put_moves universe on (trait_node owner name)
      (within (trait_node owner name) (contains_map (trait_node owner) (enabled_by entries entry.name) name there))

  -- a trait moves
  trait_moves : (owner : Owner) (entries : List TraitEntry) (entry : TraitEntry) → AreWithin universe (entry_nodes owner entries entry)
      → (on : List NodeName) → Moves universe on (spread_trait owner entries on entry)
  trait_moves owner entries entry within on =
      cond_moves universe on (each_put (put_trait owner) on (enabled_by entries entry.name)) (is_on on (trait_node owner entry.name))
      (each_moves universe (put_trait owner) (enabled_by entries entry.name) (enabled_move owner entries entry within) on)

  -- the needs of an owner move
  needs_move : (target : Need → Option (List ℕ)) (owner : Owner) (found : Option Contents) → AreWithin universe (found_nodes target owner found)
      → AllMove universe (spread_need target owner) (needs_in found)
  needs_move target owner found within = λ need there on.
      need_moves target owner need
      (λ node here. within node
      (Contains-append_left (flat_map (λ (one : Need). need_nodes one (target one)) (needs_in found))
      (flat_map (entry_nodes owner (entries_in found)) (entries_in found)) node
      (contains_flat_map (λ (one : Need). need_nodes one (target one)) (needs_in found) need node there here)))
      on

  -- its traits move
  traits_move : (target : Need → Option (List ℕ)) (owner : Owner) (found : Option Contents) → AreWithin universe (found_nodes target owner found)
      → AllMove universe (spread_trait owner (entries_in found)) (entries_in found)
  traits_move target owner found within = λ entry there on.
      trait_moves owner (entries_in found) entry
      (λ node here. within node
      (Contains-append_right (flat_map (λ (one : Need). need_nodes one (target one)) (needs_in found))
      (flat_map (entry_nodes owner (entries_in found)) (entries_in found)) node
      (contains_flat_map (entry_nodes owner (entries_in found)) (entries_in found) entry node there here)))
      on

  -- an owner moves
  found_moves : (target : Need → Option (List ℕ)) (owner : Owner) (found : Option Contents) → AreWithin universe (found_nodes target owner found)
      → (on : List NodeName) → Moves universe on (spread_found target owner on found)
  found_moves target owner None within on = stays universe on
  found_moves target owner (Some contents) within on =
      let after = each_put (spread_need target owner) on contents.needs in
      moves_on universe on after (spread_found target owner on (Some contents))
      (each_moves universe (spread_need target owner) contents.needs (needs_move target owner (Some contents) within) on)
      (each_moves universe (spread_trait owner contents.traits.entries) contents.traits.entries (traits_move target owner (Some contents) within) after)

  -- ---- where an owner puts nothing, none of its needs and traits does

  -- no need puts anything
  needs_same : (target : Need → Option (List ℕ)) (owner : Owner) (found : Option Contents) → AreWithin universe (found_nodes target owner found)
      → (on : List NodeName) → spread_found target owner on found ≡ on → (need : Need) → Contains (needs_in found) need
      → spread_need target owner on need ≡ on
  needs_same target owner None within on is need there = absurd (contains_nothing need there)
  needs_same target owner (Some contents) within on is need there =
      let all = needs_move target owner (Some contents) within in
      let after = each_put (spread_need target owner) on contents.needs in
      each_same universe (spread_need target owner) contents.needs all on
      (first_same universe on after (spread_found target owner on (Some contents)) (each_moves universe (spread_need target owner) contents.needs all on)
      (each_moves universe (spread_trait owner contents.traits.entries) contents.traits.entries (traits_move target owner (Some contents) within) after) is)
      need there

  -- no trait puts anything
  traits_same : (target : Need → Option (List ℕ)) (owner : Owner) (found : Option Contents) → AreWithin universe (found_nodes target owner found)
      → (on : List NodeName) → spread_found target owner on found ≡ on → (entry : TraitEntry) → Contains (entries_in found) entry
      → spread_trait owner (entries_in found) on entry ≡ on
  traits_same target owner None within on is entry there = absurd (contains_nothing entry there)
  traits_same target owner (Some contents) within on is entry there =
      let entries = contents.traits.entries in
      let all = needs_move target owner (Some contents) within in
      let others = traits_move target owner (Some contents) within in
      let after = each_put (spread_need target owner) on contents.needs in
      let first : after ≡ on =
      first_same universe on after (spread_found target owner on (Some contents)) (each_moves universe (spread_need target owner) contents.needs all on)
      (each_moves universe (spread_trait owner entries) entries others after) is in
      each_same universe (spread_trait owner entries) entries others on
      (subst (λ l. each_put (spread_trait owner entries) l entries ≡ on) first is) entry there

-- ---- passes

-- the owners that a pass goes through
abbrev pub IsPassed : List Pinned → Owner → Type 0
IsPassed pinned None = Unit {0}
IsPassed pinned (Some identity) = (pin : Pinned) × Contains pinned pin × (pin.identity ≡ identity)

module _ (target : Need → Option (List ℕ)) (contents : Owner → Option Contents) (pinned : List Pinned) where
  -- what the root may put is of all nodes
  root_within : AreWithin (all_nodes target contents pinned) (found_nodes target None (contents None))
  root_within = λ node here.
      Contains-append_left (found_nodes target None (contents None)) (flat_map (pin_nodes target contents) pinned) node here

  -- what a pin may put is of all nodes
  pin_within : (pin : Pinned) → Contains pinned pin → AreWithin (all_nodes target contents pinned) (pin_nodes target contents pin)
  pin_within pin there = λ node here.
      Contains-append_right (found_nodes target None (contents None)) (flat_map (pin_nodes target contents) pinned) node
      (contains_flat_map (pin_nodes target contents) pinned pin node there here)

  -- the pins move
  pins_move : AllMove (all_nodes target contents pinned) (spread_pin target contents) pinned
  pins_move = λ pin there on.
      found_moves (all_nodes target contents pinned) target (Some pin.identity) (contents (Some pin.identity)) (pin_within pin there) on

  -- the root moves
  root_moves : (on : List NodeName) → Moves (all_nodes target contents pinned) on (spread_found target None on (contents None))
  root_moves on = found_moves (all_nodes target contents pinned) target None (contents None) root_within on

  -- a pass moves
  pub pass_moves : (on : List NodeName) → Moves (all_nodes target contents pinned) on (spread target contents pinned on)
  pass_moves on =
      moves_on (all_nodes target contents pinned) on (spread_found target None on (contents None)) (spread target contents pinned on) (root_moves on)
      (each_moves (all_nodes target contents pinned) (spread_pin target contents) pinned pins_move (spread_found target None on (contents None)))

  -- where a pass puts nothing, the root puts nothing
  root_same : (on : List NodeName) → spread target contents pinned on ≡ on → spread_found target None on (contents None) ≡ on
  root_same on is =
      first_same (all_nodes target contents pinned) on (spread_found target None on (contents None)) (spread target contents pinned on) (root_moves on)
      (each_moves (all_nodes target contents pinned) (spread_pin target contents) pinned pins_move (spread_found target None on (contents None))) is

  -- and no pin does
  pin_same : (on : List NodeName) → spread target contents pinned on ≡ on → (pin : Pinned) → Contains pinned pin → spread_pin target contents on pin ≡ on
  pin_same on is pin there =
      each_same (all_nodes target contents pinned) (spread_pin target contents) pinned pins_move on
      (subst (λ l. each_put (spread_pin target contents) l pinned ≡ on) (root_same on is) is) pin there

  -- nor a need of an owner
  pub need_puts_nothing : (on : List NodeName) → spread target contents pinned on ≡ on → (owner : Owner) → IsPassed pinned owner → (need : Need)
      → Contains (needs_in (contents owner)) need → spread_need target owner on need ≡ on
  need_puts_nothing on is None passed =
      needs_same (all_nodes target contents pinned) target None (contents None) root_within on (root_same on is)
  need_puts_nothing on is (Some identity) passed =
      subst (λ i. (need : Need) → Contains (needs_in (contents (Some i))) need → spread_need target (Some i) on need ≡ on) passed.2
      (needs_same (all_nodes target contents pinned) target (Some passed.0.identity) (contents (Some passed.0.identity))
      (pin_within passed.0 passed.1) on (pin_same on is passed.0 passed.1))

  -- nor a trait
  pub trait_puts_nothing : (on : List NodeName) → spread target contents pinned on ≡ on → (owner : Owner) → IsPassed pinned owner
      → (entry : TraitEntry) → Contains (entries_in (contents owner)) entry → spread_trait owner (entries_in (contents owner)) on entry ≡ on
  trait_puts_nothing on is None passed =
      traits_same (all_nodes target contents pinned) target None (contents None) root_within on (root_same on is)
  trait_puts_nothing on is (Some identity) passed =
      subst
      (λ i. (entry : TraitEntry) → Contains (entries_in (contents (Some i))) entry
      → spread_trait (Some i) (entries_in (contents (Some i))) on entry ≡ on)
      passed.2
      (traits_same (all_nodes target contents pinned) target (Some passed.0.identity) (contents (Some passed.0.identity))
      (pin_within passed.0 passed.1) on (pin_same on is passed.0 passed.1))
