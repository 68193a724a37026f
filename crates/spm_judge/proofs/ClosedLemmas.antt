-- Nodes to which a pass adds nothing, with the root and what the words ask, have all of the least sets.
use Rattle.std.specs.Str.{bytes_eq}
use Rattle.std.proofs.Common.{◌≡◌, ℕ, Bool, true, cond, List, [], ◌∷◌, Contains, Some, None, sym, ap, ◌∙◌, subst, inl, inr}
use Rattle.std.specs.Cmp.Lexicographic.{bytes_decides}
use Rattle.std.specs.List.Sorted.{IsStrictlySortedBy}
use Rattle.std.proofs.lemmas.Bool.{cases_Bool, cond-false, cond-true, false≢true}
use Rattle.spm_trait.specs.Closure.{enabled_by}
use Rattle.spm_trait.specs.declared.traits.TraitEntry.{TraitEntry}
use Rattle.spm_manifest.specs.declared.need.Ask.{Ask}
use Rattle.spm_manifest.specs.declared.need.Guard.{Guard}
use Rattle.spm_manifest.specs.declared.need.Guard.TheVariants.{Always, Any}
use Rattle.spm_manifest.specs.declared.need.Need.{Need}
use Rattle.pub_term.specs.Node.{node_cmp}
use Rattle.pub_term.specs.declared.node.NodeName.{NodeName}
use Rattle.pub_term.specs.declared.node.NodeName.TheVariants.{Root, RootTrait, Package, PackageTrait}
use Rattle.pub_facts.specs.Catalogue.{Owner, entries_in, is_always, is_guarded_by, needs_in}
use Rattle.pub_facts.specs.Enabled.{Active, Enabled, Held, IsIn, Spot, World, by_always, by_ask, by_ask_under, by_guard, by_need, by_root, by_trait, by_words}
use Rattle.pub_facts.specs.Facts.{owner_node, trait_node}
use Rattle.pub_facts.proofs.Members.{contains_head, contains_nothing, contains_tail}
use Rattle.spm_judge.specs.On.{AreOn, spot_of}
use Rattle.spm_judge.specs.Spread.{each_put, is_active, is_asked, is_on, put_on, put_trait, spread_ask, spread_need, spread_to, spread_trait}
use Rattle.spm_judge.proofs.MovesLemmas.{each_moves, each_same, first_same}
use Rattle.spm_judge.proofs.OnLemmas.{contains_on, on_contains, put_there}
use Rattle.spm_judge.proofs.PassLemmas.{asks_move, enabled_move, entry_nodes, need_nodes, target_moves}
use Rattle.spm_judge.proofs.SoundLemmas.{IsSound, any_found, any_here}

-- ---- nodes that are closed

pub record IsClosed (world : World) (on : List NodeName) : Type 0 where
  pub root : is_on on Root ≡ true
  pub asked : (name : List ℕ) → Contains world.asked name → is_on on (RootTrait name) ≡ true
  pub needs : (owner : Owner) (need : Need) → Contains (needs_in (world.contents owner)) need → spread_need world.target owner on need ≡ on
  pub traits : (owner : Owner) (entry : TraitEntry) → Contains (entries_in (world.contents owner)) entry
      → spread_trait owner (entries_in (world.contents owner)) on entry ≡ on

-- what is on of a spot; of a need, that it is active
abbrev pub IsCovered : World → List NodeName → Spot → Type 0
IsCovered world on (Held owner) = is_on on (owner_node owner) ≡ true
IsCovered world on (Enabled owner name) = is_on on (trait_node owner name) ≡ true
IsCovered world on (Active owner need) = (is_active on owner need.guard ≡ true) × Contains (needs_in (world.contents owner)) need

-- where putting a node changes nothing, it is on
on_since : (on : List NodeName) (node : NodeName) → put_on on node ≡ on → is_on on node ≡ true
on_since on node is = ap (λ l. is_on l node) (sym is) ∙ put_there on node

-- what a test lets through
through : (test : Bool) (after on : List NodeName) → test ≡ true → cond test after on ≡ on → after ≡ on
through test after on holds is = sym (cond-true test after on holds) ∙ is

-- a need that an enabled trait guards is active
active_guard : (on : List NodeName) (owner : Owner) (name : List ℕ) (guard : Guard) → is_guarded_by name guard ≡ true
    → is_on on (trait_node owner name) ≡ true → is_active on owner guard ≡ true
active_guard on owner name Always guarded enabled = absurd (false≢true guarded)
active_guard on owner name (Any names) guarded enabled =
    let found = any_found (bytes_eq name) names guarded in
    any_here (λ other. is_on on (trait_node owner other)) names found.0 found.1
    (subst (λ n. is_on on (trait_node owner n) ≡ true) ((bytes_decides name found.0).0 found.2) enabled)

-- a need that is always in force is active where its owner is on
active_always : (on : List NodeName) (owner : Owner) (guard : Guard) → is_always guard ≡ true → is_on on (owner_node owner) ≡ true
    → is_active on owner guard ≡ true
active_always on owner Always always held = held
active_always on owner (Any names) always held = absurd (false≢true always)

-- what is asked under an enabled trait is asked
asked_by : (on : List NodeName) (owner : Owner) (under : List (List ℕ)) (name : List ℕ) → Contains under name
    → is_on on (trait_node owner name) ≡ true → is_asked on owner under ≡ true
asked_by on owner [] name there enabled = absurd (contains_nothing name there)
asked_by on owner (first ∷ under) name there enabled =
    any_here (λ other. is_on on (trait_node owner other)) (first ∷ under) name there enabled

-- the entry by which a trait enables others
entry_found : (entries : List TraitEntry) (name other : List ℕ) → Contains (enabled_by entries name) other
    → (entry : TraitEntry) × Contains entries entry × (entry.name ≡ name)
entry_found [] name other there = absurd (contains_nothing other there)
entry_found (entry ∷ entries) name other there = elim (cases_Bool (bytes_eq entry.name name)) [
  | inl same ↦ (entry, contains_head entry entries, (bytes_decides entry.name name).0 same)
  | inr differs ↦
      (let found =
      entry_found entries name other
      (subst (λ l. Contains l other) (cond-false (bytes_eq entry.name name) entry.enables (enabled_by entries name) differs) there) in
      (found.0, contains_tail entry found.0 entries found.1, found.2))
]

module _ (world : World) (on : List NodeName) (closed : IsClosed world on) where
  -- an active need on this package changes nothing
  to_same : (owner : Owner) (need : Need) (target : List ℕ) → is_active on owner need.guard ≡ true → Contains (needs_in (world.contents owner)) need
      → world.target need ≡ Some target → spread_to owner need on (Some target) ≡ on
  to_same owner need target active there known =
      subst (λ t. spread_to owner need on t ≡ on) known
      (through (is_active on owner need.guard) (spread_to owner need on (world.target need)) on active (closed.needs owner need there))

  -- the package of an active need is on already
  target_same : (owner : Owner) (need : Need) (target : List ℕ) → spread_to owner need on (Some target) ≡ on → put_on on (owner_node (Some target)) ≡ on
  target_same owner need target is =
      let nodes = need_nodes need (Some target) in
      first_same nodes on (put_on on (owner_node (Some target))) (spread_to owner need on (Some target)) (target_moves nodes need target (λ node here. here) on)
      (each_moves nodes (spread_ask owner target) need.asked (asks_move nodes owner need target (λ node here. here)) (put_on on (owner_node (Some target)))) is

  -- a trait that an active need asks is on
  ask_on : (owner : Owner) (need : Need) (target : List ℕ) (ask : Ask) → spread_to owner need on (Some target) ≡ on → Contains need.asked ask
      → is_asked on owner ask.under ≡ true → is_on on (trait_node (Some target) ask.name) ≡ true
  ask_on owner need target ask is there asked =
      let nodes = need_nodes need (Some target) in
      let each : spread_ask owner target on ask ≡ on =
      each_same nodes (spread_ask owner target) need.asked (asks_move nodes owner need target (λ node here. here)) on
      (subst (λ l. each_put (spread_ask owner target) l need.asked ≡ on) (target_same owner need target is) is) ask there in
      on_since on (trait_node (Some target) ask.name)
      (through (is_asked on owner ask.under) (put_on on (trait_node (Some target) ask.name)) on asked each)

  -- what a trait that is on enables is on
  trait_on : (owner : Owner) (name other : List ℕ) → is_on on (trait_node owner name) ≡ true
      → Contains (enabled_by (entries_in (world.contents owner)) name) other → is_on on (trait_node owner other) ≡ true
  trait_on owner name other enabled there =
      let entries = entries_in (world.contents owner) in
      let found = entry_found entries name other there in
      let entry = found.0 in
      let nodes = entry_nodes owner entries entry in
      let all : each_put (put_trait owner) on (enabled_by entries entry.name) ≡ on =
      through (is_on on (trait_node owner entry.name)) (each_put (put_trait owner) on (enabled_by entries entry.name)) on
      (subst (λ n. is_on on (trait_node owner n) ≡ true) (sym found.2) enabled) (closed.traits owner entry found.1) in
      on_since on (trait_node owner other)
      (each_same nodes (put_trait owner) (enabled_by entries entry.name) (enabled_move nodes owner entries entry (λ node here. here)) on all other
      (subst (λ n. Contains (enabled_by entries n) other) (sym found.2) there))

  -- what the words ask is on
  root_asked : (name : List ℕ) → Contains world.asked name → is_on on (trait_node None name) ≡ true
  root_asked name here = closed.asked name here

  -- whatever is in the least sets is covered
  pub covered : (spot : Spot) → IsIn world spot → IsCovered world on spot
  covered spot by_root = closed.root
  covered spot (by_words name here) = root_asked name here
  covered spot (by_always owner need held there always) =
      (active_always on owner need.guard always (covered (Held owner) held), there)
  covered spot (by_guard owner need name held there guarded enabled) =
      (active_guard on owner name need.guard guarded (covered (Enabled owner name) enabled), there)
  covered spot (by_need owner need target active known) =
      let here = covered (Active owner need) active in
      on_since on (owner_node (Some target)) (target_same owner need target (to_same owner need target here.0 here.1 known))
  covered spot (by_ask owner need target ask active known there none) =
      let here = covered (Active owner need) active in
      ask_on owner need target ask (to_same owner need target here.0 here.1 known) there (ap (is_asked on owner) none)
  covered spot (by_ask_under owner need target ask name active known there under enabled) =
      let here = covered (Active owner need) active in
      ask_on owner need target ask (to_same owner need target here.0 here.1 known) there
      (asked_by on owner ask.under name under (covered (Enabled owner name) enabled))
  covered spot (by_trait owner name other enabled there) = trait_on owner name other (covered (Enabled owner name) enabled) there

  -- so each node of the least sets is on
  node_on : (node : NodeName) → IsIn world (spot_of node) → is_on on node ≡ true
  node_on Root within = covered (Held None) within
  node_on (RootTrait name) within = covered (Enabled None name) within
  node_on (Package identity) within = covered (Held (Some identity)) within
  node_on (PackageTrait identity name) within = covered (Enabled (Some identity) name) within

  -- and the nodes that are on are those
  pub on_from_closed : IsSound world on → IsStrictlySortedBy node_cmp on → AreOn world on
  on_from_closed sound ordered = record {
    ordered = ordered;
    in_sets = λ node here. sound node (on_contains on node here);
    all = λ node within. contains_on on node (node_on node within);
  }
