-- The nodes that are on exist: passes from the opening come to an end, and keep node order.
use Rattle.std.proofs.Common.{◌≡◌, ◌<◌, ◌≤◌, ℕ, zero, suc, Bool, true, false, cond, List, [], ◌∷◌, length, Option, Some, None, Ordering, refl, ap, ◌∙◌, inl, inr, arith}
use Rattle.std.specs.BTreeSet.{insert_key}
use Rattle.std.specs.List.{AllByRecursion}
use Rattle.std.specs.List.Sorted.{IsStrictlySortedBy}
use Rattle.std.specs.Ordering.{match_ordering, ordering_reverse}
use Rattle.std.specs.declared.cmp.Ordering.TheVariants.{Less, Equal, Greater}
use Rattle.std.proofs.lemmas.Bool.{cases_eq}
use Rattle.spm_trait.specs.Closure.{enabled_by}
use Rattle.spm_trait.specs.declared.traits.TraitEntry.{TraitEntry}
use Rattle.spm_manifest.specs.declared.dump.Contents.{Contents}
use Rattle.spm_manifest.specs.declared.need.Need.{Need}
use Rattle.pub_term.specs.Node.{node_cmp}
use Rattle.pub_term.specs.NodeLaws.{node_total}
use Rattle.pub_term.specs.declared.node.NodeName.{NodeName}
use Rattle.pub_term.specs.declared.node.NodeName.TheVariants.{Root}
use Rattle.pub_facts.specs.Catalogue.{Owner, target_of}
use Rattle.pub_facts.specs.Facts.{owner_node, trait_node}
use Rattle.pub_plain.specs.Answers.{Answers, lookups_by}
use Rattle.spm_judge.specs.Heard.{contents_in}
use Rattle.spm_judge.specs.On.{AreOn}
use Rattle.spm_judge.specs.Spread.{
  each_put,
  is_active,
  is_asked,
  is_on,
  opening,
  put_on,
  put_trait,
  spread,
  spread_ask,
  spread_found,
  spread_need,
  spread_pin,
  spread_to,
  spread_trait,
}
use Rattle.spm_judge.specs.Steps.{world_heard}
use Rattle.spm_judge.specs.declared.pinned.Pinned.{Pinned}
use Rattle.spm_judge.proofs.HeardLemmas.{IsSpreading}
use Rattle.spm_judge.proofs.LoopLemmas.{ended, falls, opened, passed_on}
use Rattle.spm_judge.proofs.MovesLemmas.{left}
use Rattle.spm_judge.proofs.PassLemmas.{all_nodes}

-- ---- node order

-- a node stands before another in node order
abbrev IsBelow : NodeName → NodeName → Type 0
IsBelow node other = node_cmp node other ≡ Less

-- what holds of a node and of others holds of all once it is inserted
all_inserted : (P : NodeName → Type 0) (node : NodeName) (on : List NodeName) → P node → AllByRecursion P on → AllByRecursion P (insert_key node_cmp on node)
all_inserted P node [] here all = (here, tt)
all_inserted P node (first ∷ on) here all = by_order (node_cmp node first) (all_inserted P node on here all.1)
  where
    by_order : (o : Ordering) → AllByRecursion P (insert_key node_cmp on node)
        → AllByRecursion P (match_ordering o (node ∷ first ∷ on) (first ∷ on) (first ∷ insert_key node_cmp on node))
    by_order Less later = (here, all)
    by_order Equal later = all
    by_order Greater later = (all.0, later)

-- a node below another is below those that the other is below
below_more : (node other : NodeName) (others : List NodeName) → IsBelow node other → AllByRecursion (IsBelow other) others
    → AllByRecursion (IsBelow node) others
below_more node other [] first below = tt
below_more node other (next ∷ others) first below =
    (node_total.trans node other next first below.0, below_more node other others first below.1)

-- a node is inserted in order
insert_ordered : (node : NodeName) (on : List NodeName) → IsStrictlySortedBy node_cmp on → IsStrictlySortedBy node_cmp (insert_key node_cmp on node)
unfolding IsStrictlySortedBy
insert_ordered node [] ordered = (tt, tt)
insert_ordered node (first ∷ on) ordered = by_order (insert_ordered node on ordered.1) (node_cmp node first) refl
  where
    by_order : IsStrictlySortedBy node_cmp (insert_key node_cmp on node) → (o : Ordering) → node_cmp node first ≡ o
        → IsStrictlySortedBy node_cmp (match_ordering o (node ∷ first ∷ on) (first ∷ on) (first ∷ insert_key node_cmp on node))
    by_order later Less is = ((is, below_more node first on is ordered.0), ordered)
    by_order later Equal is = ordered
    by_order later Greater is =
        let above : IsBelow first node = node_total.antisymm first node ∙ ap ordering_reverse is in
        (all_inserted (IsBelow first) node on above ordered.0, later)

-- of two lists in node order either
cond_ordered : (test : Bool) (first second : List NodeName) → IsStrictlySortedBy node_cmp first → IsStrictlySortedBy node_cmp second
    → IsStrictlySortedBy node_cmp (cond test first second)
cond_ordered true first second a b = a
cond_ordered false first second a b = b

-- nodes in node order, each once
abbrev Ordered : List NodeName → Type 0
Ordered on = IsStrictlySortedBy node_cmp on

-- a node is put in order
put_ordered : (on : List NodeName) (node : NodeName) → Ordered on → Ordered (put_on on node)
put_ordered on node ordered = cond_ordered (is_on on node) on (insert_key node_cmp on node) ordered (insert_ordered node on ordered)

-- steps that keep node order keep it one after another
each_ordered : {X : Type 0} (step : List NodeName → X → List NodeName) (xs : List X) → ((x : X) (on : List NodeName) → Ordered on → Ordered (step on x))
    → (on : List NodeName) → Ordered on → Ordered (each_put step on xs)
each_ordered step [] keeps on ordered = ordered
each_ordered step (x ∷ xs) keeps on ordered = each_ordered step xs keeps (step on x) (keeps x on ordered)

-- an active need on a package keeps node order
to_ordered : (owner : Owner) (need : Need) (on : List NodeName) (target : Option (List ℕ)) → Ordered on → Ordered (spread_to owner need on target)
to_ordered owner need on None ordered = ordered
to_ordered owner need on (Some target) ordered =
    each_ordered (spread_ask owner target) need.asked
    (λ ask before so_far. cond_ordered (is_asked before owner ask.under) (put_on before (trait_node (Some target) ask.name)) before
    (put_ordered before (trait_node (Some target) ask.name) so_far) so_far)
    (put_on on (owner_node (Some target))) (put_ordered on (owner_node (Some target)) ordered)

-- a need keeps it
need_ordered : (target : Need → Option (List ℕ)) (owner : Owner) (need : Need) (on : List NodeName) → Ordered on → Ordered (spread_need target owner on need)
need_ordered target owner need on ordered =
    cond_ordered (is_active on owner need.guard) (spread_to owner need on (target need)) on (to_ordered owner need on (target need) ordered) ordered

-- traits that are put keep it
enabled_ordered : (owner : Owner) (names : List (List ℕ)) (on : List NodeName) → Ordered on → Ordered (each_put (put_trait owner) on names)
enabled_ordered owner names on ordered =
    each_ordered (put_trait owner) names (λ name before so_far. put_ordered before (trait_node owner name) so_far) on ordered

-- a trait keeps it
trait_ordered : (owner : Owner) (entries : List TraitEntry) (entry : TraitEntry) (on : List NodeName) → Ordered on → Ordered (spread_trait owner entries on entry)
trait_ordered owner entries entry on ordered =
    cond_ordered (is_on on (trait_node owner entry.name)) (each_put (put_trait owner) on (enabled_by entries entry.name)) on
    (enabled_ordered owner (enabled_by entries entry.name) on ordered) ordered

-- an owner keeps it
found_ordered : (target : Need → Option (List ℕ)) (owner : Owner) (on : List NodeName) (found : Option Contents) → Ordered on
    → Ordered (spread_found target owner on found)
found_ordered target owner on None ordered = ordered
found_ordered target owner on (Some contents) ordered =
    each_ordered (spread_trait owner contents.traits.entries) contents.traits.entries (trait_ordered owner contents.traits.entries)
    (each_put (spread_need target owner) on contents.needs)
    (each_ordered (spread_need target owner) contents.needs (need_ordered target owner) on ordered)

-- a pass keeps node order
pass_ordered : (target : Need → Option (List ℕ)) (contents : Owner → Option Contents) (pinned : List Pinned) (on : List NodeName) → Ordered on
    → Ordered (spread target contents pinned on)
pass_ordered target contents pinned on ordered =
    each_ordered (spread_pin target contents) pinned
    (λ pin before so_far. found_ordered target (Some pin.identity) before (contents (Some pin.identity)) so_far)
    (spread_found target None on (contents None)) (found_ordered target None on (contents None) ordered)

-- no node is in order
nothing_ordered : Ordered []
unfolding IsStrictlySortedBy
nothing_ordered = tt

-- what is on before the first pass is in order
opening_ordered : (asked : List (List ℕ)) → Ordered (opening asked)
opening_ordered asked = enabled_ordered None asked (put_on [] Root) (put_ordered [] Root nothing_ordered)

-- ---- passes come to an end

-- nothing is below nothing
none_below : (a b : ℕ) → a < b → b ≤ 0 → ⊥
none_below a b less few = omega (arith, less, few)

-- what is below a number is at most the one before
one_below : (a b n : ℕ) → a < b → b ≤ suc n → a ≤ n
one_below a b n less few = omega (arith, less, few)

module _ (root : Contents) (asked : List (List ℕ)) (answers : Answers) (pinned : List Pinned) where
  -- how many of the nodes that may be put are left
  abbrev Left : List NodeName → ℕ
  Left on = left (all_nodes (target_of (lookups_by answers)) (contents_in root pinned) pinned) on

  -- what a pass leaves
  abbrev Pass : List NodeName → List NodeName
  Pass on = spread (target_of (lookups_by answers)) (contents_in root pinned) pinned on

  -- nodes that are those that are on
  abbrev Settled : Type 0
  Settled = (all : List NodeName) × AreOn (world_heard root asked answers pinned) all

  -- a pass that adds nothing ends
  settled : (on : List NodeName) → length (Pass on) ≡ length on → IsSpreading (world_heard root asked answers pinned) on → Ordered on → Settled
  settled on same s ordered = (
    Pass on,
    ended root asked answers pinned on (Pass on) refl (length on) (length (Pass on)) refl refl same s
        (pass_ordered (target_of (lookups_by answers)) (contents_in root pinned) pinned on ordered),
  )

  -- in at most so many passes as nodes are left
  settles : (fuel : ℕ) (on : List NodeName) → Left on ≤ fuel → IsSpreading (world_heard root asked answers pinned) on → Ordered on → Settled
  settles zero on few s ordered = elim (cases_eq (length (Pass on)) (length on)) [
    | inl same ↦ settled on same s ordered
    | inr differs ↦
        absurd
        (let fewer : Left (Pass on) < Left on = falls root asked answers pinned on (Pass on) refl (length on) (length (Pass on)) refl refl differs in
        none_below (Left (Pass on)) (Left on) fewer few)
  ]
  settles (suc fuel) on few s ordered = elim (cases_eq (length (Pass on)) (length on)) [
    | inl same ↦ settled on same s ordered
    | inr differs ↦
        settles fuel (Pass on)
        (let fewer : Left (Pass on) < Left on = falls root asked answers pinned on (Pass on) refl (length on) (length (Pass on)) refl refl differs in
        one_below (Left (Pass on)) (Left on) fuel fewer few)
        (passed_on root asked answers pinned on (Pass on) refl s)
        (pass_ordered (target_of (lookups_by answers)) (contents_in root pinned) pinned on ordered)
  ]

  -- the nodes that are on
  pub on_exists : (all : List NodeName) × AreOn (world_heard root asked answers pinned) all
  on_exists =
      settles (left (all_nodes (target_of (lookups_by answers)) (contents_in root pinned) pinned) (opening asked)) (opening asked) (omega arith)
      (opened root asked answers pinned (opening asked) refl) (opening_ordered asked)
