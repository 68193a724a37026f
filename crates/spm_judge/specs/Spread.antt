-- What pins reach and enable, pass by pass, as the code goes: over nodes in node order. No public contract speaks of it.
use Rattle.std.specs.BTreeMap.{is_at}
use Rattle.std.specs.BTreeSet.{insert_key}
use Rattle.std.specs.Prelude.{ℕ, List, [], ◌∷◌, Bool, true, Option, Some, None, if◌then◌else◌}
use Rattle.std.specs.List.{list_any}
use Rattle.spm_trait.specs.Closure.{enabled_by}
use Rattle.spm_trait.specs.declared.traits.TraitEntry.{TraitEntry}
use Rattle.spm_manifest.specs.declared.dump.Contents.{Contents}
use Rattle.spm_manifest.specs.declared.need.Ask.{Ask}
use Rattle.spm_manifest.specs.declared.need.Guard.{Guard}
use Rattle.spm_manifest.specs.declared.need.Guard.TheVariants.{Always, Any}
use Rattle.spm_manifest.specs.declared.need.Need.{Need}
use Rattle.pub_term.specs.Node.{node_cmp}
use Rattle.pub_term.specs.declared.node.NodeName.{NodeName}
use Rattle.pub_term.specs.declared.node.NodeName.TheVariants.{Root}
use Rattle.pub_facts.specs.Catalogue.{Owner}
use Rattle.pub_facts.specs.Facts.{owner_node, trait_node}
use Rattle.spm_judge.specs.declared.pinned.Pinned.{Pinned}

abbrev pub is_on : List NodeName → NodeName → Bool
is_on on node = list_any (is_at (node_cmp node)) on

abbrev pub put_on : List NodeName → NodeName → List NodeName
put_on on node = if is_on on node then on else insert_key node_cmp on node

-- what each of some things puts, one after another
abbrev pub each_put : {X : Type 0} → (List NodeName → X → List NodeName) → List NodeName → List X → List NodeName
each_put step on [] = on
each_put step on (x ∷ xs) = each_put step (step on x) xs

-- one of the traits of an owner is on
abbrev pub is_one_on : List NodeName → Owner → List (List ℕ) → Bool
is_one_on on owner names = list_any (λ name. is_on on (trait_node owner name)) names

-- a need with this guard is active
abbrev pub is_active : List NodeName → Owner → Guard → Bool
is_active on owner Always = is_on on (owner_node owner)
is_active on owner (Any names) = is_one_on on owner names

-- what is asked under these traits is asked
abbrev pub is_asked : List NodeName → Owner → List (List ℕ) → Bool
is_asked on owner [] = true
is_asked on owner (name ∷ names) = is_one_on on owner (name ∷ names)

abbrev pub spread_ask : Owner → List ℕ → List NodeName → Ask → List NodeName
spread_ask owner target on ask = if is_asked on owner ask.under then put_on on (trait_node (Some target) ask.name) else on

-- what an active need of the owner puts
abbrev pub spread_to : Owner → Need → List NodeName → Option (List ℕ) → List NodeName
spread_to owner need on None = on
spread_to owner need on (Some target) = each_put (spread_ask owner target) (put_on on (owner_node (Some target))) need.asked

abbrev pub spread_need : (Need → Option (List ℕ)) → Owner → List NodeName → Need → List NodeName
spread_need target owner on need = if is_active on owner need.guard then spread_to owner need on (target need) else on

abbrev pub put_trait : Owner → List NodeName → List ℕ → List NodeName
put_trait owner on name = put_on on (trait_node owner name)

abbrev pub spread_trait : Owner → List TraitEntry → List NodeName → TraitEntry → List NodeName
spread_trait owner entries on entry =
    if is_on on (trait_node owner entry.name) then each_put (put_trait owner) on (enabled_by entries entry.name) else on

-- what the needs and the traits of an owner put
abbrev pub spread_owner : (Need → Option (List ℕ)) → Owner → Contents → List NodeName → List NodeName
spread_owner target owner contents on =
    each_put (spread_trait owner contents.traits.entries) (each_put (spread_need target owner) on contents.needs) contents.traits.entries

abbrev pub spread_found : (Need → Option (List ℕ)) → Owner → List NodeName → Option Contents → List NodeName
spread_found target owner on None = on
spread_found target owner on (Some contents) = spread_owner target owner contents on

abbrev pub spread_pin : (Need → Option (List ℕ)) → (Owner → Option Contents) → List NodeName → Pinned → List NodeName
spread_pin target contents on pin = spread_found target (Some pin.identity) on (contents (Some pin.identity))

-- one pass: the root, and then the pins
abbrev pub spread : (Need → Option (List ℕ)) → (Owner → Option Contents) → List Pinned → List NodeName → List NodeName
spread target contents pinned on = each_put (spread_pin target contents) (spread_found target None on (contents None)) pinned

-- what is on before the first pass: the root, and what the words ask of it
abbrev pub opening : List (List ℕ) → List NodeName
opening asked = each_put (put_trait None) (put_on [] Root) asked
