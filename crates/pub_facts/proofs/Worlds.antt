-- The least sets: what is enabled has an owner that is reached, and where selections agree on what is reached, their sets are the same.
use Rattle.std.proofs.Common.{◌≡◌, ℕ, List, Contains, Some, None, refl, ap, subst}
use Rattle.spm_trait.specs.Closure.{enabled_by}
use Rattle.pub_facts.specs.Catalogue.{Catalogue, Job, Owner, contents_at, entries_in, needs_in}
use Rattle.pub_facts.specs.Enabled.{Active, Enabled, Held, IsIn, Selection, Spot, World, by_always, by_ask, by_ask_under, by_guard, by_need, by_root, by_trait, by_words, world_of}

-- the owner of a spot
abbrev pub owner_in : Spot → Owner
owner_in (Held owner) = owner
owner_in (Enabled owner name) = owner
owner_in (Active owner need) = owner

-- whatever is in the sets, its owner is reached
pub owner_held : (world : World) (spot : Spot) → IsIn world spot → IsIn world (Held (owner_in spot))
owner_held world spot by_root = by_root
owner_held world spot (by_words name here) = by_root
owner_held world spot (by_always owner need held there always) = held
owner_held world spot (by_guard owner need name held there guard enabled) = held
owner_held world spot (by_need owner need target active known) = by_need owner need target active known
owner_held world spot (by_ask owner need target ask active known there none) = by_need owner need target active known
owner_held world spot (by_ask_under owner need target ask name active known there under enabled) = by_need owner need target active known
owner_held world spot (by_trait owner name other enabled there) = owner_held world (Enabled owner name) enabled

abbrev pub AgreeWhereHeld : Job → Catalogue → Selection → Selection → Type 0
AgreeWhereHeld job c first second = (identity : List ℕ) → IsIn (world_of job c second) (Held (Some identity)) → first identity ≡ second identity

-- the contents of what is reached are the same
pub same_contents : (job : Job) (c : Catalogue) (first second : Selection) (owner : Owner) → AgreeWhereHeld job c first second
    → IsIn (world_of job c second) (Held owner) → (world_of job c first).contents owner ≡ (world_of job c second).contents owner
same_contents job c first second None agree held = refl
same_contents job c first second (Some identity) agree held = ap (contents_at job c (Some identity)) (agree identity held)

-- what one selection reaches, another does that agrees with it there
pub moved : (job : Job) (c : Catalogue) (first second : Selection) → AgreeWhereHeld job c first second
    → (spot : Spot) → IsIn (world_of job c first) spot → IsIn (world_of job c second) spot
moved job c first second agree spot by_root = by_root
moved job c first second agree spot (by_words name here) = by_words name here
moved job c first second agree spot (by_always owner need held there always) =
    let over = moved job c first second agree (Held owner) held in
    by_always owner need over (subst (λ found. Contains (needs_in found) need) (same_contents job c first second owner agree over) there) always
moved job c first second agree spot (by_guard owner need name held there guard enabled) =
    let over = moved job c first second agree (Held owner) held in
    by_guard owner need name over (subst (λ found. Contains (needs_in found) need) (same_contents job c first second owner agree over) there) guard
    (moved job c first second agree (Enabled owner name) enabled)
moved job c first second agree spot (by_need owner need target active known) =
    by_need owner need target (moved job c first second agree (Active owner need) active) known
moved job c first second agree spot (by_ask owner need target ask active known there none) =
    by_ask owner need target ask (moved job c first second agree (Active owner need) active) known there none
moved job c first second agree spot (by_ask_under owner need target ask name active known there under enabled) =
    by_ask_under owner need target ask name (moved job c first second agree (Active owner need) active) known there under
    (moved job c first second agree (Enabled owner name) enabled)
moved job c first second agree spot (by_trait owner name other enabled there) =
    let over = moved job c first second agree (Enabled owner name) enabled in
    by_trait owner name other over
    (subst (λ found. Contains (enabled_by (entries_in found) name) other)
    (same_contents job c first second owner agree (owner_held (world_of job c second) (Enabled owner name) over)) there)
