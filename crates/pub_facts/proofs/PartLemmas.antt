-- The parts of a selection: what lies in a part, what a part reaches, and when a part is the whole.
use Rattle.std.proofs.Common.{◌≡◌, ℕ, List, Contains, Option, Some, None, refl, sym, ap, ◌∙◌, subst, inl, inr, ◌⊎◌}
use Rattle.std.specs.Cmp.Lexicographic.{bytes_decides, nat_list_eq_equiv}
use Rattle.std.specs.Str.{bytes_eq}
use Rattle.std.proofs.lemmas.Bool.{cases_Bool, cond-false, cond-true}
use Rattle.spm_manifest.specs.declared.dump.Contents.{Contents}
use Rattle.spm_trait.specs.Closure.{enabled_by}
use Rattle.spm_version.specs.Release.{Parts}
use Rattle.pub_facts.specs.Catalogue.{Catalogue, Job, Owner, contents_at, entries_in, needs_in}
use Rattle.pub_facts.specs.Enabled.{Active, Enabled, Held, IsIn, Selection, Spot, by_always, by_ask, by_ask_under, by_guard, by_need, by_root, by_trait, by_words, world_of}
use Rattle.pub_facts.specs.First.{Includes, IsPart, at_first, at_step, with_one}
use Rattle.pub_facts.specs.Valid.{IsValid}
use Rattle.pub_facts.proofs.Members.{contains_nothing}
use Rattle.pub_facts.proofs.Worlds.{AgreeWhereHeld, moved}

-- ---- what lies in a part

-- what has one more has that one, and else what it had
pub with_one_is : (part : Selection) (identity : List ℕ) (release : Parts) (other : List ℕ)
    → ((other ≡ identity) × (with_one part identity release other ≡ Some release)) ⊎ (with_one part identity release other ≡ part other)
with_one_is part identity release other = elim (cases_Bool (bytes_eq other identity)) [
  | inl same ↦ inl ((bytes_decides other identity).0 same, cond-true (bytes_eq other identity) (Some release) (part other) same)
  | inr differs ↦ inr (cond-false (bytes_eq other identity) (Some release) (part other) differs)
]

-- that one is there
pub with_one_there : (part : Selection) (identity : List ℕ) (release : Parts) → with_one part identity release identity ≡ Some release
with_one_there part identity release =
    cond-true (bytes_eq identity identity) (Some release) (part identity) (nat_list_eq_equiv.refl identity)

-- a part lies in its selection
pub included : (job : Job) (c : Catalogue) (selection part : Selection) → IsPart job c selection part → Includes selection part
included job c selection part at_first identity release is = cc
included job c selection part (at_step before next chosen is_part is_next selected) identity release is =
    elim (with_one_is before next chosen identity) [
      | inl here ↦ ap selection here.0 ∙ selected ∙ sym here.1 ∙ is
      | inr there ↦ included job c selection before is_part identity release (sym there ∙ is)
    ]

-- ---- what a part reaches

-- what is so of the contents of an owner in a part, and isn't so where there are none, is so of them in the whole
more_contents : (job : Job) (c : Catalogue) (whole part : Selection) → Includes whole part → (P : Option Contents → Type 0) → (P None → ⊥)
    → (owner : Owner) → P ((world_of job c part).contents owner) → P ((world_of job c whole).contents owner)
more_contents job c whole part includes P none None is = is
more_contents job c whole part includes P none (Some identity) is = go (part identity) refl is
  where
    go : (found : Option Parts) → part identity ≡ found → P (contents_at job c (Some identity) found)
        → P (contents_at job c (Some identity) (whole identity))
    go None at is = absurd (none is)
    go (Some release) at is = subst (λ f. P (contents_at job c (Some identity) f)) (sym (includes identity release at)) is

-- whatever a part reaches and enables, the whole does
pub widened : (job : Job) (c : Catalogue) (whole part : Selection) → Includes whole part
    → (spot : Spot) → IsIn (world_of job c part) spot → IsIn (world_of job c whole) spot
widened job c whole part includes spot by_root = by_root
widened job c whole part includes spot (by_words name here) = by_words name here
widened job c whole part includes spot (by_always owner need held there always) =
    by_always owner need (widened job c whole part includes (Held owner) held)
    (more_contents job c whole part includes (λ found. Contains (needs_in found) need) (λ none. contains_nothing need none) owner there) always
widened job c whole part includes spot (by_guard owner need name held there guard enabled) =
    by_guard owner need name (widened job c whole part includes (Held owner) held)
    (more_contents job c whole part includes (λ found. Contains (needs_in found) need) (λ none. contains_nothing need none) owner there) guard
    (widened job c whole part includes (Enabled owner name) enabled)
widened job c whole part includes spot (by_need owner need target active known) =
    by_need owner need target (widened job c whole part includes (Active owner need) active) known
widened job c whole part includes spot (by_ask owner need target ask active known there none) =
    by_ask owner need target ask (widened job c whole part includes (Active owner need) active) known there none
widened job c whole part includes spot (by_ask_under owner need target ask name active known there under enabled) =
    by_ask_under owner need target ask name (widened job c whole part includes (Active owner need) active) known there under
    (widened job c whole part includes (Enabled owner name) enabled)
widened job c whole part includes spot (by_trait owner name other enabled there) =
    by_trait owner name other (widened job c whole part includes (Enabled owner name) enabled)
    (more_contents job c whole part includes (λ found. Contains (enabled_by (entries_in found) name) other)
    (λ none. contains_nothing other none) owner there)

-- the package that the spot holds is selected; nothing is said of other spots
abbrev IsSelected : Selection → Spot → Type 0
IsSelected selection (Held None) = Unit {0}
IsSelected selection (Held (Some identity)) = (release : Parts) × (selection identity ≡ Some release)
IsSelected selection (Enabled owner name) = Unit {0}
IsSelected selection (Active owner need) = Unit {0}

-- what a valid selection reaches is selected
selected_at : (job : Job) (c : Catalogue) (selection : Selection) → IsValid job c selection → (spot : Spot)
    → IsIn (world_of job c selection) spot → IsSelected selection spot
selected_at job c selection valid spot by_root = tt
selected_at job c selection valid spot (by_words name here) = tt
selected_at job c selection valid spot (by_always owner need held there always) = tt
selected_at job c selection valid spot (by_guard owner need name held there guard enabled) = tt
selected_at job c selection valid spot (by_need owner need target active known) =
    let met = valid.needs owner need active in
    let same : target ≡ met.target = (let e : Some target ≡ Some met.target = sym known ∙ met.known in cc) in
    (met.release, ap selection same ∙ met.selected)
selected_at job c selection valid spot (by_ask owner need target ask active known there none) = tt
selected_at job c selection valid spot (by_ask_under owner need target ask name active known there under enabled) = tt
selected_at job c selection valid spot (by_trait owner name other enabled there) = tt

-- a valid selection selects each package that a part of it reaches
pub selected_of_part : (job : Job) (c : Catalogue) (whole part : Selection) → IsValid job c whole → Includes whole part → (identity : List ℕ)
    → IsIn (world_of job c part) (Held (Some identity)) → (release : Parts) × (whole identity ≡ Some release)
selected_of_part job c whole part valid includes identity held =
    selected_at job c whole valid (Held (Some identity)) (widened job c whole part includes (Held (Some identity)) held)

-- ---- when a part is the whole

-- each package that the part reaches is in it
abbrev pub IsClosed : Job → Catalogue → Selection → Type 0
IsClosed job c part = (identity : List ℕ) → IsIn (world_of job c part) (Held (Some identity)) → part identity ≡ None → ⊥

-- a selection agrees with a closed part of it on what the part reaches
agrees_closed : (job : Job) (c : Catalogue) (whole part : Selection) → IsClosed job c part → Includes whole part
    → AgreeWhereHeld job c whole part
agrees_closed job c whole part closed includes identity held = go (part identity) refl
  where
    go : (found : Option Parts) → part identity ≡ found → whole identity ≡ part identity
    go None at = absurd (closed identity held at)
    go (Some release) at = includes identity release at ∙ sym at

-- a closed part of a valid selection is the whole
pub closed_whole : (job : Job) (c : Catalogue) (whole part : Selection) → IsValid job c whole → IsClosed job c part → Includes whole part
    → (identity : List ℕ) → whole identity ≡ part identity
closed_whole job c whole part valid closed includes identity = go (whole identity) (part identity) refl refl
  where
    agrees : AgreeWhereHeld job c whole part
    agrees = agrees_closed job c whole part closed includes

    go : (found kept : Option Parts) → whole identity ≡ found → part identity ≡ kept → whole identity ≡ part identity
    go None None at in_part = at ∙ sym in_part
    go found (Some release) at in_part = includes identity release in_part ∙ sym in_part
    go (Some release) None at in_part =
        agrees identity (moved job c whole part agrees (Held (Some identity)) (valid.reached identity release at))
