-- At most one selection is first: two of them take the same steps, so the part that they share grows until it is both.
use Rattle.std.proofs.Common.{◌≡◌, ℕ, zero, suc, ◌<◌, ◌≤◌, Bool, true, false, cond, List, [], ◌∷◌, Contains, Option, Some, None, refl, sym, ap, ◌∙◌, inl, inr, arith}
use Rattle.std.specs.Option.{is_some}
use Rattle.std.proofs.lemmas.Bool.{cases_Bool, false≢true, false_from_ne_true}
use Rattle.spm_version.specs.Release.{Parts}
use Rattle.spm_version.specs.ReleaseLaws.{release_eq, release_equiv}
use Rattle.spm_version.proofs.ReleaseLemmas.{same_release}
use Rattle.pub_facts.specs.Catalogue.{Catalogue, Job}
use Rattle.pub_facts.specs.Enabled.{Held, IsIn, Selection, world_of}
use Rattle.pub_facts.specs.First.{IsAmong, IsFirst, IsNext, IsPart, IsPreferred, Preference, TellsApart, at_first, at_step, nothing, with_one}
use Rattle.pub_facts.specs.Valid.{IsValid}
use Rattle.pub_facts.proofs.LeastLemmas.{least_of}
use Rattle.pub_facts.proofs.Members.{contains_cases, contains_nothing}
use Rattle.pub_facts.proofs.PartLemmas.{IsClosed, closed_whole, included, selected_of_part, with_one_is, with_one_there}

-- a valid selection whose releases are preferred to all others is first
pub settled : (prefers : Preference) (Extends : Catalogue → Catalogue → Type 0) (job : Job) (c : Catalogue) (selection : Selection)
    → IsPreferred prefers selection → IsValid job c selection → IsFirst prefers Extends job c selection
settled prefers Extends job c selection preferred valid = record {
  valid = valid;
  skips = λ part identity release other is_part next selected listed liked wider extends rival rival_valid includes has.
      false≢true (sym (preferred identity release other selected) ∙ liked);
}

-- ---- how much a part lacks

-- how many of these identities the part lacks
abbrev lacking : Selection → List (List ℕ) → ℕ
lacking part [] = 0
lacking part (identity ∷ identities) = cond (is_some (part identity)) (lacking part identities) (suc (lacking part identities))

-- where one that was there still is, no more are lacking
no_more : (before after : Bool) (m n : ℕ) → (before ≡ true → after ≡ true) → m ≤ n → cond after m (suc m) ≤ cond before n (suc n)
no_more true true m n stays below = below
no_more true false m n stays below = absurd (false≢true (stays refl))
no_more false true m n stays below = omega (arith, below)
no_more false false m n stays below = omega (arith, below)

-- and fewer, where fewer of the others are
still_fewer : (before after : Bool) (m n : ℕ) → (before ≡ true → after ≡ true) → m < n → cond after m (suc m) < cond before n (suc n)
still_fewer true true m n stays below = below
still_fewer true false m n stays below = absurd (false≢true (stays refl))
still_fewer false true m n stays below = omega (arith, below)
still_fewer false false m n stays below = omega (arith, below)

-- or where this one was lacking and isn't now
fewer_here : (before after : Bool) (m n : ℕ) → before ≡ false → after ≡ true → m ≤ n → cond after m (suc m) < cond before n (suc n)
fewer_here true after m n lacked there below = absurd (false≢true (sym lacked))
fewer_here false true m n lacked there below = omega (arith, below)
fewer_here false false m n lacked there below = absurd (false≢true there)

-- what is in a part is in it with one more
stays : (part : Selection) (identity : List ℕ) (release : Parts) (other : List ℕ) → is_some (part other) ≡ true
    → is_some (with_one part identity release other) ≡ true
stays part identity release other there = elim (with_one_is part identity release other) [
  | inl here ↦ ap is_some here.1
  | inr same ↦ ap is_some same ∙ there
]

-- with one more, no more are lacking
lacks_no_more : (part : Selection) (identity : List ℕ) (release : Parts) (identities : List (List ℕ))
    → lacking (with_one part identity release) identities ≤ lacking part identities
lacks_no_more part identity release [] = omega arith
lacks_no_more part identity release (first ∷ others) =
    no_more (is_some (part first)) (is_some (with_one part identity release first)) (lacking (with_one part identity release) others)
    (lacking part others) (stays part identity release first) (lacks_no_more part identity release others)

-- with one more that was lacking, fewer are
lacks_fewer : (part : Selection) (identity : List ℕ) (release : Parts) (identities : List (List ℕ)) → part identity ≡ None
    → Contains identities identity → lacking (with_one part identity release) identities < lacking part identities
lacks_fewer part identity release [] absent here = absurd (contains_nothing identity here)
lacks_fewer part identity release (first ∷ others) absent here = elim (contains_cases first identity others here) [
  | inl same ↦
      fewer_here (is_some (part first)) (is_some (with_one part identity release first)) (lacking (with_one part identity release) others)
      (lacking part others) (ap (λ one. is_some (part one)) same ∙ ap is_some absent)
      (ap (λ one. is_some (with_one part identity release one)) same ∙ ap is_some (with_one_there part identity release))
      (lacks_no_more part identity release others)
  | inr there ↦
      still_fewer (is_some (part first)) (is_some (with_one part identity release first)) (lacking (with_one part identity release) others)
      (lacking part others) (stays part identity release first) (lacks_fewer part identity release others absent there)
]

-- ---- the steps of two first selections

-- versions, or their lack, that can't differ are the same
same_choice : (one other : Option Parts) → ((one ≡ other → ⊥) → ⊥) → one ≡ other
same_choice None None never = refl
same_choice None (Some release) never = absurd (never (λ e. cc))
same_choice (Some release) None never = absurd (never (λ e. cc))
same_choice (Some release) (Some other) never = elim (cases_Bool (release_eq release other)) [
  | inl same ↦ ap (λ (r : Parts). Some r) (same_release release other same)
  | inr differs ↦
      absurd (never (λ e.
      let same : release ≡ other = cc in
      false≢true (sym differs ∙ ap (release_eq release) (sym same) ∙ release_equiv.refl release)))
]

-- what a valid selection with the same part selects next isn't preferred to what the first one selects
not_preferred : (prefers : Preference) (Extends : Catalogue → Catalogue → Type 0) (job : Job) (c : Catalogue) (selection rival part : Selection)
    (identity : List ℕ) (release other : Parts) → Extends c c → IsFirst prefers Extends job c selection → IsValid job c rival
    → IsPart job c selection part → IsPart job c rival part → IsNext job c part identity → selection identity ≡ Some release
    → rival identity ≡ Some other → prefers identity other release ≡ false
not_preferred prefers Extends job c selection rival part identity release other itself is_first valid is_part rival_part next selected has =
    false_from_ne_true (prefers identity other release)
    (λ preferred.
    is_first.skips part identity release other is_part next selected (valid.usable identity other has).listed preferred c itself rival
    valid (included job c rival part rival_part) has)

module _ (prefers : Preference) (Extends : Catalogue → Catalogue → Type 0) (job : Job) (c : Catalogue) (first second : Selection)
    (identities : List (List ℕ)) (itself : Extends c c) (tells : TellsApart prefers c) (among : IsAmong identities first)
    (is_first : IsFirst prefers Extends job c first) (is_second : IsFirst prefers Extends job c second) where
  -- where nothing is next for a part that both have, both are that part
  same_at_end : (part : Selection) → IsPart job c first part → IsPart job c second part
      → ((identity : List ℕ) → IsNext job c part identity → ⊥) → (identity : List ℕ) → first identity ≡ second identity
  same_at_end part first_part second_part end identity =
      closed_whole job c first part is_first.valid closed (included job c first part first_part) identity
      ∙ sym (closed_whole job c second part is_second.valid closed (included job c second part second_part) identity)
    where
      reached_among : (other : List ℕ) → IsIn (world_of job c part) (Held (Some other)) → Contains identities other
      reached_among other held =
          let selected = selected_of_part job c first part is_first.valid (included job c first part first_part) other held in
          among other selected.0 selected.1

      closed : IsClosed job c part
      closed other held absent =
          least_of (λ one. IsIn (world_of job c part) (Held (Some one)) × (part one ≡ None)) identities
          (λ none. none other (reached_among other held) (held, absent))
          (λ one least.
          end one (record {
            reached = least.is.0;
            absent = least.is.1;
            least = λ later later_held later_absent. least.least later (reached_among later later_held) (later_held, later_absent);
          }))

  -- what is next for a part that both have, both select at the same version
  same_step : (part : Selection) (identity : List ℕ) → IsPart job c first part → IsPart job c second part → IsNext job c part identity
      → (release : Parts) × (first identity ≡ Some release) × (second identity ≡ Some release)
  same_step part identity first_part second_part next =
      let one = selected_of_part job c first part is_first.valid (included job c first part first_part) identity next.reached in
      let other = selected_of_part job c second part is_second.valid (included job c second part second_part) identity next.reached in
      let same : one.0 ≡ other.0
      = tells identity one.0 other.0 (is_first.valid.usable identity one.0 one.1).listed
      (is_second.valid.usable identity other.0 other.1).listed
      (not_preferred prefers Extends job c second first part identity other.0 one.0 itself is_second is_first.valid second_part first_part next
      other.1 one.1)
      (not_preferred prefers Extends job c first second part identity one.0 other.0 itself is_first is_second.valid first_part second_part next
      one.1 other.1) in
      (one.0, one.1, other.1 ∙ ap (λ (r : Parts). Some r) (sym same))

  -- a part that both have grows until they don't differ
  never_differ : (identity : List ℕ) → (first identity ≡ second identity → ⊥) → (n : ℕ) (part : Selection)
      → lacking part identities < n → IsPart job c first part → IsPart job c second part → ⊥
  never_differ identity differ zero part below first_part second_part = absurd (omega (arith, below))
  never_differ identity differ (suc n) part below first_part second_part =
      differ (same_at_end part first_part second_part
      (λ next is_next.
      let step = same_step part next first_part second_part is_next in
      let fewer = lacks_fewer part next step.0 identities is_next.absent (among next step.0 step.1) in
      never_differ identity differ n (with_one part next step.0) (omega (arith, below, fewer))
      (at_step part next step.0 first_part is_next step.1) (at_step part next step.0 second_part is_next step.2)) identity)

  -- two first selections are the same
  pub one_first : (identity : List ℕ) → first identity ≡ second identity
  one_first identity =
      same_choice (first identity) (second identity)
      (λ differ. never_differ identity differ (suc (lacking nothing identities)) nothing (omega arith) at_first at_first)
