-- The search for the least set: a set of names that are reached, and a list of names that wait. Each turn takes a name from
-- the list. One that is new goes into the set, and what it enables waits.
use Rattle.std.specs.Str.{bytes_eq}
use Rattle.std.proofs.Common.{◌≡◌, ℕ, ◌+◌, ◌<◌, ◌≤◌, Bool, true, false, cond, ◌||◌, List, [], ◌∷◌, ◌++◌, length, Option, Some, refl, sym, ap, ◌∙◌, inl, inr, ◌⊎◌, arith, length-append}
use Rattle.std.specs.Prelude.{Contains}
use Rattle.std.specs.Borrow.{Bor}
use Rattle.std.specs.BTreeMap.{is_at}
use Rattle.std.specs.Cmp.Lexicographic.{slice_cmp}
use Rattle.std.specs.Map.{lookup}
use Rattle.std.specs.Ordering.{nat_cmp, is_eq}
use Rattle.std.proofs.lemmas.Bool.{or_cases}
use Rattle.std.proofs.lemmas.List.{length_push}
use Rattle.std.proofs.lemmas.List.Elements.{Contains-append_left, Contains-append_right, Contains-append_cases, Contains-push, Contains-push_cases}
use Rattle.std.proofs.lemmas.Map.Text.{is_eq-slice_cmp}
use Rattle.spm_trait.specs.Closure.{IsInOrder}
use Rattle.spm_trait.specs.Reached.{IsInLeastBy, IsReached, names_or_none}
use Rattle.spm_trait.proofs.Names.{has, same-from_true, same_name-itself, same_name-turned, has-from_Contains}

-- a name that is reached, or waits
abbrev pub IsSeen : List (List ℕ) → List (List ℕ) → List ℕ → Type 0
IsSeen reached waiting name = (has reached name ≡ true) ⊎ Contains waiting name

-- What is reached or waits is in the least set. The asked names are reached or wait, and so is what the reached ones enable.
pub record IsSearch (enables : List ℕ → List (List ℕ)) (asked reached waiting : List (List ℕ)) : Type 0 where
  pub reached_least : (name : List ℕ) → has reached name ≡ true → IsInLeastBy enables asked name
  pub waiting_least : (name : List ℕ) → Contains waiting name → IsInLeastBy enables asked name
  pub asked_seen : (name : List ℕ) → Contains asked name → IsSeen reached waiting name
  pub enabled_seen : (name other : List ℕ) → has reached name ≡ true → Contains (enables name) other → IsSeen reached waiting other
  pub in_order : IsInOrder reached

module _ (enables : List ℕ → List (List ℕ)) (asked : List (List ℕ)) where
  -- the name of a turn is reached already
  seen_less : (reached waiting : List (List ℕ)) (x name : List ℕ) → has reached x ≡ true → IsSeen reached (waiting ++ x ∷ []) name → IsSeen reached waiting name
  seen_less reached waiting x name there (inl h) = inl h
  seen_less reached waiting x name there (inr h) = elim (Contains-push_cases waiting x name h) [
    | inl waits ↦ inr waits
    | inr same ↦ inl (ap (has reached) (sym same) ∙ there)
  ]

  -- a name that was reached before is let go
  pub IsSearch-old : (reached waiting : List (List ℕ)) (x : List ℕ) → has reached x ≡ true
      → IsSearch enables asked reached (waiting ++ x ∷ []) → IsSearch enables asked reached waiting
  IsSearch-old reached waiting x there s = record {
    reached_least = s.reached_least;
    waiting_least = λ name h. s.waiting_least name (Contains-append_left waiting (x ∷ []) name h);
    asked_seen = λ name h. seen_less reached waiting x name there (s.asked_seen name h);
    enabled_seen = λ name other h e. seen_less reached waiting x other there (s.enabled_seen name other h e);
    in_order = s.in_order;
  }

  -- the name of a turn is new
  module _ (reached after waiting : List (List ℕ)) (x : List ℕ) (puts : (name : List ℕ) → has after name ≡ (bytes_eq name x || has reached name)) where
    still : (name : List ℕ) → has reached name ≡ true → has after name ≡ true
    still name h = puts name ∙ or_right (bytes_eq name x) (has reached name) h
      where
        or_right : (a b : Bool) → b ≡ true → (a || b) ≡ true
        or_right true b h = refl
        or_right false b h = h

    there_now : has after x ≡ true
    there_now = puts x ∙ ap (λ b. b || has reached x) (same_name-itself x)

    seen_more : (more : List (List ℕ)) (name : List ℕ) → IsSeen reached (waiting ++ x ∷ []) name → IsSeen after (waiting ++ more) name
    seen_more more name (inl h) = inl (still name h)
    seen_more more name (inr h) = elim (Contains-push_cases waiting x name h) [
      | inl waits ↦ inr (Contains-append_left waiting more name waits)
      | inr same ↦ inl (ap (has after) (sym same) ∙ there_now)
    ]

    pub IsSearch-new : IsInOrder after → IsSearch enables asked reached (waiting ++ x ∷ []) → IsSearch enables asked after (waiting ++ enables x)
    IsSearch-new in_order s =
        let x_least = s.waiting_least x (Contains-push waiting x) in
        let least : (name : List ℕ) → has after name ≡ true → IsInLeastBy enables asked name =
        λ name h. elim (or_cases (bytes_eq name x) (has reached name) (sym (puts name) ∙ h)) [
          | inl same ↦ rw (same-from_true name x same) x_least
          | inr old ↦ s.reached_least name old
        ] in
        record {
          reached_least = least;
          waiting_least = λ name h. elim (Contains-append_cases waiting (enables x) name h) [
            | inl waits ↦ s.waiting_least name (Contains-append_left waiting (x ∷ []) name waits)
            | inr enabled ↦ λ all closed. closed.enabled_names x name (x_least all closed) enabled
          ];
          asked_seen = λ name h. seen_more (enables x) name (s.asked_seen name h);
          enabled_seen = λ name other h e. elim (or_cases (bytes_eq name x) (has reached name) (sym (puts name) ∙ h)) [
            | inl same ↦ inr (Contains-append_right waiting (enables x) other (rw (same-from_true name x same) at e))
            | inr old ↦ seen_more (enables x) other (s.enabled_seen name other old e)
          ];
          in_order = in_order;
        }

  -- at the end no name waits
  seen_end : (reached : List (List ℕ)) (name : List ℕ) → IsSeen reached [] name → has reached name ≡ true
  seen_end reached name (inl h) = h
  seen_end reached name (inr h) = absurd (omega (arith, h.1))

  -- once no name waits, the reached ones are the least set
  pub IsReached-end : (reached : List (List ℕ)) → IsSearch enables asked reached [] → IsReached enables asked reached
  IsReached-end reached s = record {
    closed = record {
      asked_names = λ name h. seen_end reached name (s.asked_seen name h);
      enabled_names = λ name other h e. seen_end reached other (s.enabled_seen name other h e);
    };
    least = λ name h. s.reached_least name (has-from_Contains reached name h);
    in_order = s.in_order;
  }

-- ---- the measure: what the entries that are not reached enable, and the names that wait

-- the entries of the map
abbrev pub Entries : Type 0
Entries = List (Bor (List ℕ) × Bor (List (List ℕ)))

-- how many names an entry can still give
abbrev pub left_at : Bool → List (List ℕ) → ℕ
left_at true names = 0
left_at false names = length names

-- how many names the unreached entries can still give
abbrev pub left : Entries → List (List ℕ) → ℕ
left [] reached = 0
left (entry ∷ entries) reached = left_at (has reached entry.0.now) entry.1.now + left entries reached

module _ (reached after : List (List ℕ)) (x : List ℕ) (puts : (name : List ℕ) → has after name ≡ (bytes_eq name x || has reached name)) where
  -- a reached entry gives no more
  left_at-le : (same there : Bool) (names : List (List ℕ)) → left_at (same || there) names ≤ left_at there names
  left_at-le true there names = omega arith
  left_at-le false there names = omega arith

  -- with one name more reached, no more is left
  left-le : (entries : Entries) → left entries after ≤ left entries reached
  left-le [] = omega arith
  left-le (entry ∷ entries) =
      let here = left_at-le (bytes_eq entry.0.now x) (has reached entry.0.now) entry.1.now in
      rw (puts entry.0.now) (omega (arith, here, left-le entries))

  -- what is left where the name is the first entry, or not
  left-first : (b : Bool) (entry : Bor (List ℕ) × Bor (List (List ℕ))) (found : Option (Bor (List (List ℕ)))) (entries : Entries)
      → bytes_eq x entry.0.now ≡ b → has reached x ≡ false → left entries after + length (names_or_none found) ≤ left entries reached
      → left (entry ∷ entries) after + length (names_or_none (cond b (Some entry.1) found)) ≤ left (entry ∷ entries) reached
  left-first true entry found entries is absent later =
      let same : x ≡ entry.0.now = same-from_true x entry.0.now is in
      let was : has reached entry.0.now ≡ false = ap (has reached) (sym same) ∙ absent in
      let now : has after entry.0.now ≡ true = puts entry.0.now ∙ ap (λ b. b || has reached entry.0.now) (same_name-turned entry.0.now x ∙ is) in
      rw (was, now) (omega (arith, left-le entries))
  left-first false entry found entries is absent later =
      let stays : has after entry.0.now ≡ has reached entry.0.now =
      puts entry.0.now ∙ ap (λ b. b || has reached entry.0.now) (same_name-turned entry.0.now x ∙ is) in
      rw stays (omega (arith, later))

  -- a new name takes away what it enables
  pub left-less : (entries : Entries) → has reached x ≡ false
      → left entries after + length (names_or_none (lookup (is_at (λ (key : Bor (List ℕ)). slice_cmp nat_cmp x key.now)) entries)) ≤ left entries reached
  left-less [] absent = omega arith
  left-less (entry ∷ entries) absent =
      left-first (is_eq (slice_cmp nat_cmp x entry.0.now)) entry (lookup (is_at (λ (key : Bor (List ℕ)). slice_cmp nat_cmp x key.now)) entries) entries
      (sym (is_eq-slice_cmp x entry.0.now)) absent (left-less entries absent)

  -- a turn with a new name
  pub left-turn : (entries : Entries) (waiting rest waits : List (List ℕ)) → has reached x ≡ false → waiting ≡ rest ++ x ∷ []
      → waits ≡ rest ++ names_or_none (lookup (is_at (λ (key : Bor (List ℕ)). slice_cmp nat_cmp x key.now)) entries)
      → left entries after + length waits < left entries reached + length waiting
  left-turn entries waiting rest waits absent popped pushed =
      let enabled = names_or_none (lookup (is_at (λ (key : Bor (List ℕ)). slice_cmp nat_cmp x key.now)) entries) in
      rw (popped, pushed) (omega (arith, left-less entries absent, length-append rest enabled, length_push rest x))
