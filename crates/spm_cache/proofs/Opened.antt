-- The passes of a cache that is opened.
use Rattle.std.proofs.Common.{◌≡◌, ℕ, zero, suc, ◌+◌, ◌-◌, ◌<◌, List, [], ◌∷◌, ◌++◌, length, sym, ap, ap₂, ◌∙◌, append_assoc, arith, length-append}
use Rattle.std.specs.Prelude.{map}
use Rattle.spm_turn.specs.Log.{numbers_from, without}
use Rattle.spm_turn.proofs.Numbers.{length-from, without_first}
use Rattle.spm_turn.specs.Sitting.{Sitting, TableId}
use Rattle.spm_cache_core.specs.declared.event.Event.{Event}
use Rattle.spm_cache.specs.Passing.{Passing, newcomer}
use Rattle.spm_cache.specs.Seated.{row}
use Rattle.spm_cache.specs.declared.kept.Terms.{Terms}

-- a row without its first number
pub row_without : (actor left : ℕ) → 0 < left → without actor (numbers_from actor left) ≡ numbers_from (actor + 1) (left - 1)
row_without actor zero some = absurd (omega arith)
row_without actor (suc m) some =
    let next : suc actor ≡ actor + 1 = omega arith in let less : m ≡ suc m - 1 = omega arith in
    without_first actor m ∙ ap₂ (λ a n. numbers_from a n) next less

-- a row of two numbers at least has another than its first
pub row_another : (actor left : ℕ) → 1 < left → 0 < length (without actor (numbers_from actor left))
row_another actor left more =
    let same : length (without actor (numbers_from actor left)) ≡ left - 1 =
    ap (λ l. length l) (row_without actor left (omega arith)) ∙ length-from (left - 1) (actor + 1) in
    omega (arith, same)

-- the first pass of a row, and those of the rest
pub row_step : (f : ℕ → Passing) (items all : List Passing) (actor left : ℕ) → 0 < left
    → items ++ map f (numbers_from actor left) ≡ all
    → (items ++ f actor ∷ []) ++ map f (numbers_from (actor + 1) (left - 1)) ≡ all
row_step f items all actor zero some is = absurd (omega arith)
row_step f items all actor (suc m) some is =
    let next : actor + 1 ≡ suc actor = omega arith in let less : suc m - 1 ≡ m = omega arith in
    ap₂ (λ a n. (items ++ f actor ∷ []) ++ map f (numbers_from a n)) next less
    ∙ (append_assoc items (f actor ∷ []) (map f (numbers_from (suc actor) m)) ∙ is)

-- the pass of a row of one number is the last
pub row_end : (f : ℕ → Passing) (items all : List Passing) (actor left : ℕ) → left ≡ 1
    → items ++ map f (numbers_from actor left) ≡ all → items ++ f actor ∷ [] ≡ all
row_end f items all actor left one is = ap (λ n. items ++ map f (numbers_from actor n)) (sym one) ∙ is

-- the seat of a row without its first number
pub row_less : (seat : Sitting Event Terms) (of : TableId) (actor left : ℕ) → 0 < left
    → seat ≡ row of seat.terms.sessions seat.terms.workers actor left
    → record seat { numbers = without actor seat.numbers } ≡ row of seat.terms.sessions seat.terms.workers (actor + 1) (left - 1)
row_less seat of actor left some is =
    ap (λ (s : Sitting Event Terms). record s { numbers = without actor s.numbers }) is
    ∙ ap (λ (ns : List ℕ). record (row of seat.terms.sessions seat.terms.workers actor left) { numbers = ns })
    (row_without actor left some)

module _ (of : TableId) (sessions workers actor total : ℕ) (seat : Sitting Event Terms) (is : seat ≡ row of sessions workers actor (total - actor)) where
  -- the seat after a pass was made
  pub dealt_seat : (new : Sitting Event Terms) → new ≡ row of seat.terms.sessions seat.terms.workers (actor + 1) (total - actor - 1)
      → new ≡ row of sessions workers (actor + 1) (total - (actor + 1))
  dealt_seat new made =
      let less : total - actor - 1 ≡ total - (actor + 1) = omega arith in
      made
      ∙ (ap (λ (s : Sitting Event Terms). row of s.terms.sessions s.terms.workers (actor + 1) (total - actor - 1)) is
      ∙ ap (λ n. row of sessions workers (actor + 1) n) less)

  -- the passes after one more was made
  pub dealt_passes : (items new all : List Passing) (pass : Passing) → actor < total
      → pass ≡ newcomer of seat.terms.sessions seat.terms.workers actor
      → new ≡ items ++ pass ∷ []
      → items ++ map (newcomer of sessions workers) (numbers_from actor (total - actor)) ≡ all
      → new ++ map (newcomer of sessions workers) (numbers_from (actor + 1) (total - (actor + 1))) ≡ all
  dealt_passes items new all pass some made grew so_far =
      let less : total - (actor + 1) ≡ total - actor - 1 = omega arith in
      let one : pass ≡ newcomer of sessions workers actor =
      made ∙ ap (λ (s : Sitting Event Terms). newcomer of s.terms.sessions s.terms.workers actor) is in
      ap₂ (λ (l : List Passing) (n : ℕ). l ++ map (newcomer of sessions workers) (numbers_from (actor + 1) n))
      (grew ∙ ap (λ (p : Passing). items ++ p ∷ []) one) less
      ∙ row_step (newcomer of sessions workers) items all actor (total - actor) (omega arith) so_far

-- one pass more
pub dealt_length : (items new : List Passing) (pass : Passing) (actor : ℕ) → new ≡ items ++ pass ∷ [] → length items ≡ actor
    → length new ≡ actor + 1
dealt_length items new pass actor grew size =
    ap (λ l. length l) grew ∙ (length-append items (pass ∷ []) ∙ ap (λ n. n + 1) size)
