-- Stages, case by case: what a seat knows after the step of another.
use Rattle.std.proofs.Common.{◌≡◌, ◌≢◌, ℕ, ◌+◌, ◌<◌, ◌≤◌, true, false, true≢false, List, [], ◌∷◌, ◌++◌, length, sym, refl, ◌∙◌, arith}
use Rattle.spm_turn.specs.declared.view.Stage.{Stage}
use Rattle.spm_turn.specs.declared.view.Stage.TheVariants.{Opening, Idle, Waits, Served, Counted, Met}
use Rattle.spm_turn.specs.Log.{has, StartsWith, OthersFollow}
use Rattle.spm_turn.specs.Views.{base_of, is_away, is_opening, is_served}
use Rattle.spm_turn.specs.Rule.{HasTicket, Knows}
use Rattle.spm_turn.proofs.Follows.{others_more}

module _ {E C : Type 0} where
  -- a seat has one ticket at most
  pub one_ticket : (a b : ℕ) (st : Stage E C) → HasTicket a st → HasTicket b st → a ≡ b
  one_ticket a b Opening h k = sym h ∙ k
  one_ticket a b Idle h k = absurd h
  one_ticket a b (Waits t) h k = sym h ∙ k
  one_ticket a b (Served t base) h k = sym h ∙ k
  one_ticket a b (Counted t base) h k = sym h ∙ k
  one_ticket a b (Met p c nc d nd) h k = absurd h

  -- a seat that is served has the state away
  pub served_away : (st : Stage E C) → is_served st ≡ true → is_away st ≡ true
  served_away Opening h = refl
  served_away Idle h = h
  served_away (Waits t) h = h
  served_away (Served t base) h = refl
  served_away (Counted t base) h = refl
  served_away (Met p c nc d nd) h = h

  -- the seat that opens has the state away
  pub opening_away : (st : Stage E C) → is_opening st ≡ true → is_away st ≡ true
  opening_away Opening h = refl
  opening_away Idle h = h
  opening_away (Waits t) h = h
  opening_away (Served t base) h = refl
  opening_away (Counted t base) h = refl
  opening_away (Met p c nc d nd) h = h

  -- a seat that is served has opened
  pub served_opened : (st : Stage E C) → is_served st ≡ true → is_opening st ≡ false
  served_opened Opening h = absurd (true≢false (sym h))
  served_opened Idle h = refl
  served_opened (Waits t) h = refl
  served_opened (Served t base) h = refl
  served_opened (Counted t base) h = refl
  served_opened (Met p c nc d nd) h = refl

  module _ (by : E → ℕ) where
    -- another draws a ticket
    pub knows_drawn : (log : List E) (t t' s : ℕ) (ns : List ℕ) (seen : List E) (st : Stage E C) → t ≤ t' → Knows by log t s ns seen st → Knows by log t' s ns seen st
    knows_drawn log t t' s ns seen Opening le k = let l = k.3 in (k.0, k.1, k.2, omega arith, k.4)
    knows_drawn log t t' s ns seen Idle le k = k
    knows_drawn log t t' s ns seen (Waits u) le k = let l = k.2 in (k.0, k.1, omega arith, k.3)
    knows_drawn log t t' s ns seen (Served u base) le k = let l = k.3 in (k.0, k.1, k.2, omega arith, k.4, k.5)
    knows_drawn log t t' s ns seen (Counted u base) le k = let l = k.3 in (k.0, k.1, k.2, omega arith, k.4, k.5)
    knows_drawn log t t' s ns seen (Met c a na b nb) le k = k

    -- another counts its entry
    pub knows_grown : (log : List E) (t s : ℕ) (ns : List ℕ) (seen : List E) (e : E) (st : Stage E C) → is_away st ≡ false → has ns (by e) ≡ false → Knows by log t s ns seen st → Knows by (log ++ e ∷ []) t s ns seen st
    knows_grown log t s ns seen e Opening idle isnt k = absurd (true≢false idle)
    knows_grown log t s ns seen e Idle idle isnt k = others_more by ns seen log e isnt k
    knows_grown log t s ns seen e (Waits u) idle isnt k = (others_more by ns seen log e isnt k.0, k.1, k.2, k.3)
    knows_grown log t s ns seen e (Served u base) idle isnt k = absurd (true≢false idle)
    knows_grown log t s ns seen e (Counted u base) idle isnt k = absurd (true≢false idle)
    knows_grown log t s ns seen e (Met c a na b nb) idle isnt k = (others_more by ns seen log e isnt k.0, k.1, k.2, k.3)

    -- another's turn passes
    pub knows_passed : (log : List E) (t s : ℕ) (ns : List ℕ) (seen : List E) (st : Stage E C) → is_away st ≡ false → (HasTicket s st → ⊥) → Knows by log t s ns seen st → Knows by log t (s + 1) ns seen st
    knows_passed log t s ns seen Opening idle isnt k = absurd (true≢false idle)
    knows_passed log t s ns seen Idle idle isnt k = k
    knows_passed log t s ns seen (Waits u) idle isnt k = let l = k.1 in let ne : u ≢ s = isnt in (k.0, omega arith, k.2, k.3)
    knows_passed log t s ns seen (Served u base) idle isnt k = absurd (true≢false idle)
    knows_passed log t s ns seen (Counted u base) idle isnt k = absurd (true≢false idle)
    knows_passed log t s ns seen (Met c a na b nb) idle isnt k = k

    -- a ticket that is held was drawn
    pub ticket_below : (log : List E) (t s : ℕ) (ns : List ℕ) (seen : List E) (n : ℕ) (st : Stage E C) → HasTicket n st → Knows by log t s ns seen st → n < t
    ticket_below log t s ns seen n Opening h k = let l = k.3 in let e : 0 ≡ n = h in omega arith
    ticket_below log t s ns seen n Idle h k = absurd h
    ticket_below log t s ns seen n (Waits u) h k = let l = k.2 in omega arith
    ticket_below log t s ns seen n (Served u base) h k = let l = k.3 in omega arith
    ticket_below log t s ns seen n (Counted u base) h k = let l = k.3 in omega arith
    ticket_below log t s ns seen n (Met c a na b nb) h k = absurd h

    -- a seat that has the state away has the ticket that is served, and a number
    pub away_knows : (log : List E) (t s : ℕ) (ns : List ℕ) (seen : List E) (st : Stage E C) → is_away st ≡ true → Knows by log t s ns seen st → HasTicket s st × (0 < length ns)
    away_knows log t s ns seen Opening is k = (sym k.2, k.4)
    away_knows log t s ns seen Idle is k = absurd (true≢false (sym is))
    away_knows log t s ns seen (Waits u) is k = absurd (true≢false (sym is))
    away_knows log t s ns seen (Served u base) is k = (k.2, k.4)
    away_knows log t s ns seen (Counted u base) is k = (k.2, k.4)
    away_knows log t s ns seen (Met c a na b nb) is k = absurd (true≢false (sym is))

    -- what a seat knows that is served
    pub served_knows : (log : List E) (t s : ℕ) (ns : List ℕ) (seen : List E) (st : Stage E C) → is_served st ≡ true → Knows by log t s ns seen st
        → (base_of st ≡ log) × (s < t) × (length log ≤ s + 1) × HasTicket s st × StartsWith log seen × (0 < length ns)
    served_knows log t s ns seen Opening is k = absurd (true≢false (sym is))
    served_knows log t s ns seen Idle is k = absurd (true≢false (sym is))
    served_knows log t s ns seen (Waits u) is k = absurd (true≢false (sym is))
    served_knows log t s ns seen (Served u base) is k = let l = k.5 in let m = k.3 in let e = k.2 in (k.1, omega arith, omega arith, k.2, k.0, k.4)
    served_knows log t s ns seen (Counted u base) is k = let l = k.5 in let m = k.3 in let e = k.2 in (k.1, omega arith, omega arith, k.2, k.0, k.4)
    served_knows log t s ns seen (Met c a na b nb) is k = absurd (true≢false (sym is))

  -- the seat was just met
  abbrev pub IsMet : Stage E C → Type 0
  IsMet Opening = ⊥
  IsMet Idle = ⊥
  IsMet (Waits t) = ⊥
  IsMet (Served t base) = ⊥
  IsMet (Counted t base) = ⊥
  IsMet (Met c a na b nb) = Unit {0}

  -- a seat that was just met knows what it may when it is idle
  pub met_knows : (by : E → ℕ) (log : List E) (t s : ℕ) (ns : List ℕ) (seen : List E) (st : Stage E C) → IsMet st → Knows by log t s ns seen st → OthersFollow by ns seen log
  met_knows by log t s ns seen Opening h k = absurd h
  met_knows by log t s ns seen Idle h k = absurd h
  met_knows by log t s ns seen (Waits u) h k = absurd h
  met_knows by log t s ns seen (Served u base) h k = absurd h
  met_knows by log t s ns seen (Counted u base) h k = absurd h
  met_knows by log t s ns seen (Met c a na b nb) h k = k.0

  -- a seat that was just met has no ticket
  pub met_ticket : (k : ℕ) (st : Stage E C) → IsMet st → HasTicket k st → ⊥
  met_ticket k Opening m h = m
  met_ticket k Idle m h = h
  met_ticket k (Waits t) m h = m
  met_ticket k (Served t base) m h = m
  met_ticket k (Counted t base) m h = m
  met_ticket k (Met c a na b nb) m h = h

  -- the ticket of a stage that has one
  abbrev pub ticket_or : Stage E C → ℕ
  ticket_or Opening = 0
  ticket_or Idle = 0
  ticket_or (Waits t) = t
  ticket_or (Served t base) = t
  ticket_or (Counted t base) = t
  ticket_or (Met c a na b nb) = 0
