-- The steps of a turn up to the state: each keeps the rule.
use Rattle.std.proofs.Common.{◌≡◌, ℕ, ◌+◌, ◌-◌, ◌^◌, ◌<◌, ◌≤◌, eqb, true, List, [], ◌∷◌, length, get_or, set, sym, refl, ap, ◌∙◌, subst, ◌⊎◌, inl, inr, ⊎_elim, arith, eq-eqb, ne_eqb, Option, Some, None}
use mathlib.Core.Logic.{dite}
use mathlib.Core.Option as maybe
use mathlib.Core.Option.{some, none, some-injective, some-ne-none}
use native.Mathlib.Decide.{ℕ_discrete}
use lib.ListN.{get_elem?}
use lib.Seq.{set-get_or}
use prog.Atomic.{either}
use Rattle.atomic_table.specs.Table.{State, Me, step, keeps, takes, stepped, opening, Allows}
use Rattle.spm_turn.specs.declared.view.View.{View}
use Rattle.spm_turn.specs.declared.view.Stage.TheVariants.{Opening, Idle, Waits, Served}
use Rattle.spm_turn.specs.Log.{has, OthersFollow, AreMarkedBelow}
use Rattle.spm_turn.specs.Views.{at_stage, is_away, is_opening, is_served}
use Rattle.spm_turn.specs.Told.{opened, drawn, looked}
use Rattle.spm_turn.specs.Rule.{Fits, HasTicket, IsAway, IsHome, IsKept, Knows}
use Rattle.spm_turn.proofs.Booleans.{not_both}
use Rattle.spm_turn.proofs.Rows.{set_at, each_set}
use Rattle.spm_turn.proofs.Numbers.{some_number}
use Rattle.spm_turn.proofs.Follows.{others_start}
use Rattle.spm_turn.proofs.Apart.{apart_set, fewer, free_same, some_set}
use Rattle.spm_turn.proofs.Stages.{served_away, opening_away, knows_drawn, ticket_below, ticket_or}
use Rattle.spm_turn.proofs.Rules.{where_stays, unmoved, its_one}

module _ {T E C : Type 0} (history : T → List E) (terms : T → C) (by : E → ℕ) (count : ℕ) (fixed : C) where
  -- the view of a seat
  abbrev V : Type 0
  V = View E C

  -- the table
  abbrev St : Type 0
  St = State (Option T) V

  -- a seat
  abbrev Sat : Type 0
  Sat = Me (Option T) V

  -- the rule
  abbrev Rule : St → Type 0
  Rule = IsKept history terms by count fixed

  -- the state is home while the ticket that is served waits
  comes_home : (s : St) (r : Rule s) (id : ℕ) (v : V) (t : ℕ) → get_elem? s.views id ≡ some v → v.stage ≡ Waits t → t ≡ r.serving → IsHome history terms fixed r.log r.serving s
  comes_home s r id v t at waits mine = let here : HasTicket r.serving v.stage = subst (HasTicket r.serving) (sym waits) mine in ⊎_elim (λ (h : IsHome history terms fixed r.log r.serving s). h)
      (λ (away : IsAway is_served maybe.none s ⊎ IsAway is_opening (some None) s). ⊎_elim
      (λ (o : IsAway is_served maybe.none s). absurd (not_both (is_served v.stage) (its_one history terms by count fixed s r is_served id v at served_away (λ x _ ticket _. inl (r.serving, here, ticket)) o.one) (ap is_served waits)))
      (λ (o : IsAway is_opening (some None) s). absurd (not_both (is_opening v.stage) (its_one history terms by count fixed s r is_opening id v at opening_away (λ x _ ticket _. inl (r.serving, here, ticket)) o.one) (ap is_opening waits)))
      away)
      r.where_is

  -- the slot is at home and empty while a seat opens
  comes_empty : (s : St) (r : Rule s) (id : ℕ) (v : V) → get_elem? s.views id ≡ some v → v.stage ≡ Opening → r.serving ≡ 0 → IsAway is_opening (some None) s
  comes_empty s r id v at opening first = let here : HasTicket r.serving v.stage = subst (HasTicket r.serving) (sym opening) (sym first) in ⊎_elim
      (λ (h : IsHome history terms fixed r.log r.serving s). absurd (not_both (is_away v.stage) (ap is_away opening) (h.none_away id v at)))
      (λ (away : IsAway is_served maybe.none s ⊎ IsAway is_opening (some None) s). ⊎_elim
      (λ (o : IsAway is_served maybe.none s). absurd (not_both (is_served v.stage) (its_one history terms by count fixed s r is_served id v at served_away (λ x _ ticket _. inl (r.serving, here, ticket)) o.one) (ap is_served opening)))
      (λ (o : IsAway is_opening (some None) s). o)
      away)
      r.where_is

  -- the first seat takes the empty slot
  pub opens : (slots id : ℕ) (me : Sat) → me.0.stage ≡ Opening → Allows Rule slots id me 1 (λ n. n) (opened (step slots 1 0 0 none) me)
  opens slots id me opening s r _ at _ = let v : V = me.0 in let f = r.each id v at in let k : Knows {C = C} by r.log r.tickets r.serving v.numbers v.seen Opening = subst (Knows by r.log r.tickets r.serving v.numbers v.seen) opening f.knows in
      let empty = comes_empty s r id v at opening k.2 in let w : V = at_stage v (Served 0 []) in let first : r.serving ≡ 0 = k.2 in let short : length r.log ≡ 0 = ap (λ (l : List E). length l) k.1 in (
        w,
        takes 0 None,
        ap (λ hs. get_elem? hs 0) empty.slot,
        record {
          log = r.log;
          tickets = r.tickets;
          serving = r.serving;
          words = set-get_or s.words 1 0 ∙ r.words;
          order = r.order;
          top = r.top;
          marked = r.marked;
          each = each_set (Fits by count fixed r.log r.tickets r.serving) s.views id w
              record { terms = f.terms; told = f.told; numbers = f.numbers; knows = (others_start by v.numbers v.seen r.log k.0, sym k.1, sym first, k.3, k.4, omega arith); partner = tt }
              (λ j x _ e. r.each j x e);
          apart = apart_set s.views id w r.apart (free_same s.views id v w r.apart at (fewer v w (λ a h. subst (HasTicket a) (sym opening) h) (λ _ h. h)));
          tickets_held = λ k low high. some_set (λ x. HasTicket k x.stage) s.views id v w at (λ h. subst (HasTicket k) opening h) (r.tickets_held k low high);
          numbers_held = λ k l. some_set (λ x. has x.numbers k ≡ true) s.views id v w at (λ h. h) (r.numbers_held k l);
          where_is = inr (inl record { slot = ap (λ hs. set hs 0 none) empty.slot; one = (id, w, set_at s.views id v w at, refl) });
        },
        refl,
      )

  -- a seat draws a ticket
  pub draws : (slots id : ℕ) (me : Sat) (old new : ℕ) → me.0.stage ≡ Idle → 0 < length me.0.numbers → old < 2 ^ 64 - 1 → new ≡ old + 1
      → Allows Rule slots id me 0 (λ n. either (eqb n old) new n) (drawn (step slots 0 old new none) me)
  draws slots id me old new idle some_number room up s r _ at _ = let v : V = me.0 in let n : ℕ = get_or s.words 0 0 in let is : n ≡ r.tickets = ap (λ ws. get_or ws 0 0) r.words in
      let f = r.each id v at in dite (ℕ_discrete n old)
      (λ hit. let w : V = at_stage v (Waits old) in let order = r.order in let quiet : OthersFollow by v.numbers v.seen r.log = subst (Knows by r.log r.tickets r.serving v.numbers v.seen) idle f.knows in (
        w,
        keeps,
        tt,
        subst (λ b. Rule (stepped s 0 (either b new n) id me.1 w keeps)) (sym (eq-eqb n old hit)) record {
          log = r.log;
          tickets = new;
          serving = r.serving;
          words = ap (λ ws. set ws 0 new) r.words;
          order = omega arith;
          top = omega arith;
          marked = r.marked;
          each = each_set (Fits by count fixed r.log new r.serving) s.views id w
              record { terms = f.terms; told = f.told; numbers = f.numbers; knows = (quiet, omega arith, omega arith, some_number); partner = tt }
              (λ j x _ e. let g = r.each j x e in
              record { terms = g.terms; told = g.told; numbers = g.numbers; knows = knows_drawn by r.log r.tickets new r.serving x.numbers x.seen x.stage (omega arith) g.knows; partner = g.partner });
          apart = apart_set s.views id w r.apart (λ j x other e c. ⊎_elim
              (λ (t : (k : ℕ) × HasTicket k w.stage × HasTicket k x.stage). let b = ticket_below by r.log r.tickets r.serving x.numbers x.seen t.0 x.stage t.2 (r.each j x e).knows in let u : old ≡ t.0 = t.1 in omega arith)
              (λ (t : (k : ℕ) × (has v.numbers k ≡ true) × (has x.numbers k ≡ true)). other (sym (r.apart id j v x at e (inr t)))) c);
          tickets_held = λ k low high. dite (ℕ_discrete old k) (λ same. (id, w, set_at s.views id v w at, same))
              (λ other. some_set (λ x. HasTicket k x.stage) s.views id v w at (λ h. absurd (subst (HasTicket k) idle h)) (r.tickets_held k low (omega arith)));
          numbers_held = λ k l. some_set (λ x. has x.numbers k ≡ true) s.views id v w at (λ h. h) (r.numbers_held k l);
          where_is = where_stays history terms by count fixed r.log r.serving s (set s.words 0 new) id v w at (ap is_away idle) refl r.where_is;
        },
        (λ found. ap (λ (k : ℕ). (at_stage v (Waits k), me.1)) (sym found), λ ne. absurd (ne hit)),
      ))
      (λ miss. (
        v,
        keeps,
        tt,
        subst (λ b. Rule (stepped s 0 (either b new n) id me.1 v keeps)) (sym (ne_eqb n old miss)) (unmoved history terms by count fixed s 0 id me.1 v at r),
        (λ found. absurd (miss found), λ _. refl),
      ))

  -- a seat looks, and takes the state where its ticket is served
  pub looks : (slots id : ℕ) (me : Sat) (t numbers : ℕ) → me.0.stage ≡ Waits t → numbers ≡ count → Allows Rule slots id me 1 (λ n. n) (looked history terms by numbers (step slots 1 0 0 none) me)
  looks slots id me t numbers waits all s r _ at _ = let v : V = me.0 in let n : ℕ = get_or s.words 1 0 in let is : n ≡ r.serving = ap (λ ws. get_or ws 1 0) r.words in
      let f = r.each id v at in let k : Knows {C = C} by r.log r.tickets r.serving v.numbers v.seen (Waits t) = subst (Knows by r.log r.tickets r.serving v.numbers v.seen) waits f.knows in
      let same : (t' : ℕ) → v.stage ≡ Waits t' → t ≡ t' = λ t' e. ap ticket_or (sym waits ∙ e) in dite (ℕ_discrete n t)
      (λ hit. let mine : t ≡ r.serving = sym hit ∙ is in let home = comes_home s r id v t at waits mine in let state : T = home.state in let w : V = at_stage v (Served t (history state)) in let below_tickets = k.2 in
      let m = some_number v.numbers k.3 in (
        w,
        takes 0 (Some state),
        ap (λ hs. get_elem? hs 0) home.slot,
        record {
          log = r.log;
          tickets = r.tickets;
          serving = r.serving;
          words = set-get_or s.words 1 0 ∙ r.words;
          order = r.order;
          top = r.top;
          marked = r.marked;
          each = each_set (Fits by count fixed r.log r.tickets r.serving) s.views id w
              record { terms = f.terms; told = f.told; numbers = f.numbers; knows = (others_start by v.numbers v.seen r.log k.0, home.is, mine, below_tickets, k.3, home.room); partner = tt }
              (λ j x _ e. r.each j x e);
          apart = apart_set s.views id w r.apart (free_same s.views id v w r.apart at (fewer v w (λ a h. subst (HasTicket a) (sym waits) h) (λ _ h. h)));
          tickets_held = λ k low high. some_set (λ x. HasTicket k x.stage) s.views id v w at (λ h. subst (HasTicket k) waits h) (r.tickets_held k low high);
          numbers_held = λ k l. some_set (λ x. has x.numbers k ≡ true) s.views id v w at (λ h. h) (r.numbers_held k l);
          where_is = inr (inl record { slot = ap (λ hs. set hs 0 none) home.slot; one = (id, w, set_at s.views id v w at, refl) });
        },
        λ t' e. let u = same t' e in (
          λ _. (
            state,
            ap (λ (z : ℕ). (at_stage v (Served z (history state)), (0, Some state) ∷ me.1)) u,
            subst (OthersFollow by v.numbers v.seen) (sym home.is) k.0,
            subst (λ (l : List E). v.told ≤ length l) (sym home.is) f.told,
            home.kept ∙ sym (f.terms m.0 m.1),
            subst (λ (z : ℕ). AreMarkedBelow by z (history state)) (sym all) (subst (AreMarkedBelow by count) (sym home.is) r.marked),
          ),
          λ ne. absurd (ne (hit ∙ u)),
        ),
      ))
      (λ miss. (v, keeps, tt, unmoved history terms by count fixed s 1 id me.1 v at r, λ t' e. (λ found. absurd (miss (found ∙ sym (same t' e))), λ _. refl)))
