-- The steps of a turn that has the state: each keeps the rule.
use Rattle.std.proofs.Common.{◌≡◌, ℕ, ◌+◌, ◌%◌, ◌^◌, ◌<◌, true, false, List, [], ◌∷◌, ◌++◌, length, get_or, set, sym, refl, ap, ◌∙◌, subst, ap₂, ◌⊎◌, inl, inr, ⊎_elim, arith, length-append, mod-eq_of_lt, Option, Some, None}
use mathlib.Core.Option as maybe
use mathlib.Core.Option.{some, none, some-injective, some-ne-none}
use lib.ListN.{get_elem?}
use Rattle.atomic_table.specs.Table.{State, Me, step, keeps, gives, put_back, rest, Allows}
use Rattle.spm_turn.specs.declared.view.View.{View}
use Rattle.spm_turn.specs.declared.view.Stage.TheVariants.{Served, Counted}
use Rattle.spm_turn.specs.Log.{has, OthersFollow}
use Rattle.spm_turn.specs.Views.{at_stage, base_of, after_turn, is_away, is_opening, is_served}
use Rattle.spm_turn.specs.Told.{passed, counted}
use Rattle.spm_turn.specs.Rule.{Fits, HasTicket, IsAway, IsHome, IsKept, Knows}
use Rattle.spm_turn.proofs.Booleans.{not_both, not_false}
use Rattle.spm_turn.proofs.Rows.{set_at, each_set}
use Rattle.spm_turn.proofs.Numbers.{some_number}
use Rattle.spm_turn.proofs.Follows.{starts_more, others_here}
use Rattle.spm_turn.proofs.Marks.{marked_more}
use Rattle.spm_turn.proofs.Apart.{apart_set, fewer, free_same, some_set}
use Rattle.spm_turn.proofs.Stages.{one_ticket, served_away, opening_away, served_opened, knows_grown, knows_passed, served_knows, ticket_or}
use Rattle.spm_turn.proofs.Rules.{alone, its_one}

module _ {T E C : Type 0} (history : T → List E) (terms : T → C) (by : E → ℕ) (count : ℕ) (fixed : C) where
  -- the view of a seat
  abbrev V : Type 0
  V = View E C

  -- the table
  abbrev St : Type 0
  St = State (Option T) V

  -- a seat
  abbrev Sat : Type 0
  Sat = Me (Option T) V

  -- the rule
  abbrev Rule : St → Type 0
  Rule = IsKept history terms by count fixed

  -- the slot is out while a seat is served
  out_of : (s : St) (r : Rule s) (id : ℕ) (v : V) → get_elem? s.views id ≡ some v → is_served v.stage ≡ true → IsAway is_served maybe.none s
  out_of s r id v at is = let here = (served_knows by r.log r.tickets r.serving v.numbers v.seen v.stage is (r.each id v at).knows).3 in ⊎_elim
      (λ (h : IsHome history terms fixed r.log r.serving s). absurd (not_both (is_away v.stage) (served_away v.stage is) (h.none_away id v at)))
      (λ (away : IsAway is_served maybe.none s ⊎ IsAway is_opening (some None) s). ⊎_elim (λ (o : IsAway is_served maybe.none s). o)
      (λ (o : IsAway is_opening (some None) s). absurd (not_both (is_opening v.stage) (its_one history terms by count fixed s r is_opening id v at opening_away (λ x _ ticket _. inl (r.serving, here, ticket)) o.one) (served_opened v.stage is)))
      away)
      r.where_is

  -- the history of the state in a slot, or d where it is empty
  abbrev pub state_history : List E → Option T → List E
  state_history d (Some state) = history state
  state_history d None = d

  -- the history of the state in the slot that was taken last
  abbrev pub held_history : List E → List (ℕ × Option T) → List E
  held_history d [] = d
  held_history d (x ∷ xs) = state_history d x.1

  -- a seat counts its entry
  pub counts : (slots id : ℕ) (me : Sat) (t : ℕ) (base : List E) (state : T) (e : E) → me.0.stage ≡ Served t base → me.1 ≡ (0, Some state) ∷ [] → history state ≡ base ++ e ∷ [] → has me.0.numbers (by e) ≡ true
      → Allows Rule slots id me 2 (λ n. (n + 1) % 2 ^ 64) (counted history (step slots 2 1 0 none) me)
  counts slots id me t base state e served holding grown own s r _ at _ = let v : V = me.0 in let n : ℕ = get_or s.words 2 0 in let is : n ≡ length r.log = ap (λ ws. get_or ws 2 0) r.words in
      let f = r.each id v at in let k : Knows {C = C} by r.log r.tickets r.serving v.numbers v.seen (Served t base) = subst (Knows by r.log r.tickets r.serving v.numbers v.seen) served f.knows in
      let on : is_served v.stage ≡ true = ap is_served served in let out = out_of s r id v at on in let here : HasTicket r.serving v.stage = subst (HasTicket r.serving) (sym served) k.2 in
      let log : List E = r.log ++ e ∷ [] in let w : V = at_stage v (Counted t (history state)) in
      let longer : length log ≡ length r.log + 1 = length-append r.log (e ∷ []) in let top = r.top in let order = k.3 in let room = k.5 in let mine = k.2 in let told = f.told in
      let small : n + 1 < 2 ^ 64 = omega arith in let next : (n + 1) % 2 ^ 64 ≡ length log = mod-eq_of_lt small ∙ (ap (λ (z : ℕ). z + 1) is ∙ sym longer) in
      let became : history state ≡ log = grown ∙ ap (λ (l : List E). l ++ e ∷ []) k.1 in (
        w,
        keeps,
        tt,
        record {
          log = log;
          tickets = r.tickets;
          serving = r.serving;
          words = ap (λ ws. set ws 2 ((n + 1) % 2 ^ 64)) r.words ∙ ap (λ (z : ℕ). r.tickets ∷ r.serving ∷ z ∷ []) next;
          order = r.order;
          top = r.top;
          marked = marked_more by count r.log e r.marked (f.numbers (by e) own);
          each = each_set (Fits by count fixed log r.tickets r.serving) s.views id w
              record { terms = f.terms; told = omega arith; numbers = f.numbers; knows = (starts_more v.seen r.log e k.0, became, k.2, k.3, k.4, omega arith); partner = tt }
              (λ j x other ej. let g = r.each j x ej in let told = g.told in
              let isnt : has x.numbers (by e) ≡ false = not_false (has x.numbers (by e)) (λ b. other (sym (r.apart id j v x at ej (inr (by e, own, b))))) in
              record { terms = g.terms; told = omega arith; numbers = g.numbers; knows = knows_grown by r.log r.tickets r.serving x.numbers x.seen e x.stage (alone history terms by count fixed s r id j v x at here other ej).1 isnt g.knows; partner = g.partner });
          apart = apart_set s.views id w r.apart (free_same s.views id v w r.apart at (fewer v w (λ a h. subst (HasTicket a) (sym served) h) (λ _ h. h)));
          tickets_held = λ k low high. some_set (λ x. HasTicket k x.stage) s.views id v w at (λ h. subst (HasTicket k) served h) (r.tickets_held k low high);
          numbers_held = λ k l. some_set (λ x. has x.numbers k ≡ true) s.views id v w at (λ h. h) (r.numbers_held k l);
          where_is = inr (inl record { slot = out.slot; one = (id, w, set_at s.views id v w at, refl) });
        },
        λ t' base' state' e' h. let u : t ≡ t' = ap ticket_or (sym served ∙ e') in let hs : (0, Some state) ∷ [] ≡ (0, Some state') ∷ [] = sym holding ∙ h in
            ap₂ (λ (z : ℕ) (l : List E). (at_stage v (Counted z l), me.1)) u (ap (held_history []) hs),
      )

  -- a seat gives the state back, and the next ticket is served
  pub passes : (slots id : ℕ) (me : Sat) (state : T) → is_served me.0.stage ≡ true → base_of me.0.stage ≡ history state → me.1 ≡ (0, Some state) ∷ [] → terms state ≡ me.0.terms
      → Allows Rule slots id me 1 (λ n. (n + 1) % 2 ^ 64) (passed (step slots 1 1 0 none) me)
  passes slots id me state on based holding kept s r _ at _ = let v : V = me.0 in let n : ℕ = get_or s.words 1 0 in let is : n ≡ r.serving = ap (λ ws. get_or ws 1 0) r.words in
      let f = r.each id v at in let k = served_knows by r.log r.tickets r.serving v.numbers v.seen v.stage on f.knows in let out = out_of s r id v at on in
      let w : V = after_turn v in let top = r.top in let below_tickets = k.1 in let told = f.told in let m = some_number v.numbers k.5 in
      let small : n + 1 < 2 ^ 64 = omega arith in let next : (n + 1) % 2 ^ 64 ≡ r.serving + 1 = mod-eq_of_lt small ∙ ap (λ (z : ℕ). z + 1) is in (
        w,
        gives,
        tt,
        record {
          log = r.log;
          tickets = r.tickets;
          serving = r.serving + 1;
          words = ap (λ ws. set ws 1 ((n + 1) % 2 ^ 64)) r.words ∙ ap (λ (z : ℕ). r.tickets ∷ z ∷ length r.log ∷ []) next;
          order = omega arith;
          top = r.top;
          marked = r.marked;
          each = each_set (Fits by count fixed r.log r.tickets (r.serving + 1)) s.views id w
              record { terms = f.terms; told = f.told; numbers = f.numbers; knows = subst (λ (l : List E). OthersFollow by v.numbers l r.log) (sym k.0) (others_here by v.numbers r.log); partner = tt }
              (λ j x other ej. let g = r.each j x ej in let a = alone history terms by count fixed s r id j v x at k.3 other ej in
              record { terms = g.terms; told = g.told; numbers = g.numbers; knows = knows_passed by r.log r.tickets r.serving x.numbers x.seen x.stage a.1 a.0 g.knows; partner = g.partner });
          apart = apart_set s.views id w r.apart (free_same s.views id v w r.apart at (fewer v w (λ a h. absurd h) (λ _ h. h)));
          tickets_held = λ k low high. some_set (λ x. HasTicket k x.stage) s.views id v w at
              (λ h. let same : k ≡ r.serving = one_ticket k r.serving v.stage h (served_knows by r.log r.tickets r.serving v.numbers v.seen v.stage on f.knows).3 in absurd (omega arith))
              (r.tickets_held k (omega arith) high);
          numbers_held = λ k l. some_set (λ x. has x.numbers k ≡ true) s.views id v w at (λ h. h) (r.numbers_held k l);
          where_is = inl record {
            state = state;
            slot = ap₂ (λ (hs : List (maybe.Option (Option T))) (cs : List (ℕ × Option T)). put_back hs cs) out.slot holding;
            is = sym based ∙ k.0;
            kept = kept ∙ f.terms m.0 m.1;
            room = k.2;
            none_away = each_set (λ (x : V). is_away x.stage ≡ false) s.views id w refl (λ j x other ej. (alone history terms by count fixed s r id j v x at k.3 other ej).1);
          };
        },
        ap (λ (cs : List (ℕ × Option T)). (w, rest cs)) holding,
      )
