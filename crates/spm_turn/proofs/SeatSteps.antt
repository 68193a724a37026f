-- The steps of seats without a turn: each keeps the rule.
use Rattle.std.proofs.Common.{◌≡◌, ◌≢◌, ℕ, ◌<◌, ◌≤◌, true, false, true≢false, List, [], ◌∷◌, ◌++◌, length, get_or, set, sym, refl, ap, ◌∙◌, subst, inr, ⊎_elim, arith, Option}
use mathlib.Core.Logic.{dite}
use mathlib.Core.Option.{some, none}
use native.Mathlib.Decide.{ℕ_discrete}
use lib.ListN.{get_elem?}
use lib.Seq.{set-get_or}
use native.Mathlib.Nat.{max-le}
use Rattle.atomic_table.specs.Table.{State, Me, step, keeps, Allows, Splits, Joins}
use Rattle.atomic_table.proofs.Lists.{at_set, set_else, at_last}
use Rattle.spm_turn.specs.declared.view.View.{View}
use Rattle.spm_turn.specs.declared.view.Stage.TheVariants.{Idle, Met}
use Rattle.spm_turn.specs.Log.{has, without, OthersFollow, NoneShared}
use Rattle.spm_turn.specs.Views.{at_stage, told_of, keeping, giving, met, spent, is_away, is_opening, is_served}
use Rattle.spm_turn.specs.Told.{rested, settled}
use Rattle.spm_turn.specs.Rule.{AreApart, Clash, Fits, HasTicket, IsKept, Knows, MetWith}
use Rattle.spm_turn.proofs.Booleans.{not_both, not_false}
use Rattle.spm_turn.proofs.Rows.{each_set, each_snoc, set_swap}
use Rattle.spm_turn.proofs.Numbers.{some_number, has_one, has_either, without_less, has_first, has_left, has_right, without_keeps}
use Rattle.spm_turn.proofs.Follows.{others_less, quiet_none, longer_follows}
use Rattle.spm_turn.proofs.Apart.{apart_set, apart_snoc, fewer, flip, free_same, joined_number, some_set, some_snoc, spent_free}
use Rattle.spm_turn.proofs.Stages.{IsMet, met_knows, met_ticket}
use Rattle.spm_turn.proofs.Rules.{where_over, where_stays}

module _ {T E C : Type 0} (history : T → List E) (terms : T → C) (by : E → ℕ) (count : ℕ) (fixed : C) where
  -- the view of a seat
  abbrev V : Type 0
  V = View E C

  -- the table
  abbrev St : Type 0
  St = State (Option T) V

  -- a seat
  abbrev Sat : Type 0
  Sat = Me (Option T) V

  -- the rule
  abbrev Rule : St → Type 0
  Rule = IsKept history terms by count fixed

  -- a seat reads how long the log is
  pub rests : (slots id : ℕ) (me : Sat) → me.0.stage ≡ Idle → Allows Rule slots id me 2 (λ n. n) (rested (step slots 2 0 0 none) me)
  rests slots id me idle s r _ at _ = let v : V = me.0 in let n : ℕ = get_or s.words 2 0 in let is : n ≡ length r.log = ap (λ ws. get_or ws 2 0) r.words in
      let w : V = told_of v n in let f = r.each id v at in let far : n ≤ length r.log = omega arith in (
        w,
        keeps,
        tt,
        record {
          log = r.log;
          tickets = r.tickets;
          serving = r.serving;
          words = set-get_or s.words 2 0 ∙ r.words;
          order = r.order;
          top = r.top;
          marked = r.marked;
          each = each_set (Fits by count fixed r.log r.tickets r.serving) s.views id w record { terms = f.terms; told = max-le f.told far; numbers = f.numbers; knows = f.knows; partner = f.partner } (λ j x _ e. r.each j x e);
          apart = apart_set s.views id w r.apart (free_same s.views id v w r.apart at (fewer v w (λ _ h. h) (λ _ h. h)));
          tickets_held = λ k low high. some_set (λ x. HasTicket k x.stage) s.views id v w at (λ h. h) (r.tickets_held k low high);
          numbers_held = λ k l. some_set (λ x. has x.numbers k ≡ true) s.views id v w at (λ h. h) (r.numbers_held k l);
          where_is = where_stays history terms by count fixed r.log r.serving s (set s.words 2 n) id v w at (ap is_away idle) (ap is_away idle) r.where_is;
        },
        refl,
      )

  -- a seat that was just met learns what it has of the two
  pub settles : (slots id : ℕ) (me : Sat) → is_away me.0.stage ≡ false → IsMet me.0.stage → Allows Rule slots id me 0 (λ n. n) (settled by (step slots 0 0 0 none) me)
  settles slots id me quiet still s r _ at _ = let v : V = me.0 in let n : ℕ = get_or s.words 0 0 in let w : V = at_stage v Idle in let f = r.each id v at in (
    w,
    keeps,
    tt,
    record {
      log = r.log;
      tickets = r.tickets;
      serving = r.serving;
      words = set-get_or s.words 0 0 ∙ r.words;
      order = r.order;
      top = r.top;
      marked = r.marked;
      each = each_set (Fits by count fixed r.log r.tickets r.serving) s.views id w
          record { terms = f.terms; told = f.told; numbers = f.numbers; knows = met_knows by r.log r.tickets r.serving v.numbers v.seen v.stage still f.knows; partner = tt } (λ j x _ e. r.each j x e);
      apart = apart_set s.views id w r.apart (free_same s.views id v w r.apart at (fewer v w (λ a h. absurd h) (λ _ h. h)));
      tickets_held = λ k low high. some_set (λ x. HasTicket k x.stage) s.views id v w at (λ h. absurd (met_ticket k v.stage still h)) (r.tickets_held k low high);
      numbers_held = λ k l. some_set (λ x. has x.numbers k ≡ true) s.views id v w at (λ h. h) (r.numbers_held k l);
      where_is = where_stays history terms by count fixed r.log r.serving s (set s.words 0 n) id v w at quiet refl r.where_is;
    },
    λ c a na b nb e. let k : Knows by r.log r.tickets r.serving v.numbers v.seen (Met c a na b nb) = subst (Knows by r.log r.tickets r.serving v.numbers v.seen) e f.knows in
        let p : MetWith v.terms (Met c a na b nb) = subst (MetWith v.terms) e f.partner in (refl, k.1, k.2, k.3, p),
  )

  -- a seat gives one of its numbers to a new seat
  pub splits : (id : ℕ) (v : V) (n : ℕ) → v.stage ≡ Idle → has v.numbers n ≡ true → Splits Rule id v (keeping n v) (giving n v)
  splits id v n idle own s r at = let left : V = keeping n v in let right : V = giving n v in let vs : List V = set s.views id left in let f = r.each id v at in
      let less : (k : ℕ) → has (without n v.numbers) k ≡ true → has v.numbers k ≡ true = λ k h. (without_less n v.numbers k h).0 in
      let one : (k : ℕ) → has (n ∷ []) k ≡ true → has v.numbers k ≡ true = λ k h. subst (λ (z : ℕ). has v.numbers z ≡ true) (has_one n k h) own in
      let none_away : is_away v.stage ≡ false = ap is_away idle in
      let quiet : OthersFollow by v.numbers v.seen r.log = subst (Knows by r.log r.tickets r.serving v.numbers v.seen) idle f.knows in record {
        log = r.log;
        tickets = r.tickets;
        serving = r.serving;
        words = r.words;
        order = r.order;
        top = r.top;
        marked = r.marked;
        each = each_snoc (Fits by count fixed r.log r.tickets r.serving) vs right
            record { terms = λ k h. f.terms k (one k h); told = f.told; numbers = λ k h. f.numbers k (one k h); knows = others_less by (n ∷ []) v.numbers v.seen r.log one quiet; partner = tt }
            (each_set (Fits by count fixed r.log r.tickets r.serving) s.views id left
            record {
              terms = λ k h. f.terms k (less k h);
              told = f.told;
              numbers = λ k h. f.numbers k (less k h);
              knows = subst (Knows by r.log r.tickets r.serving (without n v.numbers) v.seen) (sym idle) (others_less by (without n v.numbers) v.numbers v.seen r.log less quiet);
              partner = f.partner;
            }
            (λ j x _ e. r.each j x e));
        apart = apart_snoc vs right (apart_set s.views id left r.apart (free_same s.views id v left r.apart at (fewer v left (λ _ h. h) less)))
            (λ j x e c. ⊎_elim (λ (t : (k : ℕ) × HasTicket k right.stage × HasTicket k x.stage). t.1)
            (λ (t : (k : ℕ) × (has (n ∷ []) k ≡ true) × (has x.numbers k ≡ true)). ⊎_elim
            (λ (u : (j ≡ id) × (left ≡ x)). (without_less n v.numbers t.0 (subst (λ (z : V). has z.numbers t.0 ≡ true) (sym u.1) t.2)).1 (has_one n t.0 t.1))
            (λ (u : (j ≢ id) × (get_elem? s.views j ≡ some x)). u.0 (sym (r.apart id j v x at u.1 (inr (t.0, one t.0 t.1, t.2))))) (at_set s.views id j left x e)) c);
        tickets_held = λ k low high. some_snoc (λ x. HasTicket k x.stage) vs right (some_set (λ x. HasTicket k x.stage) s.views id v left at (λ h. h) (r.tickets_held k low high));
        numbers_held = λ k l. dite (ℕ_discrete n k) (λ same. (length vs, right, at_last vs right (length vs) refl, subst (λ (z : ℕ). has (n ∷ []) z ≡ true) same (has_first n 0)))
            (λ other. some_snoc (λ x. has x.numbers k ≡ true) vs right (some_set (λ x. has x.numbers k ≡ true) s.views id v left at (λ h. without_keeps n v.numbers k h other) (r.numbers_held k l)));
        where_is = where_over history terms by count fixed r.log r.serving s s.words (vs ++ right ∷ [])
            (λ each. each_snoc (λ (x : V). is_away x.stage ≡ false) vs right refl (each_set (λ (x : V). is_away x.stage ≡ false) s.views id left none_away (λ j x _ e. each j x e)))
            (λ served. some_snoc (λ (x : V). is_served x.stage ≡ true) vs right (some_set (λ (x : V). is_served x.stage ≡ true) s.views id v left at (λ h. h) served))
            (λ opening. some_snoc (λ (x : V). is_opening x.stage ≡ true) vs right (some_set (λ (x : V). is_opening x.stage ≡ true) s.views id v left at (λ h. h) opening))
            r.where_is;
      }

  -- a seat takes in another
  pub joins : (id : ℕ) (v : V) (other : ℕ) (w : V) (blank : C) → v.stage ≡ Idle → w.stage ≡ Idle → 0 < length v.numbers → 0 < length w.numbers → Joins Rule id v other w (met v w) (spent blank)
  joins id v other w blank idle idle' numbered numbered' s r at ne there = let both : V = met v w in let gone : V = spent blank in let vs : List V = set s.views id both in
      let near : get_elem? s.views other ≡ some w = sym (set_else s.views id other both ne) ∙ there in let f = r.each id v at in let g = r.each other w near in
      let p : OthersFollow by v.numbers v.seen r.log = subst (Knows by r.log r.tickets r.serving v.numbers v.seen) idle f.knows in
      let q : OthersFollow by w.numbers w.seen r.log = subst (Knows by r.log r.tickets r.serving w.numbers w.seen) idle' g.knows in
      let m = some_number v.numbers numbered in let m' = some_number w.numbers numbered' in let same : v.terms ≡ fixed = f.terms m.0 m.1 in
      let shared : NoneShared v.numbers w.numbers = λ k h. not_false (has w.numbers k) (λ b. ne (sym (r.apart id other v w at near (inr (k, h, b))))) in
      let follows = longer_follows by v.numbers w.numbers v.seen w.seen r.log p q in
      let Quiet : V → Type 0 = λ x. is_away x.stage ≡ false in record {
        log = r.log;
        tickets = r.tickets;
        serving = r.serving;
        words = r.words;
        order = r.order;
        top = r.top;
        marked = r.marked;
        each = each_set (Fits by count fixed r.log r.tickets r.serving) vs other gone
            record { terms = λ k h. absurd (true≢false (sym h)); told = omega arith; numbers = λ k h. absurd (true≢false (sym h)); knows = (r.log, refl, quiet_none by r.log); partner = tt }
            (λ j x _ e. each_set (Fits by count fixed r.log r.tickets r.serving) s.views id both
            record {
              terms = λ k h. same;
              told = max-le f.told g.told;
              numbers = λ k h. ⊎_elim (f.numbers k) (g.numbers k) (has_either v.numbers w.numbers k h);
              knows = (follows.0, follows.1, follows.2, shared);
              partner = same ∙ sym (g.terms m'.0 m'.1);
            }
            (λ i y _ ei. r.each i y ei) j x e);
        apart = let us : List V = set s.views other gone in let us_apart : AreApart us = apart_set s.views other gone r.apart (λ j x _ e c. spent_free blank x c) in
            subst AreApart (set_swap s.views other id gone both ne) (apart_set us id both us_apart (λ j x away e c. ⊎_elim
            (λ (t : (j ≡ other) × (gone ≡ x)). spent_free blank both (flip both gone (subst (λ (z : V). Clash both z) (sym t.1) c)))
            (λ (t : (j ≢ other) × (get_elem? s.views j ≡ some x)). ⊎_elim (λ (u : (k : ℕ) × HasTicket k both.stage × HasTicket k x.stage). u.1)
            (λ (u : (k : ℕ) × (has (v.numbers ++ w.numbers) k ≡ true) × (has x.numbers k ≡ true)). ⊎_elim
            (λ (h : has v.numbers u.0 ≡ true). away (sym (r.apart id j v x at t.1 (inr (u.0, h, u.2)))))
            (λ (h : has w.numbers u.0 ≡ true). t.0 (sym (r.apart other j w x near t.1 (inr (u.0, h, u.2))))) (has_either v.numbers w.numbers u.0 u.1)) c)
            (at_set s.views other j gone x e)));
        tickets_held = λ k low high. some_set (λ x. HasTicket k x.stage) vs other w gone there (λ h. subst (HasTicket k) idle' h)
            (some_set (λ x. HasTicket k x.stage) s.views id v both at (λ h. subst (HasTicket k) idle h) (r.tickets_held k low high));
        numbers_held = λ k l. joined_number id v other w s.views both gone ne at near k (has_left v.numbers w.numbers k) (has_right v.numbers w.numbers k) (r.numbers_held k l);
        where_is = where_over history terms by count fixed r.log r.serving s s.words (set vs other gone)
            (λ each. each_set Quiet vs other gone refl (λ j x _ e. each_set Quiet s.views id both refl (λ i y _ ei. each i y ei) j x e))
            (λ served. some_set (λ (x : V). is_served x.stage ≡ true) vs other w gone there (λ h. absurd (not_both (is_served w.stage) h (ap is_served idle')))
            (some_set (λ (x : V). is_served x.stage ≡ true) s.views id v both at (λ h. absurd (not_both (is_served v.stage) h (ap is_served idle))) served))
            (λ opening. some_set (λ (x : V). is_opening x.stage ≡ true) vs other w gone there (λ h. absurd (not_both (is_opening w.stage) h (ap is_opening idle')))
            (some_set (λ (x : V). is_opening x.stage ≡ true) s.views id v both at (λ h. absurd (not_both (is_opening v.stage) h (ap is_opening idle))) opening))
            r.where_is;
      }
