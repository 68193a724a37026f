-- The rule of a lock's table: where the state is, and what a step leaves as it was.
use Rattle.std.proofs.Common.{◌≡◌, ◌≢◌, ℕ, ◌<◌, Bool, true, false, List, length, get_or, set, sym, ap, ◌∙◌, subst, ◌⊎◌, inl, inr, ⊎_elim, Option, None}
use mathlib.Core.Option as maybe
use mathlib.Core.Option.{some, none, some-injective, some-ne-none}
use lib.ListN.{get_elem?}
use lib.Seq.{set-get_or}
use Rattle.atomic_table.specs.Table.{State, Me, keeps, stepped}
use Rattle.atomic_table.proofs.Lists.{set_again}
use Rattle.spm_turn.specs.declared.view.View.{View}
use Rattle.spm_turn.specs.declared.view.Stage.{Stage}
use Rattle.spm_turn.specs.Views.{is_away, is_opening, is_served}
use Rattle.spm_turn.specs.Told.{opened}
use Rattle.spm_turn.specs.Rule.{AreBelow, Clash, EachView, HasTicket, IsAway, IsHome, IsKept, IsSomewhere, SomeView}
use Rattle.spm_turn.proofs.Booleans.{not_both, not_false}
use Rattle.spm_turn.proofs.Rows.{each_set}
use Rattle.spm_turn.proofs.Apart.{some_set}
use Rattle.spm_turn.proofs.Stages.{served_away, opening_away, away_knows}

module _ {T E C : Type 0} (history : T → List E) (terms : T → C) (by : E → ℕ) (count : ℕ) (fixed : C) where
  -- the view of a seat
  abbrev V : Type 0
  V = View E C

  -- the table
  abbrev St : Type 0
  St = State (Option T) V

  -- a seat
  abbrev Sat : Type 0
  Sat = Me (Option T) V

  -- the rule
  abbrev Rule : St → Type 0
  Rule = IsKept history terms by count fixed

  -- the table with other words and views
  abbrev pub with_views : St → List ℕ → List V → St
  with_views s ws vs = record { words = ws; homes = s.homes; views = vs }

  -- the slot stays where it is where the seats that have the state away stay
  pub where_over : (log : List E) (serving : ℕ) (s : St) (ws : List ℕ) (vs : List V) → (EachView (λ v. is_away v.stage ≡ false) s.views → EachView (λ v. is_away v.stage ≡ false) vs)
      → (SomeView (λ v. is_served v.stage ≡ true) s.views → SomeView (λ v. is_served v.stage ≡ true) vs) → (SomeView (λ v. is_opening v.stage ≡ true) s.views → SomeView (λ v. is_opening v.stage ≡ true) vs)
      → IsSomewhere history terms fixed log serving s → IsSomewhere history terms fixed log serving (with_views s ws vs)
  where_over log serving s ws vs each served opened here = ⊎_elim
      (λ (h : IsHome history terms fixed log serving s). inl record { state = h.state; slot = h.slot; is = h.is; kept = h.kept; room = h.room; none_away = each h.none_away })
      (λ (away : IsAway is_served maybe.none s ⊎ IsAway is_opening (some None) s). inr (⊎_elim
      (λ (o : IsAway is_served maybe.none s). inl record { slot = o.slot; one = served o.one })
      (λ (o : IsAway is_opening (some None) s). inr record { slot = o.slot; one = opened o.one }) away))
      here

  -- the same where one seat steps, and hasn't the state away
  pub where_stays : (log : List E) (serving : ℕ) (s : St) (ws : List ℕ) (id : ℕ) (v w : V) → get_elem? s.views id ≡ some v → is_away v.stage ≡ false → is_away w.stage ≡ false
      → IsSomewhere history terms fixed log serving s → IsSomewhere history terms fixed log serving (with_views s ws (set s.views id w))
  where_stays log serving s ws id v w at before after here = where_over log serving s ws (set s.views id w)
      (λ none_away. each_set (λ (x : V). is_away x.stage ≡ false) s.views id w after (λ j x _ e. none_away j x e))
      (some_set (λ (x : V). is_served x.stage ≡ true) s.views id v w at (λ h. absurd (not_both (is_away v.stage) (served_away v.stage h) before)))
      (some_set (λ (x : V). is_opening x.stage ≡ true) s.views id v w at (λ h. absurd (not_both (is_away v.stage) (opening_away v.stage h) before))) here

  -- a step that changes nothing
  pub unmoved : (s : St) (i id : ℕ) (cs : List (ℕ × Option T)) (v : V) → get_elem? s.views id ≡ some v → Rule s → Rule (stepped s i (get_or s.words i 0) id cs v keeps)
  unmoved s i id cs v at r = subst (λ (p : List ℕ × List V). Rule (with_views s p.0 p.1)) (λ k. (sym (set-get_or s.words i 0) k, sym (set_again s.views id v at) k)) r

  -- of a seat that has the ticket which is served, the others have neither that ticket nor the state away
  pub alone : (s : St) (r : Rule s) (me j : ℕ) (v x : V) → get_elem? s.views me ≡ some v → HasTicket r.serving v.stage → j ≢ me → get_elem? s.views j ≡ some x → (HasTicket r.serving x.stage → ⊥) × (is_away x.stage ≡ false)
  alone s r me j v x at mine other e = let isnt : HasTicket r.serving x.stage → ⊥ = λ h. other (sym (r.apart me j v x at e (inl (r.serving, mine, h)))) in
      (isnt, not_false (is_away x.stage) (λ b. isnt (away_knows by r.log r.tickets r.serving x.numbers x.seen x.stage b (r.each j x e).knows).0))

  -- where some seat has the state away, a seat that clashes with each such is that one
  pub its_one : (s : St) (r : Rule s) (test : Stage E C → Bool) (id : ℕ) (v : V) → get_elem? s.views id ≡ some v → ((st : Stage E C) → test st ≡ true → is_away st ≡ true)
      → ((x : V) → AreBelow count x.numbers → HasTicket r.serving x.stage → 0 < length x.numbers → Clash v x) → SomeView (λ x. test x.stage ≡ true) s.views → test v.stage ≡ true
  its_one s r test id v at away clash x = let f = r.each x.0 x.1 x.2 in let k = away_knows by r.log r.tickets r.serving x.1.numbers x.1.seen x.1.stage (away x.1.stage x.3) f.knows in
      let same : id ≡ x.0 = r.apart id x.0 v x.1 at x.2 (clash x.1 f.numbers k.0 k.1) in
      let one : x.1 ≡ v = some-injective x.1 v (sym x.2 ∙ (ap (get_elem? s.views) (sym same) ∙ at)) in ap (λ (z : V). test z.stage) (sym one) ∙ x.3
