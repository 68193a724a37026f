-- The table as a lock is made, and as it is closed.
use Rattle.std.proofs.Common.{◌≡◌, ℕ, ◌<◌, true, List, [], ◌∷◌, ◌++◌, length, sym, refl, ap, ◌∙◌, subst, ◌⊎◌, inr, ⊎_elim, arith, append-nil, lit<, Option, Some, None}
use mathlib.Core.Option as maybe
use mathlib.Core.Option.{some, none, some-injective, some-ne-none}
use lib.ListN.{get_elem?}
use Rattle.atomic_table.specs.Table.{State, Me, opening, Seen}
use Rattle.spm_turn.specs.declared.view.View.{View}
use Rattle.spm_turn.specs.declared.view.Stage.TheVariants.{Idle}
use Rattle.spm_turn.specs.Log.{has, below, of_numbers, OthersFollow, AreMarkedBelow}
use Rattle.spm_turn.specs.Views.{newcomer, is_opening, is_served}
use Rattle.spm_turn.specs.Rule.{AreBelow, Clash, Fits, HasTicket, IsAway, IsHome, IsKept, Knows}
use Rattle.spm_turn.proofs.Booleans.{not_both}
use Rattle.spm_turn.proofs.Rows.{only_here}
use Rattle.spm_turn.proofs.Numbers.{are_below, length-below, some_number, has_below}
use Rattle.spm_turn.proofs.Follows.{others_here}
use Rattle.spm_turn.proofs.Marks.{marked_rest, all_quiet, all_own}
use Rattle.spm_turn.proofs.Stages.{served_away, opening_away}
use Rattle.spm_turn.proofs.Rules.{its_one}

module _ {T E C : Type 0} (history : T → List E) (terms : T → C) (by : E → ℕ) (count : ℕ) (fixed : C) where
  -- the view of a seat
  abbrev V : Type 0
  V = View E C

  -- the table
  abbrev St : Type 0
  St = State (Option T) V

  -- a seat
  abbrev Sat : Type 0
  Sat = Me (Option T) V

  -- the rule
  abbrev Rule : St → Type 0
  Rule = IsKept history terms by count fixed

  -- the rule holds of the table as it is made
  pub begins : (ws : List ℕ) (xs : List (Option T)) → ws ≡ 1 ∷ 0 ∷ 0 ∷ [] → xs ≡ None ∷ [] → 0 < count → Rule (opening ws xs (newcomer count fixed))
  begins ws xs words is some_number = let v : V = newcomer count fixed in let numbered : 0 < length (below count) = subst (λ (n : ℕ). 0 < n) (sym (length-below count)) some_number in
      subst (λ (l : List (Option T)). Rule (opening ws l v)) (sym is) (subst (λ (l : List ℕ). Rule (opening l (None ∷ []) v)) (sym words) record {
        log = [];
        tickets = 1;
        serving = 0;
        words = refl;
        order = omega arith;
        top = lit< tt;
        marked = tt;
        each = λ i x e. subst (Fits by count fixed [] 1 0) (only_here v x i e).1
            record { terms = λ _ _. refl; told = omega arith; numbers = are_below count; knows = (others_here by (below count) [], refl, refl, omega arith, numbered); partner = tt };
        apart = λ i j x y ei ej _. (only_here v x i ei).0 ∙ sym (only_here v y j ej).0;
        tickets_held = λ k low high. (0, v, refl, omega arith);
        numbers_held = λ k l. (0, v, refl, has_below count k l);
        where_is = inr (inr record { slot = refl; one = (0, v, refl, refl) });
      })

  -- a seat that has all numbers has seen the whole log, and the state is at home
  pub closes : (id : ℕ) (v : V) (s : St) → Seen Rule id v s → v.stage ≡ Idle → 0 < length v.numbers → ((n : ℕ) → n < count → has v.numbers n ≡ true)
      → (state : T) × (get_elem? s.homes 0 ≡ some (some (Some state))) × (history state ≡ v.seen) × (terms state ≡ v.terms) × (of_numbers by v.numbers v.seen ≡ v.seen)
  closes id v s kept idle numbered all = let r = kept.0 in let at = kept.1 in let f = r.each id v at in let m = some_number v.numbers numbered in
      let p : OthersFollow by v.numbers v.seen r.log = subst (Knows by r.log r.tickets r.serving v.numbers v.seen) idle f.knows in
      let none_left : p.0 ≡ [] = all_quiet by count v.numbers p.0 all (marked_rest by count v.seen p.0 (subst (AreMarkedBelow by count) p.1 r.marked)) p.2 in
      let whole : r.log ≡ v.seen = p.1 ∙ (ap (λ (l : List E). v.seen ++ l) none_left ∙ append-nil v.seen) in
      let clash : (x : V) → AreBelow count x.numbers → HasTicket r.serving x.stage → 0 < length x.numbers → Clash v x = λ x below _ some. let o = some_number x.numbers some in inr (o.0, all o.0 (below o.0 o.1), o.1) in ⊎_elim
      (λ (h : IsHome history terms fixed r.log r.serving s). (h.state, ap (λ hs. get_elem? hs 0) h.slot, h.is ∙ whole, h.kept ∙ sym (f.terms m.0 m.1), all_own by count v.numbers v.seen all (subst (AreMarkedBelow by count) whole r.marked)))
      (λ (away : IsAway is_served maybe.none s ⊎ IsAway is_opening (some None) s). ⊎_elim
      (λ (o : IsAway is_served maybe.none s). absurd (not_both (is_served v.stage) (its_one history terms by count fixed s r is_served id v at served_away clash o.one) (ap is_served idle)))
      (λ (o : IsAway is_opening (some None) s). absurd (not_both (is_opening v.stage) (its_one history terms by count fixed s r is_opening id v at opening_away clash o.one) (ap is_opening idle)))
      away)
      r.where_is
