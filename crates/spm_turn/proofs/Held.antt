-- What the functions over the steps read off what they were told.
use Rattle.std.proofs.Common.{◌≡◌, ℕ, ◌<◌, ◌≤◌, max, true, List, ◌∷◌, length, sym, ap, ◌∙◌, Option, Some, None}
use mathlib.Core.Option.{some, some-injective}
use lib.ListN.{get_elem?}
use native.Mathlib.Nat.{le-max_left, le-max_right, le_trans}
use Rattle.atomic_table.specs.Table.{State, Me, rest, Seen, Final}
use Rattle.spm_turn.specs.declared.view.View.{View}
use Rattle.spm_turn.specs.declared.view.Stage.TheVariants.{Idle}
use Rattle.spm_turn.specs.Log.{has, of_numbers}
use Rattle.spm_turn.specs.Views.{with_told, told_of}
use Rattle.spm_turn.specs.Told.{Serves}
use Rattle.spm_turn.specs.Rule.{IsKept}
use Rattle.spm_turn.proofs.Ends.{closes}

module _ {T E C : Type 0} (history : T → List E) (terms : T → C) (by : E → ℕ) (count : ℕ) (fixed : C) where
  -- the view of a seat
  abbrev V : Type 0
  V = View E C

  -- the table
  abbrev St : Type 0
  St = State (Option T) V

  -- a seat
  abbrev Sat : Type 0
  Sat = Me (Option T) V

  -- the rule
  abbrev Rule : St → Type 0
  Rule = IsKept history terms by count fixed

  -- the slot that a seat has got
  pub served_slot : (t : ℕ) (me w : Sat) → Serves history terms by count t me w → (x : Option T) × (w.1 ≡ (0, x) ∷ rest w.1)
  served_slot t me w s = let x : Option T = Some s.0 in let e : w.1 ≡ (0, x) ∷ me.1 = ap (λ (m : Sat). m.1) s.1 in (x, e ∙ ap (λ (l : List (ℕ × Option T)). (0, x) ∷ rest l) (sym e))

  -- the state of a lock that was closed
  pub closed_slot : (id : ℕ) (v : V) (ws : List ℕ) (xs : List (Option T)) (x : Option T) → Final (Seen Rule id v) ws xs → v.stage ≡ Idle → 0 < length v.numbers → ((n : ℕ) → n < count → has v.numbers n ≡ true) → get_elem? xs 0 ≡ some x
      → (state : T) × (x ≡ Some state) × (history state ≡ v.seen) × (terms state ≡ v.terms) × (of_numbers by v.numbers v.seen ≡ v.seen)
  closed_slot id v ws xs x f idle numbered all at = let t = closes history terms by count fixed id v f.0 f.1 idle numbered all in (t.0, some-injective x (Some t.0) (sym at ∙ f.4 0 (Some t.0) t.1), t.2, t.3, t.4)

  -- who is told again is told of no less
  pub told_on : (v : V) (cs : List (ℕ × Option T)) (m w : Sat) (n found : ℕ) → m ≡ (with_told v n, cs) → v.told ≤ n → w ≡ (told_of m.0 found, m.1)
      → (k : ℕ) × (w ≡ (with_told v k, cs)) × (v.told ≤ k) × (found ≤ k)
  told_on v cs m w n found e le e' = (max n found, e' ∙ ap (λ (z : Sat). (told_of z.0 found, z.1)) e, le_trans le (le-max_left n found), le-max_right n found)

module _ {T : Type 0} where
  -- the state in a slot, or d where it is empty
  abbrev state_or : T → Option T → T
  state_or d (Some state) = state
  state_or d None = d

  -- the states of one slot are equal
  pub slot_state : (x : Option T) (state result : T) → x ≡ Some state → x ≡ Some result → result ≡ state
  slot_state x state result e e' = ap (state_or state) (sym e' ∙ e)
