-- Seats as contracts see them.
use Rattle.std.proofs.Common.{◌≡◌, ℕ, ◌<◌, [], length, Option, sym, refl, ap, subst}
use Rattle.atomic_table.specs.Table.{Me}
use Rattle.atomic_table.specs.declared.shared.Seat.{Seat}
use Rattle.spm_turn.specs.declared.view.View.{View}
use Rattle.spm_turn.specs.declared.view.Stage.TheVariants.{Idle}
use Rattle.spm_turn.specs.Log.{below}
use Rattle.spm_turn.specs.Views.{reach_of}
use Rattle.spm_turn.specs.Seated.{IsBetween, slots_at, IsSeated}
use Rattle.spm_turn.proofs.Numbers.{length-below}

module _ {T E C : Type 0} where
  -- the first seat, once the lock is open
  pub newcomer_seated : (count : ℕ) (terms : C) (p : Seat (Option T) (View E C)) → p.me ≡ (record { terms = terms; seen = []; numbers = below count; told = 0; stage = Idle }, []) → 0 < count → IsSeated p 0
  newcomer_seated count terms p is some_number = record {
    counted = sym (ap (λ (m : Me (Option T) (View E C)). length (reach_of m.0.seen m.0.stage)) is);
    numbered = subst (λ (m : Me (Option T) (View E C)). 0 < length m.0.numbers) (sym is) (subst (λ (n : ℕ). 0 < n) (sym (length-below count)) some_number);
    between = subst (λ (m : Me (Option T) (View E C)). IsBetween m.0.stage) (sym is) tt;
    held = subst (λ (m : Me (Option T) (View E C)). m.1 ≡ slots_at m.0.stage) (sym is) refl;
  }
