-- A pass of two.
use Rattle.std.proofs.Common.{◌≡◌, ℕ, Bool, true, false, cond, List, ◌++◌, length, sym, ap, ◌∙◌, subst, None}
use Rattle.std.specs.Prelude.{ltb}
use Rattle.spm_turn.specs.Log.{has, longer}
use Rattle.spm_turn.specs.Sitting.{Sitting}
use Rattle.spm_turn.proofs.Numbers.{has_left}
use Rattle.spm_cache_core.specs.Legal.{IsLegal}
use Rattle.spm_cache_core.specs.declared.event.Event.{Event}
use Rattle.spm_cache.specs.Seated.{IsPass}
use Rattle.spm_cache.specs.declared.kept.Terms.{Terms}

-- one of two legal histories
either_legal : (sessions workers : ℕ) (one other : List Event) (b : Bool) → IsLegal sessions workers one
    → IsLegal sessions workers other → IsLegal sessions workers (cond b other one)
either_legal sessions workers one other true first second = second
either_legal sessions workers one other false first second = first

-- a seat of two is that of the first one's actor
pub met_fits : (first second both : Sitting Event Terms) (actor other : ℕ) → IsPass first actor → IsPass second other
    → both.numbers ≡ first.numbers ++ second.numbers
    → both.base ≡ None
    → both.terms ≡ first.terms
    → both.terms ≡ second.terms
    → both.seen ≡ longer first.seen second.seen
    → IsPass both actor
met_fits first second both actor other one two numbers base of_first of_second seen = record {
  between = base;
  own = ap (λ (ns : List ℕ). has ns actor) numbers ∙ has_left first.numbers second.numbers actor one.own;
  legal = subst (IsLegal both.terms.sessions both.terms.workers) (sym seen)
      (either_legal both.terms.sessions both.terms.workers first.seen second.seen (ltb (length first.seen) (length second.seen))
      (subst (λ (t : Terms). IsLegal t.sessions t.workers first.seen) (sym of_first) one.legal)
      (subst (λ (t : Terms). IsLegal t.sessions t.workers second.seen) (sym of_second) two.legal));
}
