use Rattle.std.proofs.Common.{◌+◌, ◌&&◌, ◌∙◌, sym, ap, eq-eqb}
use Rattle.std.specs.Str.{bytes_eq}
use Rattle.pub_set.specs.Runs.{numbers_in}
use Rattle.pub_set.proofs.PlaceLemmas.{same_runs}
use Rattle.pub_set.proofs.choices.ChoicesPartialEq.eq.Goals as goal

pub returns-then-self-other : goal.returns-then-self-other
returns-then-self-other c =
    let own = c.self.inside in
    let other = c.other.inside in
    rw (← c.self.view_is, ← c.other.view_is)
    (c.eq.ensures ∙ same_runs (own.size + 1) (other.size + 1) own.runs.items other.runs.items c.self.invariant c.other.invariant
    ∙ sym (ap (λ b. b && bytes_eq (numbers_in own.runs.items) (numbers_in other.runs.items)) (eq-eqb own.size other.size c.if-self-other.true)))
