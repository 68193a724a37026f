use Rattle.std.proofs.Common.{◌≡◌, ◌==◌, ◌∙◌, ap, length, vec_len, rules}
use Rattle.pub_set.proofs.PlaceLemmas.{empty_by_length}
use Rattle.pub_set.proofs.choices.Choices.is_empty.Goals as goal

pub returns : goal.returns
returns c =
    let runs = c.self.inside.runs in
    let long : vec_len runs ≡ length runs.items = search rules in
    rw (← c.self.view_is)
    (c.is_empty.ensures ∙ ap (λ n. n == 0) long ∙ empty_by_length c.self.inside.size runs.items c.self.invariant)
