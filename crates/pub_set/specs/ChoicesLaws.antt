-- The law of equality of sets of choices: the same size, and the same members.
use Rattle.std.specs.Cmp.{IsEquivalence, and_equiv, nat_eq_equiv, on_equiv}
use Rattle.std.specs.Cmp.Lexicographic.{nat_list_eq_equiv}
use Rattle.pub_set.specs.Choices.{ChoiceSet, same_set}

pub same_set_equiv : IsEquivalence same_set
same_set_equiv = and_equiv (on_equiv (λ (set : ChoiceSet). set.size) nat_eq_equiv)
    (on_equiv (λ (set : ChoiceSet). set.members) nat_list_eq_equiv)
