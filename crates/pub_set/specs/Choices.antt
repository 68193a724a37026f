-- Sets of choices: finite sets of numbers below a size, told by their members in ascending order. Each operation is
-- said over all numbers below the size.
use Rattle.std.specs.Str.{bytes_eq}
use Rattle.std.specs.Prelude.{◌≡◌, ℕ, ◌==◌, ◌&&◌, ◌||◌, zero, suc, List, [], ◌∷◌, ◌++◌, Bool, not}
use Rattle.std.specs.List.{filter, list_all, list_any}

pub record ChoiceSet : Type 0 where
  -- how many choices there are, in the set or not
  pub size : ℕ
  -- the choices in the set, ascending
  pub members : List ℕ

-- the numbers below n, ascending
abbrev pub numbers_below : ℕ → List ℕ
numbers_below zero = []
numbers_below (suc n) = numbers_below n ++ n ∷ []

-- the number is one of these
abbrev pub is_among : List ℕ → ℕ → Bool
is_among numbers number = list_any (λ other. other == number) numbers

-- the choice is in the set
abbrev pub has : ChoiceSet → ℕ → Bool
has set choice = is_among set.members choice

-- the set of the choices below the size that pass a test
abbrev pub set_where : ℕ → (ℕ → Bool) → ChoiceSet
set_where size test = record { size = size; members = filter test (numbers_below size) }

-- what each set of choices is: its members are those of the numbers below the size that it has, ascending and each once
abbrev pub IsSet : ChoiceSet → Type 0
IsSet set = set.members ≡ filter (has set) (numbers_below set.size)

-- the set without members, and the one of these choices
abbrev pub no_choices : ℕ → ChoiceSet
no_choices size = record { size = size; members = [] }

abbrev pub choices_of : ℕ → List ℕ → ChoiceSet
choices_of size numbers = set_where size (is_among numbers)

abbrev pub intersection : ChoiceSet → ChoiceSet → ChoiceSet
intersection first second = set_where first.size (λ choice. has first choice && has second choice)

abbrev pub union : ChoiceSet → ChoiceSet → ChoiceSet
union first second = set_where first.size (λ choice. has first choice || has second choice)

abbrev pub opposite : ChoiceSet → ChoiceSet
opposite set = set_where set.size (λ choice. not (has set choice))

-- each of the first set's choices is in the second
abbrev pub is_within : ChoiceSet → ChoiceSet → Bool
is_within first second = list_all (has second) first.members

-- some choice is in both
abbrev pub do_meet : ChoiceSet → ChoiceSet → Bool
do_meet first second = list_any (has second) first.members

-- no choice, or every choice
abbrev pub is_empty : ChoiceSet → Bool
is_empty set = not (list_any (λ choice. has set choice) (numbers_below set.size))

abbrev pub is_whole : ChoiceSet → Bool
is_whole set = list_all (has set) (numbers_below set.size)

-- the same set of choices
abbrev pub same_set : ChoiceSet → ChoiceSet → Bool
same_set first second = first.size == second.size && bytes_eq first.members second.members
