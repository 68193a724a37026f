-- What contracts see of a seat and of a lock.
use Rattle.std.specs.Prelude.{ℕ, List, Option, refl}
use Rattle.std.specs.Coded.{Coded, code_by, coded×, coded_ℕ, coded_list, coded_option}
pub use Rattle.atomic_table.specs.Seated.{TableId}
use Rattle.atomic_table.specs.Seated.{table_id_coded}

-- a seat of the lock `of`: the terms of its state, a beginning of the history that the seat has seen, the numbers that it alone has, a length
-- that the history has at least, and, while it has the turn, the history as the turn began
pub record Sitting (E C : Type 0) : Type 0 where
  pub of : TableId
  pub terms : C
  pub seen : List E
  pub numbers : List ℕ
  pub told : ℕ
  pub base : Option (List E)

-- how the proofs store a sitting
abbrev pub sitting_code : {E C : Type 0} → Coded E → Coded C → Coded (Sitting E C)
sitting_code {E} {C} entry terms = code_by (TableId × (C × (List E × (List ℕ × (ℕ × Option (List E))))))
    (coded× table_id_coded (coded× terms (coded× (coded_list entry) (coded× (coded_list coded_ℕ) (coded× coded_ℕ (coded_option (coded_list entry)))))))
    (λ s. (s.of, (s.terms, (s.seen, (s.numbers, (s.told, s.base))))))
    (λ p. record { of = p.0; terms = p.1.0; seen = p.1.1.0; numbers = p.1.1.1.0; told = p.1.1.1.1.0; base = p.1.1.1.1.1 }) (λ _. refl)

-- which lock it is, and how many numbers its seats have
pub record Locking : Type 0 where
  pub id : TableId
  pub numbers : ℕ

-- how the proofs store a locking
abbrev pub locking_code : Coded Locking
locking_code = code_by (TableId × ℕ) (coded× table_id_coded coded_ℕ) (λ l. (l.id, l.numbers)) (λ p. record { id = p.0; numbers = p.1 }) (λ _. refl)
