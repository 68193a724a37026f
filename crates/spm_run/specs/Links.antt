-- The links of a run.
use Rattle.std.specs.Prelude.{ℕ, ◌-◌, List, ◌++◌, drop, take}

module _ {L : Type 0} where
  -- the part from `start` to `end` turned, so that what stands from `middle` on comes first
  abbrev pub turned : ℕ → ℕ → ℕ → List L → List L
  turned start middle end links =
      take start links
      ++ ((drop (middle - start) (take (end - start) (drop start links)) ++ take (middle - start) (take (end - start) (drop start links)))
      ++ drop (end - start) (drop start links))
