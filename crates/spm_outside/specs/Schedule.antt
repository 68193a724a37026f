-- Which calls of an object in memory fail. Its calls are numbered from 1 to the greatest u64, and later
-- ones not at all; the calls with a listed number fail.
use Rattle.std.specs.Prelude.{ℕ, ◌+◌, ◌-◌, ◌^◌, ◌==◌, ◌&&◌, List, Bool, nat_lt, if◌then◌else◌}
use Rattle.std.specs.List.{list_any}

-- what a schedule holds: the numbers of the calls that fail, and the number of the last call
pub record Plan : Type 0 where
  pub failing : List ℕ
  pub calls : ℕ

-- whether the next call fails
abbrev pub fails_next : Plan → Bool
fails_next plan = nat_lt plan.calls (2 ^ 64 - 1) && list_any (λ number. number == plan.calls + 1) plan.failing

-- the plan after one call more
abbrev pub after_call : Plan → Plan
after_call plan = record plan { calls = if nat_lt plan.calls (2 ^ 64 - 1) then plan.calls + 1 else plan.calls }
