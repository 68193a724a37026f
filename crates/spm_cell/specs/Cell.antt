-- One key's cell.
use Rattle.std.specs.Prelude.{ℕ}
use Rattle.spm_cell.specs.declared.cell.Cell.{Cell}
use Rattle.spm_cell.specs.declared.cell.Cell.TheVariants.{Flying, Idle, Ready}
use Rattle.spm_cell.specs.declared.cell.Wanted.{Wanted}
use Rattle.spm_cell.specs.declared.cell.Wanted.TheVariants.{Fetch, Have, Waiting}

-- what somebody learns who wants the reply
abbrev pub wanted_of : Cell → Wanted
wanted_of (Idle fails) = Fetch
wanted_of (Flying number by fails) = Waiting by
wanted_of (Ready place) = Have place

-- the cell after that: an idle one flies, by this actor and with this number, and another stays
abbrev pub cell_wanted : ℕ → ℕ → Cell → Cell
cell_wanted by number (Idle fails) = Flying number by fails
cell_wanted by number (Flying flight other fails) = Flying flight other fails
cell_wanted by number (Ready place) = Ready place

-- how many flights have failed, as long as none landed
abbrev pub fails_of : Cell → ℕ
fails_of (Idle fails) = fails
fails_of (Flying number by fails) = fails
fails_of (Ready place) = 0

-- a flight is open
abbrev pub IsFlying : Cell → Type 0
IsFlying (Idle fails) = ⊥
IsFlying (Flying number by fails) = Unit {0}
IsFlying (Ready place) = ⊥
