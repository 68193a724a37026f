-- The cells of all keys.
use Rattle.std.specs.BTreeMap.{get}
use Rattle.std.specs.Prelude.{◌≡◌, IsSome, unwrap_or, Bool, true, nat_lt, if◌then◌else◌}
use Rattle.spm_cell.specs.declared.cell.Cell.{Cell}
use Rattle.spm_cell.specs.declared.cell.Cell.TheVariants.{Idle, Flying, Ready}
use Rattle.spm_key.specs.KeyLaws.{key_cmp, key_eq}
use Rattle.spm_key.specs.declared.key.Key.{Key}
use Rattle.spm_cache_core.specs.declared.cells.Cells.{Cells}

-- the key's cell; that of a key without an entry is idle
abbrev pub cell_at : Cells → Key → Cell
cell_at cells key = unwrap_or (get key_cmp cells.by_key key) (Idle 0)

-- the key has an entry
abbrev pub Has : Cells → Key → Type 0
Has cells key = IsSome (get key_cmp cells.by_key key)

-- each cell is the same
abbrev pub SameCells : Cells → Cells → Type 0
SameCells old new = (key : Key) → cell_at new key ≡ cell_at old key

-- the key has this cell now, and the others have theirs
abbrev pub Writes : Cells → Key → Cell → Cells → Type 0
Writes old key cell new = (other : Key) → cell_at new other ≡ (if key_eq key other then cell else cell_at old other)

-- a flight was begun
abbrev pub was_begun : Cell → Bool
was_begun (Idle fails) = nat_lt 0 fails
was_begun (Flying number by fails) = true
was_begun (Ready place) = true
