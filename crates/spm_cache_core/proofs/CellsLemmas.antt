-- The cells of a tree are looked up as the tree is, and change as it does.
use Rattle.std.proofs.Common.{◌≡◌, ℕ, Bool, true, false, cond, Option, Some, None, sym, refl, ap, ◌∙◌}
use Rattle.std.specs.BTreeMap.{BTreeMap, UpdatesBy, get, is_at}
use Rattle.std.specs.Map.{lookup}
use Rattle.std.specs.Prelude.{unwrap_or, IsSome}
use Rattle.spm_cell.specs.declared.cell.Cell.{Cell}
use Rattle.spm_cell.specs.declared.cell.Cell.TheVariants.{Flying, Idle}
use Rattle.spm_key.specs.KeyLaws.{key_cmp, key_eq, key_ties}
use Rattle.spm_key.specs.declared.key.Key.{Key}
use Rattle.spm_cache_core.specs.Cells.{Has, cell_at}
use Rattle.spm_cache_core.specs.declared.cells.Cells.{Cells}

-- a cell is found where it was written
written : (same : Bool) (cell : Cell) (found : Option Cell)
    → unwrap_or (cond same (Some cell) found) (Idle 0) ≡ cond same cell (unwrap_or found (Idle 0))
written true cell found = refl
written false cell found = refl

-- a write to the tree is one to the cells
pub cells_written : (old new : BTreeMap Key Cell) (key : Key) (cell : Cell) → UpdatesBy key_cmp (key_cmp key) old new (Some cell)
    → (other : Key) → unwrap_or (get key_cmp new other) (Idle 0)
    ≡ cond (key_eq key other) cell (unwrap_or (get key_cmp old other) (Idle 0))
cells_written old new key cell updates other =
    ap (λ found. unwrap_or found (Idle 0)) (updates.0 other)
    ∙ written (is_at (key_cmp key) other) cell (get key_cmp old other)
    ∙ ap (λ same. cond same cell (unwrap_or (get key_cmp old other) (Idle 0))) (sym (key_ties key other))

-- a tree with the same entries has the same cells
pub cells_same : (old new : BTreeMap Key Cell) → new.entries ≡ old.entries
    → (other : Key) → unwrap_or (get key_cmp new other) (Idle 0) ≡ unwrap_or (get key_cmp old other) (Idle 0)
cells_same old new same other = ap (λ entries. unwrap_or (lookup (is_at (key_cmp other)) entries) (Idle 0)) same

-- what is no idle cell is there
there : (found : Option Cell) (number by fails : ℕ) → unwrap_or found (Idle 0) ≡ Flying number by fails → IsSome found
there None number by fails is = absurd (cc)
there (Some cell) number by fails is = refl

-- a key whose flight is open has an entry
pub flying_there : (cells : Cells) (key : Key) (number by fails : ℕ) → cell_at cells key ≡ Flying number by fails → Has cells key
flying_there cells key number by fails is = there (get key_cmp cells.by_key key) number by fails is
