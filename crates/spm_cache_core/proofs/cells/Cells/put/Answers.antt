use Rattle.std.proofs.Common.{◌≡◌, cond, subst}
use Rattle.spm_key.specs.KeyLaws.{key_eq}
use Rattle.spm_key.specs.declared.key.Key.{Key}
use Rattle.spm_cache_core.specs.Cells.{cell_at}
use Rattle.spm_cache_core.proofs.CellsLemmas.{cells_written}
use Rattle.spm_cache_core.proofs.cells.Cells.put.Goals as goal

pub returns-clause-ok : goal.returns-clause-ok
returns-clause-ok c =
    subst
    (λ (k : Key). (other : Key)
    → cell_at (record { by_key = c.insert.new.self }) other
    ≡ cond (key_eq k other) c.args.cell (cell_at c.args.self.now other))
    c.in_ok-key.ensures
    (cells_written c.args.self.now.by_key c.insert.new.self c.in_ok-key.key c.args.cell c.in_ok-insert.ensures.updates)
