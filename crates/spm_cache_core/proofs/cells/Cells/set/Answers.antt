use Rattle.spm_cache_core.proofs.CellsLemmas.{cells_written}
use Rattle.spm_cache_core.proofs.cells.Cells.set.Goals as goal

pub returns-in-Some : goal.returns-in-Some
returns-in-Some c =
    cells_written c.args.self.now.by_key (c.get_mut.follows.lender c.args.cell) c.args.key.now c.args.cell
    ((c.get_mut.follows.holds c.args.cell).3 c.requires)
