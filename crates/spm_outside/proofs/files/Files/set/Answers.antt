use Rattle.std.proofs.Common.{string_bytes}
use Rattle.spm_outside.proofs.FileLemmas.{files_of-set}
use Rattle.spm_outside.proofs.files.Files.set.Goals as goal

pub returns-clause-ok : goal.returns-clause-ok
returns-clause-ok c =
    rw (← c.self.view_is, ← c.in_ok-name.ensures.ok, ← c.in_ok-bytes.ensures)
    (files_of-set c.self.inside.by_name c.insert.new.self (string_bytes c.in_ok-name.name) c.in_ok-bytes.bytes c.in_ok-insert.ensures.updates)
