use Rattle.std.proofs.Common.{◌∙◌, ap, sym}
use Rattle.std.specs.FinMap as map
use Rattle.spm_outside.proofs.FileLemmas.{get-files_of}
use Rattle.spm_outside.proofs.files.Files.get.Goals as goal

pub returns : goal.returns
returns c =
    c.get.ensures.value
    ∙ sym (get-files_of c.self.inside.by_name c.args.name.now)
    ∙ ap (λ files. map.get files c.args.name.now) c.self.view_is
