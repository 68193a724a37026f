use Rattle.std.proofs.Common.{◌∙◌, ap, rules}
use Rattle.std.proofs.lemmas.Fn.{always_returns_same}
use Rattle.spm_shelf.specs.Shelf.{package_of}
use Rattle.spm_shelf.specs.declared.file.ShelfFile.{ShelfFile}
use Rattle.spm_shelf.proofs.Ascending.{beside, package_of-found, package_of-missed}
use Rattle.spm_shelf.proofs.shelf.Shelf.package.Goals as goal

pub returns-in-Ok : goal.returns-in-Ok
returns-in-Ok c =
    let identity = c.args.identity.now in
    let found = c.in-Ok.ensures in
    let here = found.position (beside identity) (always_returns_same _ _ _ (λ a r after called. search rules)) in
    let packages = c.as_slice-packages.ensures in
    package_of-found identity c.self.inside.packages c.in-Ok.place c.index-packages-place.result c.self.invariant.packages
    (rw packages at found.bound) (rw packages at here) (rw packages at c.index-packages-place.is)
    ∙ ap (λ (file : ShelfFile). package_of identity file.packages) c.self.view_is

pub returns-in-Err : goal.returns-in-Err
returns-in-Err c =
    let identity = c.args.identity.now in
    let missed = c.in-Err.ensures.position (beside identity) (always_returns_same _ _ _ (λ a r after called. search rules)) in
    package_of-missed identity c.self.inside.packages c.in-Err.field-0 c.self.invariant.packages (rw c.as_slice-packages.ensures at missed)
    ∙ ap (λ (file : ShelfFile). package_of identity file.packages) c.self.view_is
