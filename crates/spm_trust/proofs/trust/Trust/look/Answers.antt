use Rattle.std.proofs.Common.{◌∙◌, ap}
use Rattle.spm_trust.specs.Trust.{kept_in, sum_in}
use Rattle.spm_trust.proofs.Searching.{kept_in-found, kept_in-missed}
use Rattle.spm_trust.proofs.trust.Trust.look.Goals as goal

pub returns-in-Ok : goal.returns-in-Ok
returns-in-Ok c =
    let identity = c.args.identity.now in
    let release = c.args.release.now in
    let packages = c.as_slice.ensures.value in
    c.sum_in.ensures ∙ ap (sum_in release) c.as_slice-in-Ok.ensures
    ∙ kept_in-found identity release c.self.inside.packages.items c.in-Ok.place c.index.result.now c.self.invariant.ascending
    (rw packages at c.in-Ok.ensures.range) (rw packages at c.in-Ok.ensures.found) c.index.ensures
    ∙ ap (kept_in identity release) c.self.view_is

pub returns-in-Err : goal.returns-in-Err
returns-in-Err c =
    let identity = c.args.identity.now in
    let release = c.args.release.now in
    kept_in-missed identity release c.self.inside.packages.items c.in-Err.field-0 (rw c.as_slice.ensures.value at c.in-Err.ensures.missed)
    ∙ ap (kept_in identity release) c.self.view_is
