use Rattle.std.proofs.Common.{None, Some, ◌∙◌, ap}
use Rattle.std.specs.List.{find}
use Rattle.spm_outside.proofs.BookLemmas.{response_found}
use Rattle.spm_outside.specs.Book.{is_for}
use Rattle.spm_outside.proofs.book.Book.response.Goals as goal

pub returns-in-Some : goal.returns-in-Some
returns-in-Some c =
    let to = c.args.to.now in
    let request = c.args.request.now in
    rw (← c.self.view_is)
    (c.as_slice-in-Some.ensures
    ∙ response_found c.self.inside.entries c.self.inside.other to request (Some c.in-Some.entry.now)
    (c.in-Some.ensures ∙ ap (find (is_for to request)) c.as_slice.ensures))

pub returns-in-None : goal.returns-in-None
returns-in-None c =
    let to = c.args.to.now in
    let request = c.args.request.now in
    rw (← c.self.view_is)
    (c.as_slice-in-None.ensures
    ∙ response_found c.self.inside.entries c.self.inside.other to request None
    (c.in-None.ensures ∙ ap (find (is_for to request)) c.as_slice.ensures))
