use Rattle.std.proofs.Common.{ap, ◌∙◌}
use Rattle.serde_json.specs.Data.{put}
use Rattle.serde_json.specs.View.{members_view, view}
use Rattle.serde_json.proofs.Views.{members_view-insert_entry}
use Rattle.spm_json.proofs.written.WrittenObject.put.Goals as goal

pub returns-clause-ok : goal.returns-clause-ok
returns-clause-ok c =
    let old = c.self.inside.members.entries in
    let value = view c.args.value in
    ap members_view c.in_ok-insert.ensures.entries ∙ members_view-insert_entry old c.in_ok-name.name c.args.value
    ∙ ap (λ key. put key value (members_view old)) c.in_ok-name.ensures.ok ∙ ap (put c.args.key.now value) c.self.view_is
