use Rattle.std.proofs.Common.{ap, ◌∙◌}
use Rattle.std.specs.List.{list_any}
use Rattle.pub_term.specs.NodeLaws.{node_eq}
use Rattle.pub_term.specs.declared.node.NodeName.TheVariants.{Package}
use Rattle.spm_judge.proofs.OnLemmas.{on_equal}
use Rattle.spm_judge.proofs.broken.is_reached.Goals as goal

pub returns : goal.returns
returns c =
    c.contains.ensures ∙ on_equal c.args.on.now.keys (Package c.in_ok-copy.field-0)
    ∙ ap (λ identity. list_any (node_eq (Package identity)) c.args.on.now.keys) c.in_ok-copy.ensures
