use Rattle.std.proofs.Common.{◌∙◌, ap}
use Rattle.std.specs.List.{list_all}
use Rattle.std.proofs.lemmas.List.Sums.{list_all-from_AllPass}
use Rattle.spm_server.specs.RoundTrip.{is_printable}
use Rattle.spm_server.proofs.plain.is_plain_base.Goals as goal

pub returns-then-is_empty-clause-every : goal.returns-then-is_empty-clause-every
returns-then-is_empty-clause-every c = λ plain.
    c.are_printable.ensures ∙ ap (list_all is_printable) c.as_str-then-is_empty.ensures ∙ list_all-from_AllPass is_printable c.args.base.now.to.host plain.host
