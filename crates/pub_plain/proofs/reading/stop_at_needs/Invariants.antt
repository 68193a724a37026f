use Rattle.std.proofs.Common.{◌≡◌, drop}
use Rattle.std.specs.List.{filter}
use Rattle.std.specs.Option.{option_copied}
use Rattle.pub_facts.specs.Facts.{is_of}
use Rattle.pub_plain.specs.Loading.{read_needs}
use Rattle.pub_plain.specs.Told.{answers_to}
use Rattle.pub_trail.specs.Turn.{Loading}
use Rattle.pub_plain.proofs.reading.stop_at_needs.Given as goal

abbrev pub invariant-loop-need : goal.invariant-loop-need
invariant-loop-need l = (more : Loading)
    → read_needs (answers_to l.told) (filter (is_of (option_copied l.under)) (drop l.need-index l.needs)) more
    ≡ read_needs (answers_to l.told) (filter (is_of (option_copied l.under)) l.needs) more
