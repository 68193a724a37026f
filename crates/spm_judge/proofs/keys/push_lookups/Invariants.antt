use Rattle.std.proofs.Common.{◌≡◌, ◌++◌, drop}
use Rattle.std.specs.List.{filter, filter_map}
use Rattle.std.specs.Option.{option_copied}
use Rattle.pub_facts.specs.Facts.{is_of}
use Rattle.spm_judge.specs.Judged.{lookup_key}
use Rattle.spm_judge.proofs.keys.push_lookups.Given as goal

abbrev pub invariant-loop-need : goal.invariant-loop-need
invariant-loop-need l =
    l.keys ++ filter_map lookup_key (filter (is_of (option_copied l.under)) (drop l.need-index l.needs))
    ≡ l.fn.keys ++ filter_map lookup_key (filter (is_of (option_copied l.under)) l.needs)
