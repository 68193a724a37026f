use Rattle.std.proofs.Common.{◌≡◌, drop}
use Rattle.std.specs.List.{list_any}
use Rattle.std.specs.Str.{bytes_eq}
use Rattle.pub_facts.proofs.load.is_declared.Given as goal

abbrev pub invariant-loop-entry : goal.invariant-loop-entry
invariant-loop-entry l =
    list_any (λ entry. bytes_eq entry.name l.name) (drop l.entry-index l.entries) ≡ list_any (λ entry. bytes_eq entry.name l.name) l.entries
