use Rattle.std.proofs.Common.{◌≡◌, ◌++◌, ℕ, List, drop}
use Rattle.spm_json.specs.Names.{has_name}
use Rattle.spm_manifest.specs.Guard.{distinct_after}
use Rattle.spm_manifest.proofs.guard.push_distinct.Given as goal

abbrev pub invariant-loop-name : goal.invariant-loop-name
invariant-loop-name l = (rest : List (List ℕ)) →
    l.list.items ++ distinct_after (has_name l.met) (drop l.name-index l.names ++ rest)
    ≡ l.initial.list.items ++ distinct_after (has_name l.initial.met) (l.names ++ rest)
