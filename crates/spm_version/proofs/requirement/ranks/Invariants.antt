use Rattle.std.proofs.Common.{◌≡◌, ◌+◌, ◌++◌, drop}
use Rattle.spm_version.specs.Requirement.{places_from}
use Rattle.spm_version.proofs.requirement.ranks.Given as goal

-- the places so far and those of the releases that are left are all
abbrev pub invariant-loop-index : goal.invariant-loop-index
invariant-loop-index l =
    l.places.items ++ places_from (l.index + 1) l.requirement (drop l.index l.list) ≡ places_from 1 l.requirement l.list
