use Rattle.std.proofs.Common.{◌≡◌, ◌++◌, flat_map}
use Rattle.spm_judge.specs.Heard.{contents_in}
use Rattle.spm_judge.specs.Steps.{keys_in, lookups_in}
use Rattle.spm_judge.proofs.keys.keys_read.Given as goal

abbrev pub invariant-loop-node : goal.invariant-loop-node
invariant-loop-node l =
    l.keys ++ flat_map (lookups_in (contents_in l.root l.pinned)) l.node-iterator ≡ keys_in (contents_in l.root l.pinned) l.pins l.on.keys
