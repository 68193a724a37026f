use Rattle.std.proofs.Common.{◌≡◌, drop}
use Rattle.spm_server.specs.Content.{release_in}
use Rattle.spm_server.proofs.content.release_in.Given as goal

abbrev pub invariant-loop-entry : goal.invariant-loop-entry
invariant-loop-entry l = release_in l.release (drop l.entry-index l.entries) ≡ release_in l.release l.entries
