use Rattle.std.proofs.Common.{◌≡◌, drop}
use Rattle.spm_server.specs.Content.{url_of}
use Rattle.spm_server.proofs.content.url_of.Given as goal

abbrev pub invariant-loop-entry : goal.invariant-loop-entry
invariant-loop-entry l = url_of l.url (drop l.entry-index l.entries) ≡ url_of l.url l.entries
