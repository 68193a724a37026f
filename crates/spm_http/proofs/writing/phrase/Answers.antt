use Rattle.std.proofs.Common.{sym, ap}
use Rattle.spm_http.specs.Writing.{phrase_or_none}
use Rattle.spm_http.proofs.Phrases.{no_phrase}
use Rattle.spm_http.proofs.writing.phrase.Goals as goal

pub returns-in-Err : goal.returns-in-Err
returns-in-Err c = sym (ap phrase_or_none (no_phrase c.args.status c.in-Err.ensures))
