-- What a reply says, in the parts of reading it, for private clauses.
use Rattle.std.specs.Prelude.{ℕ, ◌==◌, List, Bool, not, Option, Some, None, Result, if◌then◌else◌}
use Rattle.spm_key.specs.declared.key.Key.{Key}
use Rattle.spm_api.specs.Refused.{Refusal, refusal_by, unreadable}
use Rattle.spm_api.specs.Said.{absent, present, unless_refused}
use Rattle.spm_api.specs.declared.replies.Said.{Said}

-- with the status 200, of a body that is of its form or isn't
abbrev pub unless_unreadable : Bool → Said → Result Said Refusal
unless_unreadable formed said = unless_refused (if not formed then Some unreadable else None) said

-- with any status, of the bytes that are there
abbrev pub said_by : Key → ℕ → Option (List ℕ) → Result Said Refusal
said_by asked status bytes = unless_refused (refusal_by asked status bytes) (if status == 200 then present asked bytes else absent asked)
