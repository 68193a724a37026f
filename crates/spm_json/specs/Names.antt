-- The texts that were met so far.
use Rattle.std.specs.Prelude.{ℕ, List, Bool}
use Rattle.std.specs.BTreeSet.{contains_text}
use Rattle.spm_json.specs.declared.names.Names.{Names}

-- the text was met
abbrev pub has_name : Names → List ℕ → Bool
has_name names text = contains_text names.texts text
