-- The finite map that the entries of a tree of files are.
use Rattle.std.specs.Prelude.{ℕ, List, map, String, string_bytes}
use Rattle.std.specs.FinMap.{from_entries}
use Rattle.spm_outside.specs.Names.{FileMap}

abbrev pub files_of : {A : Type 0} → List (String A × List ℕ) → FileMap
files_of entries = from_entries (map (λ entry. (string_bytes entry.0, entry.1)) entries)
