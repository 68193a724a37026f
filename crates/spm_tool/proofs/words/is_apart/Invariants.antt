use Rattle.std.proofs.Common.{◌≡◌, drop, map, string_bytes}
use Rattle.std.specs.List.{list_any}
use Rattle.spm_tool.specs.Words.{is_file_of}
use Rattle.spm_tool.proofs.words.is_apart.Given as goal

-- it is no file of the roots so far
abbrev pub invariant-loop-root : goal.invariant-loop-root
invariant-loop-root l =
    list_any (is_file_of l.file) (map string_bytes (drop l.root-index l.roots)) ≡ list_any (is_file_of l.file) (map string_bytes l.roots)
