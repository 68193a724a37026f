-- A path that is cut slash by slash, for private clauses.
use Rattle.std.specs.Prelude.{ℕ, List, [], Option, Some, None}
use Rattle.std.specs.Borrow.{Bor}
use Rattle.std.specs.List.{slice_split}
use Rattle.spm_server.specs.Target.{is_slash}

-- the parts of what stands behind a slash; none where there is no slash
abbrev pub parts_behind : Option (Bor (List ℕ)) → List (List ℕ)
parts_behind None = []
parts_behind (Some rest) = slice_split is_slash rest.now
