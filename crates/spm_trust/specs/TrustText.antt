-- The text of a fingerprint file, which is compact JSON and a line feed, and the lines that show what is kept.
use Rattle.std.specs.Prelude.{ℕ, List, [], ◌∷◌, ◌++◌, codes}
use Rattle.spm_digest.specs.Digest.{encode_lower}
use Rattle.spm_version.specs.Release.{parts_text}
use Rattle.spm_trust.specs.declared.file.KeptPackage.{KeptPackage}
use Rattle.spm_trust.specs.declared.file.KeptSum.{KeptSum}

-- ---- the file

-- the pieces behind the first, each with the comma before it
abbrev pub behind_commas : {X : Type 0} → (X → List ℕ) → List X → List ℕ
behind_commas piece [] = []
behind_commas piece (x ∷ xs) = codes "," ++ (piece x ++ behind_commas piece xs)

-- the pieces, with a comma between each two
abbrev pub between_commas : {X : Type 0} → (X → List ℕ) → List X → List ℕ
between_commas piece [] = []
between_commas piece (x ∷ xs) = piece x ++ behind_commas piece xs

-- a version and its sum
abbrev pub sum_text : KeptSum → List ℕ
sum_text kept = codes "\"" ++ (parts_text kept.release ++ (codes "\":\"" ++ (encode_lower kept.sum ++ codes "\"")))

-- a package and the sums of its versions
abbrev pub package_text : KeptPackage → List ℕ
package_text entry = codes "\"" ++ (entry.identity ++ (codes "\":{" ++ (between_commas sum_text entry.sums ++ codes "}")))

-- the whole file
abbrev pub trust_text : List KeptPackage → List ℕ
trust_text packages = codes "{\"fingerprints\":{" ++ (between_commas package_text packages ++ codes "},\"version\":1}\n")

-- ---- the lines

abbrev pub sum_line : List ℕ → KeptSum → List ℕ
sum_line identity kept = identity ++ (codes " " ++ (parts_text kept.release ++ (codes " " ++ (encode_lower kept.sum ++ codes "\n"))))

abbrev pub sum_lines : List ℕ → List KeptSum → List ℕ
sum_lines identity [] = []
sum_lines identity (kept ∷ sums) = sum_line identity kept ++ sum_lines identity sums

-- a line for each version of each package
abbrev pub trust_lines : List KeptPackage → List ℕ
trust_lines [] = []
trust_lines (entry ∷ entries) = sum_lines entry.identity entry.sums ++ trust_lines entries
