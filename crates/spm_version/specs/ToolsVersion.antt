-- A tools version: one to three numbers of 1 to 9 digits, joined by dots. Absent numbers are 0.
use Rattle.std.specs.Prelude.{ℕ, ◌==◌, ◌&&◌, List, [], ◌∷◌, ◌++◌, length, Option, Some, None, nat_lt, nat_le, if◌then◌else◌}
use Rattle.std.specs.Char.{is_ascii_digit}
use Rattle.std.specs.Fmt.{decimal}
use Rattle.std.specs.List.{list_all, slice_split}
use Rattle.std.specs.Option.{option_and_then, option_map}
use Rattle.std.specs.Str.Parse.{digits_value}
use Rattle.spm_version.specs.declared.tools_version.ToolsVersion.{ToolsVersion}

-- 1 to 9 digits, with leading zeros or without
abbrev pub number_of : List ℕ → Option ℕ
number_of text = if nat_lt 0 (length text) && nat_le (length text) 9 && list_all is_ascii_digit text
    then Some (digits_value 10 text) else None

abbrev pub tools_of_parts : List (List ℕ) → Option ToolsVersion
tools_of_parts [] = None
tools_of_parts (major ∷ []) =
    option_map (λ x. record { major = x; minor = 0; patch = 0 }) (number_of major)
tools_of_parts (major ∷ minor ∷ []) = option_and_then
    (λ x. option_map (λ y. record { major = x; minor = y; patch = 0 }) (number_of minor)) (number_of major)
tools_of_parts (major ∷ minor ∷ patch ∷ []) = option_and_then
    (λ x. option_and_then (λ y. option_map (λ z. record { major = x; minor = y; patch = z }) (number_of patch)) (number_of minor))
    (number_of major)
tools_of_parts (major ∷ minor ∷ patch ∷ other ∷ others) = None

abbrev pub tools_of : List ℕ → Option ToolsVersion
tools_of text = tools_of_parts (slice_split (λ byte. byte == 46) text)

-- the three numbers, without leading zeros
abbrev pub tools_text : ToolsVersion → List ℕ
tools_text tools = decimal tools.major ++ (46 ∷ (decimal tools.minor ++ (46 ∷ decimal tools.patch)))
