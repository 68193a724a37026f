-- Trait names (SE-0450, with the characters of Swift identifiers): the first character is XID_Start, `_` or
-- an ASCII digit, the others are XID_Continue, `-`, `+` or `.`. The name `defaults` is reserved.
use Rattle.std.specs.Str.{bytes_eq}
use Rattle.std.specs.Prelude.{◌≡◌, ℕ, ◌+◌, ◌==◌, ◌||◌, List, [], ◌∷◌, length, Bool, codes, Option, Some, None, Result, Ok, Err, if◌then◌else◌}
use Rattle.std.specs.Char.{is_ascii_digit}
use Rattle.std.specs.Str.{chars}
use Rattle.unicode_ident.specs.Ident.{is_xid_continue, is_xid_start}
use Rattle.spm_trait.specs.declared.trait_name.TraitFault.{TraitFault}
use Rattle.spm_trait.specs.declared.trait_name.TraitFault.TheVariants.{Empty, Reserved, BadChar}

abbrev pub begins_trait : ℕ → Bool
begins_trait char = is_xid_start char || char == 95 || is_ascii_digit char

abbrev pub continues_trait : ℕ → Bool
continues_trait char = is_xid_continue char || char == 45 || char == 43 || char == 46

-- the place of the first of these characters that may not stand behind others, where the first has this place
abbrev pub first_bad_behind : ℕ → List ℕ → Option ℕ
first_bad_behind place [] = None
first_bad_behind place (char ∷ others) = if continues_trait char then first_bad_behind (place + 1) others else Some place

-- the place, from 0, of the first character that may not stand where it does
abbrev pub first_bad : List ℕ → Option ℕ
first_bad [] = None
first_bad (char ∷ others) = if begins_trait char then first_bad_behind 1 others else Some 0

abbrev pub unless_bad : List ℕ → Option ℕ → Result (List ℕ) TraitFault
unless_bad text None = Ok text
unless_bad text (Some place) = Err (BadChar place)

-- the name that a text is, or the first of its faults
abbrev pub trait_name_of : List ℕ → Result (List ℕ) TraitFault
trait_name_of text =
    if length text == 0 then Err Empty
    else if bytes_eq text (codes "defaults") then Err Reserved
    else unless_bad text (first_bad (chars text))

-- a text that is a trait's name
abbrev pub IsTraitName : List ℕ → Type 0
IsTraitName text = trait_name_of text ≡ Ok text
