-- The grammar of package identities (SE-0292, and the registry's service specification): a scope, a
-- dot and a name, without regard to ASCII case. It speaks of whole texts.
use Rattle.std.specs.Prelude.{◌≡◌, ℕ, ◌==◌, ◌&&◌, ◌||◌, List, length, Bool, not, nat_le, nat_lt, Result, Ok, Err, if◌then◌else◌}
use Rattle.std.specs.Char.{is_ascii_alphanumeric}
use Rattle.std.specs.List.{list_all, list_any, before_first, after_first, slice_split}
use Rattle.std.specs.Str.{str_to_ascii_lowercase}
use Rattle.spm_ident.specs.declared.identity.IdentFault.{IdentFault}
use Rattle.spm_ident.specs.declared.identity.IdentFault.TheVariants.{Dot, Scope, Name}

abbrev pub is_dot : ℕ → Bool
is_dot byte = byte == 46

-- what stands between the words of a scope
abbrev pub is_hyphen : ℕ → Bool
is_hyphen byte = byte == 45

-- what stands between the words of a name: a hyphen or an underscore
abbrev pub is_hyphen_or_underscore : ℕ → Bool
is_hyphen_or_underscore byte = byte == 45 || byte == 95

-- one or more ASCII letters and digits
abbrev pub is_word : List ℕ → Bool
is_word word = nat_lt 0 (length word) && list_all is_ascii_alphanumeric word

-- Words with one separator between each two: none stands first, last or beside another.
abbrev pub is_joined : (ℕ → Bool) → List ℕ → Bool
is_joined is_separator text = list_all is_word (slice_split is_separator text)

-- 1 to 39 bytes
abbrev pub is_scope : List ℕ → Bool
is_scope text = nat_le (length text) 39 && is_joined is_hyphen text

-- 1 to 100 bytes
abbrev pub is_name : List ℕ → Bool
is_name text = nat_le (length text) 100 && is_joined is_hyphen_or_underscore text

-- the part before the first dot
abbrev pub scope_of : List ℕ → List ℕ
scope_of text = before_first is_dot text

-- the part behind the first dot
abbrev pub name_of : List ℕ → List ℕ
name_of text = after_first is_dot text

-- the identity that a text is, in lower case, or the first of its faults
abbrev pub identity_of : List ℕ → Result (List ℕ) IdentFault
identity_of text =
    if not (list_any is_dot text) then Err Dot
    else if not (is_scope (scope_of text)) then Err Scope
    else if not (is_name (name_of text)) then Err Name
    else Ok (str_to_ascii_lowercase text)

-- a text that is an identity as it stands, in lower case
abbrev pub IsIdentity : List ℕ → Type 0
IsIdentity text = identity_of text ≡ Ok text
