-- What stands between the words of a scope and of a name.
use Rattle.std.specs.Prelude.{ℕ, Bool}
use Rattle.spm_ident.specs.Identity.{is_hyphen, is_hyphen_or_underscore}
use Rattle.spm_ident.specs.declared.grammar.Separator.{Separator}
use Rattle.spm_ident.specs.declared.grammar.Separator.TheVariants.{Hyphen, HyphenOrUnderscore}

-- whether a byte is such a separator
abbrev pub is_separator : Separator → ℕ → Bool
is_separator Hyphen = is_hyphen
is_separator HyphenOrUnderscore = is_hyphen_or_underscore
