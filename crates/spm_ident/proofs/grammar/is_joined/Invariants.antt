use Rattle.std.proofs.Common.{◌≡◌, false, drop}
use Rattle.spm_ident.specs.Separator.{is_separator}
use Rattle.spm_ident.proofs.Scan.{goes_on}
use Rattle.spm_ident.proofs.grammar.is_joined.Given as goal

-- the pass over what is left answers what the pass over all does
abbrev pub invariant-loop-byte : goal.invariant-loop-byte
invariant-loop-byte l =
    goes_on (is_separator l.separator) l.in_word (drop l.byte-index l.text) ≡ goes_on (is_separator l.separator) false l.text
