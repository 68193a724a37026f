use Rattle.std.proofs.Common.{◌≡◌, ◌<◌, ◌^◌, drop}
use Rattle.std.specs.Char.{is_ascii_digit}
use Rattle.std.specs.List.{list_all}
use Rattle.std.specs.Str.Parse.{digits_value, digits_value_after}
use Rattle.spm_http.proofs.named.read_length.Given as goal

-- What is left has to be digits, and the digits of the number so far stand before it.
abbrev pub invariant-loop-digit : goal.invariant-loop-digit
invariant-loop-digit l = record {
  digits : list_all is_ascii_digit (drop l.digit-index l.text) ≡ list_all is_ascii_digit l.text;
  value : digits_value_after 10 l.said (drop l.digit-index l.text) ≡ digits_value 10 l.text;
  below : l.said < 10 ^ l.digit-index;
}
