-- SHA-256 (FIPS 180-4), and the hexadecimal text of a sum.
use Rattle.std.specs.Prelude.{ℕ, ◌==◌, ◌&&◌, List, length, Option, None, if◌then◌else◌}
use Rattle.std.specs.List.{list_all}
use Rattle.std.specs.Result.{result_ok}
pub use Rattle.sha2.specs.Sha256.{sha256}
pub use Rattle.hex.specs.Hex.{IsBytes, decode_of, encode_lower, is_hex_digit}

-- the bytes of a text of 64 hexadecimal digits of either case
abbrev pub sum_of : List ℕ → Option (List ℕ)
sum_of text = if length text == 64 && list_all is_hex_digit text then result_ok (decode_of text) else None
