-- A chunked body (RFC 9112, section 7.1), with a limit on its bytes.
use Rattle.std.specs.Prelude.{ℕ, ◌+◌, ◌-◌, ◌==◌, ◌&&◌, zero, suc, List, [], ◌∷◌, ◌++◌, length, take, drop, Bool, nat_le, nat_lt, Option, Some, None, if◌then◌else◌}
use Rattle.std.specs.Char.{is_ascii_hexdigit}
use Rattle.std.specs.List.{prefix_len}
use Rattle.std.specs.Str.Parse.{digits_value}
use Rattle.httparse.specs.Grammar.{is_extension_byte, is_ows}
use Rattle.spm_http.specs.declared.response_head.Heard.{Heard}
use Rattle.spm_http.specs.declared.response_head.Heard.TheVariants.{Whole, Garbled, TooLong}

-- ---- a size line: 1 to 16 hexadecimal digits, white space, an extension behind `;`, and CR LF

-- the hexadecimal digits at the front
abbrev pub digits_in : List ℕ → List ℕ
digits_in bytes = take (prefix_len is_ascii_hexdigit bytes) bytes

-- the bytes behind those at the front that pass the test
abbrev pub behind : (ℕ → Bool) → List ℕ → List ℕ
behind test bytes = drop (prefix_len test bytes) bytes

abbrev pub behind_extension : List ℕ → List ℕ
behind_extension [] = []
behind_extension (byte ∷ bytes) = if byte == 59 then behind is_extension_byte bytes else byte ∷ bytes

-- what stands behind the CR LF at the front
abbrev pub behind_end : List ℕ → Option (List ℕ)
behind_end [] = None
behind_end (byte ∷ []) = None
behind_end (byte ∷ next ∷ bytes) = if byte == 13 && next == 10 then Some bytes else None

abbrev pub has_size : List ℕ → Bool
has_size digits = nat_lt 0 (length digits) && nat_le (length digits) 16

-- a size line of at most 4,096 bytes: the size, and what stands behind the line
abbrev pub with_size : List ℕ → List ℕ → Option (List ℕ) → Option (ℕ × List ℕ)
with_size bytes digits None = None
with_size bytes digits (Some rest) =
    if has_size digits && nat_le (length bytes - length rest) 4096 then Some (digits_value 16 digits, rest) else None

abbrev pub size_line : List ℕ → Option (ℕ × List ℕ)
size_line bytes =
    with_size bytes (digits_in bytes) (behind_end (behind_extension (behind is_ows (behind is_ascii_hexdigit bytes))))

-- ---- the chunks

-- what stands behind so many bytes and a CR LF
abbrev pub behind_chunk : ℕ → List ℕ → Option (List ℕ)
behind_chunk size bytes = if nat_lt (length bytes) size then None else behind_end (drop size bytes)

abbrev pub go_on : (List ℕ → List ℕ → Heard) → List ℕ → ℕ → List ℕ → Option (List ℕ) → Heard
go_on chunks body size bytes None = Garbled
go_on chunks body size bytes (Some rest) = chunks (body ++ take size bytes) rest

-- a chunk of this size: the last has none; a size that makes the body exceed the limit is too long
abbrev pub with_chunk : (List ℕ → List ℕ → Heard) → ℕ → ℕ → List ℕ → Option (ℕ × List ℕ) → Heard
with_chunk chunks status limit body None = Garbled
with_chunk chunks status limit body (Some line) =
    if nat_lt limit (length body + line.0) then TooLong
    else if line.0 == 0 then Whole status body
    else go_on chunks body line.0 line.1 (behind_chunk line.0 line.1)

-- the chunks from here on, behind those whose bytes are the body so far; each takes some of the bytes, so as many steps as there
-- are bytes are enough
abbrev pub chunks_within : ℕ → ℕ → ℕ → List ℕ → List ℕ → Heard
chunks_within zero status limit body bytes = Garbled
chunks_within (suc steps) status limit body bytes =
    with_chunk (chunks_within steps status limit) status limit body (size_line bytes)

abbrev pub chunked_body : ℕ → ℕ → List ℕ → Heard
chunked_body status limit bytes = chunks_within (length bytes) status limit [] bytes
