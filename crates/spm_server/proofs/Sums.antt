-- The SHA-256 of bytes is 32 bytes.
use Rattle.std.proofs.Common.{ℕ, zero, suc, ◌<◌, ◌/◌, ◌%◌, ◌^◌, List, [], ◌∷◌, arith}
use Rattle.std.specs.Prelude.{slice_index}
use Rattle.std.specs.Int.{byte_at, byte_len, bytes_high_first, w32}
use Rattle.std.specs.List.{All}
use Rattle.std.proofs.lemmas.List.Elements.{All-append, All-cons, All-head, All-nil, All-tail}
use Rattle.sha2.specs.Sha256.{digest_bytes, sha256}
use Rattle.sha2.proofs.Facts256.{length-sha256}
use Rattle.spm_server.specs.Shelved.{IsSum}

-- bytes are bytes at each place, and nothing stands behind them
at_places : (bytes : List ℕ) → All (λ byte. byte < 256) bytes → (place : ℕ) → slice_index bytes place < 256
at_places [] all place = omega arith
at_places (byte ∷ bytes) all zero = All-head (λ byte. byte < 256) byte bytes all
at_places (byte ∷ bytes) all (suc place) = at_places bytes (All-tail (λ byte. byte < 256) byte bytes all) place

-- what is left by 256 is a byte
left_over : (number : ℕ) → number % 256 < 256
left_over number = omega arith

-- a byte of a number is one
byte_below : (place number : ℕ) → byte_at place number < 256
byte_below zero number = left_over number
byte_below (suc place) number = left_over (number / 256 ^ suc place)

-- and so are all
word_bytes : (count number : ℕ) → All (λ byte. byte < 256) (bytes_high_first count number)
word_bytes zero number = All-nil _
word_bytes (suc count) number = All-cons (λ byte. byte < 256) (byte_at count number) (bytes_high_first count number) (byte_below count number) (word_bytes count number)

-- and so are those of a digest
digest_is_bytes : (words : List ℕ) (count : ℕ) → All (λ byte. byte < 256) (digest_bytes words count)
unfolding digest_bytes
digest_is_bytes words zero = All-nil _
digest_is_bytes words (suc count) =
    All-append (λ byte. byte < 256) (digest_bytes words count) _ (digest_is_bytes words count) (word_bytes (byte_len w32) (slice_index words count))

-- the SHA-256 of a message is a sum
pub sha256_is_sum : (message : List ℕ) → IsSum (sha256 message)
unfolding sha256
sha256_is_sum message = (length-sha256 message, at_places _ (digest_is_bytes _ 8))
