-- The line before a chunk: what the grammar reads is what the definition cuts off, and where the grammar reads nothing there is no line.
use Rattle.std.proofs.Common.{◌≡◌, ℕ, suc, ◌+◌, ◌-◌, ◌<◌, ◌≤◌, ◌==◌, ◌&&◌, Bool, true, List, [], ◌∷◌, ◌++◌, length, take, drop, Option, Some, None, refl, sym, ◌∙◌, ap, arith, inl, inr, nat_le, nat_lt, take_at, drop_at, append_assoc, length-append, length-take, length-drop, take-append-drop, append-nil}
use Rattle.std.proofs.Math.Seq.{take-append-add}
use Rattle.std.proofs.lemmas.Bool.{cases_Bool}
use Rattle.std.proofs.lemmas.Bool.Decides.{nat_tests}
use Rattle.std.proofs.lemmas.List.Elements.{All-head, All-tail, All-cons, All-nil}
use Rattle.std.specs.Char.{is_ascii_hexdigit}
use Rattle.std.specs.List.{prefix_len}
use Rattle.std.specs.Str.Parse.{digits_value}
use Rattle.httparse.specs.Grammar.{AllPass, ChunkLine, HasNoChunkLine, IsChunkLine, IsExtension, NeverHasChunkLine, ReadsChunkLine, chunk_size, is_extension_byte, is_ows, print_chunk_line, print_extension}
use Rattle.httparse.specs.Pieces.{Extension, Run, Stops}
use Rattle.httparse.specs.Spans.{IsChunkLineAt}
use Rattle.httparse.proofs.ChunkLemmas.{chunk_pieces}
use Rattle.spm_http.specs.Chunked.{behind, behind_end, behind_extension, digits_in, has_size, size_line, with_size}

-- ---- what is read is cut off

-- how long a run at the front is
run_length : (test : ℕ → Bool) (run rest : List ℕ) → AllPass test run → Stops test rest → prefix_len test (run ++ rest) ≡ length run
run_length test [] [] all stops = absurd stops
run_length test [] (b ∷ rest) all stops = rw stops refl
run_length test (b ∷ run) rest all stops =
    let passes : test b ≡ true = All-head (λ v. test v ≡ true) b run all in
    let more = run_length test run rest (All-tail (λ v. test v ≡ true) b run all) stops in
    rw passes (omega (arith, more))

-- a run, and what stands behind it
run_cut : (test : ℕ → Bool) (run text rest : List ℕ) → Run test run text rest
    → (take (prefix_len test text) text ≡ run) × (behind test text ≡ rest)
run_cut test run text rest h =
    let long = run_length test run rest h.0 h.2 in
    rw h.1 (rw long (take_at run rest (length run) refl, drop_at run rest (length run) refl))

-- behind the extension stands the end of the line
extension_cut : (e : Option (List ℕ)) (text rest : List ℕ) → Extension e text rest → behind_end (behind_extension text) ≡ Some rest
extension_cut None text rest h = rw h.1 refl
extension_cut (Some said) text rest h =
    let run = run_cut is_extension_byte said (said ++ 13 ∷ 10 ∷ rest) (13 ∷ 10 ∷ rest) (h.0, refl, refl) in
    rw h.1 (ap behind_end run.1)

-- a line of the grammar is the line of the definition
line_cut : (bytes : List ℕ) (l : ChunkLine) (rest : List ℕ) → ReadsChunkLine bytes l rest → length bytes ≤ length rest + 4096
    → size_line bytes ≡ Some (chunk_size l, rest)
line_cut bytes l rest h fits =
    let pieces = chunk_pieces bytes l rest h in
    let digits = run_cut is_ascii_hexdigit l.digits bytes pieces.0 pieces.1.0 in
    let pad = run_cut is_ows l.pad pieces.0 pieces.2.0 pieces.2.1 in
    let end = extension_cut l.extension pieces.2.0 rest pieces.2.2 in
    let more : nat_lt 0 (length l.digits) ≡ true = grind (arith, nat_tests, h.0.digits.0) in
    let few : nat_le (length l.digits) 16 ≡ true = grind (arith, nat_tests, h.0.digits.1) in
    let short : nat_le (length bytes - length rest) 4096 ≡ true = grind (arith, nat_tests, fits) in
    rw (digits.0, digits.1, pad.1, end, more, few, short) refl

-- the line that is read in the first 4,096 bytes
pub line_read : (bytes : List ℕ) (len size : ℕ) (l : ChunkLine) → IsChunkLineAt (take 4096 bytes) len size l
    → (len ≤ length bytes) × (size_line bytes ≡ Some (size, drop len bytes))
line_read bytes len size l h =
    let front = take 4096 bytes in
    let rest = drop len front ++ drop 4096 bytes in
    let whole : bytes ≡ print_chunk_line l ++ rest =
    sym (take-append-drop 4096 bytes) ∙ ap (λ (t : List ℕ). t ++ drop 4096 bytes) h.reads.1
    ∙ append_assoc (print_chunk_line l) (drop len front) (drop 4096 bytes) in
    let long : length bytes ≡ length (print_chunk_line l) + length rest = ap length whole ∙ length-append (print_chunk_line l) rest in
    let of_front : length front ≡ length (print_chunk_line l) + length (drop len front) =
    ap length h.reads.1 ∙ length-append (print_chunk_line l) (drop len front) in
    let left : drop len bytes ≡ rest = ap (drop len) whole ∙ drop_at (print_chunk_line l) rest len (sym h.len_is) in
    let fits : length bytes ≤ length rest + 4096 = omega (arith, long, of_front, length-take 4096 bytes) in
    (omega (arith, long, h.len_is), rw (h.size_is, left) (line_cut bytes l rest (h.reads.0, whole) fits))

-- ---- what is cut off is read

-- the bytes at the front pass the test
passes : (test : ℕ → Bool) (text : List ℕ) → AllPass test (take (prefix_len test text) text)
passes test [] = All-nil (λ v. test v ≡ true)
passes test (b ∷ text) = elim (cases_Bool (test b)) [
  | inl on ↦
      let more : 1 + prefix_len test text ≡ suc (prefix_len test text) = omega arith in
      rw (on, more) (All-cons (λ v. test v ≡ true) b (take (prefix_len test text) text) on (passes test text))
  | inr off ↦ rw off (All-nil (λ v. test v ≡ true))
]

-- where an end is cut off, it stood there
end_is : (text rest : List ℕ) → behind_end text ≡ Some rest → text ≡ 13 ∷ 10 ∷ rest
end_is [] rest h = cc
end_is (b ∷ []) rest h = cc
end_is (b ∷ next ∷ text) rest h = grind (arith, nat_tests, h)

-- where the end behind an extension is cut off, the extension is one
extension_is : (text rest : List ℕ) → behind_end (behind_extension text) ≡ Some rest
    → (e : Option (List ℕ)) × IsExtension e × (text ≡ print_extension e ++ (13 ∷ 10 ∷ rest))
extension_is [] rest h = cc
extension_is (b ∷ text) rest h = elim (cases_Bool (b == 59)) [
  | inl on ↦
      let said = take (prefix_len is_extension_byte text) text in
      let mark : b ≡ 59 = grind (arith, nat_tests, on) in
      let end = end_is (behind is_extension_byte text) rest (rw on at h) in (
        Some said,
        passes is_extension_byte text,
        rw mark (ap (λ (t : List ℕ). 59 ∷ t) (sym (take-append-drop (prefix_len is_extension_byte text) text) ∙ ap (λ (t : List ℕ). said ++ t) end)),
      )
  | inr off ↦ (None, tt, end_is (b ∷ text) rest (rw off at h))
]

-- a line, and what follows it
print-append : (l : ChunkLine) (rest : List ℕ) → print_chunk_line l ++ rest
    ≡ l.digits ++ (l.pad ++ (print_extension l.extension ++ (13 ∷ 10 ∷ rest)))
unfolding print_chunk_line
print-append l rest = simp append_assoc

-- what stands behind the digits and the white space
abbrev behind_pad : List ℕ → List ℕ
behind_pad bytes = behind is_ows (behind is_ascii_hexdigit bytes)

-- a line of the definition is one of the grammar
line_is : (bytes rest : List ℕ) → behind_end (behind_extension (behind_pad bytes)) ≡ Some rest → has_size (digits_in bytes) ≡ true
    → (l : ChunkLine) × ReadsChunkLine bytes l rest
line_is bytes rest end size =
    let more : 0 < length (digits_in bytes) = grind (arith, nat_tests, size) in
    let few : length (digits_in bytes) ≤ 16 = grind (arith, nat_tests, size) in
    let padded = behind is_ascii_hexdigit bytes in
    let pad = take (prefix_len is_ows padded) padded in
    let extension = extension_is (behind_pad bytes) rest end in
    let l : ChunkLine = record { digits = digits_in bytes; pad = pad; extension = extension.0 } in
    let parts : bytes ≡ digits_in bytes ++ (pad ++ (print_extension extension.0 ++ (13 ∷ 10 ∷ rest))) =
    sym (take-append-drop (prefix_len is_ascii_hexdigit bytes) bytes)
    ∙ ap (λ (t : List ℕ). digits_in bytes ++ t) (sym (take-append-drop (prefix_len is_ows padded) padded)
    ∙ ap (λ (t : List ℕ). pad ++ t) extension.2) in
    let parts_are : IsChunkLine l = record { digits = (more, few, passes is_ascii_hexdigit bytes); pad = passes is_ows padded; extension = extension.1 } in
    (l, (parts_are, parts ∙ sym (print-append l rest)))

-- a line that is in the bytes and is short is in the first 4,096
line_in_front : (bytes : List ℕ) (l : ChunkLine) (rest : List ℕ) → ReadsChunkLine bytes l rest → length bytes - length rest ≤ 4096
    → HasNoChunkLine (take 4096 bytes) → ⊥
line_in_front bytes l rest h short none =
    let printed = print_chunk_line l in
    let long : length bytes ≡ length printed + length rest = ap length h.1 ∙ length-append printed rest in
    let room : length printed + (4096 - length printed) ≡ 4096 = omega (arith, long, short) in
    none l (take (4096 - length printed) rest)
    (h.0, ap (take 4096) h.1 ∙ ap (λ n. take n (printed ++ rest)) (sym room) ∙ take-append-add printed rest (4096 - length printed))

-- a front without a line has none behind it
pub no_line : (bytes : List ℕ) → HasNoChunkLine (take 4096 bytes) → size_line bytes ≡ None
no_line bytes none = by (behind_end (behind_extension (behind_pad bytes))) refl
  where
    by : (end : Option (List ℕ)) → behind_end (behind_extension (behind_pad bytes)) ≡ end → with_size bytes (digits_in bytes) end ≡ None
    by None e = refl
    by (Some rest) e = elim (cases_Bool (has_size (digits_in bytes) && nat_le (length bytes - length rest) 4096)) [
      | inl all ↦
          let size : has_size (digits_in bytes) ≡ true = grind (arith, nat_tests, all) in
          let short : length bytes - length rest ≤ 4096 = grind (arith, nat_tests, all) in
          let line = line_is bytes rest e size in
          absurd (line_in_front bytes line.0 rest line.1 short none)
      | inr some ↦ rw some refl
    ]

-- nor has one that never will
pub never_line : (bytes : List ℕ) → NeverHasChunkLine (take 4096 bytes) → size_line bytes ≡ None
never_line bytes never = no_line bytes (λ l rest h. never [] l rest (rw append-nil h))

-- ---- a line takes some of the bytes

-- behind an end fewer bytes are left
pub end_length : (text rest : List ℕ) → behind_end text ≡ Some rest → length rest < length text
end_length text rest h = omega (arith, ap length (end_is text rest h))

-- behind an extension no more bytes are left
extension_length : (text : List ℕ) → length (behind_extension text) ≤ length text
extension_length [] = omega arith
extension_length (b ∷ text) = elim (cases_Bool (b == 59)) [
  | inl on ↦ rw on (omega (arith, length-drop (prefix_len is_extension_byte text) text))
  | inr off ↦ rw off (omega arith)
]

-- a line has its end
line_end : (bytes digits : List ℕ) (end : Option (List ℕ)) (size : ℕ) (rest : List ℕ) → with_size bytes digits end ≡ Some (size, rest) → end ≡ Some rest
line_end bytes digits None size rest h = cc
line_end bytes digits (Some found) size rest h = elim (cases_Bool (has_size digits && nat_le (length bytes - length found) 4096)) [
  | inl all ↦
      let same = rw all at h in
      let pair : ◌≡◌ {A = ℕ × List ℕ} (digits_value 16 digits, found) (size, rest) = cc in
      ap (λ (p : ℕ × List ℕ). Some p.1) pair
  | inr some ↦ let same = rw some at h in cc
]

-- behind a line fewer bytes are left
pub line_length : (bytes : List ℕ) (size : ℕ) (rest : List ℕ) → size_line bytes ≡ Some (size, rest) → length rest < length bytes
line_length bytes size rest h =
    let padded = behind is_ascii_hexdigit bytes in
    let end = end_length (behind_extension (behind_pad bytes)) rest (line_end bytes (digits_in bytes) _ size rest h) in
    omega (arith, end, extension_length (behind_pad bytes), length-drop (prefix_len is_ows padded) padded, length-drop (prefix_len is_ascii_hexdigit bytes) bytes)
