-- Bytes begin with a head of a response, or they don't: each piece of the grammar is there or isn't.
use Rattle.std.proofs.Common.{◌≡◌, ◌≢◌, ℕ, zero, suc, ◌==◌, ◌<◌, ◌≤◌, Bool, true, false, List, [], ◌∷◌, ◌++◌, length, Option, Some, None, refl, sym, ap, ◌∙◌, subst, arith, append_assoc, append-nil, length-append, inl, inr}
use Rattle.std.specs.Prelude.{◌⊎◌}
use Rattle.std.proofs.lemmas.Bool.{cases_Bool, eqb-true, eqb-false}
use Rattle.std.proofs.lemmas.List.Elements.{All-cons, All-head, All-nil, All-tail}
use Rattle.std.specs.Char.{is_ascii_digit}
use Rattle.std.specs.List.{flat_map}
use Rattle.httparse.proofs.GrammarLemmas.{response_from_pieces, response_pieces, response_head}
use Rattle.httparse.proofs.PieceLemmas.{Blank_deterministic, Bytes_deterministic, Digit_deterministic, FieldLine_parts, IsDeterministic, Name_deterministic, colon_ends_token, ResponseStart_deterministic, Section_line, Section_skip, Stops_value, Then_deterministic, Version_deterministic, newline_not_stopped, print_end_unique, print_field-append}
use Rattle.httparse.specs.Grammar.{AllPass, Field, IsField, LineEnd, ReadsResponse, ResponseHead, crlf, lf, is_token_byte, is_value_byte, print_blank, print_end, print_field, print_reason, print_section, print_version}
use Rattle.httparse.specs.Grammar as grammar
use Rattle.httparse.specs.Pieces.{Begins, Blank, Bytes, Code, Digit, FieldLine, Newline, Piece, Reason, ResponseStart, Section, Stops, Text, Then, Version, Word, is_newline}

-- a text begins with the piece, or doesn't
abbrev IsTold : {A : Type 0} → Piece A → List ℕ → Type 0
IsTold G text = Begins G text ⊎ ¬ (Begins G text)

-- ---- pieces in a row

-- one piece and then another
then_told : {A B : Type 0} (G : Piece A) (H : Piece B) (text : List ℕ) → IsDeterministic G → IsTold G text → ((rest : List ℕ) → IsTold H rest)
    → IsTold (Then G H) text
then_told G H text one (inr none) next = inr (λ row. none (row.0.0, row.2.0, row.2.1))
then_told G H text one (inl first) next = behind (next first.1)
  where
    behind : IsTold H first.1 → IsTold (Then G H) text
    behind (inl second) = inl ((first.0, second.0), second.1, (first.1, first.2, second.2))
    behind (inr none) = inr (λ row.
        let same = one.unique row.0.0 first.0 text row.2.0 first.1 row.2.1 first.2 in
        none (row.0.1, row.1, subst (λ (middle : List ℕ). H row.0.1 middle row.1) same.1 row.2.2))

-- ---- bytes

-- a byte is this one, or isn't
same_byte : (byte other : ℕ) → (byte ≡ other) ⊎ (byte ≢ other)
same_byte byte other = elim (cases_Bool (byte == other)) [ inl is ↦ inl (eqb-true byte other is) | inr not ↦ inr (eqb-false byte other not) ]

-- these bytes
bytes_told : (bytes text : List ℕ) → IsTold (Bytes bytes) text
bytes_told [] text = inl (tt, text, refl)
bytes_told (byte ∷ bytes) [] = inr (λ row. absurd (cc row.2))
bytes_told (byte ∷ bytes) (first ∷ text) = either (same_byte first byte) (bytes_told bytes text)
  where
    either : (first ≡ byte) ⊎ (first ≢ byte) → IsTold (Bytes bytes) text → IsTold (Bytes (byte ∷ bytes)) (first ∷ text)
    either (inl same) (inl there) = inl (tt, there.1, let e = there.2 in cc)
    either (inl same) (inr none) = inr (λ row. none (tt, row.1, let e = row.2 in cc))
    either (inr other) behind = inr (λ row. other (let e = row.2 in cc))

-- a digit
digit_told : (text : List ℕ) → IsTold Digit text
digit_told [] = inr (λ row. absurd (let e = row.2.1 in cc))
digit_told (byte ∷ text) = elim (cases_Bool (is_ascii_digit byte)) [
  | inl is ↦ inl (byte, text, (is, refl))
  | inr not ↦ inr (λ row. absurd (let e = row.2.1 in let other = row.2.0 in cc))
]

-- the code of a status
code_told : (text : List ℕ) → IsTold Code text
code_told text =
    then_told Digit (Then Digit Digit) text Digit_deterministic (digit_told text)
    (λ rest. then_told Digit Digit rest Digit_deterministic (digit_told rest) digit_told)

-- HTTP/1.0 or HTTP/1.1
version_told : (text : List ℕ) → IsTold Version text
version_told text = either (bytes_told (print_version 0) text) (bytes_told (print_version 1) text)
  where
    neither : ¬ (Begins (Bytes (print_version 0)) text) → ¬ (Begins (Bytes (print_version 1)) text)
        → (minor : ℕ) (rest : List ℕ) → minor ≤ 1 → text ≡ print_version minor ++ rest → ⊥
    neither first second zero rest low is = first (tt, rest, is)
    neither first second (suc zero) rest low is = second (tt, rest, is)
    neither first second (suc (suc minor)) rest low is = omega (arith, low)

    either : IsTold (Bytes (print_version 0)) text → IsTold (Bytes (print_version 1)) text → IsTold Version text
    either (inl there) second = inl (0, there.1, (omega arith, there.2))
    either (inr first) (inl there) = inl (1, there.1, (omega arith, there.2))
    either (inr first) (inr second) = inr (λ row. neither first second row.0 row.1 row.2.0 row.2.1)

-- ---- ends of lines

-- bytes that begin with no end of a line
no_end : (text : List ℕ) → ((end : LineEnd) (rest : List ℕ) → text ≡ print_end end ++ rest → ⊥) → IsTold Newline text
no_end text none = inr (λ row. none row.0 row.1 row.2)

-- the end of a line
newline_told : (text : List ℕ) → IsTold Newline text
newline_told [] = no_end [] nothing
  where
    nothing : (end : LineEnd) (rest : List ℕ) → [] ≡ print_end end ++ rest → ⊥
    nothing crlf rest is = absurd (cc is)
    nothing lf rest is = absurd (cc is)
newline_told (byte ∷ text) = either (same_byte byte 10) (same_byte byte 13) text refl
  where
    neither : byte ≢ 10 → byte ≢ 13 → (end : LineEnd) (rest : List ℕ) → byte ∷ text ≡ print_end end ++ rest → ⊥
    neither not_lf not_cr crlf rest is = not_cr (cc)
    neither not_lf not_cr lf rest is = not_lf (cc)

    no_second : byte ≡ 13 → (next : ℕ) (others : List ℕ) → next ≢ 10 → text ≡ next ∷ others
        → (end : LineEnd) (rest : List ℕ) → byte ∷ text ≡ print_end end ++ rest → ⊥
    no_second cr next others other same crlf rest is = other (cc)
    no_second cr next others other same lf rest is = let e : ◌≡◌ {A = ℕ} 13 10 = cc in omega (arith, e)

    no_more : byte ≡ 13 → text ≡ [] → (end : LineEnd) (rest : List ℕ) → byte ∷ text ≡ print_end end ++ rest → ⊥
    no_more cr same crlf rest is = absurd (let e : [] ≡ 10 ∷ rest = cc in cc)
    no_more cr same lf rest is = let e : ◌≡◌ {A = ℕ} 13 10 = cc in omega (arith, e)

    either : (byte ≡ 10) ⊎ (byte ≢ 10) → (byte ≡ 13) ⊎ (byte ≢ 13) → (behind : List ℕ) → text ≡ behind → IsTold Newline (byte ∷ text)
    either (inl is) second behind same = inl (lf, text, ap (λ (b : ℕ). b ∷ text) is)
    either (inr not) (inr other) behind same = no_end (byte ∷ text) (neither not other)
    either (inr not) (inl cr) [] same = no_end (byte ∷ text) (no_more cr same)
    either (inr not) (inl cr) (next ∷ others) same = elim (same_byte next 10) [
      | inl is ↦ inl (crlf, others, cc)
      | inr other ↦ no_end (byte ∷ text) (no_second cr next others other same)
    ]

-- what doesn't begin with the end of a line, behind one
nothing_ends : (end : LineEnd) (rest : List ℕ) → [] ≡ print_end end ++ rest → ⊥
nothing_ends crlf rest is = absurd (cc is)
nothing_ends lf rest is = absurd (cc is)

-- the end of a line takes a byte
end_takes : (end : LineEnd) (rest text : List ℕ) (room : ℕ) → text ≡ print_end end ++ rest → length text ≤ suc room → length rest ≤ room
end_takes crlf rest text room is within = let e = ap length is in omega (arith, e, within)
end_takes lf rest text room is within = let e = ap length is in omega (arith, e, within)

-- and so there is room for it
end_fits : (end : LineEnd) (rest text : List ℕ) → text ≡ print_end end ++ rest → length text ≤ 0 → ⊥
end_fits crlf rest text is within = let e = ap length is in omega (arith, e, within)
end_fits lf rest text is within = let e = ap length is in omega (arith, e, within)

-- empty lines, by those behind the first
blank_by : (text : List ℕ) → IsTold Newline text → ((end : LineEnd) (rest : List ℕ) → text ≡ print_end end ++ rest → IsTold Blank rest) → IsTold Blank text
blank_by text line again = by_line line
  where
    no_line : ¬ (Begins Newline text) → (ends : List LineEnd) (rest : List ℕ) → text ≡ print_blank ends ++ rest → text ≡ rest
    no_line none [] rest is = is
    no_line none (end ∷ ends) rest is = absurd (none (end, _, is ∙ append_assoc (print_end end) (print_blank ends) rest))

    stops : ¬ (Begins Newline text) → (first : List ℕ) → text ≡ first → IsTold Blank text
    stops none [] same = inr (λ row. subst (Stops is_newline) (sym (no_line none row.0 row.1 row.2.0) ∙ same) row.2.1)
    stops none (byte ∷ first) same = elim (cases_Bool (is_newline byte)) [
      | inl is ↦ inr (λ row. let isnt : is_newline byte ≡ false = subst (Stops is_newline) (sym (no_line none row.0 row.1 row.2.0) ∙ same) row.2.1 in absurd (cc))
      | inr not ↦ inl ([], text, (refl, subst (Stops is_newline) (sym same) not))
    ]

    behind : (end : LineEnd) (rest : List ℕ) → text ≡ print_end end ++ rest → IsTold Blank rest → IsTold Blank text
    behind end rest is (inl others) =
        inl (end ∷ others.0, others.1, (is ∙ ap (λ (t : List ℕ). print_end end ++ t) others.2.0 ∙ sym (append_assoc (print_end end) (print_blank others.0) others.1), others.2.1))
    behind end rest is (inr none) = inr (λ row. other row.0 row.1 row.2.0 row.2.1)
      where
        other : (ends : List LineEnd) (left : List ℕ) → text ≡ print_blank ends ++ left → Stops is_newline left → ⊥
        other [] left same stop = newline_not_stopped end rest left (sym is ∙ same) stop
        other (first ∷ ends) left same stop =
            let heads = print_end_unique first end _ rest (sym (same ∙ append_assoc (print_end first) (print_blank ends) left) ∙ is) in
            none (ends, left, (sym heads.1, stop))

    by_line : IsTold Newline text → IsTold Blank text
    by_line (inr none) = stops none text refl
    by_line (inl line) = behind line.0 line.1 line.2 (again line.0 line.1 line.2)

-- empty lines, all of them
blank_told : (room : ℕ) (text : List ℕ) → length text ≤ room → IsTold Blank text
blank_told zero text within = blank_by text (newline_told text) (λ end rest is. absurd (end_fits end rest text is within))
blank_told (suc room) text within = blank_by text (newline_told text) (λ end rest is. blank_told room rest (end_takes end rest text room is within))

-- ---- words and texts

-- the first byte of one that passes
first_passes : (test : ℕ → Bool) (byte first : ℕ) (text word rest : List ℕ) → AllPass test (first ∷ word) → byte ∷ text ≡ (first ∷ word) ++ rest → test byte ≡ true
first_passes test byte first text word rest all is =
    let one : test first ≡ true = All-head (λ b. test b ≡ true) first word all in
    let same : byte ≡ first = cc in rw same one

-- bytes that pass the test, maybe none, and then the byte that ends them
abbrev Passed : (ℕ → Bool) → ℕ → Piece (List ℕ)
Passed test stop word text rest = AllPass test word × (text ≡ word ++ stop ∷ rest)

-- these
passed_told : (test : ℕ → Bool) (stop : ℕ) → test stop ≡ false → (text : List ℕ) → IsTold (Passed test stop) text
passed_told test stop fails [] = inr (λ row. none row.0 row.1 row.2.1)
  where
    none : (word rest : List ℕ) → [] ≡ word ++ stop ∷ rest → ⊥
    none [] rest is = absurd (cc is)
    none (first ∷ word) rest is = absurd (cc is)
passed_told test stop fails (byte ∷ text) = elim (cases_Bool (test byte)) [
  | inl passes ↦ longer passes (passed_told test stop fails text)
  | inr not ↦ elim (same_byte byte stop) [
    | inl is ↦ inl ([], text, (All-nil _, ap (λ (b : ℕ). b ∷ text) is))
    | inr other ↦ inr (λ row. none not other row.0 row.1 row.2.0 row.2.1)
  ]
]
  where
    none : test byte ≡ false → byte ≢ stop → (word rest : List ℕ) → AllPass test word → byte ∷ text ≡ word ++ stop ∷ rest → ⊥
    none not other [] rest all is = other (cc)
    none not other (first ∷ word) rest all is = let passes = first_passes test byte first text word (stop ∷ rest) all is in absurd (cc)

    more : test byte ≡ true → ¬ (Begins (Passed test stop) text) → (word rest : List ℕ) → AllPass test word → byte ∷ text ≡ word ++ stop ∷ rest → ⊥
    more passes none [] rest all is = let same : byte ≡ stop = cc in absurd (let f : test byte ≡ false = rw same fails in cc)
    more passes none (first ∷ word) rest all is = none (word, rest, (All-tail (λ b. test b ≡ true) first word all, cc))

    longer : test byte ≡ true → IsTold (Passed test stop) text → IsTold (Passed test stop) (byte ∷ text)
    longer passes (inl behind) =
        inl (byte ∷ behind.0, behind.1, (All-cons (λ b. test b ≡ true) byte behind.0 passes behind.2.0, ap (λ (t : List ℕ). byte ∷ t) behind.2.1))
    longer passes (inr none) = inr (λ row. more passes none row.0 row.1 row.2.0 row.2.1)

-- at least one of them
word_told : (test : ℕ → Bool) (stop : ℕ) → test stop ≡ false → (text : List ℕ) → IsTold (Word test stop) text
word_told test stop fails [] = inr (λ row. none row.0 row.1 row.2.2)
  where
    none : (word rest : List ℕ) → [] ≡ word ++ stop ∷ rest → ⊥
    none [] rest is = absurd (cc is)
    none (first ∷ word) rest is = absurd (cc is)
word_told test stop fails (byte ∷ text) = elim (cases_Bool (test byte)) [
  | inl passes ↦ longer passes (passed_told test stop fails text)
  | inr not ↦ inr (λ row. none not row.0 row.1 row.2.0 row.2.1 row.2.2)
]
  where
    none : test byte ≡ false → (word rest : List ℕ) → 0 < length word → AllPass test word → byte ∷ text ≡ word ++ stop ∷ rest → ⊥
    none not [] rest some all is = omega (arith, some)
    none not (first ∷ word) rest some all is = let passes = first_passes test byte first text word (stop ∷ rest) all is in absurd (cc)

    more : ¬ (Begins (Passed test stop) text) → (word rest : List ℕ) → 0 < length word → AllPass test word → byte ∷ text ≡ word ++ stop ∷ rest → ⊥
    more none [] rest some all is = omega (arith, some)
    more none (first ∷ word) rest some all is = none (word, rest, (All-tail (λ b. test b ≡ true) first word all, cc))

    longer : test byte ≡ true → IsTold (Passed test stop) text → IsTold (Word test stop) (byte ∷ text)
    longer passes (inl behind) =
        inl (byte ∷ behind.0, behind.1, (omega arith, All-cons (λ b. test b ≡ true) byte behind.0 passes behind.2.0, ap (λ (t : List ℕ). byte ∷ t) behind.2.1))
    longer passes (inr none) = inr (λ row. more none row.0 row.1 row.2.0 row.2.1 row.2.2)

-- the end of a line is none of a value
end_fails : (byte : ℕ) (text : List ℕ) (end : LineEnd) (rest : List ℕ) → byte ∷ text ≡ print_end end ++ rest → is_value_byte byte ≡ false
end_fails byte text end rest is = subst (Stops is_value_byte) (sym is) (Stops_value end rest)

-- a value up to the end of its line
text_told : (text : List ℕ) → IsTold Text text
text_told [] = inr (λ row. none row.0.0 row.0.1 row.1 row.2.1)
  where
    none : (value : List ℕ) (end : LineEnd) (rest : List ℕ) → [] ≡ value ++ (print_end end ++ rest) → ⊥
    none [] end rest is = nothing_ends end rest is
    none (first ∷ value) end rest is = absurd (cc is)
text_told (byte ∷ text) = elim (cases_Bool (is_value_byte byte)) [
  | inl passes ↦ longer passes (text_told text)
  | inr not ↦ ends not (newline_told (byte ∷ text))
]
  where
    no_end_here : is_value_byte byte ≡ false → ¬ (Begins Newline (byte ∷ text))
        → (value : List ℕ) (end : LineEnd) (rest : List ℕ) → AllPass is_value_byte value → byte ∷ text ≡ value ++ (print_end end ++ rest) → ⊥
    no_end_here not none [] end rest all is = none (end, rest, is)
    no_end_here not none (first ∷ value) end rest all is = let passes = first_passes is_value_byte byte first text value (print_end end ++ rest) all is in absurd (cc)

    ends : is_value_byte byte ≡ false → IsTold Newline (byte ∷ text) → IsTold Text (byte ∷ text)
    ends not (inl line) = inl (([], line.0), line.1, (All-nil _, line.2))
    ends not (inr none) = inr (λ row. no_end_here not none row.0.0 row.0.1 row.1 row.2.0 row.2.1)

    no_longer : is_value_byte byte ≡ true → ¬ (Begins Text text)
        → (value : List ℕ) (end : LineEnd) (rest : List ℕ) → AllPass is_value_byte value → byte ∷ text ≡ value ++ (print_end end ++ rest) → ⊥
    no_longer passes none [] end rest all is = let fails = end_fails byte text end rest is in absurd (cc)
    no_longer passes none (first ∷ value) end rest all is = none ((value, end), rest, (All-tail (λ b. is_value_byte b ≡ true) first value all, cc))

    longer : is_value_byte byte ≡ true → IsTold Text text → IsTold Text (byte ∷ text)
    longer passes (inl behind) =
        inl ((byte ∷ behind.0.0, behind.0.1), behind.1, (All-cons (λ b. is_value_byte b ≡ true) byte behind.0.0 passes behind.2.0, ap (λ (t : List ℕ). byte ∷ t) behind.2.1))
    longer passes (inr none) = inr (λ row. no_longer passes none row.0.0 row.0.1 row.1 row.2.0 row.2.1)

-- ---- a phrase

-- the rest of a status line
reason_told : (text : List ℕ) → IsTold Reason text
reason_told [] = inr (λ row. none row.0.0 row.0.1 row.1 row.2.1)
  where
    none : (phrase : Option (List ℕ)) (end : LineEnd) (rest : List ℕ) → [] ≡ print_reason phrase ++ (print_end end ++ rest) → ⊥
    none None end rest is = nothing_ends end rest is
    none (Some phrase) end rest is = absurd (cc is)
reason_told (byte ∷ text) = elim (same_byte byte 32) [
  | inl space ↦ with_phrase space (text_told text)
  | inr other ↦ bare other (newline_told (byte ∷ text))
]
  where
    no_phrase : byte ≡ 32 → ¬ (Begins Text text) → (phrase : Option (List ℕ)) (end : LineEnd) (rest : List ℕ)
        → AllPass is_value_byte (grammar.reason_phrase phrase) → byte ∷ text ≡ print_reason phrase ++ (print_end end ++ rest) → ⊥
    no_phrase space none None end rest all is = newline_not_stopped end rest (byte ∷ text) (sym is) (rw space refl)
    no_phrase space none (Some phrase) end rest all is = none ((phrase, end), rest, (all, cc))

    with_phrase : byte ≡ 32 → IsTold Text text → IsTold Reason (byte ∷ text)
    with_phrase space (inl there) = inl ((Some there.0.0, there.0.1), there.1, (there.2.0, let e = there.2.1 in cc))
    with_phrase space (inr none) = inr (λ row. no_phrase space none row.0.0 row.0.1 row.1 row.2.0 row.2.1)

    no_line : byte ≢ 32 → ¬ (Begins Newline (byte ∷ text)) → (phrase : Option (List ℕ)) (end : LineEnd) (rest : List ℕ)
        → byte ∷ text ≡ print_reason phrase ++ (print_end end ++ rest) → ⊥
    no_line other none None end rest is = none (end, rest, is)
    no_line other none (Some phrase) end rest is = other (cc)

    bare : byte ≢ 32 → IsTold Newline (byte ∷ text) → IsTold Reason (byte ∷ text)
    bare other (inl line) = inl ((None, line.0), line.1, (All-nil _, line.2))
    bare other (inr none) = inr (λ row. no_line other none row.0.0 row.0.1 row.1 row.2.1)

-- ---- fields

-- the line of a field
field_told : (text : List ℕ) → IsTold FieldLine text
field_told text =
    either (then_told (Word is_token_byte 58) Text text Name_deterministic (word_told is_token_byte 58 colon_ends_token text) text_told)
  where
    either : IsTold (Then (Word is_token_byte 58) Text) text → IsTold FieldLine text
    either (inl there) =
        let field : Field = record { name = there.0.0; raw = there.0.1.0; end = there.0.1.1 } in
        inl (
          field,
          there.1,
          (
            record { name = (there.2.1.0, there.2.1.1); raw = there.2.2.0 },
            there.2.1.2 ∙ ap (λ (t : List ℕ). field.name ++ 58 ∷ t) there.2.2.1 ∙ sym (print_field-append field there.1),
          ),
        )
    either (inr none) = inr (λ row. none ((row.0.name, (row.0.raw, row.0.end)), row.1, FieldLine_parts row.0 text row.1 row.2))

-- the line of a field takes a byte
field_takes : (field : Field) (rest text : List ℕ) (room : ℕ) → FieldLine field text rest → length text ≤ suc room → length rest ≤ room
field_takes field rest text room is within =
    let whole = ap length (is.1 ∙ print_field-append field rest) ∙ length-append field.name (58 ∷ (field.raw ++ (print_end field.end ++ rest))) in
    let inner = length-append field.raw (print_end field.end ++ rest) in
    let last = length-append (print_end field.end) rest in
    omega (arith, whole, inner, last, is.0.name.0, within)

-- and so there is room for it
field_fits : (field : Field) (rest text : List ℕ) → FieldLine field text rest → length text ≤ 0 → ⊥
field_fits field rest text is within =
    let whole = ap length (is.1 ∙ print_field-append field rest) ∙ length-append field.name (58 ∷ (field.raw ++ (print_end field.end ++ rest))) in
    let inner = length-append field.raw (print_end field.end ++ rest) in
    let last = length-append (print_end field.end) rest in
    omega (arith, whole, inner, last, is.0.name.0, within)

-- fields and the empty line that ends them, by what stands behind the first
section_by : (text : List ℕ) → IsTold Newline text → IsTold FieldLine text
    → ((field : Field) (rest : List ℕ) → FieldLine field text rest → IsTold Section rest) → IsTold Section text
section_by text line field again = first line field
  where
    behind : (field : Field) (rest : List ℕ) → FieldLine field text rest → IsTold Section rest → IsTold Section text
    behind field rest is (inl others) =
        inl (
          (field ∷ others.0.0, others.0.1),
          others.1,
          (
            All-cons IsField field others.0.0 is.0 others.2.0,
            is.1 ∙ ap (λ (t : List ℕ). print_field field ++ t) others.2.1 ∙ regroup (print_field field) (flat_map print_field others.0.0) (print_end others.0.1) others.1,
          ),
        )
      where
        regroup : (a b c d : List ℕ) → a ++ ((b ++ c) ++ d) ≡ ((a ++ b) ++ c) ++ d
        regroup a b c d = simp append_assoc
    behind field rest is (inr none) = inr (λ row.
        let left = Section_skip (field ∷ []) row.0.0 row.0.1 text rest row.1
        (All-cons IsField field [] is.0 (All-nil _), is.1 ∙ ap (λ (t : List ℕ). t ++ rest) (sym (append-nil (print_field field)))) row.2 in
        none ((left.0, row.0.1), row.1, left.2))

    first : IsTold Newline text → IsTold FieldLine text → IsTold Section text
    first (inl line) field = inl (([], line.0), line.1, (All-nil _, line.2))
    first (inr none) (inr other) = inr (λ row. elim (Section_line row.0 text row.1 row.2) [ inl line ↦ none line | inr field ↦ other field ])
    first (inr none) (inl field) = behind field.0 field.1 field.2 (again field.0 field.1 field.2)

-- the fields, and the empty line that ends them
section_told : (room : ℕ) (text : List ℕ) → length text ≤ room → IsTold Section text
section_told zero text within = section_by text (newline_told text) (field_told text) (λ field rest is. absurd (field_fits field rest text is within))
section_told (suc room) text within =
    section_by text (newline_told text) (field_told text) (λ field rest is. section_told room rest (field_takes field rest text room is within))

-- ---- the whole

-- a status line, with the empty lines before it
start_told : (text : List ℕ) → IsTold ResponseStart text
start_told text =
    then_told Blank _ text Blank_deterministic (blank_told (length text) text (omega arith)) (λ second.
    then_told Version _ second Version_deterministic (version_told second) (λ third.
    then_told (Bytes (32 ∷ [])) _ third (Bytes_deterministic (32 ∷ [])) (bytes_told (32 ∷ []) third) (λ fourth.
    then_told Code Reason fourth (Then_deterministic Digit_deterministic (Then_deterministic Digit_deterministic Digit_deterministic)) (code_told fourth) reason_told)))

-- bytes begin with a head of a response, or don't
pub response_told : (bytes : List ℕ)
    → ((head : ResponseHead) × (rest : List ℕ) × ReadsResponse bytes head rest) ⊎ grammar.HasNoResponse bytes
response_told bytes = elim (then_told ResponseStart Section bytes ResponseStart_deterministic (start_told bytes) (λ rest. section_told (length rest) rest (omega arith))) [
  | inl there ↦ inl (response_head there.0, there.1, response_from_pieces bytes there.0 there.1 there.2)
  | inr none ↦ inr (λ head rest reads. let row = response_pieces bytes head rest reads in none (row.0, rest, row.2))
]
