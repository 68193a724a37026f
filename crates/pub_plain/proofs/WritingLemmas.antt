-- The lines as the code writes them, the newest last, and as the definitions have them, the newest first.
use Rattle.std.proofs.Common.{◌≡◌, ℕ, ◌+◌, ◌-◌, ◌<◌, ◌≤◌, Bool, true, false, List, [], ◌∷◌, ◌++◌, length, get_or, map, reverse, take, Some, None, sym, ap, ◌∙◌, subst, arith}
use Rattle.std.proofs.lemmas.Bool.{cond-false, cond-true}
use Rattle.std.proofs.lemmas.List.{length-map, length-reverse, length-take-le, map-append, reverse-append, take_all, take_more}
use Rattle.pub_term.specs.contracts.cause.CausePartialEq.TheImpl.{eq-value}
use Rattle.pub_term.specs.declared.cause.Cause.{Cause}
use Rattle.pub_trail.specs.Derived.{same_line, written}
use Rattle.pub_plain.specs.Writing.{lines_of, says_of}
use Rattle.pub_plain.specs.declared.writing.WrittenLine.{WrittenLine}

-- the equality of causes
abbrev pub same_cause : Cause → Cause → Bool
same_cause = eq-value.it

-- as many in either order
pub length-lines_of : (lines : List WrittenLine) → length (lines_of lines) ≡ length lines
length-lines_of lines = length-reverse (map says_of lines) ∙ length-map lines says_of

-- a line that is put behind the others is the newest
pub lines_of-push : (lines : List WrittenLine) (line : WrittenLine) → lines_of (lines ++ line ∷ []) ≡ says_of line ∷ lines_of lines
lines_of-push lines line = ap reverse (map-append says_of lines (line ∷ [])) ∙ reverse-append (map says_of lines) (says_of line ∷ [])

-- one line more from the front
lines_of-more : (lines : List WrittenLine) (i : ℕ) (one : WrittenLine) → i < length lines → one ≡ get_or lines i one
    → lines_of (take (i + 1) lines) ≡ says_of one ∷ lines_of (take i lines)
lines_of-more lines i one within is =
    ap lines_of (take_more lines i one within ∙ ap (λ x. take i lines ++ x ∷ []) (sym is)) ∙ lines_of-push (take i lines) one

-- ---- the search for a line that is written already

-- what a search among the first so many lines comes to, where it is what the search among all comes to
abbrev pub SearchesOn : List WrittenLine → WrittenLine → ℕ → Type 0
SearchesOn lines line place =
    written same_cause (lines_of (take place lines)) (says_of line).line ≡ written same_cause (lines_of lines) (says_of line).line

-- it begins with all
pub searches_all : (lines : List WrittenLine) (line : WrittenLine) → SearchesOn lines line (length lines)
searches_all lines line = ap (λ ls. written same_cause (lines_of ls) (says_of line).line) (take_all (length lines) lines (omega arith))

-- the number of the newest line is how many there are
search_found : (lines : List WrittenLine) (line one : WrittenLine) (i : ℕ) → i < length lines → one ≡ get_or lines i one
    → same_line same_cause (says_of one).line (says_of line).line ≡ true
    → written same_cause (lines_of (take (i + 1) lines)) (says_of line).line ≡ Some (i + 1)
search_found lines line one i within is same =
    ap (λ ls. written same_cause ls (says_of line).line) (lines_of-more lines i one within is)
    ∙ cond-true (same_line same_cause (says_of one).line (says_of line).line) (Some (length (lines_of (take i lines)) + 1))
    (written same_cause (lines_of (take i lines)) (says_of line).line) same
    ∙ ap (λ n. Some (n + 1)) (length-lines_of (take i lines) ∙ length-take-le i lines (omega (arith, within)))

-- another line is passed over
search_other : (lines : List WrittenLine) (line one : WrittenLine) (i : ℕ) → i < length lines → one ≡ get_or lines i one
    → same_line same_cause (says_of one).line (says_of line).line ≡ false
    → written same_cause (lines_of (take (i + 1) lines)) (says_of line).line ≡ written same_cause (lines_of (take i lines)) (says_of line).line
search_other lines line one i within is other =
    ap (λ ls. written same_cause ls (says_of line).line) (lines_of-more lines i one within is)
    ∙ cond-false (same_line same_cause (says_of one).line (says_of line).line) (Some (length (lines_of (take i lines)) + 1))
    (written same_cause (lines_of (take i lines)) (says_of line).line) other

-- a line that is the same is what is searched
pub searches_found : (lines : List WrittenLine) (line one : WrittenLine) (place : ℕ) (same : Bool) → 0 < place → place ≤ length lines
    → one ≡ get_or lines (place - 1) one → same ≡ same_line same_cause (says_of one).line (says_of line).line → same ≡ true → SearchesOn lines line place
    → Some place ≡ written same_cause (lines_of lines) (says_of line).line
searches_found lines line one place same some within is is_same found on =
    let n : place ≡ place - 1 + 1 = omega (arith, some) in
    sym (subst (λ k. written same_cause (lines_of (take k lines)) (says_of line).line ≡ Some k) (sym n)
    (search_found lines line one (place - 1) (omega (arith, some, within)) is (sym is_same ∙ found)))
    ∙ on

-- else the search goes on before it
pub searches_other : (lines : List WrittenLine) (line one : WrittenLine) (place : ℕ) (same : Bool) → 0 < place → place ≤ length lines
    → one ≡ get_or lines (place - 1) one → same ≡ same_line same_cause (says_of one).line (says_of line).line → same ≡ false → SearchesOn lines line place
    → SearchesOn lines line (place - 1)
searches_other lines line one place same some within is is_same other on =
    let n : place ≡ place - 1 + 1 = omega (arith, some) in
    sym (subst (λ k. written same_cause (lines_of (take k lines)) (says_of line).line
    ≡ written same_cause (lines_of (take (place - 1) lines)) (says_of line).line) (sym n)
    (search_other lines line one (place - 1) (omega (arith, some, within)) is (sym is_same ∙ other)))
    ∙ on

-- among none there is nothing
pub searches_none : (lines : List WrittenLine) (line : WrittenLine) (place : ℕ) → place ≤ 0 → SearchesOn lines line place
    → None ≡ written same_cause (lines_of lines) (says_of line).line
searches_none lines line place none on =
    let n : place ≡ 0 = omega (arith, none) in
    subst (λ k. SearchesOn lines line k) n on
