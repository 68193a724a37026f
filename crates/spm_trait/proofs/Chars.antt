-- The characters of a name, one by one.
use Rattle.std.proofs.Common.{◌≡◌, ℕ, ◌+◌, ◌<◌, cond, List, [], ◌∷◌, length, get_or, drop, Option, Some, None, refl, sym, ap, ◌∙◌, arith}
use Rattle.std.specs.List.{enumerate_from}
use Rattle.std.proofs.lemmas.Bool.{ne_eqb}
use Rattle.std.proofs.lemmas.List.{at_drop_more, at_drop_all}
use Rattle.std.proofs.lemmas.List.FromFn.{get_or-enumerate_from, length-enumerate_from}
use Rattle.spm_trait.specs.Stands.{stands}
use Rattle.spm_trait.specs.TraitName.{begins_trait, first_bad, first_bad_behind}

-- the place of the first of these characters that may not stand there, where the first has this place
abbrev pub first_bad_from : ℕ → List ℕ → Option ℕ
first_bad_from place [] = None
first_bad_from place (char ∷ others) = cond (stands place char) (first_bad_from (place + 1) others) (Some place)

-- behind the first character, the place alone is not looked at
first_bad_from-behind : (place : ℕ) (text : List ℕ) → 0 < place → first_bad_from place text ≡ first_bad_behind place text
first_bad_from-behind place [] h = refl
first_bad_from-behind place (char ∷ others) h =
    rw (ne_eqb place 0 (omega arith), first_bad_from-behind (place + 1) others (omega arith)) refl

-- from the start it is the first bad character
pub first_bad_from-start : (text : List ℕ) → first_bad_from 0 text ≡ first_bad text
first_bad_from-start [] = refl
first_bad_from-start (char ∷ others) =
    ap (λ (bad : Option ℕ). cond (begins_trait char) bad (Some 0)) (first_bad_from-behind 1 others (omega arith))

-- one character more, which a turn has with its number
pub first_bad_from-more : (text : List ℕ) (turn place char : ℕ) → turn < length (enumerate_from 0 text)
    → (place, char) ≡ get_or (enumerate_from 0 text) turn (place, char)
    → (place ≡ turn) × (first_bad_from turn (drop turn text) ≡ cond (stands place char) (first_bad_from (turn + 1) (drop (turn + 1) text)) (Some place))
first_bad_from-more text turn place char within is =
    let below : turn < length text = omega (arith, length-enumerate_from 0 text) in
    let at = is ∙ get_or-enumerate_from 0 text turn (place, char) below in
    let same_place : place ≡ turn = ap (λ (p : ℕ × ℕ). p.0) at ∙ omega arith in
    let same_char : get_or text turn char ≡ char = sym (ap (λ (p : ℕ × ℕ). p.1) at) in
    (same_place, at_drop_more (first_bad_from turn) text turn char below ∙ rw (same_char, same_place) refl)

-- at the end there is none
pub first_bad_from-end : (text : List ℕ) (turn : ℕ) → turn ≡ length (enumerate_from 0 text) → first_bad_from turn (drop turn text) ≡ None
first_bad_from-end text turn all = at_drop_all (first_bad_from turn) text turn (omega (arith, length-enumerate_from 0 text))
