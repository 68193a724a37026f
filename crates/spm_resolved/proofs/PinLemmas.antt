-- The text of the pins, with one pin more and at the end, and of the file, from its five parts.
use Rattle.std.proofs.Common.{◌≡◌, ℕ, ◌+◌, ◌<◌, ◌≤◌, List, [], ◌∷◌, ◌++◌, length, drop, get_or, sym, ap, ◌∙◌, append_assoc, append-nil}
use Rattle.std.specs.Prelude.{codes}
use Rattle.std.proofs.Math.ListN.{drop_of_length-le}
use Rattle.std.proofs.lemmas.List.{drop_more}
use Rattle.spm_version.specs.Release.{Parts}
use Rattle.spm_resolved.specs.Resolved.{more_pins_text, pin_text, pins_text}

-- four parts in a row, from the left or from the right
pub four_parts : (a b c d : List ℕ) → ((a ++ b) ++ c) ++ d ≡ a ++ (b ++ (c ++ d))
four_parts a b c d = simp append_assoc

-- behind a comma and a pin, what is left of the pins is one less
pub one_more : (before after : List ℕ) (pins : List (List ℕ × Parts)) (i : ℕ) (pin : List ℕ × Parts)
    → i < length pins → pin ≡ get_or pins i pin → after ≡ (before ++ codes ",\n") ++ pin_text pin
    → after ++ more_pins_text (drop (i + 1) pins) ≡ before ++ more_pins_text (drop i pins)
one_more before after pins i pin below is added =
    let rest : drop i pins ≡ pin ∷ drop (i + 1) pins = drop_more pins i pin below ∙ ap (λ p. p ∷ drop (i + 1) pins) (sym is) in
    ap (λ text. text ++ more_pins_text (drop (i + 1) pins)) added
    ∙ four_parts before (codes ",\n") (pin_text pin) (more_pins_text (drop (i + 1) pins))
    ∙ ap (λ left. before ++ more_pins_text left) (sym rest)

-- at the end none is left, and the text has them all
pub all_pins : (start opened text : List ℕ) (pins others : List (List ℕ × Parts)) (i : ℕ) (first : List ℕ × Parts)
    → pins ≡ first ∷ others → opened ≡ start ++ pin_text first → length others ≤ i
    → text ++ more_pins_text (drop i others) ≡ opened ++ more_pins_text others → text ≡ start ++ pins_text pins
all_pins start opened text pins others i first split begun done kept =
    sym (append-nil text) ∙ ap (λ left. text ++ more_pins_text left) (sym (drop_of_length-le others done)) ∙ kept
    ∙ ap (λ front. front ++ more_pins_text others) begun ∙ append_assoc start (pin_text first) (more_pins_text others)
    ∙ ap (λ all. start ++ pins_text all) (sym split)

-- a text to which five parts were added in turn
pub five_parts : (a b c d e : List ℕ) (start first second third fourth all : List ℕ) → start ≡ [] → first ≡ start ++ a
    → second ≡ first ++ b → third ≡ second ++ c → fourth ≡ third ++ d → all ≡ fourth ++ e
    → all ≡ a ++ (b ++ (c ++ (d ++ e)))
five_parts a b c d e start first second third fourth all none one two three four five =
    simp (five, four, three, two, one, none, append_assoc)
