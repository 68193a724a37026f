-- One pass over a text is the grammar of words with one separator between each two.
use Rattle.std.proofs.Common.{◌≡◌, ℕ, ◌<◌, Bool, true, false, cond, ◌&&◌, List, [], ◌∷◌, length, nat_lt, refl, sym, ap, ◌∙◌, arith, map}
use Rattle.std.specs.Char.{is_ascii_alphanumeric}
use Rattle.std.specs.List.{list_all, slice_split, onto_first}
use Rattle.std.proofs.lemmas.Bool.{lt-ltb}
use Rattle.spm_ident.specs.Identity.{is_word, is_joined}

-- The pass over what is left of a text, where in_word says whether a letter or digit stands before it.
abbrev pub goes_on : (ℕ → Bool) → Bool → List ℕ → Bool
goes_on p in_word [] = in_word
goes_on p in_word (b ∷ bs) = cond (p b) (in_word && goes_on p false bs) (is_ascii_alphanumeric b && goes_on p true bs)

-- the first part goes on a word, and each other part is a word
abbrev goes_on_parts : List (List ℕ) → Bool
goes_on_parts [] = true
goes_on_parts (part ∷ parts) = list_all is_ascii_alphanumeric part && list_all is_word parts

-- conjunctions may be grouped in either way
and_assoc : (x y z : Bool) → ((x && y) && z) ≡ (x && (y && z))
and_assoc true y z = refl
and_assoc false y z = refl

-- a truth more changes nothing
and_true : (x : Bool) → ((x && true) && true) ≡ (x && true)
and_true true = refl
and_true false = refl

-- a first truth may be left out
and_of_true : (t x y z : Bool) → t ≡ true → ((t && (x && y)) && z) ≡ (x && (y && z))
and_of_true t x y z e = rw e (and_assoc x y z)

-- all parts are words where a byte goes onto the first of them
list_all-onto_first : (b : ℕ) (parts : List (List ℕ)) → list_all is_word (onto_first b parts) ≡ (is_ascii_alphanumeric b && goes_on_parts parts)
list_all-onto_first b [] = and_true (is_ascii_alphanumeric b)
list_all-onto_first b (part ∷ parts) =
    let some : 0 < length (b ∷ part) = omega arith in
    and_of_true (nat_lt 0 (length (b ∷ part))) (is_ascii_alphanumeric b) (list_all is_ascii_alphanumeric part) (list_all is_word parts) (lt-ltb 0 (length (b ∷ part)) some)

-- parts go on where a byte goes onto the first of them
goes_on_parts-onto_first : (b : ℕ) (parts : List (List ℕ)) → goes_on_parts (onto_first b parts) ≡ (is_ascii_alphanumeric b && goes_on_parts parts)
goes_on_parts-onto_first b [] = and_true (is_ascii_alphanumeric b)
goes_on_parts-onto_first b (part ∷ parts) =
    and_assoc (is_ascii_alphanumeric b) (list_all is_ascii_alphanumeric part) (list_all is_word parts)

-- a byte before a text that begins no word yet, and one before a text that goes on a word: q says whether it separates
begins_at : (q : Bool) (b : ℕ) (parts : List (List ℕ)) (begun going : Bool) → begun ≡ list_all is_word parts → going ≡ goes_on_parts parts → cond q (false && begun) (is_ascii_alphanumeric b && going) ≡ list_all is_word (cond q ([] ∷ parts) (onto_first b parts))
begins_at true b parts begun going e f = refl
begins_at false b parts begun going e f = ap (λ x. is_ascii_alphanumeric b && x) f ∙ sym (list_all-onto_first b parts)

-- one step of the pass
goes_on_at : (q : Bool) (b : ℕ) (parts : List (List ℕ)) (begun going : Bool) → begun ≡ list_all is_word parts → going ≡ goes_on_parts parts → cond q (true && begun) (is_ascii_alphanumeric b && going) ≡ goes_on_parts (cond q ([] ∷ parts) (onto_first b parts))
goes_on_at true b parts begun going e f = e
goes_on_at false b parts begun going e f = ap (λ x. is_ascii_alphanumeric b && x) f ∙ sym (goes_on_parts-onto_first b parts)

-- the pass, begun outside and inside a word
goes_on_both : (p : ℕ → Bool) (text : List ℕ) → (goes_on p false text ≡ list_all is_word (slice_split p text)) × (goes_on p true text ≡ goes_on_parts (slice_split p text))
goes_on_both p [] = (refl, refl)
goes_on_both p (b ∷ bs) =
    let rest = goes_on_both p bs in
    (begins_at (p b) b (slice_split p bs) (goes_on p false bs) (goes_on p true bs) rest.0 rest.1, goes_on_at (p b) b (slice_split p bs) (goes_on p false bs) (goes_on p true bs) rest.0 rest.1)

-- the pass from the start is the grammar
pub goes_on_joined : (p : ℕ → Bool) (text : List ℕ) → goes_on p false text ≡ is_joined p text
goes_on_joined p text = (goes_on_both p text).0

-- a change of bytes that keeps the separators, the letters and the digits keeps the pass, and so the grammar
goes_on-map : (p : ℕ → Bool) (f : ℕ → ℕ) → ((b : ℕ) → p (f b) ≡ p b) → ((b : ℕ) → is_ascii_alphanumeric (f b) ≡ is_ascii_alphanumeric b) → (in_word : Bool) (text : List ℕ) → goes_on p in_word (map f text) ≡ goes_on p in_word text
goes_on-map p f keeps same in_word [] = refl
goes_on-map p f keeps same in_word (b ∷ bs) =
    rw (keeps b, same b, goes_on-map p f keeps same false bs, goes_on-map p f keeps same true bs)

-- a map that keeps separators and letters keeps joined words
pub is_joined-map : (p : ℕ → Bool) (f : ℕ → ℕ) → ((b : ℕ) → p (f b) ≡ p b) → ((b : ℕ) → is_ascii_alphanumeric (f b) ≡ is_ascii_alphanumeric b) → (text : List ℕ) → is_joined p (map f text) ≡ is_joined p text
is_joined-map p f keeps same text =
    sym (goes_on_joined p (map f text)) ∙ goes_on-map p f keeps same false text ∙ goes_on_joined p text
