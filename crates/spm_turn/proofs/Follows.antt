-- Logs that go on by entries of others.
use Rattle.std.proofs.Common.{◌≡◌, ℕ, ◌<◌, ◌≤◌, Bool, true, false, List, [], ◌∷◌, ◌++◌, length, sym, refl, ap, ap₂, ◌∙◌, arith, append_assoc, append-nil, ltb-true, ltb-false}
use Rattle.std.proofs.lemmas.List.Elements.{filter-append}
use Rattle.std.specs.Prelude.{cond, ltb}
use Rattle.spm_turn.specs.Log.{has, longer, of_numbers, StartsWith, OthersFollow}
use Rattle.spm_turn.proofs.Booleans.{false_less, or_false}
use Rattle.spm_turn.proofs.Numbers.{has_append}

module _ {E : Type 0} where
  -- a beginning stays one after one more entry
  pub starts_more : (seen log : List E) (e : E) → StartsWith log seen → StartsWith (log ++ e ∷ []) seen
  starts_more seen log e s = (s.0 ++ e ∷ [], ap (λ l. l ++ e ∷ []) s.1 ∙ append_assoc seen s.0 (e ∷ []))

  -- a log goes on from itself by nothing
  pub others_here : (by : E → ℕ) (numbers : List ℕ) (log : List E) → OthersFollow by numbers log log
  others_here by numbers log = ([], sym (append-nil log), refl)

  -- a step of others_more
  none_of_one : (by : E → ℕ) (numbers : List ℕ) (e : E) (b : Bool) → has numbers (by e) ≡ b → b ≡ false → of_numbers by numbers (e ∷ []) ≡ []
  none_of_one by numbers e b is isnt = grind (arith, is, isnt)

  -- one more entry of others
  pub others_more : (by : E → ℕ) (numbers : List ℕ) (seen log : List E) (e : E) → has numbers (by e) ≡ false → OthersFollow by numbers seen log → OthersFollow by numbers seen (log ++ e ∷ [])
  others_more by numbers seen log e isnt s = (
    s.0 ++ e ∷ [],
    ap (λ l. l ++ e ∷ []) s.1 ∙ append_assoc seen s.0 (e ∷ []),
    filter-append (λ x. has numbers (by x)) s.0 (e ∷ []) ∙ (ap (λ l. l ++ of_numbers by numbers (e ∷ [])) s.2 ∙ none_of_one by numbers e (has numbers (by e)) refl isnt),
  )

  -- who sees others follow has seen a beginning
  pub others_start : (by : E → ℕ) (numbers : List ℕ) (seen log : List E) → OthersFollow by numbers seen log → StartsWith log seen
  others_start by numbers seen log s = (s.0, s.1)

  -- a step of quiet_parts
  quiet_head : (ns : List ℕ) (by : E → ℕ) (e : E) (es : List E) (b : Bool) → has ns (by e) ≡ b → cond b (e ∷ of_numbers by ns es) (of_numbers by ns es) ≡ [] → (b ≡ false) × (of_numbers by ns es ≡ [])
  quiet_head ns by e es true is h = absurd (cc)
  quiet_head ns by e es false is h = (refl, h)

  -- no entry of these numbers, in parts
  pub quiet_parts : (ns : List ℕ) (by : E → ℕ) (e : E) (es : List E) → of_numbers by ns (e ∷ es) ≡ [] → (has ns (by e) ≡ false) × (of_numbers by ns es ≡ [])
  quiet_parts ns by e es h = quiet_head ns by e es (has ns (by e)) refl h

  -- an entry of others adds nothing
  quiet_cons : (ns : List ℕ) (by : E → ℕ) (e : E) (es : List E) → has ns (by e) ≡ false → of_numbers by ns es ≡ [] → of_numbers by ns (e ∷ es) ≡ []
  quiet_cons ns by e es is h = ap (λ b. cond b (e ∷ of_numbers by ns es) (of_numbers by ns es)) is ∙ h

  -- fewer numbers have no entries either
  pub quiet_less : (by : E → ℕ) (ms ns : List ℕ) → ((k : ℕ) → has ms k ≡ true → has ns k ≡ true) → (es : List E) → of_numbers by ns es ≡ [] → of_numbers by ms es ≡ []
  quiet_less by ms ns sub [] h = refl
  quiet_less by ms ns sub (e ∷ es) h = let t = quiet_parts ns by e es h in quiet_cons ms by e es (false_less (has ms (by e)) (has ns (by e)) (sub (by e)) t.0) (quiet_less by ms ns sub es t.1)

  -- no entry of two lists of numbers
  quiet_or : (by : E → ℕ) (ms ns : List ℕ) (es : List E) → of_numbers by ms es ≡ [] → of_numbers by ns es ≡ [] → of_numbers by (ms ++ ns) es ≡ []
  quiet_or by ms ns [] g h = refl
  quiet_or by ms ns (e ∷ es) g h = let t = quiet_parts ms by e es g in let u = quiet_parts ns by e es h in
      quiet_cons (ms ++ ns) by e es (has_append ms ns (by e) ∙ or_false (has ms (by e)) (has ns (by e)) t.0 u.0) (quiet_or by ms ns es t.1 u.1)

  -- the list behind its first
  abbrev tail_of : List E → List E → List E
  tail_of d [] = d
  tail_of d (x ∷ xs) = xs

  -- the first of a list
  abbrev head_of : E → List E → E
  head_of d [] = d
  head_of d (x ∷ xs) = x

  -- of two beginnings of one list the shorter begins the other
  split_prefix : (xs ys r s : List E) → xs ++ r ≡ ys ++ s → length xs ≤ length ys → (m : List E) × (ys ≡ xs ++ m) × (r ≡ m ++ s)
  split_prefix [] ys r s e l = (ys, refl, e)
  split_prefix (x ∷ xs) [] r s e l = absurd (omega arith)
  split_prefix (x ∷ xs) (y ∷ ys) r s e l = let t = split_prefix xs ys r s (ap (tail_of []) e) (omega arith) in (t.0, ap₂ (λ a (b : List E). a ∷ b) (sym (ap (head_of x) e)) t.1, t.2)

  -- two parts of nothing
  both_empty : (xs ys : List E) → xs ++ ys ≡ [] → (xs ≡ []) × (ys ≡ [])
  both_empty [] ys e = (refl, e)
  both_empty (x ∷ xs) ys e = absurd (cc)

  -- no entry of these numbers in two parts
  pub quiet_append : (by : E → ℕ) (ns : List ℕ) (xs ys : List E) → of_numbers by ns (xs ++ ys) ≡ [] → (of_numbers by ns xs ≡ []) × (of_numbers by ns ys ≡ [])
  quiet_append by ns xs ys h = both_empty (of_numbers by ns xs) (of_numbers by ns ys) (sym (filter-append (λ x. has ns (by x)) xs ys) ∙ h)

  -- a beginning that is no longer than another, of one log
  reaches : (by : E → ℕ) (na nb : List ℕ) (a b log : List E) → length a ≤ length b → OthersFollow by na a log → OthersFollow by nb b log
      → (rest : List E) × (log ≡ b ++ rest) × (of_numbers by na rest ≡ []) × (of_numbers by nb rest ≡ []) × OthersFollow by na a b
  reaches by na nb a b log l p q = let m = split_prefix a b p.0 q.0 (sym p.1 ∙ q.1) l in let t = quiet_append by na m.0 q.0 (ap (of_numbers by na) (sym m.2) ∙ p.2) in
      (q.0, q.1, t.1, q.2, (m.0, m.1, t.0))

  -- a step of longer_follows
  meets_by : (by : E → ℕ) (na nb : List ℕ) (a b log : List E) (c : Bool) → ltb (length a) (length b) ≡ c → OthersFollow by na a log → OthersFollow by nb b log
      → OthersFollow by (na ++ nb) (cond c b a) log × OthersFollow by na a (cond c b a) × OthersFollow by nb b (cond c b a)
  meets_by by na nb a b log true c p q = let l : length a < length b = ltb-true (length a) (length b) c in let t = reaches by na nb a b log (omega arith) p q in
      ((t.0, t.1, quiet_or by na nb t.0 t.2 t.3), t.4, others_here by nb b)
  meets_by by na nb a b log false c p q = let l : length b ≤ length a = ltb-false (length a) (length b) c in let t = reaches by nb na b a log (omega arith) q p in
      ((t.0, t.1, quiet_or by na nb t.0 t.3 t.2), others_here by na a, t.4)

  -- the longer of two beginnings of one log
  pub longer_follows : (by : E → ℕ) (na nb : List ℕ) (a b log : List E) → OthersFollow by na a log → OthersFollow by nb b log
      → OthersFollow by (na ++ nb) (longer a b) log × OthersFollow by na a (longer a b) × OthersFollow by nb b (longer a b)
  longer_follows by na nb a b log p q = meets_by by na nb a b log (ltb (length a) (length b)) refl p q

  -- for fewer numbers it goes on by entries of others too
  pub others_less : (by : E → ℕ) (ms ns : List ℕ) (seen log : List E) → ((k : ℕ) → has ms k ≡ true → has ns k ≡ true) → OthersFollow by ns seen log → OthersFollow by ms seen log
  others_less by ms ns seen log sub p = (p.0, p.1, quiet_less by ms ns sub p.0 p.2)

  -- no numbers have no entries
  pub quiet_none : (by : E → ℕ) (es : List E) → of_numbers by [] es ≡ []
  quiet_none by [] = refl
  quiet_none by (e ∷ es) = quiet_none by es
