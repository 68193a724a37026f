-- The places and the entries of one's own numbers.
use Rattle.std.proofs.Common.{◌≡◌, ℕ, suc, ◌+◌, Bool, true, false, true≢false, cond, ◌||◌, ◌==◌, List, [], ◌∷◌, ◌++◌, length, sym, refl, ap, ap₂, ◌∙◌, append-nil, arith}
use Rattle.std.proofs.lemmas.List.Elements.{filter-append}
use Rattle.spm_turn.specs.Log.{has, of_numbers, places_from, places_of, NoneShared, OthersFollow}
use Rattle.spm_turn.proofs.Follows.{quiet_parts}
use Rattle.spm_turn.proofs.Numbers.{has_append}

module _ {E : Type 0} (by : E → ℕ) where
  -- the entries of one's own stay
  pub others_keep : (numbers : List ℕ) (seen log : List E) → OthersFollow by numbers seen log → of_numbers by numbers log ≡ of_numbers by numbers seen
  others_keep numbers seen log o = ap (of_numbers by numbers) o.1
      ∙ (filter-append (λ e. has numbers (by e)) seen o.0 ∙ (ap (λ (l : List E). of_numbers by numbers seen ++ l) o.2 ∙ append-nil (of_numbers by numbers seen)))

  -- a step of places-append
  places_cons : (k : ℕ) (b : Bool) (xs ys zs : List ℕ) → xs ≡ ys ++ zs → cond b (k ∷ xs) xs ≡ cond b (k ∷ ys) ys ++ zs
  places_cons k true xs ys zs e = ap (λ l. k ∷ l) e
  places_cons k false xs ys zs e = e

  -- the places in two parts
  places-append : (numbers : List ℕ) (k : ℕ) (xs ys : List E) → places_from by numbers k (xs ++ ys) ≡ places_from by numbers k xs ++ places_from by numbers (k + length xs) ys
  places-append numbers k [] ys = let e : k ≡ k + 0 = omega arith in ap (λ j. places_from by numbers j ys) e
  places-append numbers k (x ∷ xs) ys = let e : suc k + length xs ≡ k + suc (length xs) = omega arith in
      places_cons k (has numbers (by x)) _ _ _ (places-append numbers (suc k) xs ys ∙ ap (λ j. places_from by numbers (suc k) xs ++ places_from by numbers j ys) e)

  -- no entries, no places
  quiet_places : (numbers : List ℕ) (k : ℕ) (es : List E) → of_numbers by numbers es ≡ [] → places_from by numbers k es ≡ []
  quiet_places numbers k [] h = refl
  quiet_places numbers k (e ∷ es) h = let t = quiet_parts numbers by e es h in
      ap (λ b. cond b (k ∷ places_from by numbers (suc k) es) (places_from by numbers (suc k) es)) t.0 ∙ quiet_places numbers (suc k) es t.1

  -- the places of one's own stay
  pub others_keep_places : (numbers : List ℕ) (seen log : List E) → OthersFollow by numbers seen log → places_of by numbers log ≡ places_of by numbers seen
  others_keep_places numbers seen log o = ap (places_of by numbers) o.1
      ∙ (places-append numbers 0 seen o.0 ∙ (ap (λ l. places_of by numbers seen ++ l) (quiet_places numbers (0 + length seen) o.0 o.2) ∙ append-nil (places_of by numbers seen)))

  -- an entry of one's own is one more place, the last
  pub one_more_place : (numbers : List ℕ) (log : List E) (e : E) → has numbers (by e) ≡ true → places_of by numbers (log ++ e ∷ []) ≡ places_of by numbers log ++ length log ∷ []
  one_more_place numbers log e own = let z : 0 + length log ≡ length log = omega arith in
      places-append numbers 0 log (e ∷ []) ∙ ap (λ l. places_of by numbers log ++ l) (ap (λ b. cond b ((0 + length log) ∷ []) []) own ∙ ap (λ k. k ∷ []) z)

  -- a step of both_places
  either_place : (h t x y z : Bool) → x ≡ (y || z) → (a b : Bool) → (cond (a || b) (h || x) x) ≡ (cond a (h || y) y || cond b (h || z) z)
  either_place true t x y z e true true = refl
  either_place true t x y z e true false = refl
  either_place true t x true z e false true = refl
  either_place true t x false z e false true = refl
  either_place true t x y z e false false = e
  either_place false t x y z e true true = e
  either_place false t x y z e true false = e
  either_place false t x y z e false true = e
  either_place false t x y z e false false = e

  -- the test goes through a choice
  has_cond : (b : Bool) (k n : ℕ) (ps : List ℕ) → has (cond b (k ∷ ps) ps) n ≡ cond b ((k == n) || has ps n) (has ps n)
  has_cond true k n ps = refl
  has_cond false k n ps = refl

  -- the places of both, from k on
  both_from : (first second : List ℕ) (k place : ℕ) (log : List E)
      → has (places_from by (first ++ second) k log) place ≡ (has (places_from by first k log) place || has (places_from by second k log) place)
  both_from first second k place [] = refl
  both_from first second k place (e ∷ es) = let a : Bool = has first (by e) in let b : Bool = has second (by e) in let h : Bool = k == place in
      let p : List ℕ = places_from by (first ++ second) (suc k) es in let q : List ℕ = places_from by first (suc k) es in let r : List ℕ = places_from by second (suc k) es in
      ap (λ c. has (cond c (k ∷ p) p) place) (has_append first second (by e))
      ∙ (has_cond (a || b) k place p
      ∙ (either_place h h (has p place) (has q place) (has r place) (both_from first second (suc k) place es) a b
      ∙ sym (ap₂ (λ x y. x || y) (has_cond a k place q) (has_cond b k place r))))

  -- who has the numbers of both has the places of both
  pub both_places : (first second : List ℕ) (log : List E) (place : ℕ)
      → has (places_of by (first ++ second) log) place ≡ (has (places_of by first log) place || has (places_of by second log) place)
  both_places first second log place = both_from first second 0 place log

  -- a step of both_entries
  either_entry : (e : E) (xs ys zs : List E) → length xs ≡ length ys + length zs → (a b : Bool) → (a ≡ true → b ≡ false)
      → length (cond (a || b) (e ∷ xs) xs) ≡ length (cond a (e ∷ ys) ys) + length (cond b (e ∷ zs) zs)
  either_entry e xs ys zs l true true n = absurd (true≢false (n refl))
  either_entry e xs ys zs l true false n = omega arith
  either_entry e xs ys zs l false true n = omega arith
  either_entry e xs ys zs l false false n = l

  -- who has the numbers of both has as many entries as the two together
  pub both_entries : (first second : List ℕ) (log : List E) → NoneShared first second
      → length (of_numbers by (first ++ second) log) ≡ length (of_numbers by first log) + length (of_numbers by second log)
  both_entries first second [] apart = refl
  both_entries first second (e ∷ es) apart = ap (λ c. length (cond c (e ∷ of_numbers by (first ++ second) es) (of_numbers by (first ++ second) es))) (has_append first second (by e))
      ∙ either_entry e _ _ _ (both_entries first second es apart) (has first (by e)) (has second (by e)) (apart (by e))
