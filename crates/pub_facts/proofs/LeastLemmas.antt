-- The least text of which something is so: where the aim is to refute, nothing needs to decide of which it is so.
use Rattle.std.proofs.Common.{◌≡◌, ℕ, Bool, true, false, List, [], ◌∷◌, Contains, refl, sym, ap, ◌∙◌, subst, inl, inr}
use Rattle.std.proofs.lemmas.Bool.{cases_Bool, false≢true}
use Rattle.std.specs.Cmp.{tied_itself, upto}
use Rattle.std.specs.Cmp.Lexicographic.{nat_list_cmp_total, slice_cmp}
use Rattle.std.specs.Ordering.{is_gt, is_le, nat_cmp, ordering_reverse}
use Rattle.std.specs.declared.cmp.Ordering.{Ordering}
use Rattle.std.specs.declared.cmp.Ordering.TheVariants.{Less, Equal, Greater}
use Rattle.pub_facts.proofs.Members.{contains_cases, contains_nothing}

-- the first text isn't after the second
abbrev pub is_upto : List ℕ → List ℕ → Bool
is_upto first second = is_le (slice_cmp nat_cmp first second)

-- what is less or the same isn't greater
not_greater : (order : Ordering) → is_le order ≡ true → is_gt order ≡ false
not_greater Less is = refl
not_greater Equal is = refl
not_greater Greater is = absurd (false≢true is)

-- and what isn't greater is less or the same
less_or_same : (order : Ordering) → is_gt order ≡ false → is_le order ≡ true
less_or_same Less not = refl
less_or_same Equal not = refl
less_or_same Greater not = absurd (false≢true (sym not))

-- what is greater is less the other way round
turned : (order : Ordering) → is_le order ≡ false → is_le (ordering_reverse order) ≡ true
turned Less not = absurd (false≢true (sym not))
turned Equal not = absurd (false≢true (sym not))
turned Greater not = refl

-- no text is after itself
upto_itself : (text : List ℕ) → is_upto text text ≡ true
upto_itself text = ap is_le (tied_itself nat_list_cmp_total text)

-- of two texts one isn't after the other
upto_turned : (first second : List ℕ) → is_upto first second ≡ false → is_upto second first ≡ true
upto_turned first second not = ap is_le (nat_list_cmp_total.antisymm second first) ∙ turned (slice_cmp nat_cmp first second) not

-- the order of texts chains
upto_chains : (first second third : List ℕ) → is_upto first second ≡ true → is_upto second third ≡ true → is_upto first third ≡ true
upto_chains first second third one other =
    less_or_same (slice_cmp nat_cmp first third)
    (upto nat_list_cmp_total first second third (not_greater (slice_cmp nat_cmp first second) one)
    (not_greater (slice_cmp nat_cmp second third) other))

-- it is so of the text, which is after none of these of which it is so
pub record IsLeastOf (P : List ℕ → Type 0) (texts : List (List ℕ)) (text : List ℕ) : Type 0 where
  pub is : P text
  pub least : (other : List ℕ) → Contains texts other → P other → is_upto text other ≡ true

-- the same with one more text before the others
least_more : (P : List ℕ → Type 0) (first : List ℕ) (texts : List (List ℕ)) (text : List ℕ) → P text
    → (P first → is_upto text first ≡ true) → ((other : List ℕ) → Contains texts other → P other → is_upto text other ≡ true)
    → IsLeastOf P (first ∷ texts) text
least_more P first texts text is below_first below = record {
  is = is;
  least = λ other here so. elim (contains_cases first other texts here) [
    | inl same ↦ subst (λ t. is_upto text t ≡ true) same (below_first (subst P (sym same) so))
    | inr there ↦ below other there so
  ];
}

-- where it is so of some of these texts, it can't be that none of them is the least
pub least_of : (P : List ℕ → Type 0) (texts : List (List ℕ)) → (((text : List ℕ) → Contains texts text → P text → ⊥) → ⊥)
    → ((text : List ℕ) → IsLeastOf P texts text → ⊥) → ⊥
least_of P [] some never = some (λ text here is. contains_nothing text here)
least_of P (first ∷ texts) some never =
    least_of P texts
    (λ none.
    let not_first : P first → ⊥
    = λ is. never first (least_more P first texts first is (λ _. upto_itself first) (λ other there so. absurd (none other there so))) in
    some (λ text here is. elim (contains_cases first text texts here) [
      | inl same ↦ not_first (subst P (sym same) is)
      | inr there ↦ none text there is
    ]))
    (λ text least.
    let not_first : P first → ⊥
    = λ is. elim (cases_Bool (is_upto first text)) [
      | inl below ↦
          never first (least_more P first texts first is (λ _. upto_itself first)
          (λ other there so. upto_chains first text other below (least.least other there so)))
      | inr above ↦ never text (least_more P first texts text least.is (λ _. upto_turned first text above) least.least)
    ] in
    never text (least_more P first texts text least.is (λ is. absurd (not_first is)) least.least))
