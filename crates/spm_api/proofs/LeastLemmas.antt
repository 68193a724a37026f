-- The least of the texts that are identities, found in one pass, is the least of them all; and there is one.
use Rattle.std.proofs.Common.{◌≡◌, ◌≢◌, ℕ, suc, Bool, false, List, [], ◌∷◌, Option, Some, None, IfSome, Result, Ok, Err, refl, ap, ◌∙◌, arith, inl, inr}
use Rattle.std.specs.Prelude.{◌⊎◌, All}
use Rattle.std.proofs.lemmas.Bool.{cases_Bool}
use Rattle.std.proofs.lemmas.List.Elements.{All-cons, All-contains, All-nil}
use Rattle.std.proofs.lemmas.List.Sorted.{ranks_by}
use Rattle.std.proofs.lemmas.Slice.Eq.{bytes_eq-Decides}
use Rattle.std.specs.Cmp.{IsStrictWeakOrder}
use Rattle.std.specs.Cmp.Lexicographic.{nat_list_cmp_total, slice_cmp, texts_ties}
use Rattle.std.specs.List.{Contains}
use Rattle.std.specs.Ordering.{is_eq, is_lt, nat_cmp, ordering_reverse}
use Rattle.std.specs.Result.{result_ok}
use Rattle.std.specs.declared.cmp.Ordering.{Ordering}
use Rattle.std.specs.declared.cmp.Ordering.TheVariants.{Less, Equal, Greater}
use Rattle.spm_ident.specs.Identity.{identity_of}
use Rattle.spm_ident.specs.declared.identity.IdentFault.{IdentFault}
use Rattle.spm_api.specs.Bodies.{IsLeastIdentity, lesser}

-- an identity below another by its bytes
abbrev pub is_below : List ℕ → List ℕ → Bool
is_below first second = is_lt (slice_cmp nat_cmp first second)

-- texts have an order
pub order : IsStrictWeakOrder is_below
order = ranks_by nat_list_cmp_total (λ (text : List ℕ). text)

-- a text isn't below itself
pub not_itself : (text : List ℕ) → is_below text text ≡ false
not_itself text = elim (cases_Bool (is_below text text)) [ inl is ↦ order.one_way text text is | inr not ↦ not ]

-- ---- one pass

-- the least so far, with what one text names
abbrev pub with_identity : Option (List ℕ) → Option (List ℕ) → Option (List ℕ)
with_identity None least = least
with_identity (Some identity) least = Some (lesser identity least)

-- the least of the texts that are identities, after this one
abbrev pub least_after : Option (List ℕ) → List (List ℕ) → Option (List ℕ)
least_after least [] = least
least_after least (text ∷ texts) = least_after (with_identity (result_ok (identity_of text)) least) texts

-- one of the texts names it
abbrev pub IsNamed : List (List ℕ) → List ℕ → Type 0
IsNamed texts identity = (text : List ℕ) × Contains texts text × (identity_of text ≡ Ok identity)

-- a text that is no identity
abbrev pub IsNameless : List ℕ → Type 0
IsNameless text = (identity : List ℕ) → identity_of text ≢ Ok identity

-- what a text names isn't below the least
abbrev pub NotBelow : List ℕ → List ℕ → Type 0
NotBelow least text = (other : List ℕ) → identity_of text ≡ Ok other → is_below other least ≡ false

-- what is found after this one: it, or one that is named, below neither it nor another that is named
abbrev IsLeastAfter : Option (List ℕ) → List (List ℕ) → Option (List ℕ) → Type 0
IsLeastAfter before texts None = (before ≡ None) × All IsNameless texts
IsLeastAfter before texts (Some least) =
    ((before ≡ Some least) ⊎ IsNamed texts least) × IfSome before (λ earlier. is_below earlier least ≡ false) × All (NotBelow least) texts

-- what is named behind a text is named with it
pub later : (text : List ℕ) (texts : List (List ℕ)) (identity : List ℕ) → IsNamed texts identity → IsNamed (text ∷ texts) identity
later text texts identity named = (named.0, (suc named.1.0, omega (arith, named.1.1), named.1.2), named.2)

-- what the first text is, is named
pub here : (text : List ℕ) (texts : List (List ℕ)) (identity : List ℕ) → identity_of text ≡ Ok identity → IsNamed (text ∷ texts) identity
here text texts identity is = (text, (0, omega arith, refl), is)

-- the lesser is one of the two, and neither is below it
lesser_is : (identity : List ℕ) (before : Option (List ℕ)) → (lesser identity before ≡ identity) ⊎ (before ≡ Some (lesser identity before))
lesser_is identity None = inl refl
lesser_is identity (Some other) = elim (cases_Bool (is_below other identity)) [ inl is ↦ rw is (inr refl) | inr not ↦ rw not (inl refl) ]

-- the identity isn't below the lesser
identity_above : (identity : List ℕ) (before : Option (List ℕ)) → is_below identity (lesser identity before) ≡ false
identity_above identity None = not_itself identity
identity_above identity (Some other) =
    elim (cases_Bool (is_below other identity)) [ inl is ↦ rw is (order.one_way other identity is) | inr not ↦ rw not (not_itself identity) ]

-- nor is the one before
earlier_above : (identity other : List ℕ) → is_below other (lesser identity (Some other)) ≡ false
earlier_above identity other = elim (cases_Bool (is_below other identity)) [ inl is ↦ rw is (not_itself other) | inr not ↦ rw not not ]

-- what isn't above the lesser isn't above the one before
still_above : (identity : List ℕ) (before : Option (List ℕ)) (least : List ℕ) → is_below (lesser identity before) least ≡ false
    → IfSome before (λ earlier. is_below earlier least ≡ false)
still_above identity None least low = tt
still_above identity (Some other) least low = order.chain other (lesser identity (Some other)) least (earlier_above identity other) low

-- the lesser that is found is the earlier one, or that of the text
found_so : (before : Option (List ℕ)) (text : List ℕ) (texts : List (List ℕ)) (identity least : List ℕ) → identity_of text ≡ Ok identity
    → (Some (lesser identity before) ≡ Some least) ⊎ IsNamed texts least → (before ≡ Some least) ⊎ IsNamed (text ∷ texts) least
found_so before text texts identity least read (inr named) = inr (later text texts least named)
found_so before text texts identity least read (inl same) = elim (lesser_is identity before) [
  | inl own ↦ inr (here text texts least (let e : identity ≡ least = cc in rw (← e) read))
  | inr earlier ↦ inl (earlier ∙ same)
]

-- one more text before the others
goes_on : (before : Option (List ℕ)) (text : List ℕ) (texts : List (List ℕ)) (found : Option (List ℕ)) (read : Result (List ℕ) IdentFault) → identity_of text ≡ read
    → IsLeastAfter (with_identity (result_ok read) before) texts found → IsLeastAfter before (text ∷ texts) found
goes_on before text texts None (Err fault) read is = (is.0, All-cons IsNameless text texts (λ identity ok. cc) is.1)
goes_on before text texts None (Ok identity) read is = absurd (cc is.0)
goes_on before text texts (Some least) (Err fault) read is = (
  elim is.0 [ inl earlier ↦ inl earlier | inr named ↦ inr (later text texts least named) ],
  is.1,
  All-cons (NotBelow least) text texts (λ other ok. absurd (cc (ok, read))) is.2,
)
goes_on before text texts (Some least) (Ok identity) read is = (
  found_so before text texts identity least read is.0,
  still_above identity before least is.1,
  All-cons (NotBelow least) text texts
      (λ other ok. let same : other ≡ identity = cc (ok, read) in rw same (order.chain identity (lesser identity before) least (identity_above identity before) is.1)) is.2,
)

-- what one pass finds, after any one
least_is : (before : Option (List ℕ)) (texts : List (List ℕ)) → IsLeastAfter before texts (least_after before texts)
least_is None [] = (refl, All-nil _)
least_is (Some earlier) [] = (inl refl, not_itself earlier, All-nil _)
least_is before (text ∷ texts) = goes_on before text texts _ (identity_of text) refl (least_is (with_identity (result_ok (identity_of text)) before) texts)

-- after none, that is the least
least_of_all : (texts : List (List ℕ)) (found : Option (List ℕ)) → IsLeastAfter None texts found → IsLeastIdentity texts found
least_of_all texts None is = is.1
least_of_all texts (Some least) is = record { named = elim is.0 [ inl none ↦ absurd (cc none) | inr named ↦ named ]; lowest = is.2 }

-- what one pass finds is the least
pub least_found : (texts : List (List ℕ)) (found : Option (List ℕ)) → found ≡ least_after None texts → IsLeastIdentity texts found
least_found texts found same = rw same (least_of_all texts _ (least_is None texts))

-- ---- there is one

-- texts of which neither is below the other are one
same_order : (first second : List ℕ) (found : Ordering) → slice_cmp nat_cmp first second ≡ found → is_lt found ≡ false → is_below second first ≡ false
    → first ≡ second
same_order first second Less is below above = absurd (cc below)
same_order first second Equal is below above = (bytes_eq-Decides first second).0 (texts_ties first second ∙ ap is_eq is)
same_order first second Greater is below above =
    absurd (let other : slice_cmp nat_cmp second first ≡ Less = nat_list_cmp_total.antisymm second first ∙ ap ordering_reverse is in cc (above, ap is_lt other))

-- texts have one least identity
pub least_unique : (texts : List (List ℕ)) (first second : Option (List ℕ)) → IsLeastIdentity texts first → IsLeastIdentity texts second → first ≡ second
least_unique texts None None a b = refl
least_unique texts None (Some second) a b = absurd (All-contains IsNameless texts b.named.0 a b.named.1 second b.named.2)
least_unique texts (Some first) None a b = absurd (All-contains IsNameless texts a.named.0 b a.named.1 first a.named.2)
least_unique texts (Some first) (Some second) a b =
    ap Some (same_order first second _ refl
    (All-contains (NotBelow second) texts a.named.0 b.lowest a.named.1 first a.named.2)
    (All-contains (NotBelow first) texts b.named.0 a.lowest b.named.1 second b.named.2))
