-- The least identity, found from the last text to the first, is the least of them all.
use Rattle.std.proofs.Common.{◌≡◌, ℕ, List, [], ◌∷◌, Option, Some, None, Result, Ok, Err, refl, inl, inr}
use Rattle.std.proofs.lemmas.Bool.{cases_Bool}
use Rattle.std.proofs.lemmas.List.Elements.{All-cons, All-nil, All-weaker}
use Rattle.spm_ident.specs.Identity.{identity_of}
use Rattle.spm_ident.specs.declared.identity.IdentFault.{IdentFault}
use Rattle.spm_api.specs.Bodies.{IsLeastIdentity}
use Rattle.spm_api.specs.Said.{least_identity, with_identity}
use Rattle.spm_api.proofs.LeastLemmas.{IsNameless, NotBelow, here, is_below, later, least_unique, not_itself, order}

-- with one more text before the others
with_text : (text : List ℕ) (texts : List (List ℕ)) (least : Option (List ℕ)) (read : Result (List ℕ) IdentFault) → identity_of text ≡ read
    → IsLeastIdentity texts least → IsLeastIdentity (text ∷ texts) (with_identity read least)
with_text text texts None (Err fault) read is = All-cons IsNameless text texts (λ identity ok. cc) is
with_text text texts (Some least) (Err fault) read is = record {
  named = later text texts least is.named;
  lowest = All-cons (NotBelow least) text texts (λ other ok. absurd (cc (ok, read))) is.lowest;
}
with_text text texts None (Ok identity) read is = record {
  named = here text texts identity read;
  lowest = All-cons (NotBelow identity) text texts (λ other ok. let same : other ≡ identity = cc (ok, read) in rw same (not_itself identity))
      (All-weaker IsNameless (NotBelow identity) (λ one nameless other ok. absurd (nameless other ok)) texts is);
}
with_text text texts (Some least) (Ok identity) read is = elim (cases_Bool (is_below least identity)) [
  | inl below ↦ rw below (record {
    named = later text texts least is.named;
    lowest = All-cons (NotBelow least) text texts
        (λ other ok. let same : other ≡ identity = cc (ok, read) in rw same (order.one_way least identity below)) is.lowest;
  })
  | inr not ↦ rw not (record {
    named = here text texts identity read;
    lowest = All-cons (NotBelow identity) text texts (λ other ok. let same : other ≡ identity = cc (ok, read) in rw same (not_itself identity))
        (All-weaker (NotBelow least) (NotBelow identity) (λ one low other ok. order.chain other least identity (low other ok) not) texts is.lowest);
  })
]

-- the definition gives the least
is_least : (texts : List (List ℕ)) → IsLeastIdentity texts (least_identity texts)
is_least [] = All-nil _
is_least (text ∷ texts) = with_text text texts (least_identity texts) (identity_of text) refl (is_least texts)

-- and what is the least is what it gives
pub least_identity_is : (texts : List (List ℕ)) (least : Option (List ℕ)) → IsLeastIdentity texts least → least_identity texts ≡ least
least_identity_is texts least is = least_unique texts (least_identity texts) least (is_least texts) is
