-- The loop that numbers facts.
use Rattle.std.proofs.Common.{◌≡◌, ℕ, List, [], ◌∷◌, ◌++◌, map, All, Option, Some, None, refl, sym, ap, ◌∙◌, subst, append_assoc}
use Rattle.std.specs.List.{cons_option}
use Rattle.std.proofs.lemmas.List.Elements.{All-head, All-tail}
use Rattle.pub_term.specs.declared.cause.Cause.{Cause}
use Rattle.pub_term.specs.declared.node.NodeName.{NodeName}
use Rattle.pub_term.specs.declared.term.Incompat.{Incompat}
use Rattle.pub_facts.specs.Numbered.{IsFormed, incompat_in, numbered, term_of, with_cause}
use Rattle.pub_facts.specs.declared.fact.Fact.{Fact}

consed : {X : Type 0} (found : Option X) (rest : List X) → cons_option found rest ≡ cons_option found [] ++ rest
consed None rest = refl
consed (Some x) rest = refl

-- what was found for one fact more
pub numbered_step : (number : NodeName → ℕ) (facts next : List (Incompat × Cause)) (one : Fact) (rest : List Fact) (found : Option (Incompat × Cause))
    → found ≡ with_cause one.cause (incompat_in (map (term_of number) one.terms)) → next ≡ facts ++ cons_option found []
    → next ++ numbered number rest ≡ facts ++ numbered number (one ∷ rest)
numbered_step number facts next one rest found is made =
    ap (λ all. all ++ numbered number rest) made
    ∙ (append_assoc facts (cons_option found []) (numbered number rest)
    ∙ ap (λ more. facts ++ more) (sym (consed found (numbered number rest)) ∙ ap (λ f. cons_option f (numbered number rest)) is))

-- well-formed facts that are these
pub formed_at : (sizes : List ℕ) (facts numbers : List (Incompat × Cause)) → facts ≡ numbers
    → All (λ (one : Incompat × Cause). IsFormed sizes one.0.terms) numbers → All (λ (one : Incompat × Cause). IsFormed sizes one.0.terms) facts
formed_at sizes facts numbers is formed = subst (All (λ (one : Incompat × Cause). IsFormed sizes one.0.terms)) (sym is) formed

-- what is said of all holds of the first, and of those behind it
pub first_of_all : {X : Type 0} (P : X → Type 0) (one : X) (rest items : List X) → items ≡ one ∷ rest → All P items → P one
first_of_all P one rest items is all = All-head P one rest (subst (All P) is all)

pub rest_of_all : {X : Type 0} (P : X → Type 0) (one : X) (rest items : List X) → items ≡ one ∷ rest → All P items → All P rest
rest_of_all P one rest items is all = All-tail P one rest (subst (All P) is all)
