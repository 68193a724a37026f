-- A solver's opening is what a solver is.
use Rattle.std.proofs.Common.{◌≡◌, ℕ, zero, suc, ◌<◌, [], ◌∷◌, refl, arith}
use Rattle.std.proofs.lemmas.List.Elements.{All-cons, All-nil}
use Rattle.pub_facts.specs.Numbered.{number_in}
use Rattle.pub_term.specs.declared.node.NodeName.TheVariants.{Root}
use Rattle.pub_trail.proofs.OpeningLemmas.{opening_history, opening_is}
use Rattle.pub_plain.specs.Answers.{Answers, AreShort, lookups_by}
use Rattle.pub_plain.specs.Invariant.{IsListed, IsPlaced, IsSolver}
use Rattle.pub_plain.specs.Loading.{name_at}
use Rattle.pub_plain.specs.Plain.{opening, root_entry}

-- before any fact the root is named, and chosen
pub opening_solver : (answers : Answers) → AreShort answers → IsSolver answers opening
opening_solver answers short = record {
  nodes = omega arith;
  rest = [];
  rooted = refl;
  listed = All-cons (IsListed answers) Root [] tt (All-nil (IsListed answers));
  short = short;
  sizes = refl;
  placed = All-cons (IsPlaced (lookups_by answers) (Root ∷ []) (2 ∷ [])) root_entry []
      (record { fits = (omega arith, refl); there = refl }) (All-nil (IsPlaced (lookups_by answers) (Root ∷ []) (2 ∷ [])));
  facts = [];
  is = opening_is;
  history = opening_history;
  apart = one;
}
  where
    one : (number : ℕ) → number < 1 → number_in (Root ∷ []) (name_at (Root ∷ []) number) ≡ number
    one zero within = refl
    one (suc number) within = absurd (omega arith)
