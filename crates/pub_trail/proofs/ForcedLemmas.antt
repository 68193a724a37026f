-- What is almost satisfied, by what is kept of the nodes and by the trail.
use Rattle.std.proofs.Common.{◌≡◌, ℕ, ◌+◌, ◌-◌, ◌<◌, ◌≤◌, Bool, true, false, not, cond, List, [], ◌∷◌, ◌++◌, length, get_or, take, Option, Some, None, option_map, refl, sym, ap, ap₂, ◌∙◌, arith}
use Rattle.std.specs.List.{filter}
use Rattle.std.proofs.lemmas.Bool.{cond_both}
use Rattle.std.proofs.lemmas.List.{get_or-map, length-map, length-take-le, take_more}
use Rattle.pub_set.specs.Choices.{ChoiceSet, do_meet, is_within}
use Rattle.pub_term.specs.Known.{almost_on, is_held, known_at}
use Rattle.pub_term.specs.Known as kept
use Rattle.pub_term.specs.Term.{AreNodesAscending, set_at}
use Rattle.pub_term.specs.declared.term.Incompat.{Incompat}
use Rattle.pub_term.specs.declared.term.Term.{Term}
use Rattle.pub_trail.specs.Forced.{kept_almost, kept_forced, the_one}
use Rattle.pub_trail.specs.Invariant.{AreFormed, AreSized}
use Rattle.pub_trail.specs.KnownOf.{AreLeft}
use Rattle.pub_trail.specs.Trail.{accum}
use Rattle.pub_trail.specs.Trail as trails
use Rattle.pub_trail.specs.Turn.{Forced, almost, forced_by, newest_forced, or_some}
use Rattle.pub_trail.specs.Turn as turn
use Rattle.pub_trail.specs.Walk.{terms_of}
use Rattle.pub_trail.specs.declared.trail.Assigned.{Assigned}
use Rattle.pub_trail.proofs.NewestLemmas.{one_is}

-- ---- one incompatibility

-- the node that pub_term answers is that of the one term
pub almost_node : (known : List ChoiceSet) (terms : List Term) → almost_on known terms ≡ option_map (λ (term : Term). term.node) (kept_almost known terms)
almost_node known terms = go (filter (λ term. not (is_held known term)) terms)
  where
    met : (term : Term) (b : Bool)
        → cond b (Some term.node) None ≡ option_map (λ (t : Term). t.node) (cond b (Some term) None)
    met term true = refl
    met term false = refl

    go : (left_open : List Term) → kept.the_one known left_open ≡ option_map (λ (term : Term). term.node) (the_one known left_open)
    go [] = refl
    go (term ∷ []) = met term (do_meet (known_at known term.node) term.choices)
    go (term ∷ next ∷ others) = refl

-- the one term stands among the terms
pub almost_set : (known : List ChoiceSet) (terms : List Term) (term : Term) → AreNodesAscending terms → kept_almost known terms ≡ Some term
    → set_at terms term.node ≡ Some term.choices
almost_set known terms term up found = go (filter (λ t. not (is_held known t)) terms) refl found
  where
    met : (other : Term) (b : Bool) → filter (λ t. not (is_held known t)) terms ≡ other ∷ [] → cond b (Some other) None ≡ Some term
        → set_at terms term.node ≡ Some term.choices
    met other true one same =
        let e : other ≡ term = cc in
        (one_is (λ t. not (is_held known t)) terms term up (one ∙ ap (λ (t : Term). t ∷ []) e)).at
    met other false one same = cc

    go : (left_open : List Term) → filter (λ t. not (is_held known t)) terms ≡ left_open → the_one known left_open ≡ Some term → set_at terms term.node ≡ Some term.choices
    go [] is found = cc
    go (other ∷ []) is found = met other (do_meet (known_at known other.node) other.choices) is found
    go (other ∷ next ∷ others) is found = cc

-- ---- by the trail

-- the terms that aren't held are the same by what is kept and by the trail
open_same : (sizes : List ℕ) (trail : List Assigned) (known : List ChoiceSet) (terms : List Term) → AreLeft sizes trail known → AreSized sizes terms
    → filter (λ term. not (is_held known term)) terms ≡ filter (λ term. not (trails.is_held sizes trail term)) terms
open_same sizes trail known [] left sized = refl
open_same sizes trail known (term ∷ terms) left sized =
    ap₂ (λ s (rest : List Term). cond (not (is_within s term.choices)) (term ∷ rest) rest) (left.sets term.node sized.0.0)
    (open_same sizes trail known terms left sized.1)

-- some of sized terms are sized
AreSized-filter : (sizes : List ℕ) (test : Term → Bool) (terms : List Term) → AreSized sizes terms → AreSized sizes (filter test terms)
AreSized-filter sizes test [] sized = tt
AreSized-filter sizes test (term ∷ terms) sized =
    let rest = AreSized-filter sizes test terms sized.1 in
    cond_both (test term) (term ∷ filter test terms) (filter test terms) (AreSized sizes) (λ _. (sized.0, rest)) (λ _. rest)

-- the one term is the same by what is kept and by the trail
one_same : (sizes : List ℕ) (trail : List Assigned) (known : List ChoiceSet) (left_open : List Term) → AreLeft sizes trail known → AreSized sizes left_open
    → the_one known left_open ≡ turn.the_one sizes trail left_open
one_same sizes trail known [] left sized = refl
one_same sizes trail known (term ∷ []) left sized =
    ap (λ s. cond (do_meet s term.choices) (Some term) None) (left.sets term.node sized.0.0)
one_same sizes trail known (term ∷ next ∷ others) left sized = refl

-- and so is what is almost satisfied
almost_same : (sizes : List ℕ) (trail : List Assigned) (known : List ChoiceSet) (terms : List Term) → AreLeft sizes trail known → AreSized sizes terms
    → kept_almost known terms ≡ almost sizes trail terms
almost_same sizes trail known terms left sized =
    one_same sizes trail known (filter (λ term. not (is_held known term)) terms) left (AreSized-filter sizes (λ term. not (is_held known term)) terms sized)
    ∙ ap (turn.the_one sizes trail) (open_same sizes trail known terms left sized)

-- and the newest of the incompatibilities that are
pub forced_same : (sizes : List ℕ) (trail : List Assigned) (known : List ChoiceSet) (number : ℕ) (incompats : List (List Term)) → AreLeft sizes trail known
    → AreFormed sizes incompats → kept_forced known number incompats ≡ newest_forced sizes trail number incompats
forced_same sizes trail known number [] left formed = refl
forced_same sizes trail known number (terms ∷ others) left formed =
    ap₂ (λ rest term. or_some rest (forced_by number term)) (forced_same sizes trail known (number + 1) others left formed.1)
    (almost_same sizes trail known terms left formed.0.sized)

-- ---- the walk from the end

-- one more incompatibility is the newest, if it is almost satisfied
forced-push : (known : List ChoiceSet) (number : ℕ) (xs : List (List Term)) (x : List Term)
    → kept_forced known number (xs ++ x ∷ []) ≡ or_some (forced_by (number + length xs) (kept_almost known x)) (kept_forced known number xs)
forced-push known number [] x =
    ap (λ n. forced_by n (kept_almost known x)) (omega arith) ∙ sym (or_none (forced_by (number + 0) (kept_almost known x)))
  where
    or_none : (found : Option Forced) → or_some found None ≡ found
    or_none None = refl
    or_none (Some forced) = refl
forced-push known number (y ∷ ys) x =
    ap (λ rest. or_some rest (forced_by number (kept_almost known y))) (forced-push known (number + 1) ys x)
    ∙ or_or (forced_by (number + 1 + length ys) (kept_almost known x)) (kept_forced known (number + 1) ys) (forced_by number (kept_almost known y))
    ∙ ap (λ n. or_some (forced_by n (kept_almost known x)) (kept_forced known number (y ∷ ys))) (omega arith)
  where
    or_or : (a b c : Option Forced) → or_some (or_some a b) c ≡ or_some a (or_some b c)
    or_or None b c = refl
    or_or (Some forced) b c = refl

-- the incompatibilities up to a place: the last, and those before it
forced_split : (known : List ChoiceSet) (incompats : List Incompat) (place : ℕ) (incompat : Incompat) → 0 < place → place ≤ length incompats
    → incompat ≡ get_or incompats (place - 1) incompat
    → kept_forced known 0 (take place (terms_of incompats))
    ≡ or_some (forced_by (place - 1) (kept_almost known incompat.terms)) (kept_forced known 0 (take (place - 1) (terms_of incompats)))
forced_split known incompats place incompat some within at =
    let e : place ≡ place - 1 + 1 = omega arith in
    let long : length (take (place - 1) (terms_of incompats)) ≡ place - 1
    = length-take-le (place - 1) (terms_of incompats) (omega (arith, length-map incompats (λ (i : Incompat). i.terms))) in
    let last : get_or (terms_of incompats) (place - 1) [] ≡ incompat.terms
    = get_or-map (λ (i : Incompat). i.terms) incompats (place - 1) incompat [] (omega arith) ∙ ap (λ (i : Incompat). i.terms) (sym at) in
    ap (λ n. kept_forced known 0 (take n (terms_of incompats))) e
    ∙ ap (kept_forced known 0) (take_more (terms_of incompats) (place - 1) [] (omega (arith, length-map incompats (λ (i : Incompat). i.terms))))
    ∙ ap (λ t. kept_forced known 0 (take (place - 1) (terms_of incompats) ++ t ∷ [])) last
    ∙ forced-push known 0 (take (place - 1) (terms_of incompats)) incompat.terms
    ∙ ap (λ n. or_some (forced_by n (kept_almost known incompat.terms)) (kept_forced known 0 (take (place - 1) (terms_of incompats)))) (omega (arith, long))

-- one that isn't almost satisfied is passed
pub forced_step : (known : List ChoiceSet) (incompats : List Incompat) (place : ℕ) (incompat : Incompat) (whole : Option Forced) → 0 < place → place ≤ length incompats
    → incompat ≡ get_or incompats (place - 1) incompat → almost_on known incompat.terms ≡ None
    → kept_forced known 0 (take place (terms_of incompats)) ≡ whole → kept_forced known 0 (take (place - 1) (terms_of incompats)) ≡ whole
forced_step known incompats place incompat whole some within at none is =
    sym (forced_split known incompats place incompat some within at
    ∙ ap (λ t. or_some (forced_by (place - 1) t) (kept_forced known 0 (take (place - 1) (terms_of incompats))))
    (no_term (kept_almost known incompat.terms) (sym (almost_node known incompat.terms) ∙ none))) ∙ is
  where
    no_term : (found : Option Term) → option_map (λ (term : Term). term.node) found ≡ None → found ≡ None
    no_term None is = refl
    no_term (Some term) is = cc

-- the term on the node that is answered
pub record IsForced (known : List ChoiceSet) (terms : List Term) (node : ℕ) : Type 0 where
  pub set : ChoiceSet
  pub at : set_at terms node ≡ Some set
  pub found : kept_almost known terms ≡ Some (record { node = node; choices = set })

-- an incompatibility that is almost satisfied has it
pub is_forced : (known : List ChoiceSet) (terms : List Term) (node : ℕ) → AreNodesAscending terms → almost_on known terms ≡ Some node → IsForced known terms node
is_forced known terms node up on = go (kept_almost known terms) refl (sym (almost_node known terms) ∙ on)
  where
    go : (found : Option Term) → kept_almost known terms ≡ found → option_map (λ (term : Term). term.node) found ≡ Some node → IsForced known terms node
    go None is same = cc
    go (Some term) is same =
        let e : term.node ≡ node = cc in
        record {
          set = term.choices;
          at = ap (set_at terms) (sym e) ∙ almost_set known terms term up is;
          found = is ∙ ap (λ n. Some (with_node n)) e;
        }
      where
        with_node : ℕ → Term
        with_node n = record { node = n; choices = term.choices }

-- the newest that is almost satisfied is found
pub forced_found : (known : List ChoiceSet) (incompats : List Incompat) (place : ℕ) (incompat : Incompat) (node : ℕ) (set : ChoiceSet) (whole : Option Forced)
    → 0 < place → place ≤ length incompats → incompat ≡ get_or incompats (place - 1) incompat
    → kept_almost known incompat.terms ≡ Some (record { node = node; choices = set })
    → kept_forced known 0 (take place (terms_of incompats)) ≡ whole
    → whole ≡ Some (record { number = place - 1; term = record { node = node; choices = set } })
forced_found known incompats place incompat node set whole some within at found is =
    sym is ∙ forced_split known incompats place incompat some within at
    ∙ ap (λ t. or_some (forced_by (place - 1) t) (kept_forced known 0 (take (place - 1) (terms_of incompats)))) found
