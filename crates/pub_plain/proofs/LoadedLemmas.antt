-- What loads brought: each incompatibility that comes from a load is one of the facts of a load that was done, and whoever violates none of
-- these violates no incompatibility.
use Rattle.std.proofs.Common.{◌≡◌, ℕ, zero, suc, ◌<◌, List, [], ◌∷◌, ◌++◌, map, length, slice_index_or, Contains, Option, Some, None, refl, sym, ap, ap₂, ◌∙◌, subst, inl, inr, arith, append-nil, length-append}
use Rattle.std.specs.List.{cons_option}
use Rattle.std.proofs.lemmas.List.{get_or_append_left}
use Rattle.std.proofs.lemmas.List.Elements.{Contains-append_left, Contains-append_right}
use Rattle.pub_facts.specs.Catalogue.{Job}
use Rattle.pub_facts.specs.Facts.{load_of}
use Rattle.pub_facts.specs.Numbered.{incompat_in, incompat_of, number_in, numbered, sizes_of, term_of, with_cause}
use Rattle.pub_facts.specs.declared.fact.Fact.{Fact}
use Rattle.pub_facts.specs.declared.fact.Written.{Written}
use Rattle.pub_facts.proofs.FactLemmas.{written_there}
use Rattle.pub_facts.proofs.Members.{contains_cases, contains_head, contains_nothing, contains_tail}
use Rattle.pub_facts.proofs.NamedLemmas.{facts_are_named}
use Rattle.pub_term.specs.declared.cause.Cause.{Cause}
use Rattle.pub_term.specs.declared.node.NodeName.{NodeName}
use Rattle.pub_term.specs.declared.node.NodeName.TheVariants.{Root}
use Rattle.pub_term.specs.declared.term.Incompat.{Incompat}
use Rattle.pub_term.specs.declared.term.Term.{Term}
use Rattle.pub_trail.specs.Invariant.{IsAssignment, ViolatesNone}
use Rattle.pub_trail.specs.Outcome.{IsOutcome}
use Rattle.pub_trail.specs.Required.{loaded_facts}
use Rattle.pub_trail.specs.Turn.{Brings, Conflict, Lacks, Learns, Loading, Needs, Passes, Refuted, Refutes, Selected, State, Step, TooWide, Turn, Went, after_conflict, after_load, conflict, learned, learned_origin, no_origin, root_place, turn_of}
use Rattle.pub_trail.specs.declared.origin.Origin.{Origin}
use Rattle.pub_trail.specs.declared.origin.Origin.TheVariants.{OfConflict, OfLoad}
use Rattle.pub_trail.specs.declared.trail.Place.{Place}
use Rattle.pub_trail.proofs.ConflictLemmas.{conflict_outcome}
use Rattle.pub_trail.proofs.GrowLemmas.{Extends-append, IsAssignment-shrink, ViolatesNone-append, ViolatesNone-parts}
use Rattle.pub_trail.proofs.TurnLemmas.{conflict_asked, learned_none, turn_cases}
use Rattle.pub_plain.specs.Answers.{Answers, AreShort, catalogue_by, lookups_by}
use Rattle.pub_plain.specs.Choosing.{Pins}
use Rattle.pub_plain.specs.Invariant.{IsSolver}
use Rattle.pub_plain.specs.Loading.{brought, cause_of, facts_at, load_at, loading, named_first, terms_of}
use Rattle.pub_plain.specs.Plain.{opening, plain_after, rules_of}
use Rattle.pub_plain.proofs.ApartLemmas.{number_more}
use Rattle.pub_plain.proofs.NextLemmas.{next_is}
use Rattle.pub_plain.proofs.ReadLemmas.{loading_read}
use Rattle.pub_plain.proofs.RunLemmas.{run_before, run_solver}

-- ---- incompatibilities with their origins

-- each incompatibility that a load brought passes with its cause
abbrev pub AreGiven : (List Term → Cause → Type 0) → List (List Term) → List Origin → Type 0
AreGiven P [] [] = Unit {0}
AreGiven P [] (origin ∷ origins) = ⊥
AreGiven P (terms ∷ incompats) [] = ⊥
AreGiven P (terms ∷ incompats) (OfLoad cause ∷ origins) = P terms cause × AreGiven P incompats origins
AreGiven P (terms ∷ incompats) (OfConflict first steps ∷ origins) = AreGiven P incompats origins

-- and so do those of two lists behind one another
given_append : (P : List Term → Cause → Type 0) (xs ys : List (List Term)) (os ps : List Origin) → AreGiven P xs os → AreGiven P ys ps
    → AreGiven P (xs ++ ys) (os ++ ps)
given_append P [] ys [] ps first second = second
given_append P [] ys (o ∷ os) ps first second = absurd first
given_append P (x ∷ xs) ys [] ps first second = absurd first
given_append P (x ∷ xs) ys (OfLoad cause ∷ os) ps first second = (first.0, given_append P xs ys os ps first.1 second)
given_append P (x ∷ xs) ys (OfConflict number steps ∷ os) ps first second = given_append P xs ys os ps first second

-- they pass what is weaker
given_weaker : (P Q : List Term → Cause → Type 0) (xs : List (List Term)) (os : List Origin)
    → ((terms : List Term) (cause : Cause) → P terms cause → Q terms cause) → AreGiven P xs os → AreGiven Q xs os
given_weaker P Q [] [] implies are = tt
given_weaker P Q [] (o ∷ os) implies are = absurd are
given_weaker P Q (x ∷ xs) [] implies are = absurd are
given_weaker P Q (x ∷ xs) (OfLoad cause ∷ os) implies are = (implies x cause are.0, given_weaker P Q xs os implies are.1)
given_weaker P Q (x ∷ xs) (OfConflict number steps ∷ os) implies are = given_weaker P Q xs os implies are

-- the one of a number passes, if a load brought it
pub given_at : (P : List Term → Cause → Type 0) (xs : List (List Term)) (os : List Origin) (number : ℕ) (cause : Cause) → AreGiven P xs os
    → number < length xs → slice_index_or os number no_origin ≡ OfLoad cause → P (slice_index_or xs number []) cause
given_at P [] os number cause are within is = absurd (omega (arith, within))
given_at P (x ∷ xs) [] number cause are within is = absurd are
given_at P (x ∷ xs) (OfLoad why ∷ os) zero cause are within is = (let e : why ≡ cause = cc in subst (P x) e are.0)
given_at P (x ∷ xs) (OfConflict first steps ∷ os) zero cause are within is = cc
given_at P (x ∷ xs) (OfLoad why ∷ os) (suc number) cause are within is = given_at P xs os number cause are.1 (omega (arith, within)) is
given_at P (x ∷ xs) (OfConflict first steps ∷ os) (suc number) cause are within is = given_at P xs os number cause are (omega (arith, within)) is

-- each of those that loads brought has a cause
pub loaded_given : (P : List Term → Cause → Type 0) (xs : List (List Term)) (os : List Origin) (terms : List Term) → AreGiven P xs os
    → Contains (loaded_facts xs os) terms → (cause : Cause) × P terms cause
loaded_given P [] os terms are here = absurd (contains_nothing terms here)
loaded_given P (x ∷ xs) [] terms are here = absurd are
loaded_given P (x ∷ xs) (OfLoad cause ∷ os) terms are here = elim (contains_cases x terms (loaded_facts xs os) here) [
  | inl same ↦ (cause, subst (λ ts. P ts cause) same are.0)
  | inr later ↦ loaded_given P xs os terms are.1 later
]
loaded_given P (x ∷ xs) (OfConflict first steps ∷ os) terms are here = loaded_given P xs os terms are here

-- those that loads brought of two lists behind one another
pub loaded_append : (P : List Term → Cause → Type 0) (xs ys : List (List Term)) (os ps : List Origin) → AreGiven P xs os
    → loaded_facts (xs ++ ys) (os ++ ps) ≡ loaded_facts xs os ++ loaded_facts ys ps
loaded_append P [] ys [] ps are = refl
loaded_append P [] ys (o ∷ os) ps are = absurd are
loaded_append P (x ∷ xs) ys [] ps are = absurd are
loaded_append P (x ∷ xs) ys (OfLoad cause ∷ os) ps are = ap (λ all. x ∷ all) (loaded_append P xs ys os ps are.1)
loaded_append P (x ∷ xs) ys (OfConflict first steps ∷ os) ps are = loaded_append P xs ys os ps are

-- all of a load's are brought by loads
pub loaded_all : (all : List (Incompat × Cause)) → loaded_facts (map terms_of all) (map OfLoad (map cause_of all)) ≡ map terms_of all
loaded_all [] = refl
loaded_all (one ∷ all) = ap (λ others. terms_of one ∷ others) (loaded_all all)

-- and pass if each of them does
given_all : (P : List Term → Cause → Type 0) (all : List (Incompat × Cause))
    → ((one : Incompat × Cause) → Contains all one → P (terms_of one) (cause_of one)) → AreGiven P (map terms_of all) (map OfLoad (map cause_of all))
given_all P [] each = tt
given_all P (one ∷ all) each = (each one (contains_head one all), given_all P all (λ other there. each other (contains_tail one other all there)))

-- what is learned comes from no load
given_learned : (P : List Term → Cause → Type 0) (xs : List (List Term)) (os : List Origin) (terms : List Term) (first : ℕ) (steps : List Step)
    → AreGiven P xs os → AreGiven P (learned xs terms steps) (learned_origin os first steps)
given_learned P xs os terms first [] are = are
given_learned P xs os terms first (step ∷ steps) are = given_append P xs (terms ∷ []) os (OfConflict first (step ∷ steps) ∷ []) are tt

-- and changes nothing of what loads brought
pub loaded_learned : (P : List Term → Cause → Type 0) (xs : List (List Term)) (os : List Origin) (terms : List Term) (first : ℕ) (steps : List Step)
    → AreGiven P xs os → loaded_facts (learned xs terms steps) (learned_origin os first steps) ≡ loaded_facts xs os
loaded_learned P xs os terms first [] are = refl
loaded_learned P xs os terms first (step ∷ steps) are =
    loaded_append P xs (terms ∷ []) os (OfConflict first (step ∷ steps) ∷ []) are ∙ append-nil (loaded_facts xs os)

-- ---- facts by numbers

-- a fact that makes this incompatibility with its cause
pub record IsMadeOf (number : NodeName → ℕ) (facts : List Fact) (terms : List Term) (cause : Cause) : Type 0 where
  pub fact : Fact
  pub given : Contains facts fact
  pub is : incompat_of number fact ≡ Some terms
  pub why : fact.cause ≡ cause

-- there is one for each incompatibility of facts by numbers
pub from_numbered : (number : NodeName → ℕ) (facts : List Fact) (one : Incompat × Cause) → Contains (numbered number facts) one
    → IsMadeOf number facts (terms_of one) (cause_of one)
from_numbered number [] one here = absurd (contains_nothing one here)
from_numbered number (first ∷ facts) one here =
    go (λ there.
    let later = from_numbered number facts one there in
    record { fact = later.fact; given = contains_tail first later.fact facts later.given; is = later.is; why = later.why })
    (incompat_of number first) refl here
  where
    go : (Contains (numbered number facts) one → IsMadeOf number (first ∷ facts) (terms_of one) (cause_of one)) → (found : Option (List Term))
        → incompat_of number first ≡ found → Contains (cons_option (with_cause first.cause found) (numbered number facts)) one
        → IsMadeOf number (first ∷ facts) (terms_of one) (cause_of one)
    go later None is here = later here
    go later (Some terms) is here = elim (contains_cases (record { terms = terms }, first.cause) one (numbered number facts) here) [
      | inl same ↦ record {
        fact = first;
        given = contains_head first facts;
        is = is ∙ ap (λ (made : Incompat × Cause). Some (terms_of made)) same;
        why = ap cause_of same;
      }
      | inr there ↦ later there
    ]

-- and each fact that makes one is among the facts by numbers
pub to_numbered : (number : NodeName → ℕ) (facts : List Fact) (one : Fact) (terms : List Term) → Contains facts one
    → incompat_of number one ≡ Some terms → Contains (numbered number facts) (record { terms = terms }, one.cause)
to_numbered number [] one terms here is = absurd (contains_nothing one here)
to_numbered number (first ∷ facts) one terms here is = elim (contains_cases first one facts here) [
  | inl same ↦
      (let found : incompat_of number first ≡ Some terms = ap (incompat_of number) same ∙ is in
      subst (λ made. Contains (cons_option (with_cause first.cause made) (numbered number facts)) (record { terms = terms }, one.cause)) (sym found)
      (subst (λ (f : Fact). Contains ((record { terms = terms }, first.cause) ∷ numbered number facts) (record { terms = terms }, f.cause)) same
      (contains_head (record { terms = terms }, first.cause) (numbered number facts))))
  | inr there ↦
      (let later : Contains (numbered number facts) (record { terms = terms }, one.cause) = to_numbered number facts one terms there is in
      behind (incompat_of number first) later)
]
  where
    behind : (found : Option (List Term)) → Contains (numbered number facts) (record { terms = terms }, one.cause)
        → Contains (cons_option (with_cause first.cause found) (numbered number facts)) (record { terms = terms }, one.cause)
    behind None there = there
    behind (Some others) there =
        contains_tail (record { terms = others }, first.cause) (record { terms = terms }, one.cause) (numbered number facts) there

-- ---- what a load that was done brought

-- terms with a cause that are a fact of a load that was done, by the numbers of its nodes
pub record IsOfLoad (job : Job) (answers : Answers) (names : List NodeName) (loads : List Place) (terms : List Term) (cause : Cause) : Type 0 where
  pub place : Place
  pub done : Contains loads place
  pub known : place.node < length names
  pub fact : Fact
  pub given : Contains (facts_at job (catalogue_by answers) (load_at names place)) fact
  pub named : (term : Written) → Contains fact.terms term → number_in names term.node < length names
  pub is : incompat_of (number_in names) fact ≡ Some terms
  pub why : fact.cause ≡ cause

-- terms keep their numbers over more names
pub terms_more : (names more : List NodeName) (terms : List Written) → ((term : Written) → Contains terms term → number_in names term.node < length names)
    → map (term_of (number_in (names ++ more))) terms ≡ map (term_of (number_in names)) terms
terms_more names more [] named = refl
terms_more names more (term ∷ terms) named =
    ap₂ (λ (first : Term) (others : List Term). first ∷ others)
    (ap (λ n. record { node = n; choices = term.choices }) (number_more names more term.node (named term (contains_head term terms))))
    (terms_more names more terms (λ other there. named other (contains_tail term other terms there)))

-- such terms stay so over more names and loads
of_load_more : (job : Job) (answers : Answers) (names more : List NodeName) (loads others : List Place) (terms : List Term) (cause : Cause)
    → IsOfLoad job answers names loads terms cause → IsOfLoad job answers (names ++ more) (loads ++ others) terms cause
of_load_more job answers names more loads others terms cause it =
    let known = it.known in
    record {
      place = it.place;
      done = Contains-append_left loads others it.place it.done;
      known = omega (arith, known, length-append names more);
      fact = it.fact;
      given = subst (λ name. Contains (facts_at job (catalogue_by answers) (load_of name it.place.choice)) it.fact)
          (sym (get_or_append_left names more Root it.place.node it.known)) it.given;
      named = λ term there.
          let below = it.named term there in
          omega (arith, below, number_more names more term.node below, length-append names more);
      is = ap incompat_in (terms_more names more it.fact.terms it.named) ∙ it.is;
      why = it.why;
    }

-- each fact that a load brings is so once it is done
brought_of_load : (job : Job) (answers : Answers) (names : List NodeName) (loads : List Place) (place : Place) → place.node < length names
    → (one : Incompat × Cause)
    → Contains (numbered (number_in (names ++ named_first job (catalogue_by answers) names (load_at names place)))
    (facts_at job (catalogue_by answers) (load_at names place))) one
    → IsOfLoad job answers (names ++ named_first job (catalogue_by answers) names (load_at names place)) (loads ++ place ∷ []) (terms_of one)
    (cause_of one)
brought_of_load job answers names loads place known one here =
    let facts = facts_at job (catalogue_by answers) (load_at names place) in
    let new = named_first job (catalogue_by answers) names (load_at names place) in
    let made = from_numbered (number_in (names ++ new)) facts one here in
    record {
      place = place;
      done = Contains-append_right loads (place ∷ []) place (contains_head place []);
      known = omega (arith, known, length-append names new);
      fact = made.fact;
      given = subst (λ name. Contains (facts_at job (catalogue_by answers) (load_of name place.choice)) made.fact)
          (sym (get_or_append_left names new Root place.node known)) made.given;
      named = λ term there. facts_are_named names facts term.node (written_there facts made.fact term made.given there);
      is = made.is;
      why = made.why;
    }

-- ---- along a run

-- the incompatibilities that loads brought are facts of loads that were done, and the others follow from them
pub record AreLoaded (job : Job) (answers : Answers) (state : State) : Type 0 where
  pub given : AreGiven (IsOfLoad job answers state.names state.loads) state.incompats state.origins
  pub follows : (assignment : ℕ → ℕ) → IsAssignment state.sizes assignment → ViolatesNone (loaded_facts state.incompats state.origins) assignment
      → ViolatesNone state.incompats assignment

-- it is so after a turn that goes on
abbrev AreLoadedAfter : Job → Answers → Turn → Type 0
AreLoadedAfter job answers (Went next) = AreLoaded job answers next
AreLoadedAfter job answers (Needs asked) = Unit {0}
AreLoadedAfter job answers (TooWide wide) = Unit {0}
AreLoadedAfter job answers Selected = Unit {0}
AreLoadedAfter job answers (Refuted terms first steps) = Unit {0}

-- a load keeps it, by what it brings
brought_loads : (job : Job) (answers : Answers) (state : State) (place : Place) → AreLoaded job answers state → place.node < length state.names
    → AreLoadedAfter job answers
    (after_load state place
    (Brings (brought (lookups_by answers) (named_first job (catalogue_by answers) state.names (load_at state.names place))
    (numbered (number_in (state.names ++ named_first job (catalogue_by answers) state.names (load_at state.names place)))
    (facts_at job (catalogue_by answers) (load_at state.names place))))))
brought_loads job answers state place are known =
    let c = catalogue_by answers in
    let load = load_at state.names place in
    let new = named_first job c state.names load in
    let all = numbered (number_in (state.names ++ new)) (facts_at job c load) in
    let sizes = sizes_of (lookups_by answers) new in
    let old = IsOfLoad job answers state.names state.loads in
    let P = IsOfLoad job answers (state.names ++ new) (state.loads ++ place ∷ []) in
    record {
      given = given_append P state.incompats (map terms_of all) state.origins (map OfLoad (map cause_of all))
          (given_weaker old P state.incompats state.origins
          (λ terms cause it. of_load_more job answers state.names new state.loads (place ∷ []) terms cause it) are.given)
          (given_all P all (λ one there. brought_of_load job answers state.names state.loads place known one there));
      follows = λ assignment assigns none.
          let parts = ViolatesNone-parts (loaded_facts state.incompats state.origins) (map terms_of all) assignment
          (subst (λ facts. ViolatesNone facts assignment)
          (loaded_append old state.incompats (map terms_of all) state.origins (map OfLoad (map cause_of all)) are.given
          ∙ ap (λ facts. loaded_facts state.incompats state.origins ++ facts) (loaded_all all)) none) in
          ViolatesNone-append state.incompats (map terms_of all) assignment
          (are.follows assignment
          (IsAssignment-shrink state.sizes (state.sizes ++ sizes) assignment (Extends-append 0 state.sizes sizes) assigns) parts.0)
          parts.1;
    }

-- a load keeps it
load_loads : (job : Job) (answers : Answers) (state : State) (place : Place) → AreLoaded job answers state → place.node < length state.names
    → (loaded : Loading) → loading job answers state.names (load_at state.names place) ≡ loaded
    → AreLoadedAfter job answers (after_load state place loaded)
load_loads job answers state place are known (Lacks asked) at = tt
load_loads job answers state place are known (Passes wide) at = tt
load_loads job answers state place are known (Brings loaded) at =
    let it = loading_read job answers state.names (load_at state.names place) loaded at in
    subst (λ brings. AreLoadedAfter job answers (after_load state place (Brings brings))) (sym it.is)
    (brought_loads job answers state place are known)

-- a conflict does
conflict_loads : (job : Job) (answers : Answers) (state : State) (first : ℕ) → AreLoaded job answers state → (outcome : Conflict)
    → IsOutcome state.sizes state.incompats state.trail outcome → AreLoadedAfter job answers (after_conflict state first outcome)
conflict_loads job answers state first are (Refutes terms steps) out = tt
conflict_loads job answers state first are (Learns terms steps level) out =
    let P = IsOfLoad job answers state.names state.loads in
    record {
      given = given_learned P state.incompats state.origins terms first steps are.given;
      follows = λ assignment assigns none.
          let all = are.follows assignment assigns
          (subst (λ facts. ViolatesNone facts assignment) (loaded_learned P state.incompats state.origins terms first steps are.given) none) in
          learned_none state.incompats terms steps assignment all (out.follows assignment assigns all);
    }

-- names that begin with the root have a first one
pub some_names : (names rest : List NodeName) → names ≡ Root ∷ rest → 0 < length names
some_names names rest rooted = subst (λ (all : List NodeName). 0 < length all) (sym rooted) (omega arith)

-- each turn does
turn_loads : (job : Job) (pins : Pins) (answers : Answers) (state : State) → IsSolver answers state → AreLoaded job answers state
    → AreLoadedAfter job answers (turn_of (rules_of job pins answers) state)
turn_loads job pins answers state is are = turn_cases (rules_of job pins answers) state (AreLoadedAfter job answers) (record {
  loads_root = λ other.
      load_loads job answers state root_place are (some_names state.names is.rest is.rooted)
      (loading job answers state.names (load_at state.names root_place)) refl;
  loads = λ next settled at other.
      let it = next_is pins (lookups_by answers) state next at in
      let known : next.place.node < length state.names = omega (arith, it.place_node, it.known) in
      load_loads job answers state next.place are known (loading job answers state.names (load_at state.names next.place)) refl;
  conflicts = λ number found.
      let first = slice_index_or state.incompats number [] in
      let asked = conflict_asked is.facts state number is.is found in
      conflict_loads job answers state number are (conflict state.sizes state.incompats state.trail first [])
      (conflict_outcome state.sizes state.incompats state.trail first [] asked);
  forces = λ forced quiet found. record { given = are.given; follows = are.follows };
  decides = λ next settled at loaded. record { given = are.given; follows = are.follows };
  selects = λ settled at. tt;
})

-- so it is at each state that a run goes to
pub run_loaded : (job : Job) (pins : Pins) (answers : Answers) (n : ℕ) (state : State) → AreShort answers
    → plain_after job pins answers n ≡ Went state → AreLoaded job answers state
run_loaded job pins answers zero state short went =
    let same : opening ≡ state = cc in
    subst (AreLoaded job answers) same (record { given = tt; follows = λ assignment assigns none. tt })
run_loaded job pins answers (suc n) state short went =
    let before = run_before (rules_of job pins answers) n (Went opening) state went in
    subst (AreLoadedAfter job answers) before.goes
    (turn_loads job pins answers before.state (run_solver job pins answers n before.state short before.went)
    (run_loaded job pins answers n before.state short before.went))
