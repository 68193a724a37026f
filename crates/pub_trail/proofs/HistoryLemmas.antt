-- Each turn keeps where the incompatibilities come from, and a refutation's lines are checked.
use Rattle.std.proofs.Common.{Bool, ◌≡◌, ℕ, zero, suc, ◌-◌, ◌<◌, ◌≤◌, true, false, List, [], ◌∷◌, ◌++◌, length, get_or, map, slice_index_or, Contains, refl, sym, ap, ◌∙◌, subst, inl, inr, arith, length-append, append-nil}
use Rattle.std.proofs.lemmas.Bool.{cases_lt, false≢true}
use Rattle.std.proofs.lemmas.List.{get_or-append_right, get_or_append_left, get_or_at, length-map}
use Rattle.std.proofs.lemmas.List.Elements.{Contains-append_cases, Contains-append_left, Contains-append_right, Contains-get_or}
use Rattle.pub_term.specs.Resolvent.{CanResolve, resolvent}
use Rattle.pub_term.specs.declared.cause.Cause.{Cause}
use Rattle.pub_term.specs.declared.term.Term.{Term}
use Rattle.pub_trail.specs.Derived.{AreBelow, IsChain, IsEnd, IsHistory, IsOrigin, Given, derivation, put, put_origin, write}
use Rattle.pub_trail.specs.Invariant.{AreRules, IsFormed, IsState, Limits}
use Rattle.pub_trail.specs.Outcome.{IsOutcome}
use Rattle.pub_trail.specs.Turn.{Conflict, Refutes, Learns, Loaded, Loading, Lacks, Passes, Brings, Rules, State, Step, after_conflict, after_load, conflict, is_refutation, learned, learned_origin, no_cause, no_origin, root_place, turn_of}
use Rattle.pub_trail.specs.declared.origin.Origin.{Origin}
use Rattle.pub_trail.specs.declared.origin.Origin.TheVariants.{OfConflict, OfLoad}
use Rattle.pub_trail.specs.declared.trail.Place.{Place}
use Rattle.pub_trail.specs.Selection.{IsHistoryAfter}
use Rattle.pub_trail.specs.Trail.{holds, up_to}
use Rattle.pub_trail.proofs.ChainLemmas.{IsMadeBy, conflict_made}
use Rattle.pub_trail.proofs.ConflictLemmas.{conflict_outcome}
use Rattle.pub_trail.proofs.DerivedLemmas.{put_last, put_steps_end, write_is}
use Rattle.pub_trail.proofs.GrowLemmas.{Extends, Extends-append, IsFormed-grow}
use Rattle.pub_trail.proofs.LieLemmas.{formed_at}
use Rattle.pub_trail.proofs.NewestLemmas.{newest_is}
use Rattle.pub_trail.proofs.TurnLemmas.{conflict_asked, turn_cases}

-- ---- over more incompatibilities

-- a chain stays one over more incompatibilities
chain_grow : (incompats more : List (List Term)) (bound : ℕ) (terms : List Term) (steps : List Step) (final : List Term) → Extends [] incompats more
    → bound ≤ length incompats → AreBelow bound steps → IsChain incompats terms steps final → IsChain more terms steps final
chain_grow incompats more bound terms [] final extends within below chain = chain
chain_grow incompats more bound terms (step ∷ steps) final extends within below chain =
    let same : slice_index_or more step.number [] ≡ slice_index_or incompats step.number [] = extends.same step.number (omega (arith, below.0)) in (
      chain.0,
      chain.1,
      subst (λ second. CanResolve terms second step.node) (sym same) chain.2,
      subst (λ second. IsChain more (resolvent terms second step.node) steps final) (sym same)
          (chain_grow incompats more bound (resolvent terms (slice_index_or incompats step.number []) step.node) steps final extends within below.1 chain.3),
    )

-- and so does an origin
origin_grow : (facts given incompats more : List (List Term)) (number : ℕ) (origin : Origin) → Extends [] incompats more → number < length incompats
    → ((fact : List Term) → Contains facts fact → Contains given fact) → IsOrigin facts incompats number origin → IsOrigin given more number origin
origin_grow facts given incompats more number (OfLoad cause) extends known keeps is =
    subst (Contains given) (sym (extends.same number known)) (keeps (slice_index_or incompats number []) is)
origin_grow facts given incompats more number (OfConflict first steps) extends known keeps is =
    let first_same : slice_index_or more first [] ≡ slice_index_or incompats first [] = extends.same first (omega (arith, is.0)) in
    let same : slice_index_or more number [] ≡ slice_index_or incompats number [] = extends.same number known in (
      is.0,
      is.1,
      ap is_refutation first_same ∙ is.2,
      ap is_refutation same ∙ is.3,
      subst (λ ts. IsChain more ts steps (slice_index_or more number [])) (sym first_same)
          (subst (λ ts. IsChain more (slice_index_or incompats first []) steps ts) (sym same)
          (chain_grow incompats more number (slice_index_or incompats first []) steps (slice_index_or incompats number []) extends (omega arith) is.1 is.4)),
    )

-- ---- a load

-- a load's facts come from it
pub load_history : (facts : List (List Term)) (limits : Limits) (rules : Rules) (state : State) (place : Place) (loaded : Loaded) → IsState facts state
    → IsHistory facts state → AreRules limits rules facts state → rules.load state place ≡ Brings loaded
    → IsHistory (facts ++ loaded.facts) (record {
      names = state.names ++ loaded.names;
      sizes = state.sizes ++ loaded.sizes;
      incompats = state.incompats ++ loaded.facts;
      origins = state.origins ++ map OfLoad loaded.causes;
      loads = state.loads ++ place ∷ [];
      trail = state.trail;
    })
load_history facts limits rules state place loaded is was are at =
    let grown = Extends-append 0 state.sizes loaded.sizes in
    let more = Extends-append [] state.incompats loaded.facts in
    record {
      origins =
          omega (
            arith,
            was.origins,
            length-append state.origins (map OfLoad loaded.causes),
            length-append state.incompats loaded.facts,
            length-map loaded.causes OfLoad,
            are.caused place loaded at,
          );
      are = record {
        formed = λ number known.
            elim (cases_lt number (length state.incompats)) [
              | inl old ↦
                  subst (IsFormed (state.sizes ++ loaded.sizes)) (sym (more.same number old))
                  (IsFormed-grow state.sizes (state.sizes ++ loaded.sizes) (slice_index_or state.incompats number []) grown (was.are.formed number old))
              | inr new ↦
                  subst (IsFormed (state.sizes ++ loaded.sizes)) (sym (get_or-append_right state.incompats loaded.facts (length state.incompats) number [] refl new))
                  (formed_at (state.sizes ++ loaded.sizes) loaded.facts (number - length state.incompats) (are.formed place loaded at)
                  (omega (arith, length-append state.incompats loaded.facts)))
            ];
        each = λ number known.
            elim (cases_lt number (length state.incompats)) [
              | inl old ↦
                  subst (IsOrigin (facts ++ loaded.facts) (state.incompats ++ loaded.facts) number)
                  (sym (get_or_append_left state.origins (map OfLoad loaded.causes) no_origin number (omega (arith, was.origins))))
                  (origin_grow facts (facts ++ loaded.facts) state.incompats (state.incompats ++ loaded.facts) number (slice_index_or state.origins number no_origin)
                  more old (λ fact there. Contains-append_left facts loaded.facts fact there) (was.are.each number old))
              | inr new ↦
                  subst (IsOrigin (facts ++ loaded.facts) (state.incompats ++ loaded.facts) number) (sym (all_loads number new).1)
                  (subst (Contains (facts ++ loaded.facts)) (sym (get_or-append_right state.incompats loaded.facts (length state.incompats) number [] refl new))
                  (Contains-append_right facts loaded.facts (get_or loaded.facts (number - length state.incompats) [])
                  (Contains-get_or loaded.facts (number - length state.incompats) [] (omega (arith, length-append state.incompats loaded.facts)))))
            ];
      };
      given = λ fact there.
          elim (Contains-append_cases facts loaded.facts fact there) [
            | inl old ↦ Contains-append_left state.incompats loaded.facts fact (was.given fact old)
            | inr new ↦ Contains-append_right state.incompats loaded.facts fact new
          ];
    }
  where
    some_load : (causes : List Cause) (i : ℕ) → (cause : Cause) × (get_or (map OfLoad causes) i no_origin ≡ OfLoad cause)
    some_load [] i = (no_cause, refl)
    some_load (cause ∷ causes) zero = (cause, refl)
    some_load (cause ∷ causes) (suc i) = some_load causes i

    all_loads : (number : ℕ) → length state.incompats ≤ number
        → (cause : Cause) × (slice_index_or (state.origins ++ map OfLoad loaded.causes) number no_origin ≡ OfLoad cause)
    all_loads number new =
        let here = some_load loaded.causes (number - length state.origins) in (
          here.0,
          get_or-append_right state.origins (map OfLoad loaded.causes) (length state.origins) number no_origin refl (omega (arith, was.origins)) ∙ here.1,
        )

-- ---- a conflict

-- with a step, what is in conflict is no refutation
begins_plain : (incompats : List (List Term)) (terms : List Term) (step : Step) (steps : List Step) (final : List Term) → IsChain incompats terms (step ∷ steps) final
    → is_refutation terms ≡ false
begins_plain incompats terms step steps final chain = chain.1

-- what was learned comes from its conflict
pub learned_history : (facts : List (List Term)) (state : State) (first level : ℕ) (terms : List Term) (steps : List Step) → IsHistory facts state
    → first < length state.incompats → AreBelow (length state.incompats) steps → IsChain state.incompats (slice_index_or state.incompats first []) steps terms
    → is_refutation terms ≡ false → IsFormed state.sizes terms
    → IsHistory facts (record {
      names = state.names;
      sizes = state.sizes;
      incompats = learned state.incompats terms steps;
      origins = learned_origin state.origins first steps;
      loads = state.loads;
      trail = up_to level state.trail;
    })
learned_history facts state first level terms [] was known below chain plain formed =
    record { origins = was.origins; are = was.are; given = was.given }
learned_history facts state first level terms (step ∷ steps) was known below chain plain formed =
    let more = Extends-append [] state.incompats (terms ∷ []) in
    let last = length state.incompats in
    let first_same : slice_index_or (state.incompats ++ terms ∷ []) first [] ≡ slice_index_or state.incompats first [] = more.same first known in
    let at : slice_index_or (state.incompats ++ terms ∷ []) last [] ≡ terms = get_or_at state.incompats terms [] [] last refl in
    let origin_at : slice_index_or (state.origins ++ OfConflict first (step ∷ steps) ∷ []) last no_origin ≡ OfConflict first (step ∷ steps)
    = get_or_at state.origins (OfConflict first (step ∷ steps)) [] no_origin last was.origins in
    let grown : IsChain (state.incompats ++ terms ∷ []) (slice_index_or state.incompats first []) (step ∷ steps) terms
    = chain_grow state.incompats (state.incompats ++ terms ∷ []) last (slice_index_or state.incompats first []) (step ∷ steps) terms more (omega arith) below chain in
    let new : IsOrigin facts (state.incompats ++ terms ∷ []) last (OfConflict first (step ∷ steps))
    = (
      known,
      below,
      ap is_refutation first_same ∙ chain.1,
      ap is_refutation at ∙ plain,
      subst (λ ts. IsChain (state.incompats ++ terms ∷ []) ts (step ∷ steps) (slice_index_or (state.incompats ++ terms ∷ []) last [])) (sym first_same)
          (subst (IsChain (state.incompats ++ terms ∷ []) (slice_index_or state.incompats first []) (step ∷ steps)) (sym at) grown),
    ) in
    record {
      origins =
          omega (arith, was.origins, length-append state.origins (OfConflict first (step ∷ steps) ∷ []), length-append state.incompats (terms ∷ []));
      are = record {
        formed = λ number within.
            elim (cases_lt number last) [
              | inl old ↦ subst (IsFormed state.sizes) (sym (more.same number old)) (was.are.formed number old)
              | inr here ↦
                  (let e : last ≡ number = omega (arith, length-append state.incompats (terms ∷ [])) in
                  subst (λ n. IsFormed state.sizes (slice_index_or (state.incompats ++ terms ∷ []) n [])) e (subst (IsFormed state.sizes) (sym at) formed))
            ];
        each = λ number within.
            elim (cases_lt number last) [
              | inl old ↦
                  subst (IsOrigin facts (state.incompats ++ terms ∷ []) number)
                  (sym (get_or_append_left state.origins (OfConflict first (step ∷ steps) ∷ []) no_origin number (omega (arith, was.origins))))
                  (origin_grow facts facts state.incompats (state.incompats ++ terms ∷ []) number (slice_index_or state.origins number no_origin)
                  more old (λ fact there. there) (was.are.each number old))
              | inr here ↦
                  (let e : last ≡ number = omega (arith, length-append state.incompats (terms ∷ [])) in
                  subst (λ n. IsOrigin facts (state.incompats ++ terms ∷ []) n (slice_index_or (state.origins ++ OfConflict first (step ∷ steps) ∷ []) n no_origin)) e
                  (subst (IsOrigin facts (state.incompats ++ terms ∷ []) last) (sym origin_at) new))
            ];
      };
      given = λ fact there. Contains-append_left state.incompats (terms ∷ []) fact (was.given fact there);
    }

-- ---- a refutation

-- the lines behind a refutation end in it
refuted_end : (same : Cause → Cause → Bool) (facts : List (List Term)) (state : State) (first : ℕ) (terms : List Term) (steps : List Step) → IsHistory facts state
    → first < length state.incompats → AreBelow (length state.incompats) steps → IsChain state.incompats (slice_index_or state.incompats first []) steps terms
    → is_refutation terms ≡ true → IsEnd state.sizes facts terms (derivation same state first steps)
refuted_end same facts state first terms (step ∷ steps) was known below chain root =
    put_steps_end same state.sizes facts state.incompats (length state.incompats) (write same state.incompats state.origins (length state.incompats)) [] step steps
    (slice_index_or state.incompats first []) terms (write same state.incompats state.origins (length state.incompats) first [])
    (λ number lines within plain are so.
    write_is same state.sizes facts state.incompats state.origins (length state.incompats) number lines was.are within within plain are so)
    below chain root
    (write_is same state.sizes facts state.incompats state.origins (length state.incompats) first [] was.are known known chain.1 tt tt)
refuted_end same facts state first terms [] was known below chain root =
    alone (length state.incompats) known (slice_index_or state.origins first no_origin) refl (was.are.each first known)
  where
    alone : (depth : ℕ) → first < depth → (origin : Origin) → slice_index_or state.origins first no_origin ≡ origin → IsOrigin facts state.incompats first origin
        → IsEnd state.sizes facts terms (write same state.incompats state.origins depth first [])
    alone zero within origin at is = absurd (omega arith)
    alone (suc depth) within (OfConflict other more) at is = absurd (false≢true (sym is.3 ∙ ap is_refutation chain ∙ root))
    alone (suc depth) within (OfLoad cause) at is =
        let fact = slice_index_or state.incompats first [] in
        subst (λ o. IsEnd state.sizes facts terms (put_origin same state.incompats (write same state.incompats state.origins depth) first [] o)) (sym at)
        (subst (λ ts. IsEnd state.sizes facts ts (put same [] (Given fact cause) fact)) chain
        (put_last same state.sizes facts [] (Given fact cause) fact tt tt (refl, is, was.are.formed first known) (ap is_refutation chain ∙ root)))

-- ---- all turns

-- no more facts change nothing
same_history : (facts : List (List Term)) (state : State) → IsHistory facts state → IsHistory (facts ++ []) state
same_history facts state was = subst (λ all. IsHistory all state) (sym (append-nil facts)) was

-- the state after a conflict
abbrev later_state : State → ℕ → ℕ → List Term → List Step → State
later_state state first level terms all = record {
  names = state.names;
  sizes = state.sizes;
  incompats = learned state.incompats terms all;
  origins = learned_origin state.origins first all;
  loads = state.loads;
  trail = up_to level state.trail;
}

-- a conflict keeps the origins, or ends the derivation
outcome_history : (same : Cause → Cause → Bool) (facts : List (List Term)) (state : State) (first : ℕ) → IsHistory facts state → first < length state.incompats → (outcome : Conflict)
    → IsMadeBy state.incompats (slice_index_or state.incompats first []) [] outcome
    → IsOutcome state.sizes state.incompats state.trail outcome → IsHistoryAfter same facts state (after_conflict state first outcome)
outcome_history same facts state first was known (Refutes terms steps) made out =
    subst (λ all. IsEnd state.sizes facts terms (derivation same state first all)) (sym made.split)
    (refuted_end same facts state first terms made.more was known made.below made.chain out.root)
outcome_history same facts state first was known (Learns terms steps level) made out = (
  [],
  same_history facts (later_state state first level terms steps)
      (subst (λ all. IsHistory facts (later_state state first level terms all)) (sym made.0.split)
      (learned_history facts state first level terms made.0.more was known made.0.below made.0.chain made.1 out.formed)),
)

-- a load keeps the origins
load_next : (same : Cause → Cause → Bool) (facts : List (List Term)) (limits : Limits) (rules : Rules) (state : State) (place : Place) → IsState facts state → IsHistory facts state
    → AreRules limits rules facts state → (loaded : Loading) → rules.load state place ≡ loaded → IsHistoryAfter same facts state (after_load state place loaded)
load_next same facts limits rules state place is was are (Lacks key) at = tt
load_next same facts limits rules state place is was are (Passes wide) at = tt
load_next same facts limits rules state place is was are (Brings loaded) at = (loaded.facts, load_history facts limits rules state place loaded is was are at)

-- each turn does
pub turn_history : (same : Cause → Cause → Bool) (facts : List (List Term)) (limits : Limits) (rules : Rules) (state : State) → IsState facts state → IsHistory facts state → AreRules limits rules facts state
    → IsHistoryAfter same facts state (turn_of rules state)
turn_history same facts limits rules state is was are = turn_cases rules state (IsHistoryAfter same facts state) (record {
  loads_root = λ other. load_next same facts limits rules state root_place is was are (rules.load state root_place) refl;
  loads = λ next settled at other. load_next same facts limits rules state next.place is was are (rules.load state next.place) refl;
  conflicts = λ number found.
      let at = newest_is (holds state.sizes state.trail) 0 state.incompats number found in
      let first = slice_index_or state.incompats number [] in
      let asked = conflict_asked facts state number is found in
      outcome_history same facts state number was (omega (arith, at.is, at.within)) (conflict state.sizes state.incompats state.trail first [])
      (conflict_made state.sizes state.incompats state.trail first [] asked) (conflict_outcome state.sizes state.incompats state.trail first [] asked);
  forces = λ forced quiet found. ([], same_history facts _ (record { origins = was.origins; are = was.are; given = was.given }));
  decides = λ next settled at loaded. ([], same_history facts _ (record { origins = was.origins; are = was.are; given = was.given }));
  selects = λ settled at. tt;
})
