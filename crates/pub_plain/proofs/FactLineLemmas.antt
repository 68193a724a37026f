-- Each fact line of the derivation behind a refutation is a fact of a load that was done.
use Rattle.std.proofs.Common.{◌≡◌, ℕ, zero, suc, ◌<◌, Bool, List, [], ◌∷◌, reverse, length, slice_index_or, All, Contains, Option, Some, None, refl, subst, arith}
use Rattle.std.proofs.lemmas.List.Elements.{All-cons, All-map, All-nil}
use Rattle.pub_facts.specs.Catalogue.{Job}
use Rattle.pub_facts.specs.Numbered.{number_in}
use Rattle.pub_term.specs.Resolvent.{resolvent}
use Rattle.pub_term.specs.declared.cause.Cause.{Cause}
use Rattle.pub_term.specs.declared.term.Term.{Term}
use Rattle.pub_trail.specs.Derived.{AreBelow, AreOrigins, Given, IsOrigin, Line, Put, Resolves, Says, put, put_found, put_origin, put_steps, write, written}
use Rattle.pub_trail.specs.Derived as derived
use Rattle.pub_trail.specs.Renamed.{renamed}
use Rattle.pub_trail.specs.Turn.{Refuted, State, Step, Went, no_origin, turn_of}
use Rattle.pub_trail.specs.declared.origin.Origin.{Origin}
use Rattle.pub_trail.specs.declared.origin.Origin.TheVariants.{OfConflict, OfLoad}
use Rattle.pub_plain.specs.Answers.{Answers, AreShort, catalogue_by, lookups_by}
use Rattle.pub_plain.specs.Choosing.{Pins}
use Rattle.pub_plain.specs.Derivation.{derivation_in, line_in, ordered, rank_in}
use Rattle.pub_plain.specs.FactLines.{IsFactLine, IsLoadedFact, facts_in_order}
use Rattle.pub_plain.specs.Loading.{facts_at, load_at}
use Rattle.pub_plain.specs.Plain.{plain_after, rules_of}
use Rattle.pub_plain.proofs.ApartLemmas.{AreApart}
use Rattle.pub_plain.proofs.LoadedLemmas.{AreGiven, IsOfLoad, given_at, run_loaded, to_numbered}
use Rattle.pub_plain.proofs.NextKept.{All-follows, All-reverse}
use Rattle.pub_plain.proofs.RefutedLemmas.{refuted_by, refuted_steps}
use Rattle.pub_plain.proofs.RenumberedLemmas.{fact_in_order}
use Rattle.pub_plain.proofs.RunLemmas.{run_solver}

-- ---- what is written

-- the terms and the cause of a fact line pass
abbrev IsFrom : (List Term → Cause → Type 0) → Line → Type 0
IsFrom P (Given terms cause) = P terms cause
IsFrom P (Resolves first second on) = Unit {0}

-- and so do those of each line
abbrev AreFrom : (List Term → Cause → Type 0) → List Says → Type 0
AreFrom P [] = Unit {0}
AreFrom P (says ∷ before) = IsFrom P says.line × AreFrom P before

-- in another form
all_from : (P : List Term → Cause → Type 0) (lines : List Says) → AreFrom P lines → All (λ (says : Says). IsFrom P says.line) lines
all_from P [] are = All-nil (λ (says : Says). IsFrom P says.line)
all_from P (says ∷ before) are = All-cons (λ (one : Says). IsFrom P one.line) says before are.0 (all_from P before are.1)

-- a line that passes may be put
put_from : (P : List Term → Cause → Type 0) (same : Cause → Cause → Bool) (lines : List Says) (line : Line) (terms : List Term) → AreFrom P lines
    → IsFrom P line → AreFrom P (put same lines line terms).lines
put_from P same lines line terms are is = go (written same lines line)
  where
    go : (found : Option ℕ) → AreFrom P (put_found lines line terms found).lines
    go (Some number) = are
    go None = (is, are)

-- a writer keeps that lines pass
abbrev Keeps : (List Term → Cause → Type 0) → ℕ → (ℕ → List Says → Put) → Type 0
Keeps P bound writer = (number : ℕ) (lines : List Says) → number < bound → AreFrom P lines → AreFrom P (writer number lines).lines

-- and so do steps that are put
steps_from : (P : List Term → Cause → Type 0) (same : Cause → Cause → Bool) (incompats : List (List Term)) (bound : ℕ) (writer : ℕ → List Says → Put)
    (terms : List Term) (steps : List Step) (start : Put) → Keeps P bound writer → AreBelow bound steps → AreFrom P start.lines
    → AreFrom P (put_steps same incompats writer terms steps start).lines
steps_from P same incompats bound writer terms [] start keeps below are = are
steps_from P same incompats bound writer terms (step ∷ steps) start keeps below are =
    let second = writer step.number start.lines in
    let next = resolvent terms (slice_index_or incompats step.number []) step.node in
    steps_from P same incompats bound writer next steps (put same second.lines (Resolves start.number second.number step.node) next) keeps below.1
    (put_from P same second.lines (Resolves start.number second.number step.node) next (keeps step.number start.lines below.0 are) tt)

-- an incompatibility that is put by its origin does
origin_from : (P : List Term → Cause → Type 0) (same : Cause → Cause → Bool) (facts incompats : List (List Term)) (writer : ℕ → List Says → Put)
    (number : ℕ) (lines : List Says) (origin : Origin) → Keeps P number writer → IsOrigin facts incompats number origin
    → ((cause : Cause) → origin ≡ OfLoad cause → P (slice_index_or incompats number []) cause) → AreFrom P lines
    → AreFrom P (put_origin same incompats writer number lines origin).lines
origin_from P same facts incompats writer number lines (OfLoad cause) keeps is given are =
    put_from P same lines (Given (slice_index_or incompats number []) cause) (slice_index_or incompats number []) are (given cause refl)
origin_from P same facts incompats writer number lines (OfConflict first steps) keeps is given are =
    steps_from P same incompats number writer (slice_index_or incompats first []) steps (writer first lines) keeps is.1 (keeps first lines is.0 are)

-- and so does one that is written with all that stands behind it
write_from : (P : List Term → Cause → Type 0) (same : Cause → Cause → Bool) (sizes : List ℕ) (facts incompats : List (List Term))
    (origins : List Origin) (depth : ℕ) → AreOrigins sizes facts incompats origins → AreGiven P incompats origins
    → Keeps P (length incompats) (write same incompats origins depth)
write_from P same sizes facts incompats origins zero all given number lines known are = are
write_from P same sizes facts incompats origins (suc depth) all given number lines known are =
    origin_from P same facts incompats (write same incompats origins depth) number lines (slice_index_or origins number no_origin)
    (λ k more less so. write_from P same sizes facts incompats origins depth all given k more (omega (arith, known, less)) so)
    (all.each number known) (λ cause is. given_at P incompats origins number cause given known is) are

-- ---- the derivation of a solver

-- a fact of a load is one of its facts by the places of the nodes in node order
fact_placed : (job : Job) (answers : Answers) (state : State) (terms : List Term) (cause : Cause) → AreApart state.names
    → IsOfLoad job answers state.names state.loads terms cause
    → IsLoadedFact job answers state (record { terms = renamed (rank_in state.names) terms }) cause
fact_placed job answers state terms cause apart it = record {
  place = it.place;
  known = it.known;
  done = it.done;
  given = subst (λ (why : Cause). Contains (facts_in_order job answers state.names it.place)
      (record { terms = renamed (rank_in state.names) terms }, why)) it.why
      (to_numbered (number_in (ordered state.names)) (facts_at job (catalogue_by answers) (load_at state.names it.place)) it.fact
      (renamed (rank_in state.names) terms) it.given (fact_in_order state.names it.fact terms apart it.named it.is));
}

-- so a line of a fact of a load is one by those places
line_placed : (job : Job) (answers : Answers) (state : State) (line : Line) → AreApart state.names
    → IsFrom (IsOfLoad job answers state.names state.loads) line → IsFactLine job answers state (line_in (rank_in state.names) line)
line_placed job answers state (Given terms cause) apart it = fact_placed job answers state terms cause apart it
line_placed job answers state (Resolves first second on) apart it = tt

-- where a solver refutes, each fact line of its derivation is a fact of a load that was done
pub lines_are_facts : (same : Cause → Cause → Bool) (job : Job) (pins : Pins) (answers : Answers) (n : ℕ) (state : State) (terms : List Term)
    (first : ℕ) (steps : List Step) → AreShort answers → plain_after job pins answers n ≡ Went state
    → turn_of (rules_of job pins answers) state ≡ Refuted terms first steps
    → All (IsFactLine job answers state) (derivation_in same (lookups_by answers) state first steps).lines
lines_are_facts same job pins answers n state terms first steps short went refutes =
    let is = run_solver job pins answers n state short went in
    let P = IsOfLoad job answers state.names state.loads in
    let loaded = run_loaded job pins answers n state short went in
    let by = refuted_steps is.facts state terms first steps is.is (refuted_by (rules_of job pins answers) state terms first steps refutes) in
    let writes : Keeps P (length state.incompats) (write same state.incompats state.origins (length state.incompats))
    = write_from P same state.sizes is.facts state.incompats state.origins (length state.incompats) is.history.are loaded.given in
    let lines = (derived.derivation same state first steps).lines in
    let are : AreFrom P lines
    = steps_from P same state.incompats (length state.incompats) (write same state.incompats state.origins (length state.incompats))
    (slice_index_or state.incompats first []) steps (write same state.incompats state.origins (length state.incompats) first []) writes by.1
    (writes first [] by.0 tt) in
    All-map (IsFactLine job answers state) (λ (says : Says). line_in (rank_in state.names) says.line) (reverse lines)
    (All-follows (λ (says : Says). IsFrom P says.line) (λ (says : Says). IsFactLine job answers state (line_in (rank_in state.names) says.line))
    (reverse lines) (λ says it. line_placed job answers state says.line is.apart it)
    (All-reverse (λ (says : Says). IsFrom P says.line) lines (all_from P lines are)))
