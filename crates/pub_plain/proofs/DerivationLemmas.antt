-- The derivation behind a refutation is checked by its own facts.
use Rattle.std.proofs.Common.{◌≡◌, ℕ, Bool, List, length, get_or, sym, ap, ◌∙◌, subst, arith}
use Rattle.std.specs.Result.{IsOk}
use Rattle.pub_facts.specs.Catalogue.{Job}
use Rattle.pub_facts.specs.Numbered.{sizes_of}
use Rattle.pub_facts.proofs.FactLemmas.{sizes_length}
use Rattle.pub_proof.specs.Checked.{checked_of}
use Rattle.pub_proof.specs.Checks.{own_facts}
use Rattle.pub_term.specs.declared.cause.Cause.{Cause}
use Rattle.pub_term.specs.declared.term.Term.{Term}
use Rattle.pub_trail.specs.Derived.{derivation}
use Rattle.pub_trail.specs.Outcome.{IsAfter}
use Rattle.pub_trail.specs.Selection.{IsHistoryAfter}
use Rattle.pub_trail.specs.Turn.{Refuted, State, Step, turn_of}
use Rattle.pub_trail.proofs.HistoryLemmas.{turn_history}
use Rattle.pub_trail.proofs.TurnLemmas.{turn_keeps}
use Rattle.pub_plain.specs.Answers.{Answers, lookups_by}
use Rattle.pub_plain.specs.Choosing.{Pins}
use Rattle.pub_plain.specs.Derivation.{derivation_in, ordered, rank_in}
use Rattle.pub_plain.specs.Invariant.{IsSolver}
use Rattle.pub_plain.specs.Plain.{plain_limits, rules_of}
use Rattle.pub_plain.proofs.RankLemmas.{rank_apart, rank_root, rank_size, rank_within, root_first}
use Rattle.pub_plain.proofs.RulesLemmas.{rules_right}
use Rattle.pub_plain.proofs.WrittenLines.{IsRenumbering, end_checked}

-- a solver's nodes may be numbered by their places in node order
solver_renumbered : (answers : Answers) (state : State) → IsSolver answers state
    → IsRenumbering (rank_in state.names) state.sizes (sizes_of (lookups_by answers) (ordered state.names))
solver_renumbered answers state is =
    let l = lookups_by answers in
    let long : length state.sizes ≡ length state.names = ap (λ (s : List ℕ). length s) is.sizes ∙ sizes_length l state.names in
    record {
      apart = rank_apart state.names is.apart;
      within = λ node known. omega (arith, rank_within state.names node (omega (arith, known, long)), sizes_length l (ordered state.names));
      size = λ node known.
          rank_size l state.names node (omega (arith, known, long)) ∙ ap (λ (s : List ℕ). get_or s node 0) (sym is.sizes);
    }

-- where a turn refutes, the derivation that the solver writes is checked by its own facts
pub refutation_checked : (same : Cause → Cause → Bool) (job : Job) (pins : Pins) (answers : Answers) (state : State) (terms : List Term) (first : ℕ)
    (steps : List Step) → IsSolver answers state → turn_of (rules_of job pins answers) state ≡ Refuted terms first steps
    → IsOk (checked_of (derivation_in same (lookups_by answers) state first steps).nodes
    (derivation_in same (lookups_by answers) state first steps).sizes
    (own_facts (derivation_in same (lookups_by answers) state first steps).lines) (derivation_in same (lookups_by answers) state first steps).lines)
refutation_checked same job pins answers state terms first steps is refuted =
    let l = lookups_by answers in
    let rules = rules_of job pins answers in
    let right = rules_right job pins answers state is in
    let end = subst (IsHistoryAfter same is.facts state) refuted (turn_history same is.facts plain_limits rules state is.is is.history right) in
    let after = subst (IsAfter is.facts state) refuted (turn_keeps is.facts plain_limits rules state is.is right) in
    end_checked (rank_in state.names) state.sizes (sizes_of l (ordered state.names)) (solver_renumbered answers state is) (ordered state.names)
    is.facts terms (derivation same state first steps) (root_first state.names is.rest is.rooted)
    (rank_root state.names is.rest is.rooted) end after.root
