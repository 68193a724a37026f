-- A turn that refutes: its conflict and the steps of it.
use Rattle.std.proofs.Common.{◌≡◌, ℕ, ◌<◌, Bool, List, [], length, get_or, map, reverse, slice_index_or, Some, refl, sym, ap, ap₂, ◌∙◌, subst, arith}
use Rattle.std.specs.List.{All}
use Rattle.std.proofs.lemmas.List.{reverse-reverse}
use Rattle.std.proofs.lemmas.Simd.{map-map}
use Rattle.pub_facts.specs.Known.{lookups_of}
use Rattle.pub_facts.specs.Numbered.{sizes_of}
use Rattle.pub_proof.specs.declared.derivation.Derivation.{Derivation}
use Rattle.pub_proof.specs.declared.derivation.Line.{Line}
use Rattle.pub_term.specs.declared.cause.Cause.{Cause}
use Rattle.pub_term.specs.declared.term.Incompat.{Incompat}
use Rattle.pub_term.specs.declared.node.NodeName.{NodeName}
use Rattle.pub_term.specs.declared.term.Term.{Term}
use Rattle.pub_trail.specs.Derived.{AreBelow, IsChain, Put, Says, put_steps, write}
use Rattle.pub_trail.specs.Derived as derived
use Rattle.pub_trail.specs.Invariant.{IsState}
use Rattle.pub_trail.specs.KnownOf.{IsEntry}
use Rattle.pub_trail.specs.Outcome.{IsAsked}
use Rattle.pub_trail.specs.Trail.{holds}
use Rattle.pub_trail.specs.Turn.{Conflict, Refutes, Learns, Loading, Lacks, Passes, Brings, Rules, State, Step, Turn, Refuted, after_conflict, after_load, conflict, newest_from, turn_of}
use Rattle.pub_trail.specs.Walk.{ending_of, terms_of}
use Rattle.pub_trail.specs.declared.trail.Assigned.{Assigned}
use Rattle.pub_trail.specs.declared.trail.Place.{Place}
use Rattle.pub_trail.specs.declared.walk.Ending.{Ending}
use Rattle.pub_trail.specs.declared.walk.Ending.TheVariants.{Learned}
use Rattle.pub_trail.specs.declared.walk.Ending.TheVariants as ended
use Rattle.pub_trail.proofs.ChainLemmas.{IsMade, IsMadeBy, conflict_made}
use Rattle.pub_trail.proofs.NewestLemmas.{newest_is}
use Rattle.pub_trail.proofs.TurnLemmas.{conflict_asked, turn_cases}
use Rattle.pub_trail.proofs.WalkLemmas.{length-terms_of, terms_at}
use Rattle.pub_plain.specs.Answers.{lookups_by}
use Rattle.pub_plain.specs.Derivation.{derivation_in, line_in, ordered, rank_in}
use Rattle.pub_plain.specs.Kept.{Kept, state_with}
use Rattle.pub_plain.specs.Told.{answers_to}
use Rattle.pub_plain.specs.Turning.{IsTurning, rules_by}
use Rattle.pub_plain.specs.Writing.{AreSteps, AreWritable, IsRefuted, IsRefutedBy, put_of, says_of, written_steps}
use Rattle.pub_plain.specs.declared.told.Told.{Told}
use Rattle.pub_plain.specs.declared.writing.WrittenLine.{WrittenLine}
use Rattle.pub_plain.proofs.NextKept.{All-reverse}
use Rattle.pub_plain.proofs.ToldLemmas.{lookups_told}

-- ---- what a turn that refutes is

-- a turn that refutes is the conflict of the newest incompatibility that holds, and that refutes
pub record RefutesBy (state : State) (terms : List Term) (first : ℕ) (steps : List Step) : Type 0 where
  pub found : newest_from (holds state.sizes state.trail) 0 state.incompats ≡ Some first
  pub refutes : conflict state.sizes state.incompats state.trail (slice_index_or state.incompats first []) [] ≡ Refutes terms steps

abbrev IfRefuted : State → List Term → ℕ → List Step → Turn → Type 0
IfRefuted state terms first steps turn = turn ≡ Refuted terms first steps → RefutesBy state terms first steps

-- a load refutes nothing
load_refutes : (state : State) (terms : List Term) (first : ℕ) (steps : List Step) (place : Place) (loading : Loading)
    → IfRefuted state terms first steps (after_load state place loading)
load_refutes state terms first steps place (Lacks key) = λ same. cc
load_refutes state terms first steps place (Passes wide) = λ same. cc
load_refutes state terms first steps place (Brings loaded) = λ same. cc

-- a conflict that refutes is this one
conflict_refutes : (state : State) (terms : List Term) (first : ℕ) (steps : List Step) (number : ℕ) (outcome : Conflict)
    → newest_from (holds state.sizes state.trail) 0 state.incompats ≡ Some number
    → conflict state.sizes state.incompats state.trail (slice_index_or state.incompats number []) [] ≡ outcome
    → IfRefuted state terms first steps (after_conflict state number outcome)
conflict_refutes state terms first steps number (Learns others more level) found comes = λ same. cc
conflict_refutes state terms first steps number (Refutes others more) found comes = λ same.
    let n : number ≡ first = cc in
    let ts : others ≡ terms = cc in
    let ss : more ≡ steps = cc in
    record {
      found = found ∙ ap Some n;
      refutes =
          ap (λ k. conflict state.sizes state.incompats state.trail (slice_index_or state.incompats k []) []) (sym n)
          ∙ comes ∙ ap₂ (λ a b. Refutes a b) ts ss;
    }

-- each turn that refutes is such a conflict
pub refuted_by : (rules : Rules) (state : State) (terms : List Term) (first : ℕ) (steps : List Step) → turn_of rules state ≡ Refuted terms first steps
    → RefutesBy state terms first steps
refuted_by rules state terms first steps = turn_cases rules state (IfRefuted state terms first steps) (record {
  loads_root = λ other. load_refutes state terms first steps _ (rules.load state _);
  loads = λ next settled is other. load_refutes state terms first steps next.place (rules.load state next.place);
  conflicts = λ number found. conflict_refutes state terms first steps number _ found refl;
  forces = λ forced quiet is. λ same. cc;
  decides = λ next settled is loaded. λ same. cc;
  selects = λ settled is. λ same. cc;
})

-- the steps of a conflict that refutes can be resolved
pub refuted_steps : (facts : List (List Term)) (state : State) (terms : List Term) (first : ℕ) (steps : List Step) → IsState facts state
    → RefutesBy state terms first steps
    → (first < length state.incompats) × AreBelow (length state.incompats) steps
    × IsChain state.incompats (slice_index_or state.incompats first []) steps terms
refuted_steps facts state terms first steps is by =
    let at = newest_is (holds state.sizes state.trail) 0 state.incompats first by.found in
    let made : IsMade state.incompats (slice_index_or state.incompats first []) [] terms steps
    = subst (IsMadeBy state.incompats (slice_index_or state.incompats first []) []) by.refutes
    (conflict_made state.sizes state.incompats state.trail (slice_index_or state.incompats first []) []
    (conflict_asked facts state first is by.found)) in (
      omega (arith, at.is, at.within),
      subst (AreBelow (length state.incompats)) (sym made.split) made.below,
      subst (λ ss. IsChain state.incompats (slice_index_or state.incompats first []) ss terms) (sym made.split) made.chain,
    )

-- ---- of what is told and kept

-- each assignment is on a node, by a set of its size
pub entries_fit : (told : Told) (kept : Kept) → IsTurning told kept → All (λ (entry : Assigned). IsEntry kept.sizes entry) kept.trail
entries_fit told kept turning =
    let fit : All (λ (entry : Assigned). IsEntry kept.sizes entry) (reverse kept.trail) = λ k d within. (turning.solver.placed k d within).fits in
    subst (All (λ (entry : Assigned). IsEntry kept.sizes entry)) (reverse-reverse kept.trail)
    (All-reverse (λ (entry : Assigned). IsEntry kept.sizes entry) (reverse kept.trail) fit)

-- what is kept can be written
pub writable : (told : Told) (kept : Kept) → IsTurning told kept → AreWritable kept
writable told kept turning = record {
  facts = turning.solver.facts;
  long = turning.solver.history.origins ∙ length-terms_of kept.incompats;
  are = turning.solver.history.are;
}

-- and the steps behind a refutation
pub steps_writable : (told : Told) (kept : Kept) (first : ℕ) (steps : List Step) → IsTurning told kept → IsRefutedBy told kept first steps
    → AreSteps kept (length kept.incompats) first steps
steps_writable told kept first steps turning by =
    let state = state_with told.known.nodes kept in
    let so = refuted_steps turning.solver.facts state by.0 first steps turning.solver.is (refuted_by (rules_by told) state by.0 first steps by.1) in
    let long = length-terms_of kept.incompats in
    record {
      bounded = omega arith;
      first_below = omega (arith, so.0, long);
      below = subst (λ n. AreBelow n steps) long so.1;
      final = by.0;
      chain = so.2;
    }

-- ---- working the conflict out again

-- each assignment of the trail, as it is read, is on a node, by a set of its size
pub entries_of : (told : Told) (kept view : Kept) (sizes : List ℕ) (trail : List Assigned) → IsTurning told kept → view ≡ kept → sizes ≡ view.sizes
    → trail ≡ view.trail → All (λ (entry : Assigned). IsEntry sizes entry) trail
entries_of told kept view sizes trail turning is sizes_is trail_is =
    subst (λ ss. All (λ (entry : Assigned). IsEntry ss entry) trail) (sym (sizes_is ∙ ap (λ (k : Kept). k.sizes) is))
    (subst (All (λ (entry : Assigned). IsEntry kept.sizes entry)) (sym (trail_is ∙ ap (λ (k : Kept). k.trail) is)) (entries_fit told kept turning))

-- its number is that of an incompatibility
pub newest_within : (kept : Kept) (first : ℕ) → newest_from (holds kept.sizes (reverse kept.trail)) 0 (terms_of kept.incompats) ≡ Some first
    → first < length kept.incompats
newest_within kept first found =
    let at = newest_is (holds kept.sizes (reverse kept.trail)) 0 (terms_of kept.incompats) first found in
    omega (arith, at.is, at.within, length-terms_of kept.incompats)

-- its terms, as they are read
pub newest_terms : (kept view : Kept) (first : ℕ) (incompat : Incompat) → view ≡ kept → incompat ≡ get_or view.incompats first incompat
    → newest_from (holds kept.sizes (reverse kept.trail)) 0 (terms_of kept.incompats) ≡ Some first
    → slice_index_or (terms_of kept.incompats) first [] ≡ incompat.terms
newest_terms kept view first incompat is at found =
    let within : first < length kept.incompats = newest_within kept first found in
    terms_at kept.incompats first incompat (omega (arith, within, length-terms_of kept.incompats))
    (at ∙ ap (λ (k : Kept). get_or k.incompats first incompat) is)

-- what its conflict asks
pub newest_asked : (told : Told) (kept view : Kept) (sizes : List ℕ) (incompats : List Incompat) (trail : List Assigned) (first : ℕ) (terms : List Term)
    → IsTurning told kept → view ≡ kept → sizes ≡ view.sizes → incompats ≡ view.incompats → trail ≡ view.trail
    → newest_from (holds kept.sizes (reverse kept.trail)) 0 (terms_of kept.incompats) ≡ Some first
    → slice_index_or (terms_of kept.incompats) first [] ≡ terms → IsAsked sizes (terms_of incompats) (reverse trail) terms
newest_asked told kept view sizes incompats trail first terms turning is sizes_is incompats_is trail_is found at =
    subst (λ ss. IsAsked ss (terms_of incompats) (reverse trail) terms) (sym (sizes_is ∙ ap (λ (k : Kept). k.sizes) is))
    (subst (λ all. IsAsked kept.sizes (terms_of all) (reverse trail) terms) (sym (incompats_is ∙ ap (λ (k : Kept). k.incompats) is))
    (subst (λ t. IsAsked kept.sizes (terms_of kept.incompats) (reverse t) terms) (sym (trail_is ∙ ap (λ (k : Kept). k.trail) is))
    (subst (IsAsked kept.sizes (terms_of kept.incompats) (reverse kept.trail)) at
    (conflict_asked turning.solver.facts (state_with told.known.nodes kept) first turning.solver.is found))))

-- and what it comes to
pub conflict_same : (kept view : Kept) (sizes : List ℕ) (incompats : List Incompat) (trail : List Assigned) (first : ℕ) (terms : List Term) → view ≡ kept
    → sizes ≡ view.sizes → incompats ≡ view.incompats → trail ≡ view.trail → slice_index_or (terms_of kept.incompats) first [] ≡ terms
    → conflict sizes (terms_of incompats) (reverse trail) terms []
    ≡ conflict kept.sizes (terms_of kept.incompats) (reverse kept.trail) (slice_index_or (terms_of kept.incompats) first []) []
conflict_same kept view sizes incompats trail first terms is sizes_is incompats_is trail_is at =
    ap (λ ss. conflict ss (terms_of incompats) (reverse trail) terms []) (sizes_is ∙ ap (λ (k : Kept). k.sizes) is)
    ∙ ap (λ all. conflict kept.sizes (terms_of all) (reverse trail) terms []) (incompats_is ∙ ap (λ (k : Kept). k.incompats) is)
    ∙ ap (λ t. conflict kept.sizes (terms_of kept.incompats) (reverse t) terms []) (trail_is ∙ ap (λ (k : Kept). k.trail) is)
    ∙ ap (λ ts. conflict kept.sizes (terms_of kept.incompats) (reverse kept.trail) ts []) (sym at)

-- ---- where the turn refutes

-- some incompatibility holds
pub some_newest : (told : Told) (kept : Kept) → (refuted : IsRefuted told kept)
    → newest_from (holds kept.sizes (reverse kept.trail)) 0 (terms_of kept.incompats) ≡ Some refuted.1
some_newest told kept refuted = (refuted_by (rules_by told) (state_with told.known.nodes kept) refuted.0 refuted.1 refuted.2 refuted.3).found

-- the conflict of the newest refutes, and the turn by it
pub record IsFound (told : Told) (kept : Kept) (first : ℕ) (terms : List Term) (steps : List Step) : Type 0 where
  pub refutes : conflict kept.sizes (terms_of kept.incompats) (reverse kept.trail) (slice_index_or (terms_of kept.incompats) first []) []
      ≡ Refutes terms steps
  pub turn : turn_of (rules_by told) (state_with told.known.nodes kept) ≡ Refuted terms first steps

-- so it is where the turn refutes
found_is : (told : Told) (kept : Kept) (first : ℕ) → (refuted : IsRefuted told kept)
    → newest_from (holds kept.sizes (reverse kept.trail)) 0 (terms_of kept.incompats) ≡ Some first → IsFound told kept first refuted.0 refuted.2
found_is told kept first refuted newest =
    let by = refuted_by (rules_by told) (state_with told.known.nodes kept) refuted.0 refuted.1 refuted.2 refuted.3 in
    let found : Some refuted.1 ≡ Some first = sym by.found ∙ newest in
    let n : refuted.1 ≡ first = cc in
    record {
      refutes =
          ap (λ k. conflict kept.sizes (terms_of kept.incompats) (reverse kept.trail) (slice_index_or (terms_of kept.incompats) k []) []) (sym n)
          ∙ by.refutes;
      turn = refuted.3 ∙ ap (λ k. Refuted refuted.0 k refuted.2) n;
    }

-- what the conflict of the newest comes to
abbrev pub ComesTo : Kept → ℕ → Ending → Type 0
ComesTo kept first ending =
    ending_of ending ≡ conflict kept.sizes (terms_of kept.incompats) (reverse kept.trail) (slice_index_or (terms_of kept.incompats) first []) []

-- it learns nothing
pub never_learned : (told : Told) (kept : Kept) (first : ℕ) (ending : Ending) (incompat : Incompat) (more : List Step) (level : ℕ) → IsRefuted told kept
    → newest_from (holds kept.sizes (reverse kept.trail)) 0 (terms_of kept.incompats) ≡ Some first → ending ≡ Learned incompat more level
    → ComesTo kept first ending → ⊥
never_learned told kept first ending incompat more level refuted newest is comes =
    let found = found_is told kept first refuted newest in
    let both : Learns incompat.terms more level ≡ Refutes refuted.0 refuted.2 = sym (ap ending_of is) ∙ comes ∙ found.refutes in
    cc

-- its steps are those of the turn
pub refuted_is : (told : Told) (kept : Kept) (first : ℕ) (ending : Ending) (incompat : Incompat) (more : List Step) → IsRefuted told kept
    → newest_from (holds kept.sizes (reverse kept.trail)) 0 (terms_of kept.incompats) ≡ Some first → ending ≡ ended.Refuted incompat more
    → ComesTo kept first ending → IsRefutedBy told kept first more
refuted_is told kept first ending incompat more refuted newest is comes =
    let found = found_is told kept first refuted newest in
    let both : Refutes incompat.terms more ≡ Refutes refuted.0 refuted.2 = sym (ap ending_of is) ∙ comes ∙ found.refutes in
    let same : more ≡ refuted.2 = cc in
    (refuted.0, found.turn ∙ ap (λ ss. Refuted refuted.0 first ss) (sym same))

-- ---- the derivation

abbrev pub made : List NodeName → List ℕ → List Line → Derivation
made nodes sizes lines = record { nodes = nodes; sizes = sizes; lines = lines }

-- what is written is the definition's derivation
pub derivation_is : (same : Cause → Cause → Bool) (told : Told) (kept : Kept) (first number : ℕ) (steps : List Step) (lines : List WrittenLine)
    (nodes : List NodeName) (sizes : List ℕ) (by_place : List Line)
    → put_of lines number ≡ written_steps same kept (length kept.incompats) first steps []
    → nodes ≡ ordered told.known.nodes → sizes ≡ sizes_of (lookups_of told.known) nodes
    → by_place ≡ map (λ line. line_in (rank_in told.known.nodes) (says_of line).line) lines
    → made nodes sizes by_place ≡ derivation_in same (lookups_by (answers_to told)) (state_with told.known.nodes kept) first steps
derivation_is same told kept first number steps lines nodes sizes by_place wrote are sized placed =
    let all = terms_of kept.incompats in
    let l = lookups_by (answers_to told) in
    let rank = rank_in told.known.nodes in
    let wrote_all : put_of lines number ≡ derived.derivation same (state_with told.known.nodes kept) first steps
    = wrote
    ∙ ap (λ depth. put_steps same all (write same all kept.origins depth) (slice_index_or all first []) steps (write same all kept.origins depth first []))
    (sym (length-terms_of kept.incompats)) in
    let shown : by_place
    ≡ map (λ (says : Says). line_in rank says.line) (reverse (derived.derivation same (state_with told.known.nodes kept) first steps).lines)
    = placed ∙ sym (map-map (λ (says : Says). line_in rank says.line) says_of lines)
    ∙ ap (map (λ (says : Says). line_in rank says.line)) (sym (reverse-reverse (map says_of lines)))
    ∙ ap (λ (p : Put). map (λ (says : Says). line_in rank says.line) (reverse p.lines)) wrote_all in
    let counted : sizes ≡ sizes_of l (ordered told.known.nodes)
    = sized ∙ ap (sizes_of (lookups_of told.known)) are ∙ ap (λ ls. sizes_of ls (ordered told.known.nodes)) (sym (lookups_told told)) in
    ap₂ (λ ns ss. made ns ss by_place) are counted ∙ ap (made (ordered told.known.nodes) (sizes_of l (ordered told.known.nodes))) shown

-- a turn refutes by one conflict and its steps alone
pub refuted_once : (told : Told) (kept : Kept) (first other : ℕ) (steps more : List Step) (terms : List Term) → IsRefutedBy told kept first steps
    → turn_of (rules_by told) (state_with told.known.nodes kept) ≡ Refuted terms other more → (first ≡ other) × (steps ≡ more)
refuted_once told kept first other steps more terms by turn =
    let both : Refuted by.0 first steps ≡ Refuted terms other more = sym by.1 ∙ turn in
    let n : first ≡ other = cc in
    let ss : steps ≡ more = cc in
    (n, ss)
