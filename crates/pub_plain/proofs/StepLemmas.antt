-- A resolution ends: its steps that are left fall at each turn that goes on, and at each reply that a turn needs.
use Rattle.std.proofs.Common.{◌≡◌, ℕ, ◌+◌, ◌-◌, ◌*◌, ◌<◌, ◌≤◌, ◌==◌, ◌||◌, true, false, not, cond, is_some, List, length, Option, Some, None, Result, Ok, Err, option_map, refl, sym, ap, ap₂, ◌∙◌, subst, inl, inr, arith}
use Rattle.std.specs.FinMap as finite
use Rattle.std.proofs.lemmas.Bool.{cases_Bool, cond-false, cond-true, cond_both, false≢true}
use Rattle.pub_facts.specs.Catalogue.{Job}
use Rattle.pub_term.specs.declared.node.NodeName.{NodeName}
use Rattle.pub_trail.specs.Invariant.{IsSettled}
use Rattle.pub_trail.specs.Measure.{is_busy}
use Rattle.pub_trail.specs.Turn.{Conflict, Refutes, Learns, Loading, Lacks, Passes, Brings, Next, Rules, State, Needs, after_conflict, after_load, conflict_or_force, is_loaded, newest_from, root_place, turn_of}
use Rattle.pub_trail.specs.Trail.{holds}
use Rattle.pub_trail.specs.declared.trail.Place.{Place}
use Rattle.pub_trail.specs.declared.turned.Turned.TheVariants as turned
use Rattle.pub_trail.proofs.TurnLemmas.{turn_cases}
use Rattle.spm_api.specs.Guess.{bytes_in}
use Rattle.spm_api.specs.Refused.{Refusal, reply_refusal}
use Rattle.spm_api.specs.Said.{absent, manifest_said, present, reply_said, said_of, unless_refused}
use Rattle.spm_api.specs.declared.replies.Said.{Said}
use Rattle.spm_api.specs.declared.replies.Said.TheVariants as said
use Rattle.spm_json.specs.Reading.{Reading}
use Rattle.spm_key.proofs.KeyLemmas.{same_key}
use Rattle.spm_key.specs.Catalogue as replies
use Rattle.spm_key.specs.KeyLaws.{key_eq, key_equiv, key_ties}
use Rattle.spm_key.specs.declared.key.Key.{Key}
use Rattle.spm_key.specs.declared.key.Key.TheVariants as key
use Rattle.spm_key.specs.declared.reply.Reply.{Reply}
use Rattle.pub_plain.proofs.FewLemmas.{manifest_few}
use Rattle.spm_manifest.specs.Dependency.{max_dependencies}
use Rattle.spm_manifest.specs.Profile.{manifest_of}
use Rattle.spm_manifest.specs.declared.dump.Contents.{Contents}
use Rattle.spm_version.specs.Release.{Parts}
use Rattle.pub_plain.specs.Answers.{Answers, AreShort, Carries, answers_of}
use Rattle.pub_plain.specs.Answers.{unless_refused as unless_refused_said}
use Rattle.pub_plain.specs.Choosing.{Pins}
use Rattle.pub_plain.specs.Ending.{AreFew, IsRunning, due, due_by, keys_due, most_keys, steps_left, turns_left, unloaded}
use Rattle.pub_plain.specs.Given.{with_said}
use Rattle.pub_plain.specs.Gives.{IsGiven}
use Rattle.pub_plain.specs.Invariant.{IsSolver}
use Rattle.pub_plain.specs.Loading.{load_at}
use Rattle.pub_plain.specs.Plain.{plain_limits, rules_of}
use Rattle.pub_plain.specs.Solver.{Solver, Turns, answers_now, turn_now}
use Rattle.pub_plain.specs.Stops.{TurnStops}
use Rattle.pub_plain.proofs.EndingLemmas.{more_running, solver_leaves, turned_running}
use Rattle.pub_plain.proofs.LeftLemmas.{keys_fall, keys_most}
use Rattle.pub_plain.proofs.MoreLemmas.{rules_same}
use Rattle.pub_plain.proofs.PlainLemmas.{carries_more, says_kind}
use Rattle.pub_plain.proofs.StopLemmas.{turn_stops}

-- ---- what a turn needs

-- the load that is due lacks the key
pub record IsLacking (rules : Rules) (state : State) (asked : Key) : Type 0 where
  pub place : Place
  pub is_due : due rules state ≡ Some place
  pub lacks : rules.load state place ≡ Lacks asked

-- a load that needs a key lacks it
load_needs_key : (state : State) (place : Place) (asked : Key) (loading : Loading) → after_load state place loading ≡ Needs asked
    → loading ≡ Lacks asked
load_needs_key state place asked (Lacks other) is = cc
load_needs_key state place asked (Passes wide) is = cc
load_needs_key state place asked (Brings loaded) is = cc

-- a conflict needs none
conflict_needs_none : (state : State) (first : ℕ) (asked : Key) (outcome : Conflict) → after_conflict state first outcome ≡ Needs asked → ⊥
conflict_needs_none state first asked (Refutes terms steps) is = cc
conflict_needs_none state first asked (Learns terms steps level) is = cc

-- the root's place is due where it isn't loaded
root_due : (state : State) (next : Option Next) → is_loaded state root_place ≡ false → due_by state next ≡ Some root_place
root_due state next new =
    cond-true (not (is_loaded state root_place)) (Some root_place) (cond (is_busy state) None (unloaded state next)) (ap not new)

-- else that of the next node, where nothing holds or is almost satisfied
next_due : (state : State) (next : Next) → is_loaded state root_place ≡ true → IsSettled state → is_loaded state next.place ≡ false
    → due_by state (Some next) ≡ Some next.place
next_due state next loaded settled new =
    cond-false (not (is_loaded state root_place)) (Some root_place) (cond (is_busy state) None (unloaded state (Some next))) (ap not loaded)
    ∙ cond-false (is_busy state) None (unloaded state (Some next)) (ap₂ (λ a b. is_some a || is_some b) settled.none_holds settled.none_forces)
    ∙ cond-false (is_loaded state next.place) None (Some next.place) new

-- where a turn needs a key, the load that is due lacks it
needs_due : (rules : Rules) (state : State) (asked : Key) → turn_of rules state ≡ Needs asked → IsLacking rules state asked
needs_due rules state asked needs = elim (cases_Bool (is_loaded state root_place)) [
  | inl loaded ↦
      turn_cases rules state (λ turn. turn ≡ Needs asked → IsLacking rules state asked) (record {
        loads_root = λ new is. absurd (false≢true (sym new ∙ loaded));
        loads = λ next settled at new is. record {
          place = next.place;
          is_due = ap (due_by state) at ∙ next_due state next loaded settled new;
          lacks = load_needs_key state next.place asked (rules.load state next.place) is;
        };
        conflicts = λ number found is. absurd (conflict_needs_none state number asked _ is);
        forces = λ forced quiet found is. cc;
        decides = λ next settled at done is. cc;
        selects = λ settled at is. cc;
      }) needs
  | inr new ↦ record {
    place = root_place;
    is_due = root_due state (rules.next state) new;
    lacks = load_needs_key state root_place asked (rules.load state root_place)
        (sym (cond-true (not (is_loaded state root_place)) (after_load state root_place (rules.load state root_place))
        (conflict_or_force rules state (newest_from (holds state.sizes state.trail) 0 state.incompats)) (ap not new))
        ∙ needs);
  }
]

-- ---- manifests have few dependencies

-- what is said of a manifest
manifest_said_few : (reading : Reading Contents) (contents : Contents)
    → ((it : Contents) → reading ≡ Ok it → length it.needs ≤ max_dependencies) → manifest_said reading ≡ said.Manifest contents
    → length contents.needs ≤ max_dependencies
manifest_said_few (Ok it) contents few is =
    let e : it ≡ contents = cc in
    subst (λ (c : Contents). length c.needs ≤ max_dependencies) e (few it refl)
manifest_said_few (Err fault) contents few is = cc

-- what a reply says of it
said_few : (identity : List ℕ) (release : Parts) (reply : Reply) (contents : Contents)
    → said_of (key.Manifest identity release) reply ≡ said.Manifest contents → length contents.needs ≤ max_dependencies
said_few identity release reply contents =
    cond_both (reply.status == 200) (present (key.Manifest identity release) (bytes_in reply.body)) (absent (key.Manifest identity release))
    (λ it. it ≡ said.Manifest contents → length contents.needs ≤ max_dependencies) (λ _. there (bytes_in reply.body)) (λ _ is. cc)
  where
    there : (bytes : Option (List ℕ)) → present (key.Manifest identity release) bytes ≡ said.Manifest contents
        → length contents.needs ≤ max_dependencies
    there None is = cc
    there (Some bytes) is = manifest_said_few (manifest_of bytes) contents (manifest_few bytes) is

-- and what it says if it isn't refused
reply_few : (identity : List ℕ) (release : Parts) (reply : Reply) (contents : Contents)
    → reply_said (key.Manifest identity release) reply ≡ Ok (said.Manifest contents) → length contents.needs ≤ max_dependencies
reply_few identity release reply contents says = go (reply_refusal (key.Manifest identity release) reply) says
  where
    go : (refusal : Option Refusal) → unless_refused refusal (said_of (key.Manifest identity release) reply) ≡ Ok (said.Manifest contents)
        → length contents.needs ≤ max_dependencies
    go None is =
        let e : said_of (key.Manifest identity release) reply ≡ said.Manifest contents = cc in
        said_few identity release reply contents e
    go (Some refusal) is = cc

-- one reply more keeps manifests so
with_few : (given : Key) (it : Said) (reply : Reply) (answers more : Answers) → reply_said given reply ≡ Ok it
    → ((asked : Key) → more asked ≡ with_said given it answers asked) → AreFew answers → AreFew more
with_few given it reply answers more says are few identity release contents is =
    elim (cases_Bool (key_eq given (key.Manifest identity release))) [
      | inl same ↦
          (let e : given ≡ key.Manifest identity release
          = same_key given (key.Manifest identity release) (sym (key_ties given (key.Manifest identity release)) ∙ same) in
          let here : Some it ≡ Some (said.Manifest contents)
          = sym (are (key.Manifest identity release)
          ∙ cond-true (key_eq given (key.Manifest identity release)) (Some it) (answers (key.Manifest identity release)) same) ∙ is in
          let f : it ≡ said.Manifest contents = cc in
          reply_few identity release reply contents (subst (λ k. reply_said k reply ≡ Ok (said.Manifest contents)) e (says ∙ ap (λ s. Ok s) f)))
      | inr differs ↦
          few identity release contents
          (sym (are (key.Manifest identity release)
          ∙ cond-false (key_eq given (key.Manifest identity release)) (Some it) (answers (key.Manifest identity release)) differs)
          ∙ is)
    ]

-- of a solver
pub given_few : (asked : Key) (reply : Reply) (old new : Solver) → AreFew (answers_now old) → IsGiven asked reply old new
    → AreFew (answers_now new)
given_few asked reply old new few is = with_few asked is.it reply (answers_now old) (answers_now new) is.says is.answers few

-- what a catalogue says
pub answers_few : (catalogue : replies.Catalogue) → AreFew (answers_of catalogue)
answers_few catalogue identity release contents is = go (finite.get catalogue (key.Manifest identity release)) is
  where
    by_reply : (reply : Reply) (found : Result Said Refusal) → reply_said (key.Manifest identity release) reply ≡ found
        → unless_refused_said (Some found) ≡ Some (said.Manifest contents) → length contents.needs ≤ max_dependencies
    by_reply reply (Ok it) at is =
        let e : it ≡ said.Manifest contents = cc in
        reply_few identity release reply contents (at ∙ ap (λ s. Ok s) e)
    by_reply reply (Err reason) at is = cc

    go : (found : Option Reply) → unless_refused_said (option_map (reply_said (key.Manifest identity release)) found) ≡ Some (said.Manifest contents)
        → length contents.needs ≤ max_dependencies
    go None is = cc
    go (Some reply) is = by_reply reply (reply_said (key.Manifest identity release) reply) refl is

-- ---- steps

-- fewer turns are fewer steps, whatever a load needs then
fewer_turns : (before after most here there : ℕ) → after < before → there ≤ most → after * (most + 1) + there < before * (most + 1) + here
fewer_turns before after most here there less few =
    let e : before ≡ after + 1 + (before - (after + 1)) = omega arith in
    subst (λ n. after * (most + 1) + there < n * (most + 1) + here) (sym e) (omega (arith, few))

-- no load that is due needs more keys than the most
due_most : (job : Job) (answers : Answers) (names : List NodeName) (place : Option Place) → AreFew answers
    → keys_due job answers names place ≤ most_keys job
due_most job answers names None few = omega arith
due_most job answers names (Some place) few = keys_most job answers (load_at names place) few

-- a turn that goes on is a step
pub turned_falls : (old new : Solver) → IsRunning (answers_now old) old.state → AreFew (answers_now old) → Turns turned.Went old new
    → steps_left new < steps_left old
unfolding steps_left
turned_falls old new is few (state, went, same) =
    subst (λ solver. steps_left solver < steps_left old) (sym same)
    (fewer_turns (turns_left plain_limits old.state) (turns_left plain_limits state) (most_keys old.job)
    (keys_due old.job (answers_now old) old.state.names (due (rules_of old.job old.pins (answers_now old)) old.state))
    (keys_due old.job (answers_now old) state.names (due (rules_of old.job old.pins (answers_now old)) state))
    (solver_leaves old.job old.pins (answers_now old) old.state state is went).less
    (due_most old.job (answers_now old) state.names (due (rules_of old.job old.pins (answers_now old)) state) few))

-- the load that is due needs fewer keys after the one that the turn needs
told_falls : (job : Job) (pins : Pins) (answers more : Answers) (state : State) (asked : Key) (it : Said) → IsSolver answers state
    → Carries answers more → more asked ≡ Some it → AreFew more → turn_of (rules_of job pins answers) state ≡ Needs asked
    → keys_due job more state.names (due (rules_of job pins more) state) < keys_due job answers state.names (due (rules_of job pins answers) state)
told_falls job pins answers more state asked it is carries here few needs =
    let lacking = needs_due (rules_of job pins answers) state asked needs in
    let later : due (rules_of job pins more) state ≡ Some lacking.place
    = ap (due_by state) (sym (rules_same job pins answers more carries state is).next) ∙ lacking.is_due in
    subst (λ place. keys_due job more state.names place < keys_due job answers state.names (due (rules_of job pins answers) state)) (sym later)
    (subst (λ place. keys_due job more state.names (Some lacking.place) < keys_due job answers state.names place) (sym lacking.is_due)
    (keys_fall answers more carries asked it here job state.names (load_at state.names lacking.place) few lacking.lacks))

-- the steps that are left, by the parts of a solver
abbrev steps_of : Job → Pins → Answers → State → ℕ
steps_of job pins answers state =
    turns_left plain_limits state * (most_keys job + 1) + keys_due job answers state.names (due (rules_of job pins answers) state)

-- what is given is said of its key
given_said : (asked : Key) (reply : Reply) (old new : Solver) → (is : IsGiven asked reply old new) → answers_now new asked ≡ Some is.it
given_said asked reply old new is =
    is.answers asked ∙ cond-true (key_eq asked asked) (Some is.it) (answers_now old asked) (key_equiv.refl asked)

-- and all else stays said
given_carries : (asked : Key) (reply : Reply) (old new : Solver) → turn_now old ≡ Needs asked → IsGiven asked reply old new
    → Carries (answers_now old) (answers_now new)
given_carries asked reply old new needs is =
    carries_more asked is.it (answers_now old) (answers_now new)
    (subst (TurnStops (answers_now old)) needs (turn_stops old.job old.pins (answers_now old) old.state)).0 is.answers

-- a reply that a turn needs is a step
pub given_falls : (asked : Key) (reply : Reply) (old new : Solver) → IsRunning (answers_now old) old.state → AreFew (answers_now old)
    → turn_now old ≡ Needs asked → IsGiven asked reply old new → steps_left new < steps_left old
unfolding steps_left
given_falls asked reply old new running few needs is =
    let falls = told_falls old.job old.pins (answers_now old) (answers_now new) old.state asked is.it running.solver
    (given_carries asked reply old new needs is) (given_said asked reply old new is) (given_few asked reply old new few is) needs in
    subst (λ state. steps_of new.job new.pins (answers_now new) state < steps_left old) (sym is.state)
    (subst (λ pins. steps_of new.job pins (answers_now new) old.state < steps_left old) (sym is.pins)
    (subst (λ job. steps_of job old.pins (answers_now new) old.state < steps_left old) (sym is.job)
    (add_less (turns_left plain_limits old.state * (most_keys old.job + 1))
    (keys_due old.job (answers_now new) old.state.names (due (rules_of old.job old.pins (answers_now new)) old.state))
    (keys_due old.job (answers_now old) old.state.names (due (rules_of old.job old.pins (answers_now old)) old.state)) falls)))
  where
    add_less : (n a b : ℕ) → a < b → n + a < n + b
    add_less n a b less = omega arith

-- ---- what a solver is from step to step

-- one reply more keeps lists short
with_short : (given : Key) (it : Said) (reply : Reply) (answers more : Answers) → reply_said given reply ≡ Ok it
    → ((asked : Key) → more asked ≡ with_said given it answers asked) → AreShort answers → AreShort more
with_short given it reply answers more says are short identity list is =
    elim (cases_Bool (key_eq given (key.List identity))) [
      | inl same ↦
          (let e : given ≡ key.List identity = same_key given (key.List identity) (sym (key_ties given (key.List identity)) ∙ same) in
          let here : Some it ≡ Some (said.Releases list)
          = sym (are (key.List identity) ∙ cond-true (key_eq given (key.List identity)) (Some it) (answers (key.List identity)) same) ∙ is in
          let f : it ≡ said.Releases list = cc in
          says_kind (key.List identity) reply (said.Releases list) tt
          (subst (λ k. reply_said k reply ≡ Ok (said.Releases list)) e (says ∙ ap (λ s. Ok s) f)))
      | inr differs ↦
          short identity list
          (sym (are (key.List identity) ∙ cond-false (key_eq given (key.List identity)) (Some it) (answers (key.List identity)) differs) ∙ is)
    ]

-- a turn that goes on
pub turned_still : (old new : Solver) → IsRunning (answers_now old) old.state → Turns turned.Went old new → IsRunning (answers_now new) new.state
turned_still old new is (state, went, same) =
    subst (λ (solver : Solver). IsRunning (answers_now solver) solver.state) (sym same)
    (turned_running old.job old.pins (answers_now old) old.state state is went)

-- a reply that a turn needs
pub given_still : (asked : Key) (reply : Reply) (old new : Solver) → IsRunning (answers_now old) old.state → turn_now old ≡ Needs asked
    → IsGiven asked reply old new → IsRunning (answers_now new) new.state
given_still asked reply old new running needs is =
    subst (IsRunning (answers_now new)) (sym is.state)
    (more_running (answers_now old) (answers_now new) old.state (given_carries asked reply old new needs is)
    (with_short asked is.it reply (answers_now old) (answers_now new) is.says is.answers running.solver.short) running)
