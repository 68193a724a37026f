-- A resolution over the replies so far, turn by turn and reply by reply.
use Rattle.std.proofs.Common.{◌≡◌, ℕ, suc, ◌<◌, ◌≤◌, Bool, true, false, cond, List, length, map, Option, Some, None, Result, Ok, Err, option_map, refl, sym, ap, ◌∙◌, subst, arith, inl, inr}
use Rattle.std.proofs.Math.Path.{fun_ext}
use Rattle.std.proofs.lemmas.Bool.{cases_Bool, cond-false, cond-true}
use Rattle.std.specs.FinMap as finite
use Rattle.std.specs.Ordering.{eq_by_cmp}
use Rattle.std.specs.Prelude.{IfErr, IfSome, OnOk, ⊤}
use Rattle.pub_facts.specs.Catalogue.{Job}
use Rattle.pub_plain.specs.Answers.{AreShort, Carries, answers_of, lookups_by, unless_refused}
use Rattle.pub_plain.specs.Choosing.{Pins}
use Rattle.pub_plain.specs.Derivation.{choice_texts, derivation_in, ordered}
use Rattle.pub_plain.specs.Ending.{AreFew, IsRunning, steps_left}
use Rattle.pub_plain.specs.Given.{with_said}
use Rattle.pub_plain.specs.Gives.{IsGiven}
use Rattle.pub_plain.specs.Invariant.{IsSolver}
use Rattle.pub_plain.specs.Plain.{opening, plain_after, rules_of}
use Rattle.pub_plain.specs.Solver.{Solver, Turns, answers_now, counted, opened, turn_now}
use Rattle.pub_plain.specs.Stops.{IsRead, TurnStops}
use Rattle.pub_plain.proofs.DerivationLemmas.{refutation_checked}
use Rattle.pub_plain.proofs.EndingLemmas.{run_running}
use Rattle.pub_plain.proofs.FactLineLemmas.{lines_are_facts}
use Rattle.pub_plain.proofs.NoneLemmas.{none_valid}
use Rattle.pub_plain.proofs.PlainLemmas.{carries_more, says_kind}
use Rattle.pub_plain.proofs.RunLemmas.{run_same, run_solver, run_step}
use Rattle.pub_plain.proofs.StopLemmas.{turn_stops}
use Rattle.pub_plain.proofs.StepLemmas.{answers_few, given_falls, turned_falls}
use Rattle.pub_plain.proofs.TextLemmas.{lengths-choice_texts}
use Rattle.pub_facts.proofs.FactLemmas.{sizes_length}
use Rattle.pub_proof.specs.declared.derivation.Derivation.{Derivation}
use Rattle.pub_term.specs.declared.cause.Cause.{Cause}
use Rattle.pub_term.specs.declared.term.Term.{Term}
use Rattle.pub_trail.specs.Turn.{Step, Turn, Went, Needs, Refuted, turn_of}
use Rattle.pub_trail.specs.declared.turned.Turned.TheVariants as turned
use Rattle.spm_api.specs.Refused.{Refusal, garbled, too_long, unreadable}
use Rattle.spm_api.specs.Refused.{says as refusal_says}
use Rattle.spm_api.specs.Said.{Says, reply_said, said_in}
use Rattle.spm_api.specs.declared.replies.ReplyFault.{ReplyFault}
use Rattle.spm_api.specs.declared.replies.ReplyFault.TheVariants as fault
use Rattle.spm_api.specs.declared.replies.Said.{Said}
use Rattle.spm_api.specs.declared.replies.Said.TheVariants.{Releases}
use Rattle.spm_key.proofs.KeyLemmas.{same_key}
use Rattle.spm_key.specs.Catalogue.{Catalogue}
use Rattle.spm_key.specs.KeyLaws.{key_cmp, key_eq, key_equiv, key_ties, key_total}
use Rattle.spm_key.specs.declared.key.Key.{Key}
use Rattle.spm_key.specs.declared.key.Key.TheVariants as key
use Rattle.spm_key.specs.declared.reply.Reply.{Reply}
use Rattle.spm_session.specs.Archives.{Fingerprints}
use Rattle.spm_session.specs.Outcome.{CanBeTold, IsCheckedDerivationThatNoneExists, IsExplained, IsNoFault, IsRefusal, Runs, count_of}
use Rattle.spm_session.specs.Known.{IsWider, Known}
use Rattle.spm_session.specs.Run.{IsNotFetched, IsOfArchives, IsPutAs, IsReadyEnd, IsRefusedBy, IsRun, IsUnasked, missed_by, refused_by}
use Rattle.spm_session.specs.declared.source.Missed.{Missed}
use Rattle.spm_session.specs.declared.source.Missed.TheVariants as missed_for
use Rattle.spm_session.proofs.ArchiveLemmas.{from_more, from_wider}
use Rattle.spm_session.proofs.ArchiveLemmas.{elsewhere}
use Rattle.spm_session.specs.declared.outcome.Outcome.{Outcome}
use Rattle.spm_session.specs.declared.outcome.Outcome.TheVariants as outcome

-- ---- a catalogue with one reply more

-- the same key by both orders
same_order : (given asked : Key) → eq_by_cmp key_cmp asked given ≡ key_eq given asked
same_order given asked = sym (key_ties asked given) ∙ key_equiv.symm asked given

-- what is said of a key by a reply that may be there
abbrev said_by : Key → Option Reply → Option Said
said_by asked found = unless_refused (option_map (reply_said asked) found)

-- what a catalogue says with one reply more
said_more : (c : Catalogue) (given : Key) (reply : Reply) (asked : Key)
    → answers_of (finite.insert c given reply) asked ≡ cond (key_eq given asked) (unless_refused (Some (reply_said asked reply))) (answers_of c asked)
said_more c given reply asked =
    ap (λ found. unless_refused (option_map (reply_said asked) found))
    (finite.get-insert key_total c given reply asked ∙ ap (λ b. cond b (Some reply) (finite.get c asked)) (same_order given asked))
    ∙ go (key_eq given asked)
  where
    go : (same : Bool) → unless_refused (option_map (reply_said asked) (cond same (Some reply) (finite.get c asked)))
        ≡ cond same (unless_refused (Some (reply_said asked reply))) (answers_of c asked)
    go true = refl
    go false = refl

-- a reply that says something of its key
pub answers_more : (c : Catalogue) (given : Key) (reply : Reply) (it : Said) → reply_said given reply ≡ Ok it
    → answers_of (finite.insert c given reply) ≡ with_said given it (answers_of c)
answers_more c given reply it says = fun_ext (λ asked.
    said_more c given reply asked
    ∙ elim (cases_Bool (key_eq given asked)) [
      | inl same ↦
          (let e : given ≡ asked = same_key given asked (sym (key_ties given asked) ∙ same) in
          cond-true (key_eq given asked) (unless_refused (Some (reply_said asked reply))) (answers_of c asked) same
          ∙ ap (λ said. unless_refused (Some said)) (ap (λ k. reply_said k reply) (sym e) ∙ says)
          ∙ sym (cond-true (key_eq given asked) (Some it) (answers_of c asked) same))
      | inr differs ↦
          cond-false (key_eq given asked) (unless_refused (Some (reply_said asked reply))) (answers_of c asked) differs
          ∙ sym (cond-false (key_eq given asked) (Some it) (answers_of c asked) differs)
    ])

-- one that is refused, of a key of which nothing was said
pub answers_refused : (c : Catalogue) (given : Key) (reply : Reply) (reason : Refusal) → reply_said given reply ≡ Err reason → answers_of c given ≡ None
    → answers_of (finite.insert c given reply) ≡ answers_of c
answers_refused c given reply reason says none = fun_ext (λ asked.
    said_more c given reply asked
    ∙ elim (cases_Bool (key_eq given asked)) [
      | inl same ↦
          (let e : given ≡ asked = same_key given asked (sym (key_ties given asked) ∙ same) in
          cond-true (key_eq given asked) (unless_refused (Some (reply_said asked reply))) (answers_of c asked) same
          ∙ ap (λ said. unless_refused (Some said)) (ap (λ k. reply_said k reply) (sym e) ∙ says)
          ∙ sym (subst (λ k. answers_of c k ≡ None) e none))
      | inr differs ↦ cond-false (key_eq given asked) (unless_refused (Some (reply_said asked reply))) (answers_of c asked) differs
    ])

-- what the reply of a key says then
pub said_then : (c : Catalogue) (given : Key) (reply : Reply) → said_in (finite.insert c given reply) given ≡ Some (reply_said given reply)
said_then c given reply =
    ap (option_map (reply_said given))
    (finite.get-insert key_total c given reply given
    ∙ cond-true (eq_by_cmp key_cmp given given) (Some reply) (finite.get c given) (sym (key_ties given given) ∙ key_equiv.refl given))

-- no list that a catalogue gives is too long
pub replies_short : (c : Catalogue) → AreShort (answers_of c)
replies_short c identity list is = go (finite.get c (key.List identity)) is
  where
    said : (reply : Reply) (found : Result Said Refusal) → reply_said (key.List identity) reply ≡ found → unless_refused (Some found) ≡ Some (Releases list)
        → length list ≤ 4096
    said reply (Ok it) at is =
        let e : it ≡ Releases list = cc in
        says_kind (key.List identity) reply (Releases list) tt (at ∙ ap (λ s. Ok s) e)
    said reply (Err reason) at is = cc

    go : (found : Option Reply) → unless_refused (option_map (reply_said (key.List identity)) found) ≡ Some (Releases list) → length list ≤ 4096
    go None is = cc
    go (Some reply) is = said reply (reply_said (key.List identity) reply) refl is

-- ---- the run

-- at the opening
pub run_opens : (known : Known) (job : Job) (pins : Pins) → IsRun known (opened job pins)
run_opens known job pins = record {
  c = finite.empty;
  from = λ asked. subst (λ found. IfSome found (λ reply. known asked reply)) (sym (none asked)) tt;
  unasked = λ asked of. none asked;
  answers = fun_ext (λ asked. nothing asked ∙ sym (ap (λ found. said_by asked found) (none asked)));
  count = 0;
  after = refl;
  turns = refl;
}
  where
    none : (asked : Key) → finite.get (finite.empty {K = Key} {X = Reply} {R = key_cmp}) asked ≡ None
    none asked = finite.get-empty key_cmp asked

    nothing : (asked : Key) → answers_now (opened job pins) asked ≡ None
    nothing (key.List identity) = refl
    nothing (key.Manifest identity release) = refl
    nothing (key.Release identity release) = refl
    nothing (key.Archive identity release) = refl
    nothing (key.Identifiers url) = refl

-- its next turn is that of the definition
pub turn_is : (known : Known) (solver : Solver) → (run : IsRun known solver)
    → turn_of (rules_of solver.job solver.pins (answers_of run.c)) solver.state ≡ turn_now solver
turn_is known solver run = ap (λ answers. turn_of (rules_of solver.job solver.pins answers) solver.state) (sym run.answers)

-- a last turn ends a run
abbrev pub runs_to : (known : Known) (solver : Solver) (last : Turn) → (run : IsRun known solver) → turn_now solver ≡ last
    → Runs solver.job solver.pins (answers_of run.c) last
runs_to known solver last run is =
    record { turns = run.count; state = solver.state; after = run.after; is = turn_is known solver run ∙ is }

-- after a turn more
pub run_turned : (known : Known) (old new : Solver) → Turns turned.Went old new → IsRun known old → IsRun known new
run_turned known old new went run =
    subst (IsRun known) (sym went.2) (record {
      c = run.c;
      from = run.from;
      unasked = run.unasked;
      answers = run.answers;
      count = suc run.count;
      after = run_step (rules_of old.job old.pins (answers_of run.c)) run.count (Went opening) old.state run.after
          ∙ turn_is known old run ∙ went.1;
      turns = ap counted run.turns ∙ count_more run.count;
    })
  where
    count_more : (n : ℕ) → counted (count_of n) ≡ count_of (suc n)
    count_more n = omega arith

-- a key that a solver reads is of no archive
read_before : (asked : Key) → IsRead asked → IsOfArchives asked → ⊥
read_before (key.List identity) read of = of
read_before (key.Manifest identity release) read of = of
read_before (key.Release identity release) read of = read
read_before (key.Archive identity release) read of = read
read_before (key.Identifiers url) read of = of

still_unasked : (c : Catalogue) (asked : Key) (reply : Reply) → IsRead asked → IsUnasked c → IsUnasked (finite.insert c asked reply)
still_unasked c asked reply read unasked other of =
    elsewhere c asked reply other (λ is. read_before asked read (subst IsOfArchives is of)) ∙ unasked other of

-- after a reply that says something
pub run_given : (known : Known) (asked : Key) (reply : Reply) (old new : Solver) → IsRead asked → answers_now old asked ≡ None
    → known asked reply → IsGiven asked reply old new → IsRun known old → IsRun known new
run_given known asked reply old new read fresh has given run =
    let more = finite.insert run.c asked reply in
    let said = answers_more run.c asked reply given.it given.says in
    let none : answers_of run.c asked ≡ None = ap (λ answers. answers asked) (sym run.answers) ∙ fresh in
    let carries : Carries (answers_of run.c) (answers_of more)
    = carries_more asked given.it (answers_of run.c) (answers_of more) none (λ k. ap (λ answers. answers k) said) in
    record {
      c = more;
      from = from_more known run.c asked reply has run.from;
      unasked = still_unasked run.c asked reply read run.unasked;
      answers = fun_ext given.answers ∙ ap (with_said asked given.it) run.answers ∙ sym said;
      count = run.count;
      after = subst (λ job. plain_after job new.pins (answers_of more) run.count ≡ Went new.state) (sym given.job)
          (subst (λ pins. plain_after old.job pins (answers_of more) run.count ≡ Went new.state) (sym given.pins)
          (run_same old.job old.pins (answers_of run.c) (answers_of more) run.count old.state (replies_short run.c) (replies_short more) carries run.after
          ∙ ap (λ s. Went s) (sym given.state)));
      turns = given.turns ∙ run.turns;
    }

-- ---- what a turn comes to

-- a key that a turn needs isn't answered, and is one that a solver reads
pub needs_what : (solver : Solver) (asked : Key) → turn_now solver ≡ Needs asked → (answers_now solver asked ≡ None) × IsRead asked
needs_what solver asked is =
    subst (TurnStops (answers_now solver)) is (turn_stops solver.job solver.pins (answers_now solver) solver.state)

-- the derivation of a refutation
pub is_refuted : (same : Cause → Cause → Bool) (known : Known) (fingerprints : Fingerprints) (solver : Solver) (found : Derivation) (texts : List (List (List ℕ)))
    (turns : ℕ) (terms : List Term) (first : ℕ) (steps : List Step) → IsRun known solver → turn_now solver ≡ Refuted terms first steps
    → found ≡ derivation_in same (lookups_by (answers_now solver)) solver.state first steps
    → texts ≡ choice_texts (lookups_by (answers_now solver)) solver.state.names → turns ≡ solver.turns
    → IsReadyEnd same known solver.job fingerprints solver.pins (outcome.Refuted found texts turns)
is_refuted same known fingerprints solver found texts turns terms first steps run is found_is texts_are turns_are = record {
  c = run.c;
  from = run.from;
  is = record {
    terms = terms;
    first = first;
    steps = steps;
    run = it;
    derivation_is = are;
    texts_are = texts_are ∙ ap (λ answers. choice_texts (lookups_by answers) solver.state.names) run.answers;
    turns_are = turns_are ∙ run.turns;
    none = subst (IsCheckedDerivationThatNoneExists solver.job (answers_of run.c) it.state) (sym are) (record {
      checked = refutation_checked same solver.job solver.pins (answers_of run.c) it.state terms first steps
          (run_solver solver.job solver.pins (answers_of run.c) it.turns it.state (replies_short run.c) it.after) it.is;
      facts = lines_are_facts same solver.job solver.pins (answers_of run.c) it.turns it.state terms first steps (replies_short run.c) it.after it.is;
      none = λ more carries short selection valid.
          none_valid solver.job solver.pins (answers_of run.c) more it.turns it.state terms first steps selection (replies_short run.c) short carries
          it.after it.is valid;
    });
  };
}
  where
    it : Runs solver.job solver.pins (answers_of run.c) (Refuted terms first steps)
    it = runs_to known solver (Refuted terms first steps) run is

    are : found ≡ derivation_in same (lookups_by (answers_of run.c)) solver.state first steps
    are = found_is ∙ ap (λ answers. derivation_in same (lookups_by answers) solver.state first steps) run.answers

-- it can be told
pub is_told : (same : Cause → Cause → Bool) (known : Known) (solver : Solver) (found : Derivation) (texts : List (List (List ℕ)))
    (terms : List Term) (first : ℕ) (steps : List Step) → IsRun known solver → turn_now solver ≡ Refuted terms first steps
    → found ≡ derivation_in same (lookups_by (answers_now solver)) solver.state first steps
    → texts ≡ choice_texts (lookups_by (answers_now solver)) solver.state.names → IsExplained found texts
is_told same known solver found texts terms first steps run is found_is texts_are =
    let l = lookups_by (answers_now solver) in
    let solves : IsSolver (answers_now solver) solver.state
    = run_solver solver.job solver.pins (answers_now solver) run.count solver.state
    (subst AreShort (sym run.answers) (replies_short run.c))
    (ap (λ answers. plain_after solver.job solver.pins answers run.count) run.answers ∙ run.after) in
    subst (λ d. IsExplained d texts) (sym found_is) (record {
      sizes = sizes_length l (ordered solver.state.names);
      checked = refutation_checked same solver.job solver.pins (answers_now solver) solver.state terms first steps solves is;
      texts_are = ap (λ (ts : List (List (List ℕ))). map length ts) texts_are ∙ lengths-choice_texts l solver.state.names;
    })

-- what the solver's refutation is put as is the outcome
pub put_ends : (same : Cause → Cause → Bool) (known : Known) (fingerprints : Fingerprints) (solver : Solver) (it : Outcome) → IsPutAs same solver it
    → IsRun known solver → IsReadyEnd same known solver.job fingerprints solver.pins it
put_ends same known fingerprints solver it so run =
    subst (IsReadyEnd same known solver.job fingerprints solver.pins) (sym so.put)
    (is_refuted same known fingerprints solver so.derivation so.texts solver.turns so.terms so.first so.steps run so.is so.derivation_is so.texts_are refl)

-- and can be told
pub put_told : (same : Cause → Cause → Bool) (known : Known) (solver : Solver) (it : Outcome) → IsPutAs same solver it → IsRun known solver → CanBeTold it
put_told same known solver it so run =
    subst CanBeTold (sym so.put) (is_told same known solver so.derivation so.texts so.terms so.first so.steps run so.is so.derivation_is so.texts_are)

-- and is no fault
pub put_quiet : (same : Cause → Cause → Bool) (solver : Solver) (it : Outcome) → IsPutAs same solver it → IsNoFault it
put_quiet same solver it so = subst IsNoFault (sym so.put) tt

-- ---- a reply that is given

-- a run stays one, whatever else comes to be known
pub run_wider : (first second : Known) → IsWider first second → (solver : Solver) → IsRun first solver → IsRun second solver
run_wider first second wider solver run = record {
  c = run.c;
  from = from_wider first second wider run.c run.from;
  unasked = run.unasked;
  answers = run.answers;
  count = run.count;
  after = run.after;
  turns = run.turns;
}

-- the run goes on
pub given_on : (known : Known) (asked : Key) (reply : Reply) (old new : Solver) (result : Result ⊤ Outcome)
    → IsRead asked → answers_now old asked ≡ None → known asked reply → OnOk result (IsGiven asked reply old new) → OnOk result (IsRun known old → IsRun known new)
given_on known asked reply old new (Ok done) read fresh has given = run_given known asked reply old new read fresh has given
given_on known asked reply old new (Err it) read fresh has given = tt

-- a key that wasn't fetched ends it
pub unfetched_ends : (same : Cause → Cause → Bool) (known : Known) (fingerprints : Fingerprints) (asked : Key) (old : Solver)
    (it : Outcome) → turn_now old ≡ Needs asked → IsNotFetched asked it → IsRun known old
    → IsReadyEnd same known old.job fingerprints old.pins it
unfetched_ends same known fingerprints asked old it is missed run =
    subst (IsReadyEnd same known old.job fingerprints old.pins) (sym missed.1) (by missed.0)
  where
    by : (why : Missed) → IsReadyEnd same known old.job fingerprints old.pins (missed_by asked why)
    by missed_for.Failed = record { c = run.c; from = run.from; demands = inl (runs_to known old (Needs asked) run is) }
    by (missed_for.Cancelled who) = tt
    by missed_for.Memory = tt

-- and there is nothing to tell
pub unfetched_told : (asked : Key) (it : Outcome) → IsNotFetched asked it → CanBeTold it
unfetched_told asked it missed = subst CanBeTold (sym missed.1) (by missed.0)
  where
    by : (why : Missed) → CanBeTold (missed_by asked why)
    by missed_for.Failed = tt
    by (missed_for.Cancelled who) = tt
    by missed_for.Memory = tt

-- a reply that is refused ends it
pub refused_on : (same : Cause → Cause → Bool) (known : Known) (asked : Key) (reply : Reply) (old : Solver)
    (result : Result ⊤ Outcome) → turn_now old ≡ Needs asked → answers_now old asked ≡ None
    → known asked reply → IfErr result (λ it. IsRefusedBy asked reply it)
    → IfErr result (λ it. (fingerprints : Fingerprints) → IsRun known old → IsReadyEnd same known old.job fingerprints old.pins it)
refused_on same known asked reply old (Ok done) is fresh has refused = tt
refused_on same known asked reply old (Err it) is fresh has refused = λ fingerprints run.
    subst (IsReadyEnd same known old.job fingerprints old.pins) (sym refused.is) (by fingerprints run refused.why refused.says)
  where
    -- the catalogue with the reply, over which nothing more is said
    over : (run : IsRun known old) (reason : Refusal) → reply_said asked reply ≡ Err reason
        → IsRefusal old.job old.pins (finite.insert run.c asked reply) asked reason
    over run reason says =
        let none : answers_of run.c asked ≡ None = ap (λ answers. answers asked) (sym run.answers) ∙ fresh in
        record {
          run = subst (λ answers. Runs old.job old.pins answers (Needs asked)) (sym (answers_refused run.c asked reply reason says none))
              (runs_to known old (Needs asked) run is);
          refused = said_then run.c asked reply ∙ ap (λ found. Some found) says;
        }

    by : (fingerprints : Fingerprints) (run : IsRun known old) (why : ReplyFault) → Says (Err why) (reply_said asked reply)
        → IsReadyEnd same known old.job fingerprints old.pins (refused_by asked why)
    by fingerprints run fault.Garbled says = record { c = finite.insert run.c asked reply; from = from_more known run.c asked reply has run.from; is = inl (over run garbled says) }
    by fingerprints run fault.TooLong says = record { c = finite.insert run.c asked reply; from = from_more known run.c asked reply has run.from; is = inl (over run too_long says) }
    by fingerprints run fault.Unreadable says = record { c = finite.insert run.c asked reply; from = from_more known run.c asked reply has run.from; is = inl (over run unreadable says) }
    by fingerprints run (fault.Says status detail) says =
        record { c = finite.insert run.c asked reply; from = from_more known run.c asked reply has run.from; is = inl (over run (refusal_says status detail) says) }
    by fingerprints run fault.Memory says = tt

-- and there is nothing to tell
pub refused_told : (known : Known) (asked : Key) (reply : Reply) (old : Solver) (result : Result ⊤ Outcome)
    → IfErr result (λ it. IsRefusedBy asked reply it) → IfErr result (λ it. IsRun known old → CanBeTold it)
refused_told known asked reply old (Ok done) refused = tt
refused_told known asked reply old (Err it) refused = λ run. subst CanBeTold (sym refused.is) (by refused.why)
  where
    by : (why : ReplyFault) → CanBeTold (refused_by asked why)
    by fault.Garbled = tt
    by fault.TooLong = tt
    by fault.Unreadable = tt
    by (fault.Says status detail) = tt
    by fault.Memory = tt

-- a turn that changes nothing ends as it would have before it
pub ends_before : (same : Cause → Cause → Bool) (known : Known) (fingerprints : Fingerprints) (old new : Solver) (it : Outcome) → new ≡ old
    → (IsRun known new → IsReadyEnd same known new.job fingerprints new.pins it) → IsRun known old
    → IsReadyEnd same known old.job fingerprints old.pins it
ends_before same known fingerprints old new it is ends =
    subst (λ (s : Solver). IsRun known s → IsReadyEnd same known s.job fingerprints s.pins it) is ends

-- ---- the end

-- each state of a run is one of a solver's
run_is_running : (known : Known) (solver : Solver) → IsRun known solver → IsRunning (answers_now solver) solver.state
run_is_running known solver run =
    run_running solver.job solver.pins (answers_now solver) run.count solver.state (subst AreShort (sym run.answers) (replies_short run.c))
    (ap (λ answers. plain_after solver.job solver.pins answers run.count) run.answers ∙ run.after)

-- a turn leaves less to do
pub turn_falls : (known : Known) (old new : Solver) → Turns turned.Went old new → IsRun known old
    → steps_left new < steps_left old
turn_falls known old new went run =
    turned_falls old new (run_is_running known old run) (subst AreFew (sym run.answers) (answers_few run.c)) went

-- and so does a reply that it needs
pub give_falls : (known : Known) (asked : Key) (reply : Reply) (old new : Solver) (result : Result ⊤ Outcome)
    → turn_now old ≡ Needs asked → OnOk result (IsGiven asked reply old new) → OnOk result (IsRun known old → steps_left new < steps_left old)
give_falls known asked reply old new (Ok done) needs given = λ run.
    given_falls asked reply old new (run_is_running known old run) (subst AreFew (sym run.answers) (answers_few run.c)) needs given
give_falls known asked reply old new (Err it) needs given = tt
