-- An outcome over a catalogue stays one over each catalogue that extends it.
use Rattle.std.proofs.Common.{◌≡◌, ◌⊎◌, ℕ, All, Bool, List, [], ◌∷◌, Option, Some, None, Result, Ok, Err, option_map, refl, sym, ap, ◌∙◌, subst, inl, inr}
use Rattle.std.specs.FinMap as replies
use Rattle.std.specs.Prelude.{IfSome}
use Rattle.pub_facts.specs.Catalogue.{Job}
use Rattle.pub_plain.specs.Answers.{Carries, answers_of, lookups_by, unless_refused}
use Rattle.pub_plain.specs.Choosing.{Pins}
use Rattle.pub_plain.specs.Derivation.{derivation_in, pins_in}
use Rattle.pub_plain.specs.FactLines.{IsFactLine}
use Rattle.pub_plain.specs.Invariant.{IsSolver}
use Rattle.pub_plain.specs.Stops.{IsStill}
use Rattle.pub_plain.proofs.ComesLemmas.{derivation_more, pins_more, texts_more}
use Rattle.pub_plain.proofs.FactLineLemmas.{lines_are_facts}
use Rattle.pub_plain.proofs.FirstSelection.{selection_first}
use Rattle.pub_plain.proofs.MoreLemmas.{same_turn}
use Rattle.pub_plain.proofs.NoneLemmas.{none_valid}
use Rattle.pub_plain.proofs.RunLemmas.{run_same, run_solver}
use Rattle.pub_plain.proofs.SaidLemmas.{said_ascend}
use Rattle.pub_proof.specs.declared.derivation.Derivation.{Derivation}
use Rattle.pub_term.specs.declared.cause.Cause.{Cause}
use Rattle.pub_trail.specs.Turn.{Turn, Needs, TooWide, Selected, Refuted}
use Rattle.spm_api.specs.Refused.{Refusal}
use Rattle.spm_api.specs.Said.{reply_said, said_in}
use Rattle.spm_api.specs.declared.replies.Said.{Said}
use Rattle.spm_key.specs.Catalogue.{Catalogue, Extends}
use Rattle.spm_key.specs.declared.key.Key.{Key}
use Rattle.spm_key.specs.declared.reply.Reply.{Reply}
use Rattle.spm_session.specs.Archives.{Fingerprints, Pin, Stop, and_then, archive_by, archive_key, checksum_by, ends, looked_at, looked_in, needs, pin_looked, pins_looked, release_key, with_sum}
use Rattle.spm_session.specs.Outcome.{IsFirstValidSelection, IsReadyOutcome, IsRefusal, IsRefuted, IsSelected, IsStopped, Runs}
use Rattle.spm_session.specs.declared.outcome.Outcome.{Outcome}
use Rattle.spm_session.specs.declared.outcome.Outcome.TheVariants as outcome
use Rattle.spm_session.proofs.RunLemmas.{replies_short}

-- ---- what is said

-- what the reply of a key says is said by a catalogue that extends it too
said_stays : (c more : Catalogue) → Extends more c → (asked : Key) (it : Result Said Refusal) → said_in c asked ≡ Some it → said_in more asked ≡ Some it
said_stays c more wider asked it is = go (replies.get c asked) refl (wider asked) is
  where
    go : (found : Option Reply) → replies.get c asked ≡ found → IfSome found (λ reply. replies.get more asked ≡ Some reply)
        → option_map (reply_said asked) found ≡ Some it → said_in more asked ≡ Some it
    go None at more_at is = cc
    go (Some reply) at more_at is = ap (option_map (reply_said asked)) more_at ∙ is

answers_carry : (c more : Catalogue) → Extends more c → Carries (answers_of c) (answers_of more)
answers_carry c more wider asked it is = go (said_in c asked) refl is
  where
    go : (found : Option (Result Said Refusal)) → said_in c asked ≡ found → unless_refused found ≡ Some it → answers_of more asked ≡ Some it
    go None at is = cc
    go (Some (Err refusal)) at is = cc
    go (Some (Ok said)) at is = ap unless_refused (said_stays c more wider asked (Ok said) at) ∙ is

module _ (job : Job) (pins : Pins) (c more : Catalogue) (wider : Extends more c) where
  carries : Carries (answers_of c) (answers_of more)
  carries = answers_carry c more wider

  -- a run that needs no more, or a key of which nothing more is said
  runs_stay : (last : Turn) → IsStill (answers_of more) last → Runs job pins (answers_of c) last → Runs job pins (answers_of more) last
  runs_stay last still run = record {
    turns = run.turns;
    state = run.state;
    after = run_same job pins (answers_of c) (answers_of more) run.turns run.state (replies_short c) (replies_short more) carries run.after;
    is = same_turn job pins (answers_of c) (answers_of more) carries run.state
        (run_solver job pins (answers_of c) run.turns run.state (replies_short c) run.after) (subst (IsStill (answers_of more)) (sym run.is) still)
        ∙ run.is;
  }

  solves : (last : Turn) → (run : Runs job pins (answers_of c) last) → IsSolver (answers_of c) run.state
  solves last run = run_solver job pins (answers_of c) run.turns run.state (replies_short c) run.after

  selected_stays : (found : Pins) (turns : ℕ) → IsSelected job pins c found turns → IsSelected job pins more found turns
  unfolding runs_stay
  selected_stays found turns it =
      let later = runs_stay Selected tt it.run in
      let are : found ≡ pins_in (lookups_by (answers_of more)) it.run.state
      = it.pins_are ∙ pins_more (answers_of c) (answers_of more) carries it.run.state (solves Selected it.run) in
      record {
        run = later;
        pins_are = are;
        turns_are = it.turns_are;
        first = subst (IsFirstValidSelection job pins (answers_of more)) (sym are)
            (selection_first job pins (answers_of more) it.run.turns it.run.state (replies_short more) (said_ascend more) later.after later.is);
      }

  refuted_stays : (same : Cause → Cause → Bool) (found : Derivation) (texts : List (List (List ℕ))) (turns : ℕ) → IsRefuted same job pins c found texts turns
      → IsRefuted same job pins more found texts turns
  unfolding runs_stay
  refuted_stays same found texts turns it =
      let last = Refuted it.terms it.first it.steps in
      let later = runs_stay last tt it.run in
      let are : found ≡ derivation_in same (lookups_by (answers_of more)) it.run.state it.first it.steps
      = it.derivation_is ∙ derivation_more (answers_of c) (answers_of more) carries same it.run.state it.first it.steps (solves last it.run) in
      record {
        terms = it.terms;
        first = it.first;
        steps = it.steps;
        run = later;
        derivation_is = are;
        texts_are = it.texts_are ∙ texts_more (answers_of c) (answers_of more) carries it.run.state (solves last it.run);
        turns_are = it.turns_are;
        none = record {
          checked = it.none.checked;
          facts = subst (λ d. All (IsFactLine job (answers_of more) it.run.state) d.lines) (sym are)
              (lines_are_facts same job pins (answers_of more) it.run.turns it.run.state it.terms it.first it.steps (replies_short more) later.after later.is);
          none = λ others carry short selection valid.
              none_valid job pins (answers_of more) others it.run.turns it.run.state it.terms it.first it.steps selection (replies_short more) short carry
              later.after later.is valid;
        };
      }

  refusal_stays : (asked : Key) (reason : Refusal) → IsRefusal job pins c asked reason → IsRefusal job pins more asked reason
  refusal_stays asked reason it =
      let refused = said_stays c more wider asked (Err reason) it.refused in
      record { run = runs_stay (Needs asked) (ap unless_refused refused) it.run; refused = refused }

-- ---- looks

-- a look that had each reply that it asked for
abbrev IsSettled : {A : Type 0} → Result A Stop → Type 0
IsSettled (Ok x) = Unit {0}
IsSettled (Err (ends it)) = Unit {0}
IsSettled (Err (needs asked)) = ⊥

module _ (c more : Catalogue) (wider : Extends more c) where
  look_stays : (asked : Key) (says : Reply → Result (List ℕ) Outcome) → IsSettled (looked_at c asked says) → looked_at more asked says ≡ looked_at c asked says
  look_stays asked says settled = go (replies.get c asked) refl (wider asked) settled
    where
      go : (found : Option Reply) → replies.get c asked ≡ found → IfSome found (λ reply. replies.get more asked ≡ Some reply)
          → IsSettled (looked_in asked says found) → looked_at more asked says ≡ looked_in asked says found
      go None at more_at settled = absurd settled
      go (Some reply) at more_at settled = ap (looked_in asked says) more_at

  pin_stays : (fingerprints : Fingerprints) (pin : Pin) → IsSettled (pin_looked fingerprints c pin) → pin_looked fingerprints more pin ≡ pin_looked fingerprints c pin
  pin_stays fingerprints pin settled =
      go (looked_at c (release_key pin) (checksum_by pin)) (look_stays (release_key pin) (checksum_by pin)) settled
    where
      after : Catalogue → List ℕ → Result (List ℕ) Stop
      after catalogue checksum = looked_at catalogue (archive_key pin) (archive_by fingerprints pin checksum)

      go : (first : Result (List ℕ) Stop) → (IsSettled first → looked_at more (release_key pin) (checksum_by pin) ≡ first)
          → IsSettled (and_then first (after c)) → pin_looked fingerprints more pin ≡ and_then first (after c)
      go (Ok checksum) same settled =
          ap (λ found. and_then found (after more)) (same tt) ∙ look_stays (archive_key pin) (archive_by fingerprints pin checksum) settled
      go (Err (ends it)) same settled = ap (λ found. and_then found (after more)) (same tt)
      go (Err (needs asked)) same settled = absurd settled

  pub looks_stay : (fingerprints : Fingerprints) (pins : List Pin) → IsSettled (pins_looked fingerprints c pins)
      → pins_looked fingerprints more pins ≡ pins_looked fingerprints c pins
  looks_stay fingerprints [] settled = refl
  looks_stay fingerprints (pin ∷ pins) settled =
      go (looks_stay fingerprints pins) (pin_looked fingerprints c pin) (pin_stays fingerprints pin) settled
    where
      after : Catalogue → List ℕ → Result (List (List ℕ)) Stop
      after catalogue sum = with_sum sum (pins_looked fingerprints catalogue pins)

      behind : (sum : List ℕ) (found : Result (List (List ℕ)) Stop) → IsSettled (with_sum sum found) → IsSettled found
      behind sum (Ok sums) settled = tt
      behind sum (Err (ends it)) settled = tt
      behind sum (Err (needs asked)) settled = absurd settled

      go : (IsSettled (pins_looked fingerprints c pins) → pins_looked fingerprints more pins ≡ pins_looked fingerprints c pins)
          → (first : Result (List ℕ) Stop) → (IsSettled first → pin_looked fingerprints more pin ≡ first)
          → IsSettled (and_then first (after c)) → pins_looked fingerprints more (pin ∷ pins) ≡ and_then first (after c)
      go others (Ok sum) same settled =
          ap (λ found. and_then found (after more)) (same tt)
          ∙ ap (with_sum sum) (others (behind sum (pins_looked fingerprints c pins) settled))
      go others (Err (ends it)) same settled = ap (λ found. and_then found (after more)) (same tt)
      go others (Err (needs asked)) same settled = absurd settled

-- ---- outcomes

module _ (same : Cause → Cause → Bool) (job : Job) (fingerprints : Fingerprints) (pins : Pins) (c more : Catalogue) (wider : Extends more c) where
  stopped_stays : (it : Outcome) → IsStopped job fingerprints pins c it → IsStopped job fingerprints pins more it
  stopped_stays it stopped = record {
    found = stopped.found;
    turns = stopped.turns;
    selected = selected_stays job pins c more wider stopped.found stopped.turns stopped.selected;
    stops = looks_stay c more wider fingerprints stopped.found (subst IsSettled (sym stopped.stops) tt) ∙ stopped.stops;
  }

  refused_stays : (asked : Key) (reason : Refusal) (it : Outcome) → IsRefusal job pins c asked reason ⊎ IsStopped job fingerprints pins c it
      → IsRefusal job pins more asked reason ⊎ IsStopped job fingerprints pins more it
  refused_stays asked reason it (inl refusal) = inl (refusal_stays job pins c more wider asked reason refusal)
  refused_stays asked reason it (inr stopped) = inr (stopped_stays it stopped)

  pub outcome_stays : (it : Outcome) → IsReadyOutcome same job fingerprints pins c it → IsReadyOutcome same job fingerprints pins more it
  outcome_stays (outcome.Resolved found sums turns) is = record {
    selected = selected_stays job pins c more wider found turns is.selected;
    right = looks_stay c more wider fingerprints found (subst IsSettled (sym is.right) tt) ∙ is.right;
  }
  outcome_stays (outcome.Refuted derivation texts turns) is = refuted_stays job pins c more wider same derivation texts turns is
  outcome_stays (outcome.TooWide wide) is = runs_stay job pins c more wider (TooWide wide) tt is
  outcome_stays (outcome.RegistrySays asked status detail) is = refused_stays asked _ _ is
  outcome_stays (outcome.Garbled asked) is = refused_stays asked _ _ is
  outcome_stays (outcome.TooLong asked) is = refused_stays asked _ _ is
  outcome_stays (outcome.ListUnreadable asked) is = refused_stays asked _ _ is
  outcome_stays (outcome.ReleaseUnreadable asked) is = stopped_stays _ is
  outcome_stays (outcome.NoArchive identity release) is = stopped_stays _ is
  outcome_stays (outcome.ChecksumDiffers identity release said found) is = stopped_stays _ is
  outcome_stays (outcome.TrustDiffers identity release kept said) is = stopped_stays _ is
  outcome_stays outcome.RootMissing is = is
  outcome_stays (outcome.RootUnreadable place kind) is = is
  outcome_stays (outcome.RootTooNew needed running) is = is
  outcome_stays (outcome.ResolvedUnreadable place kind) is = is
  outcome_stays (outcome.FetchFault asked) is = is
  outcome_stays (outcome.Cancelled by) is = is
  outcome_stays (outcome.DeskFault name) is = is
  outcome_stays outcome.Memory is = is
