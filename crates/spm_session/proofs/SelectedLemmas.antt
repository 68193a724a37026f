-- What a selection comes to, once the archives of its pins were looked at.
use Rattle.std.proofs.Common.{◌≡◌, ℕ, List, [], ◌∷◌, Bool, Some, None, Result, Ok, Err, sym, ap, ◌∙◌, subst, inl, inr}
use Rattle.std.proofs.Math.Path.{fun_ext}
use Rattle.std.specs.Prelude.{option_map}
use Rattle.pub_plain.specs.Answers.{Carries, answers_of, lookups_by, package_in, releases_in, unless_refused}
use Rattle.pub_plain.specs.Choosing.{Pins}
use Rattle.pub_plain.specs.Derivation.{pins_in}
use Rattle.pub_plain.specs.Plain.{plain_after, rules_of}
use Rattle.pub_plain.specs.Solver.{Solver, answers_now, turn_now}
use Rattle.pub_plain.specs.Stops.{IsStill}
use Rattle.pub_plain.proofs.FirstSelection.{selection_first}
use Rattle.pub_plain.proofs.MoreLemmas.{same_turn}
use Rattle.pub_plain.proofs.PinLemmas.{solver_pins_ascend}
use Rattle.pub_plain.proofs.RunLemmas.{run_same, run_solver}
use Rattle.pub_plain.proofs.SaidLemmas.{said_ascend}
use Rattle.pub_term.specs.declared.cause.Cause.{Cause}
use Rattle.pub_trail.specs.Turn.{Selected, Went, turn_of}
use Rattle.spm_api.specs.Said.{reply_said}
use Rattle.spm_key.specs.Catalogue.{Catalogue}
use Rattle.spm_key.specs.declared.key.Key.{Key}
use Rattle.spm_key.specs.declared.key.Key.TheVariants as key
use Rattle.spm_session.specs.Archives.{Fingerprints, Pin, pins_looked}
use Rattle.spm_session.specs.Outcome.{CanBeTold, IsFirstValidSelection, IsSelected}
use Rattle.spm_session.specs.Known.{Known}
use Rattle.spm_session.specs.Run.{ArePinsAscending, DifferOnlyAt, IsKeyOfAny, IsOfArchives, IsOfArchivesEnd, IsReadyEnd, IsRun, IsUnasked, LooksFrom, LooksOver}
use Rattle.spm_session.specs.declared.outcome.Outcome.{Outcome}
use Rattle.spm_session.specs.declared.outcome.Outcome.TheVariants as outcome
use Rattle.spm_session.proofs.ArchiveLemmas.{grown_from}
use Rattle.spm_session.proofs.RunLemmas.{replies_short, runs_to}

-- the keys of pins are of archives
of_archives : (pins : List Pin) (asked : Key) → IsKeyOfAny pins asked → IsOfArchives asked
of_archives [] asked among = absurd among
of_archives (pin ∷ pins) asked (inl (inl is)) = subst IsOfArchives (sym is) tt
of_archives (pin ∷ pins) asked (inl (inr is)) = subst IsOfArchives (sym is) tt
of_archives (pin ∷ pins) asked (inr later) = of_archives pins asked later

module _ (c more : Catalogue) (others : DifferOnlyAt IsOfArchives more c) where
  said_same : (asked : Key) → (IsOfArchives asked → ⊥) → answers_of more asked ≡ answers_of c asked
  said_same asked isnt = ap (λ found. unless_refused (option_map (reply_said asked) found)) (others asked isnt)

  -- the solver reads the same of both
  lookups_same : lookups_by (answers_of more) ≡ lookups_by (answers_of c)
  lookups_same = λ i. record {
    list = fun_ext (λ identity. ap releases_in (said_same (key.List identity) (λ of. of))) i;
    package_at = fun_ext (λ url. ap package_in (said_same (key.Identifiers url) (λ of. of))) i;
  }

  carries_on : IsUnasked c → Carries (answers_of c) (answers_of more)
  carries_on unasked (key.List identity) said is = said_same (key.List identity) (λ of. of) ∙ is
  carries_on unasked (key.Manifest identity release) said is = said_same (key.Manifest identity release) (λ of. of) ∙ is
  carries_on unasked (key.Release identity release) said is =
      let none : answers_of c (key.Release identity release) ≡ None
      = ap (λ found. unless_refused (option_map (reply_said (key.Release identity release)) found)) (unasked (key.Release identity release) tt) in
      let both : Some said ≡ None = sym is ∙ none in
      cc
  carries_on unasked (key.Archive identity release) said is =
      let none : answers_of c (key.Archive identity release) ≡ None
      = ap (λ found. unless_refused (option_map (reply_said (key.Archive identity release)) found)) (unasked (key.Archive identity release) tt) in
      let both : Some said ≡ None = sym is ∙ none in
      cc
  carries_on unasked (key.Identifiers url) said is = said_same (key.Identifiers url) (λ of. of) ∙ is

module _ (known : Known) (solver : Solver) (found : Pins) (turns : ℕ) (run : IsRun known solver)
    (is : turn_now solver ≡ Selected) (pins_are : found ≡ pins_in (lookups_by (answers_now solver)) solver.state) (turns_are : turns ≡ solver.turns) where
  -- the selection stands over a catalogue with other replies of archives
  selected_over : (more : Catalogue) → DifferOnlyAt IsOfArchives more run.c → IsSelected solver.job solver.pins more found turns
  selected_over more others = record {
    run = record { turns = run.count; state = solver.state; after = after; is = selects };
    pins_are = are;
    turns_are = turns_are ∙ run.turns;
    first = subst (IsFirstValidSelection solver.job solver.pins (answers_of more)) (sym are)
        (selection_first solver.job solver.pins (answers_of more) run.count solver.state (replies_short more) (said_ascend more) after selects);
  }
    where
      carries : Carries (answers_of run.c) (answers_of more)
      carries = carries_on run.c more others run.unasked

      now : turn_of (rules_of solver.job solver.pins (answers_of run.c)) solver.state ≡ Selected
      now = (runs_to known solver Selected run is).is

      after : plain_after solver.job solver.pins (answers_of more) run.count ≡ Went solver.state
      after = run_same solver.job solver.pins (answers_of run.c) (answers_of more) run.count solver.state (replies_short run.c) (replies_short more)
          carries run.after

      selects : turn_of (rules_of solver.job solver.pins (answers_of more)) solver.state ≡ Selected
      selects =
          same_turn solver.job solver.pins (answers_of run.c) (answers_of more) carries solver.state
          (run_solver solver.job solver.pins (answers_of run.c) run.count solver.state (replies_short run.c) run.after)
          (subst (IsStill (answers_of more)) (sym now) tt)
          ∙ now

      are : found ≡ pins_in (lookups_by (answers_of more)) solver.state
      are =
          pins_are ∙ ap (λ answers. pins_in (lookups_by answers) solver.state) run.answers
          ∙ ap (λ lookups. pins_in lookups solver.state) (sym (lookups_same run.c more others))

  -- its pins ascend
  pub found_ascend : ArePinsAscending found
  found_ascend =
      subst ArePinsAscending (sym (pins_are ∙ ap (λ answers. pins_in (lookups_by answers) solver.state) run.answers))
      (solver_pins_ascend (answers_of run.c) solver.state
      (run_solver solver.job solver.pins (answers_of run.c) run.count solver.state (replies_short run.c) run.after))

  module _ (same : Cause → Cause → Bool) (fingerprints : Fingerprints) where
    -- the look from the replies so far
    looked : {A : Type 0} (result : Result A Outcome) (look : Catalogue → _) → LooksFrom known (IsKeyOfAny found) look result
        → LooksOver known (IsKeyOfAny found) look run.c result
    looked result look looks = looks run.c (λ asked among. run.unasked asked (of_archives found asked among))

    over : {A : Type 0} (result : Result A Outcome) (look : Catalogue → _) → (it : LooksOver known (IsKeyOfAny found) look run.c result)
        → IsSelected solver.job solver.pins it.more found turns
    over result look it = selected_over it.more (λ asked isnt. it.others asked (λ among. isnt (of_archives found asked among)))

    -- all archives are right
    pub is_resolved : (sums : List (List ℕ)) → LooksFrom known (IsKeyOfAny found) (λ c. pins_looked fingerprints c found) (Ok sums)
        → IsReadyEnd same known solver.job fingerprints solver.pins (outcome.Resolved found sums turns)
    is_resolved sums looks =
        let it = looked (Ok sums) (λ c. pins_looked fingerprints c found) looks in
        record { c = it.more; from = grown_from known run.c it.more run.from it.grows; is = record { selected = over (Ok sums) (λ c. pins_looked fingerprints c found) it; right = it.looks } }

    -- one of them stops the root
    pub is_stopped : (it : Outcome) → LooksFrom known (IsKeyOfAny found) (λ c. pins_looked fingerprints c found) (Err it) → IsOfArchivesEnd it
        → IsReadyEnd same known solver.job fingerprints solver.pins it
    is_stopped it looks kind = go it (looked (Err it) (λ c. pins_looked fingerprints c found) looks) kind
      where
        go : (it : Outcome) → LooksOver known (IsKeyOfAny found) (λ c. pins_looked fingerprints c found) run.c (Err it) → IsOfArchivesEnd it
            → IsReadyEnd same known solver.job fingerprints solver.pins it
        go (outcome.RegistrySays asked status detail) at kind = record {
          c = at.more;
          from = grown_from known run.c at.more run.from at.grows;
          is = inr (record { found = found; turns = turns; selected = over (Err _) _ at; stops = at.looks });
        }
        go (outcome.Garbled asked) at kind = record {
          c = at.more;
          from = grown_from known run.c at.more run.from at.grows;
          is = inr (record { found = found; turns = turns; selected = over (Err _) _ at; stops = at.looks });
        }
        go (outcome.TooLong asked) at kind = record {
          c = at.more;
          from = grown_from known run.c at.more run.from at.grows;
          is = inr (record { found = found; turns = turns; selected = over (Err _) _ at; stops = at.looks });
        }
        go (outcome.ListUnreadable asked) at kind = record {
          c = at.more;
          from = grown_from known run.c at.more run.from at.grows;
          is = inr (record { found = found; turns = turns; selected = over (Err _) _ at; stops = at.looks });
        }
        go (outcome.ReleaseUnreadable asked) at kind = record {
          c = at.more;
          from = grown_from known run.c at.more run.from at.grows;
          is = record { found = found; turns = turns; selected = over (Err _) _ at; stops = at.looks };
        }
        go (outcome.NoArchive identity release) at kind = record {
          c = at.more;
          from = grown_from known run.c at.more run.from at.grows;
          is = record { found = found; turns = turns; selected = over (Err _) _ at; stops = at.looks };
        }
        go (outcome.ChecksumDiffers identity release said sum) at kind = record {
          c = at.more;
          from = grown_from known run.c at.more run.from at.grows;
          is = record { found = found; turns = turns; selected = over (Err _) _ at; stops = at.looks };
        }
        go (outcome.TrustDiffers identity release kept said) at kind = record {
          c = at.more;
          from = grown_from known run.c at.more run.from at.grows;
          is = record { found = found; turns = turns; selected = over (Err _) _ at; stops = at.looks };
        }
        go (outcome.FetchFault asked) at kind = record {
          c = at.more;
          from = grown_from known run.c at.more run.from at.grows;
          demands = inr (record { found = found; turns = turns; selected = over (Err _) _ at; wants = at.looks });
        }
        go (outcome.Cancelled by) at kind = tt
        go outcome.Memory at kind = tt
        go (outcome.Resolved pins sums number) at kind = absurd kind
        go (outcome.Refuted derivation texts number) at kind = absurd kind
        go outcome.RootMissing at kind = absurd kind
        go (outcome.RootUnreadable place fault) at kind = absurd kind
        go (outcome.RootTooNew needed running) at kind = absurd kind
        go (outcome.ResolvedUnreadable place fault) at kind = absurd kind
        go (outcome.TooWide wide) at kind = absurd kind
        go (outcome.DeskFault name) at kind = absurd kind

-- what stops a look at archives has nothing to tell
pub stopped_told : (it : Outcome) → IsOfArchivesEnd it → CanBeTold it
stopped_told (outcome.Resolved pins sums number) kind = absurd kind
stopped_told (outcome.Refuted derivation texts number) kind = absurd kind
stopped_told outcome.RootMissing kind = absurd kind
stopped_told (outcome.RootUnreadable place fault) kind = absurd kind
stopped_told (outcome.RootTooNew needed running) kind = absurd kind
stopped_told (outcome.ResolvedUnreadable place fault) kind = absurd kind
stopped_told (outcome.TooWide wide) kind = absurd kind
stopped_told (outcome.DeskFault name) kind = absurd kind
stopped_told (outcome.Cancelled by) kind = tt
stopped_told (outcome.RegistrySays asked status detail) kind = tt
stopped_told (outcome.Garbled asked) kind = tt
stopped_told (outcome.TooLong asked) kind = tt
stopped_told (outcome.ListUnreadable asked) kind = tt
stopped_told (outcome.ReleaseUnreadable asked) kind = tt
stopped_told (outcome.NoArchive identity release) kind = tt
stopped_told (outcome.ChecksumDiffers identity release said found) kind = tt
stopped_told (outcome.TrustDiffers identity release kept said) kind = tt
stopped_told (outcome.FetchFault asked) kind = tt
stopped_told outcome.Memory kind = tt
