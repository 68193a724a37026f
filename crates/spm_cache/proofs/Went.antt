-- What a call adds to a pass's own events, and that a session stays one.
use Rattle.std.proofs.Common.{◌≡◌, ℕ, Bool, true, false, cond, ◌||◌, ◌&&◌, ◌==◌, List, [], ◌∷◌, ◌++◌, sym, refl, ap, ap₂, ◌∙◌, subst, append_assoc, append-nil}
use Rattle.std.proofs.lemmas.List.Elements.{filter-append}
use Rattle.std.proofs.lemmas.List.Folds.{list_any-append}
use Rattle.std.specs.List.{list_any}
use Rattle.std.specs.Prelude.{Result, Ok, Err}
use Rattle.spm_key.specs.declared.key.Key.{Key}
use Rattle.spm_turn.specs.Log.{OthersFollow, has, of_numbers}
use Rattle.spm_turn.proofs.Places.{others_keep}
use Rattle.spm_cache_core.specs.Cache.{Cache}
use Rattle.spm_cache_core.specs.Calls.{Appends, AskTells, ClaimTells, Spends}
use Rattle.spm_cache_core.specs.History.{event, is_end}
use Rattle.spm_cache_core.specs.Legal.{IsLegal, IsSession}
use Rattle.spm_cache_core.specs.declared.answer.Asked.{Asked}
use Rattle.spm_cache_core.specs.declared.answer.Asked.TheVariants as asked
use Rattle.spm_cache_core.specs.declared.answer.Claimed.{Claimed}
use Rattle.spm_cache_core.specs.declared.answer.Claimed.TheVariants as claimed
use Rattle.spm_cache_core.specs.declared.event.Act.TheVariants.{Ask, Claim, Hint}
use Rattle.spm_cache_core.specs.declared.event.AskNote.TheVariants as ask
use Rattle.spm_cache_core.specs.declared.event.ClaimNote.TheVariants as claim
use Rattle.spm_cache_core.specs.declared.event.Event.{Event}
use Rattle.spm_cache.specs.Calls.{Moves, OrSame}
use Rattle.spm_cache.specs.Passing.{Passing}
use Rattle.spm_cache.specs.Work.{Keeps, Steps, ask_events, claim_events, hint_events}
use Rattle.spm_cache.proofs.Taken.{Found}
use Rattle.spm_cache.proofs.Turns.{by, legal_at, session_at}

-- an event of one's own is one's own
own_one : (numbers : List ℕ) (e : Event) → has numbers e.actor ≡ true → of_numbers by numbers (e ∷ []) ≡ e ∷ []
own_one numbers e own = ap (λ (b : Bool). cond b (e ∷ []) []) own

-- what was seen is what the state was and what was added, which is one's own
pub record Added (pass : Passing) (seen : List Event) (at : Cache) (added : List Event) : Type 0 where
  pub history : seen ≡ at.history ++ added
  pub own : of_numbers by pass.numbers added ≡ added

-- one event was added
one_added : (pass : Passing) (seen : List Event) (at after : Cache) (e : Event) → has pass.numbers e.actor ≡ true
    → seen ≡ after.history → after.history ≡ at.history ++ e ∷ [] → Added pass seen at (e ∷ [])
one_added pass seen at after e own is grew = record { history = is ∙ grew; own = own_one pass.numbers e own }

-- nothing was added
none_added : (pass : Passing) (seen : List Event) (at after : Cache) → seen ≡ after.history → after ≡ at → Added pass seen at []
none_added pass seen at after is same = record {
  history = is ∙ (ap (λ (c : Cache). c.history) same ∙ sym (append-nil at.history));
  own = refl;
}

-- an ask
ask_adds : {X : Type 0} (pass : Passing) (seen : List Event) (key : Key) (at after : Cache) (result : Result Asked X)
    → has pass.numbers pass.actor ≡ true → seen ≡ after.history → OrSame result (λ asked. AskTells asked pass.actor key) at after
    → Added pass seen at (ask_events pass.actor key result)
ask_adds pass seen key at after (Ok (asked.Cancelled who)) own is call =
    one_added pass seen at after (event pass.actor (Ask key (ask.Cancelled who))) own is (ap (λ (c : Cache). c.history) call.1)
ask_adds pass seen key at after (Ok (asked.Have reply)) own is call =
    one_added pass seen at after (event pass.actor (Ask key (ask.Have reply))) own is (ap (λ (c : Cache). c.history) call.1)
ask_adds pass seen key at after (Ok asked.Waiting) own is call = none_added pass seen at after is call.1
ask_adds pass seen key at after (Ok (asked.Fetch ticket)) own is call =
    one_added pass seen at after (event pass.actor (Ask key ask.Fetch)) own is (ap (λ (c : Cache). c.history) call.1)
ask_adds pass seen key at after (Err e) own is call = none_added pass seen at after is call

-- a claim
claim_adds : {X : Type 0} (pass : Passing) (seen : List Event) (at after : Cache) (result : Result Claimed X)
    → has pass.numbers pass.actor ≡ true → seen ≡ after.history → OrSame result (λ claimed. ClaimTells claimed pass.actor) at after
    → Added pass seen at (claim_events pass.actor result)
claim_adds pass seen at after (Ok claimed.Closed) own is call =
    one_added pass seen at after (event pass.actor (Claim claim.Closed)) own is (ap (λ (c : Cache). c.history) call.1)
claim_adds pass seen at after (Ok (claimed.Fetch key ticket)) own is call =
    one_added pass seen at after (event pass.actor (Claim (claim.Fetch key))) own is (ap (λ (c : Cache). c.history) call.1)
claim_adds pass seen at after (Ok claimed.Nothing) own is call = none_added pass seen at after is call.1
claim_adds pass seen at after (Err e) own is call = none_added pass seen at after is call

-- a hint
hint_adds : {T X : Type 0} (pass : Passing) (seen : List Event) (keys : List Key) (at after : Cache) (result : Result T X)
    → has pass.numbers pass.actor ≡ true → seen ≡ after.history
    → OrSame result (λ done old new. Appends old (event pass.actor (Hint keys)) 0 new) at after
    → Added pass seen at (hint_events pass.actor keys result)
hint_adds pass seen keys at after (Ok done) own is call =
    one_added pass seen at after (event pass.actor (Hint keys)) own is (ap (λ (c : Cache). c.history) call)
hint_adds pass seen keys at after (Err e) own is call = none_added pass seen at after is call

-- an ask adds no end
ask_quiet : {X : Type 0} (actor : ℕ) (key : Key) (result : Result Asked X)
    → list_any (λ e. is_end e.act && e.actor == actor) (ask_events actor key result) ≡ false
ask_quiet actor key (Ok (asked.Cancelled who)) = refl
ask_quiet actor key (Ok (asked.Have reply)) = refl
ask_quiet actor key (Ok asked.Waiting) = refl
ask_quiet actor key (Ok (asked.Fetch ticket)) = refl
ask_quiet actor key (Err e) = refl

-- nor does a claim
claim_quiet : {X : Type 0} (actor : ℕ) (result : Result Claimed X)
    → list_any (λ e. is_end e.act && e.actor == actor) (claim_events actor result) ≡ false
claim_quiet actor (Ok claimed.Closed) = refl
claim_quiet actor (Ok (claimed.Fetch key ticket)) = refl
claim_quiet actor (Ok claimed.Nothing) = refl
claim_quiet actor (Err e) = refl

-- nor does a hint
hint_quiet : {T X : Type 0} (actor : ℕ) (keys : List Key) (result : Result T X)
    → list_any (λ e. is_end e.act && e.actor == actor) (hint_events actor keys result) ≡ false
hint_quiet actor keys (Ok done) = refl
hint_quiet actor keys (Err e) = refl

module _ (old new : Passing) (same : new ≡ record old { seen = new.seen }) (state at after : Cache) (here : at ≡ state) (f : Found old state) where
  -- the state goes on by events of others from what was seen
  others_there : OthersFollow by old.numbers old.seen at.history
  others_there = subst (λ (s : Cache). OthersFollow by old.numbers old.seen s.history) (sym here) f.others

  -- the pass goes on by what was added
  steps_by : (added : List Event) → Added old new.seen at added → Steps old new added
  steps_by added a = record {
    same = same ∙ ap (λ told. record old { seen = new.seen; told = told }) (sym (ap (λ (p : Passing). p.told) same));
    own = ap (λ numbers. of_numbers by numbers new.seen) (ap (λ (p : Passing). p.numbers) same)
        ∙ (ap (of_numbers by old.numbers) a.history
        ∙ (filter-append (λ (e : Event). has old.numbers e.actor) at.history added
        ∙ ap₂ (λ (x y : List Event). x ++ y) (others_keep by old.numbers old.seen at.history others_there) a.own));
    starts = (
      others_there.0 ++ added,
      a.history ∙ (ap (λ (h : List Event). h ++ added) others_there.1 ∙ append_assoc old.seen others_there.0 added),
    );
  }

  -- a session stays one where no end was added
  keeps_by : (added : List Event) → Added old new.seen at added
      → list_any (λ e. is_end e.act && e.actor == old.actor) added ≡ false → Keeps old new
  keeps_by added a quiet session =
      let there : IsSession old.sessions at.history old.actor =
      session_at old.numbers old.seen at.history old.sessions old.actor others_there f.own session in
      let after_all : list_any (λ e. is_end e.act && e.actor == old.actor) (at.history ++ added) ≡ false =
      list_any-append (λ e. is_end e.act && e.actor == old.actor) at.history added
      ∙ ap₂ (λ (a b : Bool). a || b) there.1 quiet in
      subst (λ (p : Passing). IsSession p.sessions p.seen p.actor) (sym same)
      (there.0, ap (list_any (λ e. is_end e.act && e.actor == old.actor)) a.history ∙ after_all)

  -- what was seen is legal
  pub seen_legal : (actor : ℕ) → Moves actor at after → IsLegal after.sessions after.workers after.history → new.seen ≡ after.history
      → IsLegal old.sessions old.workers new.seen
  seen_legal actor moves legal is =
      subst (IsLegal old.sessions old.workers) (sym is)
      (legal_at actor old.sessions old.workers at after (ap (λ (s : Cache). s.sessions) here ∙ f.sessions)
      (ap (λ (s : Cache). s.workers) here ∙ f.workers) moves legal)

  -- an event that was added into room that was kept
  pub spent_steps : (e : Event) → has old.numbers e.actor ≡ true → new.seen ≡ after.history → Spends at e after → Steps old new (e ∷ [])
  spent_steps e own is call = steps_by (e ∷ []) (one_added old new.seen at after e own is call.history)

  -- a session stays one where that is no end
  pub spent_keeps : (e : Event) → has old.numbers e.actor ≡ true → is_end e.act ≡ false → new.seen ≡ after.history → Spends at e after
      → Keeps old new
  spent_keeps e own quiet is call =
      keeps_by (e ∷ []) (one_added old new.seen at after e own is call.history)
      (ap (λ (b : Bool). (b && e.actor == old.actor) || false) quiet)

  -- an ask
  pub ask_went : {X : Type 0} (key : Key) (result : Result Asked X) → new.seen ≡ after.history
      → OrSame result (λ asked. AskTells asked old.actor key) at after
      → Steps old new (ask_events old.actor key result) × Keeps old new
  ask_went key result is call =
      let a = ask_adds old new.seen key at after result f.own is call in (
        steps_by (ask_events old.actor key result) a,
        keeps_by (ask_events old.actor key result) a (ask_quiet old.actor key result),
      )

  -- a claim
  pub claim_went : {X : Type 0} (result : Result Claimed X) → new.seen ≡ after.history
      → OrSame result (λ claimed. ClaimTells claimed old.actor) at after
      → Steps old new (claim_events old.actor result) × Keeps old new
  claim_went result is call =
      let a = claim_adds old new.seen at after result f.own is call in (
        steps_by (claim_events old.actor result) a,
        keeps_by (claim_events old.actor result) a (claim_quiet old.actor result),
      )

  -- a hint
  pub hint_went : {T X : Type 0} (keys : List Key) (result : Result T X) → new.seen ≡ after.history
      → OrSame result (λ done old' new'. Appends old' (event old.actor (Hint keys)) 0 new') at after
      → Steps old new (hint_events old.actor keys result) × Keeps old new
  hint_went keys result is call =
      let a = hint_adds old new.seen keys at after result f.own is call in (
        steps_by (hint_events old.actor keys result) a,
        keeps_by (hint_events old.actor keys result) a (hint_quiet old.actor keys result),
      )
