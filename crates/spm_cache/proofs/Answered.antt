-- What the answers mean in what a pass has seen.
use Rattle.std.proofs.Common.{◌≡◌, ◌≢◌, ℕ, zero, suc, Bool, true, false, cond, ◌&&◌, ◌==◌, List, [], ◌∷◌, ◌++◌, Option, Some, None, sym, refl, ap, ap₂, ◌∙◌, subst, eq-eqb}
use Rattle.std.proofs.lemmas.List.Folds.{list_any-append}
use Rattle.std.specs.FinMap as map
use Rattle.std.specs.List.{list_any}
use Rattle.std.specs.Prelude.{IfSome, Result, Ok, Err}
use Rattle.spm_key.specs.declared.key.Key.{Key}
use Rattle.spm_key.specs.declared.reply.Reply.{Reply}
use Rattle.spm_turn.proofs.Booleans.{not_both, or_left, or_right}
use Rattle.spm_cache_core.specs.Answers.{AskAnswer, ClaimAnswer, ask_answer, claim_answer, first_unbegun, found_answer, unless_cancelled}
use Rattle.spm_cache_core.specs.Answers as answer
use Rattle.spm_cache_core.specs.Cache.{Cache}
use Rattle.spm_cache_core.specs.Calls.{AskTells, ClaimTells, Spends}
use Rattle.spm_cache_core.specs.Flight.{Flight}
use Rattle.spm_cache_core.specs.Hints.{hinted, is_begun}
use Rattle.spm_cache_core.specs.History.{all_ended, canceller, event, flies, flight, has_cancelled, has_ended, is_cancel, is_end, landed, last_begin}
use Rattle.spm_cache_core.specs.Legal.{IsFlight, IsLegal}
use Rattle.spm_cache_core.specs.declared.answer.Asked.{Asked}
use Rattle.spm_cache_core.specs.declared.answer.Asked.TheVariants as asked
use Rattle.spm_cache_core.specs.declared.answer.Claimed.{Claimed}
use Rattle.spm_cache_core.specs.declared.answer.Claimed.TheVariants as claimed
use Rattle.spm_cache_core.specs.declared.event.Act.TheVariants.{Ask, Cancel, Claim, End, Land}
use Rattle.spm_cache_core.specs.declared.event.AskNote.TheVariants as ask
use Rattle.spm_cache_core.specs.declared.event.ClaimNote.TheVariants as claim
use Rattle.spm_cache_core.specs.declared.event.Event.{Event}
use Rattle.spm_cache_core.proofs.HistoryLemmas.{first, landed-snoc}
use Rattle.spm_cache_core.proofs.KeyLemmas.{key_itself}
use Rattle.spm_cache_core.proofs.LawLemmas.{canceller_stays, flying_is_new, landed_stays, legal_before}
use Rattle.spm_cache_core.proofs.TicketLemmas.{asked_flies, claimed_flies}
use Rattle.spm_cache.specs.Calls.{OrSame}
use Rattle.spm_cache.specs.Work.{AskKnows, ClaimKnows}

-- who cancelled, by the answer
by_answer : (found : AskAnswer) (other actor by : ℕ) (mine : Bool) → (other == actor) ≡ mine → cond mine found (answer.Cancelled other) ≡ answer.Cancelled by
    → ((who : ℕ) → found ≡ answer.Cancelled who → ⊥) → (other ≡ by) × (by ≢ actor)
by_answer found other actor by true is told none = absurd (none by told)
by_answer found other actor by false is told none =
    let same : other ≡ by = ap (λ a. who_in a other) told in
    (same, λ own. not_both (other == actor) (eq-eqb other actor (same ∙ own)) is)
  where
    who_in : AskAnswer → ℕ → ℕ
    who_in (answer.Cancelled who) other' = who
    who_in answer.Waiting other' = other'
    who_in answer.Fetch other' = other'
    who_in (answer.Have reply) other' = other'

-- what is found is no cancel
found_none : (found : Option Reply) (flying : Bool) (who : ℕ) → found_answer found flying ≡ answer.Cancelled who → ⊥
found_none None true who is = absurd (cc)
found_none None false who is = absurd (cc)
found_none (Some reply) flying who is = absurd (cc)

-- somebody else was the first to cancel
cancelled_by : (who : Option ℕ) (actor by : ℕ) (found : Option Reply) (flying : Bool)
    → unless_cancelled who actor (found_answer found flying) ≡ answer.Cancelled by → (who ≡ Some by) × (by ≢ actor)
cancelled_by None actor by found flying is = absurd (found_none found flying by is)
cancelled_by (Some other) actor by found flying is =
    let t = by_answer (found_answer found flying) other actor by (other == actor) refl is (found_none found flying) in
    (ap (λ (n : ℕ). Some n) t.0, t.1)

-- the reply that an answer has
abbrev reply_in : AskAnswer → Option Reply
reply_in (answer.Have reply) = Some reply
reply_in (answer.Cancelled who) = None
reply_in answer.Waiting = None
reply_in answer.Fetch = None

-- what is found is the reply, if there is one
reply_found : (found : Option Reply) (flying : Bool) → reply_in (found_answer found flying) ≡ found
reply_found None true = refl
reply_found None false = refl
reply_found (Some reply) flying = refl

-- a reply comes from what has landed
have_by : (mine : Bool) (found : AskAnswer) (who : ℕ) (reply : Reply) → cond mine found (answer.Cancelled who) ≡ answer.Have reply
    → found ≡ answer.Have reply
have_by true found who reply is = is
have_by false found who reply is = absurd (cc)

-- a reply that is answered has landed
have_found : (who : Option ℕ) (actor : ℕ) (found : Option Reply) (flying : Bool) (reply : Reply)
    → unless_cancelled who actor (found_answer found flying) ≡ answer.Have reply → found ≡ Some reply
have_found None actor found flying reply is = sym (reply_found found flying) ∙ ap reply_in is
have_found (Some by) actor found flying reply is =
    sym (reply_found found flying) ∙ ap reply_in (have_by (by == actor) (found_answer found flying) by reply is)

-- what extends a catalogue has what that has
extended : (found later : Option Reply) (reply : Reply) → IfSome found (λ r. later ≡ Some r) → found ≡ Some reply → later ≡ Some reply
extended None later reply keeps is = absurd (cc)
extended (Some r) later reply keeps is = keeps ∙ is

-- the answer to an ask
pub ask_knows : {X : Type 0} (sessions workers actor : ℕ) (key : Key) (seen : List Event) (old new : Cache) (result : Result Asked X)
    → IsLegal sessions workers seen → seen ≡ new.history → OrSame result (λ asked. AskTells asked actor key) old new
    → AskKnows actor key seen result
ask_knows sessions workers actor key seen old new (Ok (asked.Cancelled by)) legal is call =
    let t = cancelled_by (canceller old.history) actor by (map.get (landed old.history) key) (flies key old.history) call.0 in
    (ap canceller (is ∙ ap (λ (c : Cache). c.history) call.1) ∙ canceller_stays old.history _ by t.0, t.1)
ask_knows sessions workers actor key seen old new (Ok (asked.Have reply)) legal is call =
    ap (λ (h : List Event). map.get (landed h) key) (is ∙ ap (λ (c : Cache). c.history) call.1)
    ∙ extended (map.get (landed old.history) key) _ reply (landed_stays old.history (event actor (Ask key (ask.Have reply)) ∷ []) key)
    (have_found (canceller old.history) actor (map.get (landed old.history) key) (flies key old.history) reply call.0)
ask_knows sessions workers actor key seen old new (Ok asked.Waiting) legal is call = tt
ask_knows sessions workers actor key seen old new (Ok (asked.Fetch ticket)) legal is call =
    let made : seen ≡ old.history ++ event actor (Ask key ask.Fetch) ∷ [] = is ∙ ap (λ (c : Cache). c.history) call.1 in
    let before : IsLegal sessions workers old.history =
    legal_before sessions workers old.history (event actor (Ask key ask.Fetch) ∷ []) (subst (IsLegal sessions workers) made legal) in (
      subst (λ (t : Flight). IsFlight seen t) (sym call.2)
          (ap (flight key) made ∙ asked_flies sessions workers old.history actor key before call.0),
      ap (λ (t : Flight). t.key) call.2,
      ap (λ (t : Flight). t.actor) call.2,
    )
ask_knows sessions workers actor key seen old new (Err e) legal is call = tt

-- a step of closed_none
closed_step : (was : Bool) (rest : ClaimAnswer) (key : Key) → cond was rest (answer.Fetch key) ≡ answer.Closed
    → (rest ≡ answer.Closed → ⊥) → ⊥
closed_step true rest key is none = none is
closed_step false rest key is none = absurd (cc)

-- the first of the hinted keys is no end
closed_none : (history : List Event) (keys : List Key) → first_unbegun history keys ≡ answer.Closed → ⊥
closed_none history [] is = absurd (cc)
closed_none history (key ∷ keys) is =
    closed_step (is_begun key history) (first_unbegun history keys) key is (closed_none history keys)

-- a claim is answered Closed where every session has ended
closed_by : (all : Bool) (rest : ClaimAnswer) → cond all answer.Closed rest ≡ answer.Closed → (rest ≡ answer.Closed → ⊥) → all ≡ true
closed_by true rest is none = refl
closed_by false rest is none = absurd (none is)

-- the first of two tests that pass
and_first : (a b : Bool) → (a && b) ≡ true → a ≡ true
and_first true b is = refl
and_first false b is = absurd (cc)

-- the second of two tests that pass
and_second : (a b : Bool) → (a && b) ≡ true → b ≡ true
and_second true b is = is
and_second false b is = absurd (cc)

-- who has ended has ended
ended_stays : (actor : ℕ) (history more : List Event) → has_ended actor history ≡ true → has_ended actor (history ++ more) ≡ true
ended_stays actor history more is =
    list_any-append (λ e. is_end e.act && e.actor == actor) history more
    ∙ or_left (has_ended actor history) (list_any (λ e. is_end e.act && e.actor == actor) more) is

-- where every session has ended it stays so
all_stay : (sessions : ℕ) (history more : List Event) → all_ended sessions history ≡ true → all_ended sessions (history ++ more) ≡ true
all_stay zero history more is = refl
all_stay (suc n) history more is =
    ap₂ (λ (a b : Bool). a && b)
    (ended_stays n history more (and_first (has_ended n history) (all_ended n history) is))
    (all_stay n history more (and_second (has_ended n history) (all_ended n history) is))

-- the answer to a claim
pub claim_knows : {X : Type 0} (sessions workers actor : ℕ) (seen : List Event) (old new : Cache) (result : Result Claimed X)
    → old.sessions ≡ sessions → IsLegal sessions workers seen → seen ≡ new.history
    → OrSame result (λ claimed. ClaimTells claimed actor) old new
    → ClaimKnows sessions actor seen result
claim_knows sessions workers actor seen old new (Ok claimed.Closed) terms legal is call =
    let ended : all_ended old.sessions old.history ≡ true =
    closed_by (all_ended old.sessions old.history) (first_unbegun old.history (hinted old.history)) call.0
    (closed_none old.history (hinted old.history)) in
    ap (all_ended sessions) (is ∙ ap (λ (c : Cache). c.history) call.1)
    ∙ all_stay sessions old.history (event actor (Claim claim.Closed) ∷ []) (ap (λ n. all_ended n old.history) (sym terms) ∙ ended)
claim_knows sessions workers actor seen old new (Ok (claimed.Fetch key ticket)) terms legal is call =
    let made : seen ≡ old.history ++ event actor (Claim (claim.Fetch key)) ∷ [] = is ∙ ap (λ (c : Cache). c.history) call.1 in
    let before : IsLegal sessions workers old.history =
    legal_before sessions workers old.history (event actor (Claim (claim.Fetch key)) ∷ []) (subst (IsLegal sessions workers) made legal) in (
      subst (λ (t : Flight). IsFlight seen t) (sym call.2)
          (ap (flight key) made
          ∙ claimed_flies sessions workers old.history actor key before (ap (λ n. claim_answer n old.history) (sym terms) ∙ call.0)),
      ap (λ (t : Flight). t.key) call.2,
      ap (λ (t : Flight). t.actor) call.2,
    )
claim_knows sessions workers actor seen old new (Ok claimed.Nothing) terms legal is call = tt
claim_knows sessions workers actor seen old new (Err e) terms legal is call = tt

-- what has a flight flies
flight_flies : (key : Key) (history : List Event) (found : ℕ × ℕ) (is : Bool) → flies key history ≡ is
    → cond is (last_begin key history) None ≡ Some found → flies key history ≡ true
flight_flies key history found true is some = is
flight_flies key history found false is some = absurd (cc)

-- what landed has landed
pub land_knows : (sessions workers : ℕ) (ticket : Flight) (reply : Reply) (seen : List Event) (old new : Cache)
    → IsLegal sessions workers seen → seen ≡ new.history
    → Spends old (event ticket.actor (Land ticket.key reply)) new
    → IsFlight old.history ticket → map.get (landed seen) ticket.key ≡ Some reply
land_knows sessions workers ticket reply seen old new legal is call open_ =
    let made : seen ≡ old.history ++ event ticket.actor (Land ticket.key reply) ∷ [] = is ∙ call.history in
    let before : IsLegal sessions workers old.history =
    legal_before sessions workers old.history _ (subst (IsLegal sessions workers) made legal) in
    let fresh : map.get (landed old.history) ticket.key ≡ None =
    flying_is_new sessions workers old.history ticket.key before
    (flight_flies ticket.key old.history (ticket.number, ticket.actor) (flies ticket.key old.history) refl open_) in
    ap (λ (h : List Event). map.get (landed h) ticket.key) made
    ∙ (landed-snoc ticket.key old.history (event ticket.actor (Land ticket.key reply))
    ∙ ap₂ (λ (a : Option Reply) (b : Bool). first a (cond b (Some reply) None)) fresh (key_itself ticket.key))

-- who cancelled has cancelled
pub cancel_knows : (actor : ℕ) (seen : List Event) (old new : Cache) → seen ≡ new.history → Spends old (event actor Cancel) new
    → has_cancelled actor seen ≡ true
cancel_knows actor seen old new is call =
    ap (has_cancelled actor) (is ∙ call.history)
    ∙ (list_any-append (λ e. is_cancel e.act && e.actor == actor) old.history (event actor Cancel ∷ [])
    ∙ or_right (has_cancelled actor old.history) _ (or_left (actor == actor) false (eq-eqb actor actor refl)))

-- who ended has ended
pub end_knows : (actor : ℕ) (seen : List Event) (old new : Cache) → seen ≡ new.history → Spends old (event actor End) new
    → has_ended actor seen ≡ true
end_knows actor seen old new is call =
    ap (has_ended actor) (is ∙ call.history)
    ∙ (list_any-append (λ e. is_end e.act && e.actor == actor) old.history (event actor End ∷ [])
    ∙ or_right (has_ended actor old.history) _ (or_left (actor == actor) false (eq-eqb actor actor refl)))
