-- An ask and the fetch behind it.
use Rattle.std.proofs.Common.{◌≡◌, ℕ, [], ◌∷◌, Result, Ok, Err, IfErr, OnOk, refl, sym, ap, subst, inr}
use Rattle.std.proofs.lemmas.List.Elements.{All-cons, All-nil}
use Rattle.spm_cache.specs.Passing.{Passing}
use Rattle.spm_cache.specs.Work.{Steps}
use Rattle.spm_cache_core.specs.Flight.{Flight}
use Rattle.spm_cache_core.specs.History.{event}
use Rattle.spm_cache_core.specs.declared.event.Act.{Act}
use Rattle.spm_cache_core.specs.declared.event.Act.TheVariants.{Ask, Fail, Land}
use Rattle.spm_cache_core.specs.declared.event.AskNote.TheVariants as ask
use Rattle.spm_cache_core.specs.declared.event.Event.{Event}
use Rattle.spm_cache_core.specs.declared.event.Why.TheVariants as why
use Rattle.spm_flight.proofs.WorkLemmas.{does_then, one_step, waits}
use Rattle.spm_key.specs.declared.key.Key.{Key}
use Rattle.spm_key.specs.declared.reply.Reply.{Reply}
use Rattle.spm_outside.specs.Link.{LinkState}
use Rattle.spm_session.specs.Sharing.{DoesBy, Fetches, GoesSharing, IsQuietAct, IsReady, MissesSharing}
use Rattle.spm_session.specs.SharingLaws.{sharing_onward, sharing_then_misses}
use Rattle.spm_session.specs.declared.sharing.Sharing.{Sharing}
use Rattle.spm_session.specs.declared.source.Missed.{Missed}
use Rattle.spm_session.specs.declared.source.Missed.TheVariants as missed

module _ {L G R : Type 0} (state : L → LinkState) (old new : Sharing L G R) (middle : Passing) (asked : Key) (ticket : Flight)
    (asks : Steps old.pass.now middle (event old.pass.now.actor (Ask asked ask.Fetch) ∷ [])) (same : ticket.key ≡ asked) where
  -- the source between the two
  abbrev between : Sharing L G R
  between = record old { pass = record old.pass { now = middle } }

  same_actor : middle.actor ≡ old.pass.now.actor
  same_actor = ap (λ (pass : Passing). pass.actor) asks.same

  both : (act : Key → Act) → DoesBy state between new (event middle.actor (act ticket.key) ∷ [])
      → DoesBy state old new (event old.pass.now.actor (Ask asked ask.Fetch) ∷ event old.pass.now.actor (act asked) ∷ [])
  both act does =
      does_then old.run.now.base.now (state old.link.now) (state old.link.now) (state new.link.now) old.pass.now middle new.pass.now
      (event old.pass.now.actor (Ask asked ask.Fetch) ∷ []) (event old.pass.now.actor (act asked) ∷ [])
      (one_step old.run.now.base.now (state old.link.now) old.pass.now middle (event old.pass.now.actor (Ask asked ask.Fetch)) refl asks)
      (subst (λ (k : Key). DoesBy state between new (event old.pass.now.actor (act k) ∷ [])) same
      (subst (λ (actor : ℕ). DoesBy state between new (event actor (act ticket.key) ∷ [])) same_actor does))

  pub fetched_goes : (result : Result Reply Missed) → Fetches state between new ticket.key result → OnOk result (GoesSharing state old new)
  fetched_goes (Ok reply) went = record {
    same = went.0;
    added = event old.pass.now.actor (Ask asked ask.Fetch) ∷ event old.pass.now.actor (Land asked reply) ∷ [];
    does = both (λ k. Land k reply) went.1;
    quiet = All-cons (λ (e : Event). IsQuietAct e.act) (event old.pass.now.actor (Ask asked ask.Fetch)) (event old.pass.now.actor (Land asked reply) ∷ []) tt
        (All-cons (λ (e : Event). IsQuietAct e.act) (event old.pass.now.actor (Land asked reply)) [] tt (All-nil (λ (e : Event). IsQuietAct e.act)));
  }
  fetched_goes (Err reason) went = tt

  pub fetched_misses : (result : Result Reply Missed) → Fetches state between new ticket.key result
      → IfErr result (λ reason. MissesSharing state old new asked reason)
  fetched_misses (Ok reply) went = tt
  fetched_misses (Err missed.Failed) went = record {
    same = went.0;
    before = [];
    last = event old.pass.now.actor (Ask asked ask.Fetch) ∷ event old.pass.now.actor (Fail asked why.Link) ∷ [];
    does = both (λ k. Fail k why.Link) went.1;
    quiet = All-nil (λ (e : Event). IsQuietAct e.act);
    miss = refl;
    knows = tt;
  }
  fetched_misses (Err missed.Memory) went = record {
    same = went.0;
    before = [];
    last = event old.pass.now.actor (Ask asked ask.Fetch) ∷ event old.pass.now.actor (Fail asked why.Memory) ∷ [];
    does = both (λ k. Fail k why.Memory) went.1;
    quiet = All-nil (λ (e : Event). IsQuietAct e.act);
    miss = inr refl;
    knows = tt;
  }
  fetched_misses (Err (missed.Cancelled by)) went = absurd went

-- ---- an ask behind others

module _ {L G R : Type 0} (state : L → LinkState) (first second third : Sharing L G R) where
  pub answered_goes : GoesSharing state first second → (result : Result Reply Missed) → OnOk result (GoesSharing state second third)
      → OnOk result (GoesSharing state first third)
  answered_goes before (Ok reply) goes = sharing_onward state first second third before goes
  answered_goes before (Err reason) goes = tt

  pub answered_misses : (asked : Key) → GoesSharing state first second → (result : Result Reply Missed)
      → IfErr result (λ reason. MissesSharing state second third asked reason) → IfErr result (λ reason. MissesSharing state first third asked reason)
  answered_misses asked before (Ok reply) misses = tt
  answered_misses asked before (Err reason) misses = sharing_then_misses state first second third asked reason before misses

  -- a wait
  pub rests_on : (told : ℕ) → third ≡ record second { pass = record second.pass { now = record second.pass.now { told = told } } }
      → GoesSharing state second third
  rests_on told same = subst (GoesSharing state second) (sym same) (record {
    same = refl;
    added = [];
    does = waits second.run.now.base.now (state second.link.now) second.pass.now (record second.pass.now { told = told }) refl;
    quiet = All-nil (λ (e : Event). IsQuietAct e.act);
  })

  pub rests_ready : (told : ℕ) → third ≡ record second { pass = record second.pass { now = record second.pass.now { told = told } } }
      → IsReady second → IsReady third
  rests_ready told same ready = subst IsReady (sym same) (record { of = ready.of; session = ready.session })
