-- What a root's end says of what landed, and of its link.
use Rattle.std.proofs.Common.{◌≡◌, ℕ, ◌<◌, ◌≤◌, Bool, true, false, List, [], ◌∷◌, ◌++◌, Option, Some, None, refl, sym, ap, ◌∙◌, subst, inl, inr, append_assoc, arith, ltb-true, ltb-false}
use Rattle.std.proofs.lemmas.List.Sums.{sum_by-append}
use Rattle.std.specs.FinMap as map
use Rattle.std.specs.List.{count_by}
use Rattle.std.specs.Prelude.{IfSome, IsSome, nat_lt}
use Rattle.pub_facts.specs.Catalogue.{Job}
use Rattle.pub_plain.specs.Choosing.{Pins}
use Rattle.pub_term.specs.declared.cause.Cause.{Cause}
use Rattle.spm_api.specs.declared.base.Base.{Base}
use Rattle.spm_cache_core.specs.History.{breaks, event, landed}
use Rattle.spm_cache_core.specs.declared.event.Act.{Act}
use Rattle.spm_cache_core.specs.declared.event.Act.TheVariants.{Ask, Cancel, Claim, End, Fail, Hint, Land}
use Rattle.spm_cache_core.specs.declared.event.AskNote.TheVariants as ask
use Rattle.spm_cache_core.specs.declared.event.Event.{Event}
use Rattle.spm_cache_core.specs.declared.event.Why.TheVariants as why
use Rattle.spm_cache_core.proofs.KeyLemmas.{key_itself}
use Rattle.spm_flight.specs.Work.{Leaves, Works}
use Rattle.spm_key.specs.Catalogue.{Catalogue, Extends}
use Rattle.spm_key.specs.declared.key.Key.{Key}
use Rattle.spm_key.specs.declared.reply.Reply.{Reply}
use Rattle.spm_outside.specs.Faults.{Rises}
use Rattle.spm_outside.specs.Link.{LinkState}
use Rattle.spm_session.specs.Archives.{Fingerprints}
use Rattle.spm_session.specs.Known.{IsFrom}
use Rattle.spm_session.specs.Outcome.{IsReadyOutcome}
use Rattle.spm_session.specs.Run.{IsEndBy, IsOver, IsReadyEnd}
use Rattle.spm_session.specs.Sharing.{landed_by}
use Rattle.spm_session.specs.declared.job.RootInput.{RootInput}
use Rattle.spm_session.specs.declared.job.RootInput.TheVariants as input
use Rattle.spm_session.specs.declared.job.RootJob.{RootJob}
use Rattle.spm_session.specs.declared.outcome.Outcome.{Outcome}
use Rattle.spm_session.specs.declared.outcome.Outcome.TheVariants as outcome
use Rattle.spm_session.proofs.StayLemmas.{outcome_stays}
use Rattle.spm_run.specs.Calls.{failed_calls_for}
use Rattle.spm_run.specs.Run.{ComesTo, InputComes, IsNotCancelled, IsSessionOf, ReadyComes, Setting, acts_of}
use Rattle.spm_run.proofs.CallLemmas.{count_cons, link_calls, one_if}

-- ---- over what landed

-- a catalogue of what landed is extended by all of it, and by what extends that
extends_from : (history : List Event) (c more : Catalogue) → IsFrom (landed_by history) c → Extends more (landed history) → Extends more c
extends_from history c more from wider key = go (map.get c key) (from key)
  where
    through : (reply : Reply) (found : Option Reply) → found ≡ Some reply → IfSome found (λ it. map.get more key ≡ Some it) → map.get more key ≡ Some reply
    through reply found is there = subst (λ (o : Option Reply). IfSome o (λ it. map.get more key ≡ Some it)) is there

    go : (found : Option Reply) → IfSome found (λ reply. landed_by history key reply) → IfSome found (λ reply. map.get more key ≡ Some reply)
    go None has = tt
    go (Some reply) has = through reply (map.get (landed history) key) has (wider key)

from_more : (history : List Event) (c more : Catalogue) → IsFrom (landed_by history) c → Extends more (landed history)
    → IsFrom (λ key reply. map.get more key ≡ Some reply) c
from_more history c more from wider key = extends_from history c more from wider key

over : (same : Cause → Cause → Bool) (history : List Event) (more : Catalogue) → Extends more (landed history) → (job : Job) (fingerprints : Fingerprints)
    (pins : Pins) (it : Outcome) → IsOver same (landed_by history) job fingerprints pins it → IsReadyOutcome same job fingerprints pins more it
over same history more wider job fingerprints pins it is =
    outcome_stays same job fingerprints pins is.c more (extends_from history is.c more is.from wider) it is.is

ready_comes : (same : Cause → Cause → Bool) (history : List Event) (more : Catalogue) → Extends more (landed history) → (job : Job)
    (fingerprints : Fingerprints) (pins : Pins) (it : Outcome) → IsNotCancelled it → IsReadyEnd same (landed_by history) job fingerprints pins it
    → ReadyComes same more fingerprints job pins it
ready_comes same history more wider job fingerprints pins outcome.Memory going end = tt
ready_comes same history more wider job fingerprints pins (outcome.FetchFault asked) going end =
    record { c = end.c; from = from_more history end.c more end.from wider; demands = end.demands }
ready_comes same history more wider job fingerprints pins (outcome.Cancelled by) going end = absurd going
ready_comes same history more wider job fingerprints pins it going end = over same history more wider job fingerprints pins it end

pub comes_to : (setting : Setting) (actor : ℕ) (job : RootJob) (it : Outcome) (old new : LinkState) → IsSessionOf setting actor job it old new
    → (more : Catalogue) → Extends more (landed setting.history) → ComesTo setting.same more setting.fingerprints job it
comes_to setting actor job it old new session more wider = go job.input session.end
  where
    go : (of : RootInput) → IsEndBy setting.same (landed_by setting.history) setting.fingerprints job of it
        → InputComes setting.same more setting.fingerprints job of it
    go (input.Refused refusal) end = end
    go (input.Ready manifest origin pins) end =
        ready_comes setting.same setting.history more wider _ setting.fingerprints pins it session.uncancelled end

-- ---- of a link that failed

-- the count of faults doesn't fall
fell_not : (old new : ℕ) → Rises old new → old ≤ new
fell_not old new (inl less) = omega (arith, less)
fell_not old new (inr both) = let first = both.0 in let second = both.1 in omega (arith, first, second)

leaves_faults : (base : Base) (act : Act) (old new : LinkState) → Leaves base act old new → old.faults ≤ new.faults
leaves_faults base (Land key reply) old new leaves = let same = leaves.1.faults in omega (arith, same)
leaves_faults base (Fail key why.Link) old new leaves = fell_not old.faults new.faults leaves.1.faults
leaves_faults base (Fail key why.Memory) old new leaves = let same = leaves.1.faults in omega (arith, same)
leaves_faults base (Ask key note) old new leaves = let same = ap (λ (l : LinkState). l.faults) leaves in omega (arith, same)
leaves_faults base (Claim note) old new leaves = let same = ap (λ (l : LinkState). l.faults) leaves in omega (arith, same)
leaves_faults base (Hint keys) old new leaves = let same = ap (λ (l : LinkState). l.faults) leaves in omega (arith, same)
leaves_faults base Cancel old new leaves = let same = ap (λ (l : LinkState). l.faults) leaves in omega (arith, same)
leaves_faults base End old new leaves = let same = ap (λ (l : LinkState). l.faults) leaves in omega (arith, same)

works_faults : (base : Base) (added : List Event) (old new : LinkState) → Works base added old new → old.faults ≤ new.faults
works_faults base [] old new works = let same = ap (λ (l : LinkState). l.faults) works in omega (arith, same)
works_faults base (e ∷ es) old new works =
    let first = leaves_faults base e.act old works.0 works.1 in
    let rest = works_faults base es works.0 new works.2 in
    omega (arith, first, rest)

-- it rose between two counts
rose_between : (first second third fourth : ℕ) → first ≤ second → Rises second third → third ≤ fourth → Rises first fourth
rose_between first second third fourth early (inl less) late = inl (omega (arith, early, less, late))
rose_between first second third fourth early (inr both) late = go (nat_lt first fourth) refl
  where
    go : (b : Bool) → nat_lt first fourth ≡ b → Rises first fourth
    go true is = inl (ltb-true first fourth is)
    go false is = let l : fourth ≤ first = ltb-false first fourth is in let p = both.0 in let q = both.1 in
        inr (omega (arith, l, p, q, early, late), omega (arith, l, p, q, early, late))

-- one of the events that were made
record At (base : Base) (e : Event) (old new : LinkState) : Type 0 where
  before : LinkState
  after : LinkState
  early : old.faults ≤ before.faults
  leaves : Leaves base e.act before after
  late : after.faults ≤ new.faults

works_at : (base : Base) (first last : List Event) (e : Event) (old new : LinkState) → Works base (first ++ e ∷ last) old new → At base e old new
works_at base [] last e old new works = record {
  before = old;
  after = works.0;
  early = omega (arith);
  leaves = works.1;
  late = works_faults base last works.0 new works.2;
}
works_at base (one ∷ first) last e old new works =
    let here = leaves_faults base one.act old works.0 works.1 in
    let there = works_at base first last e works.0 new works.2 in
    let behind = there.early in
    record { before = there.before; after = there.after; early = omega (arith, here, behind); leaves = there.leaves; late = there.late }

breaks_among : (key : Key) (first last : List Event) (actor : ℕ)
    → 1 ≤ count_by (λ (e : Event). breaks key e.act) (first ++ event actor (Fail key why.Link) ∷ last)
breaks_among key first last actor =
    let both = sum_by-append (λ (e : Event). one_if (breaks key e.act)) first (event actor (Fail key why.Link) ∷ last) in
    let this = ap (λ (b : Bool). one_if b) (key_itself key) in
    let next = count_cons (λ (e : Event). breaks key e.act) (event actor (Fail key why.Link)) last in
    omega (arith, both, this, next)

module _ (setting : Setting) (actor : ℕ) (job : RootJob) (asked : Key) (old new : LinkState)
    (session : IsSessionOf setting actor job (outcome.FetchFault asked) old new) where
  abbrev first : List Event
  first = (session.session.opening ++ session.session.middle) ++ event actor (Ask asked ask.Fetch) ∷ []

  abbrev last : List Event
  last = event actor End ∷ []

  abbrev failure : Event
  failure = event actor (Fail asked why.Link)

  -- its events, about the failure
  about : acts_of actor setting.history ≡ first ++ failure ∷ last
  about =
      session.session.are
      ∙ ap (λ (events : List Event). session.session.opening ++ (session.session.middle ++ (events ++ event actor End ∷ []))) session.session.closes
      ∙ sym (append_assoc session.session.opening session.session.middle (event actor (Ask asked ask.Fetch) ∷ failure ∷ last))
      ∙ sym (append_assoc (session.session.opening ++ session.session.middle) (event actor (Ask asked ask.Fetch) ∷ []) (failure ∷ last))

  at : At setting.base failure old new
  at = works_at setting.base first last failure old new (subst (λ (events : List Event). Works setting.base events old new) about session.works)

  pub link_failed : Rises old.faults new.faults
      × IfSome old.calls (λ calls. failed_calls_for setting.base asked old.calls < failed_calls_for setting.base asked new.calls)
  link_failed = (rose_between old.faults at.before.faults at.after.faults new.faults at.early at.leaves.1.faults at.late, go old.calls refl)
    where
      go : (before : _) → old.calls ≡ before → IfSome before (λ calls. failed_calls_for setting.base asked old.calls < failed_calls_for setting.base asked new.calls)
      go None is = tt
      go (Some calls) is =
          let grown = link_calls setting.base asked at.leaves.0 (acts_of actor setting.history) old new (subst IsSome (sym is) refl) session.works in
          let failed = grown.1 in
          let broken = ap (count_by (λ (e : Event). breaks asked e.act)) about in
          let one = breaks_among asked first last actor in
          omega (arith, failed, broken, one)
