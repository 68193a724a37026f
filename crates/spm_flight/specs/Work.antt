-- What an actor does: the events that it makes in the cache, and what they leave of its link.
use Rattle.std.specs.FinMap as map
use Rattle.std.specs.Prelude.{◌≡◌, ◌⊎◌, false, true, List, [], ◌∷◌, Some, Result, Ok, Err}
use Rattle.spm_api.specs.Endpoint.{IsBookReply, request_for}
use Rattle.spm_api.specs.declared.base.Base.{Base}
use Rattle.spm_cache.specs.Passing.{Passing}
use Rattle.spm_cache.specs.Work.{Steps}
use Rattle.spm_cache_core.specs.Flight.{Flight}
use Rattle.spm_cache_core.specs.History.{event, landed}
use Rattle.spm_cache_core.specs.declared.event.Act.{Act}
use Rattle.spm_cache_core.specs.declared.event.Act.TheVariants.{Fail, Land}
use Rattle.spm_cache_core.specs.declared.event.Event.{Event}
use Rattle.spm_cache_core.specs.declared.event.Why.{Why}
use Rattle.spm_cache_core.specs.declared.event.Why.TheVariants as why
use Rattle.spm_key.specs.Key.{IsKey}
use Rattle.spm_key.specs.declared.key.Key.{Key}
use Rattle.spm_key.specs.declared.reply.Reply.{Reply}
use Rattle.spm_outside.specs.Exchange.{with_call}
use Rattle.spm_outside.specs.Faults.{Rises}
use Rattle.spm_outside.specs.Link.{LinkState}
use Rattle.spm_outside.specs.declared.fault.CallFault.{CallFault}
use Rattle.spm_outside.specs.declared.fault.CallFault.TheVariants as fault
use Rattle.spm_flight.specs.declared.flight.Flown.{Flown}
use Rattle.spm_flight.specs.declared.flight.Flown.TheVariants as flown

-- ---- what a flight leaves of the link

-- a reply that landed: one call for the key, which did not fail
pub record LeavesLanded (base : Base) (key : Key) (reply : Reply) (old new : LinkState) : Type 0 where
  pub book : new.book ≡ old.book
  pub reply_is : IsBookReply base old.book key reply
  pub calls : new.calls ≡ with_call base.to (request_for base key) false old.calls
  pub faults : new.faults ≡ old.faults

-- a link that failed: one call for the key, which failed, and the count of faults rose
pub record LeavesBroken (base : Base) (key : Key) (old new : LinkState) : Type 0 where
  pub book : new.book ≡ old.book
  pub calls : new.calls ≡ with_call base.to (request_for base key) true old.calls
  pub faults : Rises old.faults new.faults

-- want of memory: one call for the key, which did not fail, or none
pub record LeavesLacking (base : Base) (key : Key) (old new : LinkState) : Type 0 where
  pub book : new.book ≡ old.book
  pub calls : (new.calls ≡ old.calls) ⊎ (new.calls ≡ with_call base.to (request_for base key) false old.calls)
  pub faults : new.faults ≡ old.faults

abbrev pub LeavesFailed : Base → Key → Why → LinkState → LinkState → Type 0
LeavesFailed base key why.Link old new = LeavesBroken base key old new
LeavesFailed base key why.Memory old new = LeavesLacking base key old new

-- what an act leaves of its actor's link: the ends of flights use it, and nothing else does; what flies is a key that can be
abbrev pub Leaves : Base → Act → LinkState → LinkState → Type 0
Leaves base (Land key reply) old new = IsKey key × LeavesLanded base key reply old new
Leaves base (Fail key reason) old new = IsKey key × LeavesFailed base key reason old new
Leaves base act old new = new ≡ old

-- what events leave of their actor's link, one after the other
abbrev pub Works : Base → List Event → LinkState → LinkState → Type 0
Works base [] old new = new ≡ old
Works base (e ∷ es) old new = (between : LinkState) × Leaves base e.act old between × Works base es between new

-- ---- what an actor does

-- by a pass and over a link, whose state is told before and after: it made these events, and no others, and they left this of the link
pub record Does (base : Base) (link_before link_after : LinkState) (old new : Passing) (added : List Event) : Type 0 where
  pub steps : Steps old new added
  pub works : Works base added link_before link_after

-- ---- how a flight ends

-- the event of a flight's end
abbrev pub flown_event : Flight → Flown → Event
flown_event ticket (flown.Landed reply) = event ticket.actor (Land ticket.key reply)
flown_event ticket flown.Broken = event ticket.actor (Fail ticket.key why.Link)
flown_event ticket flown.Memory = event ticket.actor (Fail ticket.key why.Memory)

-- the reply of a flight that landed is in what was seen
abbrev pub FlownKnows : Key → List Event → Flown → Type 0
FlownKnows key seen (flown.Landed reply) = map.get (landed seen) key ≡ Some reply
FlownKnows key seen other = Unit {0}

-- what obtaining a reply leaves of the link, by its answer
abbrev pub Obtains : Base → Key → Result (Reply × Reply) CallFault → LinkState → LinkState → Type 0
Obtains base key (Ok replies) old new = LeavesLanded base key replies.0 old new
Obtains base key (Err fault.Failed) old new = LeavesBroken base key old new
Obtains base key (Err fault.Memory) old new = LeavesLacking base key old new
