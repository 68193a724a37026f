-- What an exchange leaves of the link, by its answer.
use Rattle.std.proofs.Common.{◌≡◌, false, Err, inr, sym, subst}
use Rattle.spm_api.specs.Endpoint.{IsBookReply, request_for}
use Rattle.spm_api.specs.declared.base.Base.{Base}
use Rattle.spm_key.specs.declared.key.Key.{Key}
use Rattle.spm_key.specs.declared.reply.Reply.{Reply}
use Rattle.spm_outside.specs.Exchange.{CallsAfterExchange, with_call}
use Rattle.spm_outside.specs.Faults.{FaultsAfter}
use Rattle.spm_outside.specs.Link.{LinkState}
use Rattle.spm_outside.specs.declared.fault.CallFault.{CallFault}
use Rattle.spm_outside.specs.declared.fault.CallFault.TheVariants as fault
use Rattle.spm_flight.specs.Work.{LeavesLanded, Obtains}

module _ (base : Base) (key : Key) (old new : LinkState) (book : new.book ≡ old.book) where
  -- where the fetch failed
  pub unfetched : (why : CallFault) → CallsAfterExchange {T = Reply} (Err why) base.to (request_for base key) old.calls new.calls
      → FaultsAfter {T = Reply} (Err why) old.faults new.faults → Obtains base key (Err why) old new
  unfetched fault.Failed calls faults = record { book = book; calls = calls; faults = faults }
  unfetched fault.Memory calls faults = record { book = book; calls = calls; faults = faults }

  -- a reply that was fetched and could not be shared
  pub unshared : new.calls ≡ with_call base.to (request_for base key) false old.calls → new.faults ≡ old.faults
      → Obtains base key (Err fault.Memory) old new
  unshared calls faults = record { book = book; calls = inr calls; faults = faults }

  -- a reply that was
  pub obtained : (reply kept : Reply) → kept ≡ reply → IsBookReply base old.book key reply
      → new.calls ≡ with_call base.to (request_for base key) false old.calls → new.faults ≡ old.faults → LeavesLanded base key kept old new
  obtained reply kept same is calls faults =
      record { book = book; reply_is = subst (IsBookReply base old.book key) (sym same) is; calls = calls; faults = faults }
