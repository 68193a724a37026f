-- How a source of replies went on to an outcome.
use Rattle.std.proofs.Common.{Result, Ok, Err, inl, inr}
use Rattle.std.specs.Prelude.{IfErr}
use Rattle.spm_api.specs.declared.replies.ReplyFault.{ReplyFault}
use Rattle.spm_api.specs.declared.replies.ReplyFault.TheVariants as fault
use Rattle.spm_key.specs.declared.key.Key.{Key}
use Rattle.spm_session.specs.Outcome.{IsNoFault}
use Rattle.spm_session.specs.Run.{EndsBy, GoesBy, missed_by, refused_by}
use Rattle.spm_session.specs.declared.source.Missed.{Missed}
use Rattle.spm_session.specs.declared.source.Missed.TheVariants as missed_for
use Rattle.spm_session.specs.declared.outcome.Outcome.{Outcome}
use Rattle.spm_session.specs.declared.outcome.Outcome.TheVariants as outcome

-- a reply that is refused is no fault
pub refused_quiet : (asked : Key) (why : ReplyFault) → IsNoFault (refused_by asked why)
refused_quiet asked fault.Garbled = tt
refused_quiet asked fault.TooLong = tt
refused_quiet asked fault.Unreadable = tt
refused_quiet asked (fault.Says status detail) = tt
refused_quiet asked fault.Memory = tt

module _ {S : Type 0} (goes : S → S → Type 0) (misses : S → S → Key → Missed → Type 0) where
  -- where no key was missed the source went on
  pub quiet_ends : (old new : S) (it : Outcome) → IsNoFault it → goes old new → EndsBy goes misses old new it
  quiet_ends old new (outcome.Resolved pins sums turns) quiet went = went
  quiet_ends old new (outcome.Refuted derivation texts turns) quiet went = went
  quiet_ends old new outcome.RootMissing quiet went = went
  quiet_ends old new (outcome.RootUnreadable place kind) quiet went = went
  quiet_ends old new (outcome.RootTooNew needed running) quiet went = went
  quiet_ends old new (outcome.ResolvedUnreadable place kind) quiet went = went
  quiet_ends old new (outcome.TooWide wide) quiet went = went
  quiet_ends old new (outcome.RegistrySays asked status detail) quiet went = went
  quiet_ends old new (outcome.Garbled asked) quiet went = went
  quiet_ends old new (outcome.TooLong asked) quiet went = went
  quiet_ends old new (outcome.ListUnreadable asked) quiet went = went
  quiet_ends old new (outcome.ReleaseUnreadable asked) quiet went = went
  quiet_ends old new (outcome.NoArchive identity release) quiet went = went
  quiet_ends old new (outcome.ChecksumDiffers identity release said sum) quiet went = went
  quiet_ends old new (outcome.TrustDiffers identity release kept said) quiet went = went
  quiet_ends old new (outcome.FetchFault asked) quiet went = absurd quiet
  quiet_ends old new (outcome.Cancelled by) quiet went = absurd quiet
  quiet_ends old new (outcome.DeskFault name) quiet went = went
  quiet_ends old new outcome.Memory quiet went = inl went

  pub quiet_goes : {A : Type 0} (old new : S) (result : Result A Outcome) → IfErr result (λ it. IsNoFault it) → goes old new
      → GoesBy goes misses old new result
  quiet_goes old new (Ok done) quiet went = went
  quiet_goes old new (Err it) quiet went = quiet_ends old new it quiet went

  -- the key that was missed
  pub missed_ends : (old new : S) (asked : Key) (why : Missed) → misses old new asked why → EndsBy goes misses old new (missed_by asked why)
  missed_ends old new asked missed_for.Failed missed = missed
  missed_ends old new asked (missed_for.Cancelled by) missed = (asked, missed)
  missed_ends old new asked missed_for.Memory missed = inr (asked, missed)

  -- what a source did before is part of how it ends
  pub then_ends : (first second third : S)
      → (goes first second → goes second third → goes first third)
      → ((asked : Key) (why : Missed) → goes first second → misses second third asked why → misses first third asked why)
      → (it : Outcome) → goes first second → EndsBy goes misses second third it → EndsBy goes misses first third it
  then_ends first second third onward missing (outcome.Resolved pins sums turns) went ends = onward went ends
  then_ends first second third onward missing (outcome.Refuted derivation texts turns) went ends = onward went ends
  then_ends first second third onward missing outcome.RootMissing went ends = onward went ends
  then_ends first second third onward missing (outcome.RootUnreadable place kind) went ends = onward went ends
  then_ends first second third onward missing (outcome.RootTooNew needed running) went ends = onward went ends
  then_ends first second third onward missing (outcome.ResolvedUnreadable place kind) went ends = onward went ends
  then_ends first second third onward missing (outcome.TooWide wide) went ends = onward went ends
  then_ends first second third onward missing (outcome.RegistrySays asked status detail) went ends = onward went ends
  then_ends first second third onward missing (outcome.Garbled asked) went ends = onward went ends
  then_ends first second third onward missing (outcome.TooLong asked) went ends = onward went ends
  then_ends first second third onward missing (outcome.ListUnreadable asked) went ends = onward went ends
  then_ends first second third onward missing (outcome.ReleaseUnreadable asked) went ends = onward went ends
  then_ends first second third onward missing (outcome.NoArchive identity release) went ends = onward went ends
  then_ends first second third onward missing (outcome.ChecksumDiffers identity release said sum) went ends = onward went ends
  then_ends first second third onward missing (outcome.TrustDiffers identity release kept said) went ends = onward went ends
  then_ends first second third onward missing (outcome.FetchFault asked) went ends = missing asked missed_for.Failed went ends
  then_ends first second third onward missing (outcome.Cancelled by) went ends = (ends.0, missing ends.0 (missed_for.Cancelled by) went ends.1)
  then_ends first second third onward missing (outcome.DeskFault name) went ends = onward went ends
  then_ends first second third onward missing outcome.Memory went (inl more) = inl (onward went more)
  then_ends first second third onward missing outcome.Memory went (inr missed) = inr (missed.0, missing missed.0 missed_for.Memory went missed.1)

  pub then_goes : {A : Type 0} (first second third : S) → (goes first second → goes second third → goes first third)
      → ((asked : Key) (why : Missed) → goes first second → misses second third asked why → misses first third asked why)
      → (result : Result A Outcome) → goes first second → GoesBy goes misses second third result → GoesBy goes misses first third result
  then_goes first second third onward missing (Ok done) went later = onward went later
  then_goes first second third onward missing (Err it) went later = then_ends first second third onward missing it went later
