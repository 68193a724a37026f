-- What is answered to an ask and to a claim.
use Rattle.std.specs.FinMap as map
use Rattle.std.specs.Prelude.{ℕ, ◌==◌, Bool, List, [], ◌∷◌, Option, Some, None, if◌then◌else◌}
use Rattle.spm_key.specs.declared.key.Key.{Key}
use Rattle.spm_key.specs.declared.reply.Reply.{Reply}
use Rattle.spm_cache_core.specs.Hints.{hinted, is_begun}
use Rattle.spm_cache_core.specs.History.{all_ended, canceller, flies, landed}
use Rattle.spm_cache_core.specs.declared.event.Event.{Event}

-- the answer to an ask: somebody else has cancelled first, the reply is here, somebody fetches it, or the asker has to
pub data AskAnswer : Type 0 where
  Cancelled : ℕ → AskAnswer
  Have : Reply → AskAnswer
  Waiting : AskAnswer
  Fetch : AskAnswer

-- the answer where nobody has cancelled
abbrev pub found_answer : Option Reply → Bool → AskAnswer
found_answer (Some reply) flying = Have reply
found_answer None flying = if flying then Waiting else Fetch

-- `answer`, unless somebody else than the actor was the first to cancel
abbrev pub unless_cancelled : Option ℕ → ℕ → AskAnswer → AskAnswer
unless_cancelled None actor answer = answer
unless_cancelled (Some by) actor answer = if by == actor then answer else Cancelled by

-- what a session's ask for a key is answered after these events
abbrev pub ask_answer : List Event → ℕ → Key → AskAnswer
ask_answer history actor key =
    unless_cancelled (canceller history) actor (found_answer (map.get (landed history) key) (flies key history))

-- the answer to a claim: there is nothing to come, a key is to be fetched, or there is nothing to do now
pub data ClaimAnswer : Type 0 where
  Closed : ClaimAnswer
  Fetch : Key → ClaimAnswer
  Nothing : ClaimAnswer

-- the first of the keys that was never begun
abbrev pub first_unbegun : List Event → List Key → ClaimAnswer
first_unbegun history [] = Nothing
first_unbegun history (key ∷ keys) = if is_begun key history then first_unbegun history keys else Fetch key

-- the key, if there is one
abbrev pub claimed_key : Option Key → ClaimAnswer
claimed_key None = Nothing
claimed_key (Some key) = Fetch key

-- what a worker's claim is answered after these events
abbrev pub claim_answer : ℕ → List Event → ClaimAnswer
claim_answer sessions history = if all_ended sessions history then Closed else first_unbegun history (hinted history)
