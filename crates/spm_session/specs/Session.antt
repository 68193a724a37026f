-- What a session of a shared cache does.
use Rattle.std.specs.Prelude.{◌≡◌, ◌≢◌, ◌⊎◌, ℕ, Bool, true, false, List, [], ◌∷◌, ◌++◌, Some}
use Rattle.spm_api.specs.Guess.{keys_of}
use Rattle.spm_cache_core.specs.History.{canceller, event}
use Rattle.spm_cache_core.specs.declared.event.Act.TheVariants.{End, Hint}
use Rattle.spm_cache_core.specs.declared.event.Event.{Event}
use Rattle.spm_key.specs.declared.key.Key.{Key}
use Rattle.spm_outside.specs.Link.{LinkState}
use Rattle.spm_session.specs.Sharing.{AreQuiet, DoesBy, IsMiss, IsSame}
use Rattle.spm_session.specs.declared.sharing.Sharing.{Sharing}
use Rattle.spm_session.specs.declared.job.RootInput.{RootInput}
use Rattle.spm_session.specs.declared.job.RootInput.TheVariants as input
use Rattle.spm_session.specs.declared.outcome.Outcome.{Outcome}
use Rattle.spm_session.specs.declared.outcome.Outcome.TheVariants as outcome
use Rattle.spm_session.specs.declared.source.Missed.TheVariants as missed

-- the hint of what the root's own manifest makes likely, first of all; none where nothing is to be hinted, or where the job is refused
abbrev pub opening_of : Bool → ℕ → RootInput → List Event
opening_of true actor (input.Ready manifest origin pins) = event actor (Hint (keys_of manifest.needs)) ∷ []
opening_of true actor (input.Refused refusal) = []
opening_of false actor input = []

-- the job holds no refusal
abbrev pub IsReadyInput : RootInput → Type 0
IsReadyInput (input.Ready manifest origin pins) = Unit {0}
IsReadyInput (input.Refused refusal) = ⊥

-- that comes first, unless memory ran out
abbrev pub Opens : Bool → ℕ → RootInput → Outcome → List Event → Type 0
Opens hints actor input outcome.Memory opening = (opening ≡ opening_of hints actor input) ⊎ (opening ≡ [])
Opens hints actor input it opening = opening ≡ opening_of hints actor input

-- the last events before the end, by the outcome: where a key has no reply, what says so
abbrev pub Closes : ℕ → Outcome → List Event → Type 0
Closes actor (outcome.FetchFault asked) last = IsMiss actor asked missed.Failed last
Closes actor (outcome.Cancelled by) last = (asked : Key) × IsMiss actor asked (missed.Cancelled by) last
Closes actor outcome.Memory last = (last ≡ []) ⊎ ((asked : Key) × IsMiss actor asked missed.Memory last)
Closes actor it last = last ≡ []

-- all that a session does: it hints, asks, fetches what it is told to and lands each, and ends; a flight of its own fails only as the last of
-- its flights, and says the outcome
pub record IsSessionWork (hints : Bool) (actor : ℕ) (input : RootInput) (it : Outcome) (added : List Event) : Type 0 where
  pub opening : List Event
  pub middle : List Event
  pub last : List Event
  pub are : added ≡ opening ++ (middle ++ (last ++ event actor End ∷ []))
  pub opens : Opens hints actor input it opening
  pub quiet : AreQuiet middle
  pub closes : Closes actor it last

-- who gave up was the first, and another
abbrev pub GaveUp : ℕ → List Event → Outcome → Type 0
GaveUp actor seen (outcome.Cancelled by) = (canceller seen ≡ Some by) × (by ≢ actor)
GaveUp actor seen it = Unit {0}

module _ {L G R : Type 0} where
  -- what a source did from the opening to the outcome
  pub record Went (state : L → LinkState) (hints : Bool) (input : RootInput) (old new : Sharing L G R) (it : Outcome) : Type 0 where
    pub same : IsSame old new
    pub opening : List Event
    pub middle : List Event
    pub last : List Event
    pub does : DoesBy state old new (opening ++ (middle ++ last))
    pub opens : Opens hints old.pass.now.actor input it opening
    pub quiet : AreQuiet middle
    pub closes : Closes old.pass.now.actor it last
    pub gave_up : GaveUp new.pass.now.actor new.pass.now.seen it
