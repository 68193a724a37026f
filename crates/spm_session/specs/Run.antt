-- A resolution over a link, turn by turn: what it is at each moment, and how it ends.
use Rattle.std.specs.Prelude.{◌≡◌, ℕ, ◌⊎◌, List, [], ◌∷◌, map, Bool, None, IfSome, Result, Ok, Err}
use Rattle.std.specs.Cmp.Lexicographic.{slice_cmp}
use Rattle.std.specs.FinMap as replies
use Rattle.std.specs.List.Sorted.{IsStrictlySortedBy}
use Rattle.std.specs.Ordering.{nat_cmp}
use Rattle.pub_facts.specs.Catalogue.{Job}
use Rattle.pub_plain.specs.Answers.{answers_of, lookups_by}
use Rattle.pub_plain.specs.Choosing.{Pins}
use Rattle.pub_plain.specs.Derivation.{choice_texts, derivation_in}
use Rattle.pub_plain.specs.Plain.{plain_after}
use Rattle.pub_plain.specs.Solver.{Solver, answers_now, turn_now}
use Rattle.pub_proof.specs.declared.derivation.Derivation.{Derivation}
use Rattle.pub_term.specs.declared.cause.Cause.{Cause}
use Rattle.pub_term.specs.declared.term.Term.{Term}
use Rattle.pub_trail.specs.Turn.{Refuted, Step, Went}
use Rattle.spm_api.specs.Said.{Says, reply_said}
use Rattle.spm_api.specs.declared.replies.ReplyFault.{ReplyFault}
use Rattle.spm_api.specs.declared.replies.ReplyFault.TheVariants as fault
use Rattle.spm_key.specs.Catalogue.{Catalogue}
use Rattle.spm_key.specs.declared.key.Key.{Key}
use Rattle.spm_key.specs.declared.key.Key.TheVariants as key
use Rattle.spm_key.specs.declared.reply.Reply.{Reply}
use Rattle.spm_outside.specs.Faults.{Rises}
use Rattle.spm_session.specs.Known.{IsFrom, Known}
use Rattle.spm_session.specs.Archives.{Fingerprints, Pin, Stop, archive_key, ends, looked_at, needs, release_key}
use Rattle.spm_session.specs.Outcome.{Demands, IsOfFiles, IsReadyOutcome, count_of}
use Rattle.spm_session.specs.declared.job.RootInput.{RootInput}
use Rattle.spm_session.specs.declared.job.RootInput.TheVariants as input
use Rattle.spm_session.specs.declared.job.RootJob.{RootJob}
use Rattle.spm_session.specs.declared.source.Missed.{Missed}
use Rattle.spm_session.specs.declared.source.Missed.TheVariants as missed
use Rattle.spm_session.specs.declared.outcome.Outcome.{Outcome}
use Rattle.spm_session.specs.declared.outcome.Outcome.TheVariants as outcome

-- a key that a resolution reads once it has a selection
abbrev pub IsOfArchives : Key → Type 0
IsOfArchives (key.List identity) = ⊥
IsOfArchives (key.Manifest identity release) = ⊥
IsOfArchives (key.Release identity release) = Unit {0}
IsOfArchives (key.Archive identity release) = Unit {0}
IsOfArchives (key.Identifiers url) = ⊥

-- no release and no archive has a reply yet
abbrev pub IsUnasked : Catalogue → Type 0
IsUnasked c = (asked : Key) → IsOfArchives asked → replies.get c asked ≡ None

-- the solver has done what a plain resolution over the replies so far does
pub record IsRun (known : Known) (solver : Solver) : Type 0 where
  pub c : Catalogue
  pub from : IsFrom known c
  pub unasked : IsUnasked c
  pub answers : answers_now solver ≡ answers_of c
  pub count : ℕ
  pub after : plain_after solver.job solver.pins (answers_of c) count ≡ Went solver.state
  pub turns : solver.turns ≡ count_of count

-- the solver refutes, and this is what it says
pub record IsPutAs (same : Cause → Cause → Bool) (solver : Solver) (it : Outcome) : Type 0 where
  pub terms : List Term
  pub first : ℕ
  pub steps : List Step
  pub is : turn_now solver ≡ Refuted terms first steps
  pub derivation : Derivation
  pub texts : List (List (List ℕ))
  pub put : it ≡ outcome.Refuted derivation texts solver.turns
  pub derivation_is : derivation ≡ derivation_in same (lookups_by (answers_now solver)) solver.state first steps
  pub texts_are : texts ≡ choice_texts (lookups_by (answers_now solver)) solver.state.names

-- a demanded key that couldn't be fetched
pub record IsUnfetched (known : Known) (job : Job) (fingerprints : Fingerprints) (pins : Pins) (asked : Key) : Type 0 where
  pub c : Catalogue
  pub from : IsFrom known c
  pub demands : Demands job fingerprints pins c asked

-- the outcome over some catalogue of replies that are known
pub record IsOver (same : Cause → Cause → Bool) (known : Known) (job : Job) (fingerprints : Fingerprints) (pins : Pins)
    (it : Outcome) : Type 0 where
  pub c : Catalogue
  pub from : IsFrom known c
  pub is : IsReadyOutcome same job fingerprints pins c it

-- how a job that is ready ends: want of memory, a key that is demanded and couldn't be fetched, another session that gave up, or else the
-- outcome of the definition
abbrev pub IsReadyEnd : (Cause → Cause → Bool) → Known → Job → Fingerprints → Pins → Outcome → Type 0
IsReadyEnd same known job fingerprints pins outcome.Memory = Unit {0}
IsReadyEnd same known job fingerprints pins (outcome.FetchFault asked) = IsUnfetched known job fingerprints pins asked
IsReadyEnd same known job fingerprints pins (outcome.Cancelled by) = Unit {0}
IsReadyEnd same known job fingerprints pins it = IsOver same known job fingerprints pins it

-- a job that holds a refusal ends with it
abbrev pub IsEndBy : (Cause → Cause → Bool) → Known → Fingerprints → RootJob → RootInput → Outcome → Type 0
IsEndBy same known fingerprints job (input.Refused refusal) it = it ≡ refusal
IsEndBy same known fingerprints job (input.Ready manifest origin pins) it =
    IsReadyEnd same known (record { root = manifest; asked = job.asked; tools = job.tools }) fingerprints pins it

abbrev pub IsEnd : (Cause → Cause → Bool) → Known → Fingerprints → RootJob → Outcome → Type 0
IsEnd same known fingerprints job it = IsEndBy same known fingerprints job job.input it

-- ---- of a source of replies

-- how a source went on to an outcome, by what it does where it goes on, and where it has no reply of a key
abbrev pub EndsBy : {S : Type 0} → (S → S → Type 0) → (S → S → Key → Missed → Type 0) → S → S → Outcome → Type 0
EndsBy goes misses old new (outcome.FetchFault asked) = misses old new asked missed.Failed
EndsBy goes misses old new (outcome.Cancelled by) = (asked : Key) × misses old new asked (missed.Cancelled by)
EndsBy goes misses old new outcome.Memory = goes old new ⊎ ((asked : Key) × misses old new asked missed.Memory)
EndsBy goes misses old new it = goes old new

abbrev pub GoesBy : {S A : Type 0} → (S → S → Type 0) → (S → S → Key → Missed → Type 0) → S → S → Result A Outcome → Type 0
GoesBy goes misses old new (Ok done) = goes old new
GoesBy goes misses old new (Err it) = EndsBy goes misses old new it

-- a job that holds a refusal asks for nothing
abbrev pub WentOfJob : {S : Type 0} → (S → S → Type 0) → (S → S → Key → Missed → Type 0) → RootInput → S → S → Outcome → Type 0
WentOfJob goes misses (input.Refused refusal) old new it = new ≡ old
WentOfJob goes misses (input.Ready manifest origin pins) old new it = EndsBy goes misses old new it

-- ---- of a link

-- the link's count of faults rises where a fetch failed, and stays else; who resolves alone is told of nobody who gave up
abbrev pub FaultsBy : Outcome → ℕ → ℕ → Type 0
FaultsBy (outcome.FetchFault asked) old new = Rises old new
FaultsBy (outcome.Cancelled by) old new = ⊥
FaultsBy it old new = new ≡ old

-- a job that holds a refusal touches no link
abbrev pub FaultsOfJob : RootInput → Outcome → ℕ → ℕ → Type 0
FaultsOfJob (input.Refused refusal) it old new = new ≡ old
FaultsOfJob (input.Ready manifest origin pins) it old new = FaultsBy it old new

-- ---- of a reply that is refused

abbrev pub refused_by : Key → ReplyFault → Outcome
refused_by asked fault.Garbled = outcome.Garbled asked
refused_by asked fault.TooLong = outcome.TooLong asked
refused_by asked fault.Unreadable = outcome.ListUnreadable asked
refused_by asked (fault.Says status detail) = outcome.RegistrySays asked status detail
refused_by asked fault.Memory = outcome.Memory

-- the outcome is want of memory, or says why the reply of the key is refused
pub record IsRefusedBy (asked : Key) (reply : Reply) (it : Outcome) : Type 0 where
  pub why : ReplyFault
  pub is : it ≡ refused_by asked why
  pub says : Says (Err why) (reply_said asked reply)

-- ---- of a key that is fetched

-- the outcome of a key without a reply
abbrev pub missed_by : Key → Missed → Outcome
missed_by asked missed.Failed = outcome.FetchFault asked
missed_by asked (missed.Cancelled by) = outcome.Cancelled by
missed_by asked missed.Memory = outcome.Memory

abbrev pub IsNotFetched : Key → Outcome → Type 0
IsNotFetched asked it = (why : Missed) × (it ≡ missed_by asked why)

-- ---- of the archives of pins

-- what is found is that of the definition, where memory was there
abbrev pub FindsErr : Outcome → Result (List ℕ) Outcome → Type 0
FindsErr outcome.Memory found = Unit {0}
FindsErr it found = found ≡ Err it

abbrev pub Finds : Result (List ℕ) Outcome → Result (List ℕ) Outcome → Type 0
Finds (Ok sum) found = found ≡ Ok sum
Finds (Err it) found = FindsErr it found

-- the look stopped at a key that couldn't be fetched, or at the root's end; or memory wasn't there, or another session gave up
abbrev pub StopsAt : {A : Type 0} → Outcome → Result A Stop → Type 0
StopsAt outcome.Memory found = Unit {0}
StopsAt (outcome.Cancelled by) found = Unit {0}
StopsAt (outcome.FetchFault asked) found = found ≡ Err (needs asked)
StopsAt it found = found ≡ Err (ends it)

-- what a look comes to
abbrev pub Looks : {A : Type 0} → Result A Outcome → Result A Stop → Type 0
Looks (Ok x) found = found ≡ Ok x
Looks (Err it) found = StopsAt it found

-- two catalogues differ at no other keys
abbrev pub DifferOnlyAt : (Key → Type 0) → Catalogue → Catalogue → Type 0
DifferOnlyAt is_there more c = (asked : Key) → (is_there asked → ⊥) → replies.get more asked ≡ replies.get c asked

-- where the second catalogue has another reply than the first, it is known
abbrev pub GrowsBy : Known → Catalogue → Catalogue → Type 0
GrowsBy known c more = (asked : Key) → (replies.get more asked ≡ replies.get c asked) ⊎ IfSome (replies.get more asked) (λ reply. known asked reply)

-- over a catalogue that has more of these keys, this is what a look comes to
pub record LooksOver {A : Type 0} (known : Known) (is_there : Key → Type 0) (look : Catalogue → Result A Stop) (c : Catalogue)
    (result : Result A Outcome) : Type 0 where
  pub more : Catalogue
  pub grows : GrowsBy known c more
  pub others : DifferOnlyAt is_there more c
  pub looks : Looks result (look more)

-- how a look at archives may end
abbrev pub IsOfArchivesEnd : Outcome → Type 0
IsOfArchivesEnd (outcome.RegistrySays asked status detail) = Unit {0}
IsOfArchivesEnd (outcome.Garbled asked) = Unit {0}
IsOfArchivesEnd (outcome.TooLong asked) = Unit {0}
IsOfArchivesEnd (outcome.ListUnreadable asked) = Unit {0}
IsOfArchivesEnd (outcome.ReleaseUnreadable asked) = Unit {0}
IsOfArchivesEnd (outcome.NoArchive identity release) = Unit {0}
IsOfArchivesEnd (outcome.ChecksumDiffers identity release said found) = Unit {0}
IsOfArchivesEnd (outcome.TrustDiffers identity release kept said) = Unit {0}
IsOfArchivesEnd (outcome.FetchFault asked) = Unit {0}
IsOfArchivesEnd (outcome.Cancelled by) = Unit {0}
IsOfArchivesEnd outcome.Memory = Unit {0}
IsOfArchivesEnd it = ⊥

-- the two keys of a pin, and those of pins
abbrev pub IsKeyOf : Pin → Key → Type 0
IsKeyOf pin asked = (asked ≡ release_key pin) ⊎ (asked ≡ archive_key pin)

abbrev pub IsKeyOfAny : List Pin → Key → Type 0
IsKeyOfAny [] asked = ⊥
IsKeyOfAny (pin ∷ pins) asked = IsKeyOf pin asked ⊎ IsKeyOfAny pins asked

-- none of these keys has a reply
abbrev pub LacksAll : (Key → Type 0) → Catalogue → Type 0
LacksAll is_there c = (asked : Key) → is_there asked → replies.get c asked ≡ None

-- from each catalogue that lacks these keys on
abbrev pub LooksFrom : {A : Type 0} → Known → (Key → Type 0) → (Catalogue → Result A Stop) → Result A Outcome → Type 0
LooksFrom known is_there look result = (c : Catalogue) → LacksAll is_there c → LooksOver known is_there look c result

-- whatever is to be read of the reply of the key, the look ends so
abbrev pub IsUnanswered : Known → Key → Outcome → Type 0
IsUnanswered known asked it = (says : Reply → Result (List ℕ) Outcome)
    → LooksFrom known (λ other. other ≡ asked) (λ c. looked_at c asked says) (Err it)

-- pins in the order of their identities, each once
abbrev pub ArePinsAscending : List Pin → Type 0
ArePinsAscending pins = IsStrictlySortedBy (slice_cmp nat_cmp) (map (λ (pin : Pin). pin.0) pins)

-- ---- of a job

-- a job that holds a refusal holds one of its root's files
abbrev pub IsInput : RootInput → Type 0
IsInput (input.Refused refusal) = IsOfFiles refusal
IsInput (input.Ready manifest origin pins) = Unit {0}
