-- What the resolution of a root over a catalogue of replies comes to, as the first of its items that applies: the refusal that its job
-- holds; the first demanded key whose reply is refused; a limit; a refutation; what is wrong with an archive of what is selected; or the
-- pins. It has no link, cache or memory in it.
use Rattle.std.specs.Prelude.{◌≡◌, ℕ, min, ◌⊎◌, All, List, length, map, Bool, Some, Ok, Err, IsOk}
use Rattle.pub_facts.specs.Catalogue.{Job}
use Rattle.pub_facts.specs.Enabled.{Selection}
use Rattle.pub_facts.specs.First.{IsFirst}
use Rattle.pub_facts.specs.Valid.{IsValid}
use Rattle.pub_plain.specs.Answers.{Answers, AreShort, Carries, answers_of, catalogue_by, lookups_by}
use Rattle.pub_plain.specs.Choosing.{Pins, pin_of}
use Rattle.pub_plain.specs.Derivation.{choice_texts, derivation_in, pins_in}
use Rattle.pub_plain.specs.FactLines.{IsFactLine}
use Rattle.pub_plain.specs.Plain.{plain_after, rules_of}
use Rattle.pub_plain.specs.Preferred.{IsWider, prefers_by}
use Rattle.pub_proof.specs.Checked.{checked_of}
use Rattle.pub_proof.specs.Checks.{own_facts}
use Rattle.pub_proof.specs.declared.derivation.Derivation.{Derivation}
use Rattle.pub_term.specs.declared.cause.Cause.{Cause}
use Rattle.pub_term.specs.declared.term.Term.{Term}
use Rattle.pub_trail.specs.Turn.{State, Step, Turn, Went, Needs, TooWide, Selected, Refuted, turn_of}
use Rattle.spm_api.specs.Refused.{Refusal, garbled, says, too_long, unreadable}
use Rattle.spm_api.specs.Said.{said_in}
use Rattle.spm_key.specs.Catalogue.{Catalogue}
use Rattle.spm_key.specs.declared.key.Key.{Key}
use Rattle.spm_session.specs.Archives.{Fingerprints, ends, needs, pins_looked}
use Rattle.spm_session.specs.declared.outcome.Outcome.{Outcome}
use Rattle.spm_session.specs.declared.outcome.Outcome.TheVariants as outcome

-- a run of the plain solver up to a last turn
pub record Runs (job : Job) (pins : Pins) (answers : Answers) (last : Turn) : Type 0 where
  pub turns : ℕ
  pub state : State
  pub after : plain_after job pins answers turns ≡ Went state
  pub is : turn_of (rules_of job pins answers) state ≡ last

-- the count of turns stops at the greatest number of 64 bits
abbrev pub count_of : ℕ → ℕ
count_of turns = min turns 18446744073709551615

-- the first valid selection: it is valid, and at each step no version that is preferred to the chosen one lies in a valid selection of any
-- catalogue that says the same of the keys that are answered
abbrev pub IsFirstValidSelection : Job → Pins → Answers → Pins → Type 0
IsFirstValidSelection job pins answers found = IsFirst (prefers_by pins) (IsWider answers) job (catalogue_by answers) (pin_of found)

-- a checked derivation that none exists: it passes the check by its own facts, each of which is a fact of a load over what is answered, and
-- no selection is valid in any catalogue that says the same of the keys that are answered
pub record IsCheckedDerivationThatNoneExists (job : Job) (answers : Answers) (state : State) (found : Derivation) : Type 0 where
  pub checked : IsOk (checked_of found.nodes found.sizes (own_facts found.lines) found.lines)
  pub facts : All (IsFactLine job answers state) found.lines
  pub none : (more : Answers) → Carries answers more → AreShort more → (selection : Selection) → IsValid job (catalogue_by more) selection → ⊥

-- every key that the solver demands is answered, and the decisions are a selection
pub record IsSelected (job : Job) (pins : Pins) (c : Catalogue) (found : Pins) (turns : ℕ) : Type 0 where
  pub run : Runs job pins (answers_of c) Selected
  pub pins_are : found ≡ pins_in (lookups_by (answers_of c)) run.state
  pub turns_are : turns ≡ count_of run.turns
  pub first : IsFirstValidSelection job pins (answers_of c) found

-- a selection whose archives are all right: the sums of the archives, one for each pin
pub record IsResolved (job : Job) (fingerprints : Fingerprints) (pins : Pins) (c : Catalogue) (found : Pins) (sums : List (List ℕ)) (turns : ℕ)
    : Type 0 where
  pub selected : IsSelected job pins c found turns
  pub right : pins_looked fingerprints c found ≡ Ok sums

-- a selection whose archives stop the root so
pub record IsStopped (job : Job) (fingerprints : Fingerprints) (pins : Pins) (c : Catalogue) (it : Outcome) : Type 0 where
  pub found : Pins
  pub turns : ℕ
  pub selected : IsSelected job pins c found turns
  pub stops : pins_looked fingerprints c found ≡ Err (ends it)

-- the solver refutes: the derivation, and the texts of its nodes' choices; `same` says which causes are equal
pub record IsRefuted (same : Cause → Cause → Bool) (job : Job) (pins : Pins) (c : Catalogue) (found : Derivation) (texts : List (List (List ℕ))) (turns : ℕ)
    : Type 0 where
  pub terms : List Term
  pub first : ℕ
  pub steps : List Step
  pub run : Runs job pins (answers_of c) (Refuted terms first steps)
  pub derivation_is : found ≡ derivation_in same (lookups_by (answers_of c)) run.state first steps
  pub texts_are : texts ≡ choice_texts (lookups_by (answers_of c)) run.state.names
  pub turns_are : turns ≡ count_of run.turns
  pub none : IsCheckedDerivationThatNoneExists job (answers_of c) run.state found

-- the solver demands a key, and its reply is refused for this reason
pub record IsRefusal (job : Job) (pins : Pins) (c : Catalogue) (asked : Key) (reason : Refusal) : Type 0 where
  pub run : Runs job pins (answers_of c) (Needs asked)
  pub refused : said_in c asked ≡ Some (Err reason)

-- the reply of a key that the solver demands, or of a release or archive of what is selected, is refused for this reason
abbrev pub IsRefused : Job → Fingerprints → Pins → Catalogue → Key → Refusal → Outcome → Type 0
IsRefused job fingerprints pins c asked reason it = IsRefusal job pins c asked reason ⊎ IsStopped job fingerprints pins c it

-- a selection, where a release or archive has no reply yet
pub record IsWanting (job : Job) (fingerprints : Fingerprints) (pins : Pins) (c : Catalogue) (asked : Key) : Type 0 where
  pub found : Pins
  pub turns : ℕ
  pub selected : IsSelected job pins c found turns
  pub wants : pins_looked fingerprints c found ≡ Err (needs asked)

-- the next key that is demanded: the solver's, or that of a release or archive of what is selected
abbrev pub Demands : Job → Fingerprints → Pins → Catalogue → Key → Type 0
Demands job fingerprints pins c asked = Runs job pins (answers_of c) (Needs asked) ⊎ IsWanting job fingerprints pins c asked

-- what a job that is ready comes to
abbrev pub IsReadyOutcome : (Cause → Cause → Bool) → Job → Fingerprints → Pins → Catalogue → Outcome → Type 0
IsReadyOutcome same job fingerprints pins c (outcome.Resolved found sums turns) = IsResolved job fingerprints pins c found sums turns
IsReadyOutcome same job fingerprints pins c (outcome.Refuted derivation texts turns) = IsRefuted same job pins c derivation texts turns
IsReadyOutcome same job fingerprints pins c (outcome.TooWide wide) = Runs job pins (answers_of c) (TooWide wide)
IsReadyOutcome same job fingerprints pins c (outcome.RegistrySays asked status detail) =
    IsRefused job fingerprints pins c asked (says status detail) (outcome.RegistrySays asked status detail)
IsReadyOutcome same job fingerprints pins c (outcome.Garbled asked) = IsRefused job fingerprints pins c asked garbled (outcome.Garbled asked)
IsReadyOutcome same job fingerprints pins c (outcome.TooLong asked) = IsRefused job fingerprints pins c asked too_long (outcome.TooLong asked)
IsReadyOutcome same job fingerprints pins c (outcome.ListUnreadable asked) =
    IsRefused job fingerprints pins c asked unreadable (outcome.ListUnreadable asked)
IsReadyOutcome same job fingerprints pins c (outcome.ReleaseUnreadable asked) =
    IsStopped job fingerprints pins c (outcome.ReleaseUnreadable asked)
IsReadyOutcome same job fingerprints pins c (outcome.NoArchive identity release) =
    IsStopped job fingerprints pins c (outcome.NoArchive identity release)
IsReadyOutcome same job fingerprints pins c (outcome.ChecksumDiffers identity release said found) =
    IsStopped job fingerprints pins c (outcome.ChecksumDiffers identity release said found)
IsReadyOutcome same job fingerprints pins c (outcome.TrustDiffers identity release kept said) =
    IsStopped job fingerprints pins c (outcome.TrustDiffers identity release kept said)
IsReadyOutcome same job fingerprints pins c outcome.RootMissing = ⊥
IsReadyOutcome same job fingerprints pins c (outcome.RootUnreadable place kind) = ⊥
IsReadyOutcome same job fingerprints pins c (outcome.RootTooNew needed running) = ⊥
IsReadyOutcome same job fingerprints pins c (outcome.ResolvedUnreadable place kind) = ⊥
IsReadyOutcome same job fingerprints pins c (outcome.FetchFault asked) = ⊥
IsReadyOutcome same job fingerprints pins c (outcome.Cancelled by) = ⊥
IsReadyOutcome same job fingerprints pins c (outcome.DeskFault name) = ⊥
IsReadyOutcome same job fingerprints pins c outcome.Memory = ⊥

-- the refusals that a job may hold: the root's files are missing, unreadable or too new, the desk failed at one, or memory wasn't there
abbrev pub IsOfFiles : Outcome → Type 0
IsOfFiles outcome.RootMissing = Unit {0}
IsOfFiles (outcome.RootUnreadable place kind) = Unit {0}
IsOfFiles (outcome.RootTooNew needed running) = Unit {0}
IsOfFiles (outcome.ResolvedUnreadable place kind) = Unit {0}
IsOfFiles (outcome.DeskFault name) = Unit {0}
IsOfFiles outcome.Memory = Unit {0}
IsOfFiles (outcome.Resolved pins sums turns) = ⊥
IsOfFiles (outcome.Refuted derivation texts turns) = ⊥
IsOfFiles (outcome.TooWide wide) = ⊥
IsOfFiles (outcome.RegistrySays asked status detail) = ⊥
IsOfFiles (outcome.Garbled asked) = ⊥
IsOfFiles (outcome.TooLong asked) = ⊥
IsOfFiles (outcome.ListUnreadable asked) = ⊥
IsOfFiles (outcome.ReleaseUnreadable asked) = ⊥
IsOfFiles (outcome.NoArchive identity release) = ⊥
IsOfFiles (outcome.ChecksumDiffers identity release said found) = ⊥
IsOfFiles (outcome.TrustDiffers identity release kept said) = ⊥
IsOfFiles (outcome.FetchFault asked) = ⊥
IsOfFiles (outcome.Cancelled by) = ⊥

-- a derivation that its own facts check, with a text for each choice of each of its nodes
pub record IsExplained (found : Derivation) (texts : List (List (List ℕ))) : Type 0 where
  pub sizes : length found.sizes ≡ length found.nodes
  pub checked : IsOk (checked_of found.nodes found.sizes (own_facts found.lines) found.lines)
  pub texts_are : map length texts ≡ found.sizes

-- a refutation can be put into words
abbrev pub CanBeTold : Outcome → Type 0
CanBeTold (outcome.Refuted derivation texts turns) = IsExplained derivation texts
CanBeTold other = Unit {0}

-- neither a fault of a link nor another session that gave up
abbrev pub IsNoFault : Outcome → Type 0
IsNoFault (outcome.FetchFault asked) = ⊥
IsNoFault (outcome.Cancelled by) = ⊥
IsNoFault other = Unit {0}
