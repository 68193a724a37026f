-- The archives of what is selected. For each pin, in the order of the pins, its release names a checksum, its archive has that sum, and a
-- fingerprint that is kept of it is that sum. All of it is said over a catalogue of replies; it has no link, cache or memory in it.
use Rattle.std.specs.Prelude.{◌≡◌, ℕ, ◌==◌, List, [], ◌∷◌, Option, Some, None, option_and_then, Result, Ok, Err, if◌then◌else◌}
use Rattle.std.specs.FinMap as map
use Rattle.std.specs.Str.{bytes_eq}
use Rattle.spm_api.specs.Bodies.{checksum_of}
use Rattle.spm_api.specs.Guess.{bytes_in}
use Rattle.spm_api.specs.Refused.{Refusal, garbled, reply_refusal, says, too_long, unreadable}
use Rattle.spm_digest.specs.Digest.{sha256}
use Rattle.spm_key.specs.Catalogue.{Catalogue}
use Rattle.spm_key.specs.declared.key.Key.{Key}
use Rattle.spm_key.specs.declared.key.Key.TheVariants as key
use Rattle.spm_key.specs.declared.reply.Body.{Body}
use Rattle.spm_key.specs.declared.reply.Body.TheVariants.{Whole, Sum, Garbled, TooLong}
use Rattle.spm_key.specs.declared.reply.Reply.{Reply}
use Rattle.spm_trust.specs.Trust.{kept_in, met_by}
use Rattle.spm_trust.specs.declared.file.KeptPackage.{KeptPackage}
use Rattle.spm_trust.specs.declared.met.Met.{Met}
use Rattle.spm_trust.specs.declared.met.Met.TheVariants.{Differs, Known, New}
use Rattle.spm_version.specs.Release.{Parts}
use Rattle.spm_session.specs.declared.outcome.Outcome.{Outcome}
use Rattle.spm_session.specs.declared.outcome.Outcome.TheVariants as outcome

-- a release of a package
abbrev pub Pin : Type 0
Pin = List ℕ × Parts

-- the sums that are kept of archives
abbrev pub Fingerprints : Type 0
Fingerprints = List KeptPackage

abbrev pub release_key : Pin → Key
release_key pin = key.Release pin.0 pin.1

abbrev pub archive_key : Pin → Key
archive_key pin = key.Archive pin.0 pin.1

-- ---- what a reply says that isn't refused

abbrev pub no_archive : Pin → Outcome
no_archive pin = outcome.NoArchive pin.0 pin.1

abbrev pub checksum_in : Pin → Option (Option (List ℕ)) → Result (List ℕ) Outcome
checksum_in pin None = Err (outcome.ReleaseUnreadable (release_key pin))
checksum_in pin (Some None) = Err (no_archive pin)
checksum_in pin (Some (Some checksum)) = Ok checksum

-- the checksum that a release names; nothing is there with the status 404 or 410
abbrev pub checksum_by : Pin → Reply → Result (List ℕ) Outcome
checksum_by pin reply =
    if reply.status == 200 then checksum_in pin (option_and_then checksum_of (bytes_in reply.body)) else Err (no_archive pin)

-- the sum of an archive's bytes
abbrev pub sum_in : Body → Option (List ℕ)
sum_in (Whole bytes) = Some (sha256 bytes)
sum_in (Sum sum length) = Some sum
sum_in Garbled = None
sum_in TooLong = None

-- a kept fingerprint is the checksum
abbrev pub trusted : Pin → List ℕ → Met → Result (List ℕ) Outcome
trusted pin checksum Known = Ok checksum
trusted pin checksum New = Ok checksum
trusted pin checksum (Differs kept said) = Err (outcome.TrustDiffers pin.0 pin.1 kept said)

-- the archive has the checksum's sum; then the fingerprint is looked at
abbrev pub matched : Fingerprints → Pin → List ℕ → Option (List ℕ) → Result (List ℕ) Outcome
matched fingerprints pin checksum None = Err (no_archive pin)
matched fingerprints pin checksum (Some found) =
    if bytes_eq found checksum then trusted pin checksum (met_by (kept_in pin.0 pin.1 fingerprints) checksum)
    else Err (outcome.ChecksumDiffers pin.0 pin.1 checksum found)

-- an archive beside the checksum that its release names
abbrev pub archive_by : Fingerprints → Pin → List ℕ → Reply → Result (List ℕ) Outcome
archive_by fingerprints pin checksum reply =
    if reply.status == 200 then matched fingerprints pin checksum (sum_in reply.body) else Err (no_archive pin)

-- ---- over a catalogue

-- why the look at the archives stops: a key has no reply yet, or the root ends so
pub data Stop : Type 0 where
  needs : Key → Stop
  ends : Outcome → Stop

-- how a root ends whose reply is refused
abbrev pub refused_with : Key → Refusal → Outcome
refused_with asked garbled = outcome.Garbled asked
refused_with asked too_long = outcome.TooLong asked
refused_with asked unreadable = outcome.ListUnreadable asked
refused_with asked (says status detail) = outcome.RegistrySays asked status detail

abbrev pub unless_refused : Key → Option Refusal → Result (List ℕ) Outcome → Result (List ℕ) Stop
unless_refused asked (Some refusal) found = Err (ends (refused_with asked refusal))
unless_refused asked None (Ok sum) = Ok sum
unless_refused asked None (Err it) = Err (ends it)

abbrev pub looked_in : Key → (Reply → Result (List ℕ) Outcome) → Option Reply → Result (List ℕ) Stop
looked_in asked read None = Err (needs asked)
looked_in asked read (Some reply) = unless_refused asked (reply_refusal asked reply) (read reply)

-- what the reply of a key says, read so
abbrev pub looked_at : Catalogue → Key → (Reply → Result (List ℕ) Outcome) → Result (List ℕ) Stop
looked_at c asked read = looked_in asked read (map.get c asked)

abbrev pub and_then : {A : Type 0} → Result (List ℕ) Stop → (List ℕ → Result A Stop) → Result A Stop
and_then (Ok sum) next = next sum
and_then (Err stop) next = Err stop

-- the sum of a pin's archive: its release, and then its archive
abbrev pub pin_looked : Fingerprints → Catalogue → Pin → Result (List ℕ) Stop
pin_looked fingerprints c pin = and_then (looked_at c (release_key pin) (checksum_by pin)) (λ checksum.
    looked_at c (archive_key pin) (archive_by fingerprints pin checksum))

abbrev pub with_sum : List ℕ → Result (List (List ℕ)) Stop → Result (List (List ℕ)) Stop
with_sum sum (Ok sums) = Ok (sum ∷ sums)
with_sum sum (Err stop) = Err stop

-- the sums of the pins' archives, one pin after the other
abbrev pub pins_looked : Fingerprints → Catalogue → List Pin → Result (List (List ℕ)) Stop
pins_looked fingerprints c [] = Ok []
pins_looked fingerprints c (pin ∷ pins) =
    and_then (pin_looked fingerprints c pin) (λ sum. with_sum sum (pins_looked fingerprints c pins))

-- ---- what is right

-- the archive of a pin: its release names this checksum, its archive has that sum, and no other fingerprint is kept of it
pub record IsRight (fingerprints : Fingerprints) (c : Catalogue) (pin : Pin) (sum : List ℕ) : Type 0 where
  pub release : Reply
  pub released : map.get c (release_key pin) ≡ Some release
  pub names : checksum_by pin release ≡ Ok sum
  pub archive : Reply
  pub archived : map.get c (archive_key pin) ≡ Some archive
  pub is_there : archive.status ≡ 200
  pub has : sum_in archive.body ≡ Some sum
  pub trusted : (kept : List ℕ) → kept_in pin.0 pin.1 fingerprints ≡ Some kept → kept ≡ sum

-- those of pins
abbrev pub AreRight : Fingerprints → Catalogue → List Pin → List (List ℕ) → Type 0
AreRight fingerprints c [] [] = Unit {0}
AreRight fingerprints c (pin ∷ pins) (sum ∷ sums) = IsRight fingerprints c pin sum × AreRight fingerprints c pins sums
AreRight fingerprints c pins sums = ⊥
