-- The archives of a root that was resolved are right.
use Rattle.std.proofs.Common.{◌≡◌, ℕ, ◌==◌, List, [], ◌∷◌, true, Option, Some, None, Result, Ok, Err, refl, sym, ap, ◌∙◌, subst, inl, inr, eqb-true}
use Rattle.std.proofs.lemmas.Bool.{cases_Bool, cond-false, cond-true}
use Rattle.std.proofs.lemmas.Slice.Eq.{bytes_eq-Decides}
use Rattle.std.specs.FinMap as replies
use Rattle.std.specs.Str.{bytes_eq}
use Rattle.spm_api.specs.Refused.{Refusal, reply_refusal}
use Rattle.spm_key.specs.Catalogue.{Catalogue}
use Rattle.spm_key.specs.declared.key.Key.{Key}
use Rattle.spm_key.specs.declared.reply.Reply.{Reply}
use Rattle.spm_trust.specs.Trust.{kept_in, met_by}
use Rattle.spm_session.specs.Archives.{AreRight, Fingerprints, IsRight, Pin, Stop, and_then, archive_by, archive_key, checksum_by, looked_at, looked_in, matched, no_archive, pin_looked, pins_looked, release_key, sum_in, trusted, unless_refused, with_sum}
use Rattle.spm_session.specs.declared.outcome.Outcome.{Outcome}

-- a look that finds a sum found it in the reply of its key
record IsFound (c : Catalogue) (asked : Key) (says : Reply → Result (List ℕ) Outcome) (sum : List ℕ) : Type 0 where
  reply : Reply
  there : replies.get c asked ≡ Some reply
  says_it : says reply ≡ Ok sum

is_found : (c : Catalogue) (asked : Key) (says : Reply → Result (List ℕ) Outcome) (sum : List ℕ) → looked_at c asked says ≡ Ok sum
    → IsFound c asked says sum
is_found c asked says sum is = go (replies.get c asked) refl is
  where
    by : (refusal : Option Refusal) (found : Result (List ℕ) Outcome) → unless_refused asked refusal found ≡ Ok sum → found ≡ Ok sum
    by (Some refusal) found is = cc
    by None (Ok other) is = let e : other ≡ sum = cc in ap (λ s. Ok s) e
    by None (Err it) is = cc

    go : (found : Option Reply) → replies.get c asked ≡ found → looked_in asked says found ≡ Ok sum → IsFound c asked says sum
    go None at is = cc
    go (Some reply) at is = record { reply = reply; there = at; says_it = by (reply_refusal asked reply) (says reply) is }

-- an archive that is right: it is there, it has the sum, and a fingerprint that is kept is that sum
record IsMatched (fingerprints : Fingerprints) (pin : Pin) (checksum : List ℕ) (reply : Reply) (sum : List ℕ) : Type 0 where
  same : sum ≡ checksum
  is_there : reply.status ≡ 200
  has : sum_in reply.body ≡ Some checksum
  kept : (kept : List ℕ) → kept_in pin.0 pin.1 fingerprints ≡ Some kept → kept ≡ checksum

is_matched : (fingerprints : Fingerprints) (pin : Pin) (checksum : List ℕ) (reply : Reply) (sum : List ℕ)
    → archive_by fingerprints pin checksum reply ≡ Ok sum → IsMatched fingerprints pin checksum reply sum
is_matched fingerprints pin checksum reply sum is = elim (cases_Bool (reply.status == 200)) [
  | inl there ↦
      at there (sum_in reply.body) refl
      (sym (cond-true (reply.status == 200) (matched fingerprints pin checksum (sum_in reply.body)) (Err (no_archive pin)) there) ∙ is)
  | inr not ↦
      (let none : Err (no_archive pin) ≡ Ok sum
      = sym (cond-false (reply.status == 200) (matched fingerprints pin checksum (sum_in reply.body)) (Err (no_archive pin)) not) ∙ is in cc)
]
  where
    same_text : (first second : List ℕ) → bytes_eq first second ≡ true → first ≡ second
    same_text first second h = (bytes_eq-Decides first second).0 h

    kept_same : (found : Option (List ℕ)) → trusted pin checksum (met_by found checksum) ≡ Ok sum
        → (sum ≡ checksum) × ((kept : List ℕ) → found ≡ Some kept → kept ≡ checksum)
    kept_same None is = (let e : checksum ≡ sum = cc in sym e, λ kept none. cc)
    kept_same (Some kept) is = elim (cases_Bool (bytes_eq kept checksum)) [
      | inl same ↦ (cc, λ other it. let e : kept ≡ other = cc in sym e ∙ same_text kept checksum same)
      | inr differs ↦ cc
    ]

    at : reply.status == 200 ≡ true → (found : Option (List ℕ)) → sum_in reply.body ≡ found → matched fingerprints pin checksum found ≡ Ok sum
        → IsMatched fingerprints pin checksum reply sum
    at there None has is = cc
    at there (Some found) has is = elim (cases_Bool (bytes_eq found checksum)) [
      | inl same ↦
          (let both = kept_same (kept_in pin.0 pin.1 fingerprints) cc in
          record {
            same = both.0;
            is_there = eqb-true reply.status 200 there;
            has = has ∙ ap (λ s. Some s) (same_text found checksum same);
            kept = both.1;
          })
      | inr differs ↦ cc
    ]

pin_right : (fingerprints : Fingerprints) (c : Catalogue) (pin : Pin) (sum : List ℕ) → pin_looked fingerprints c pin ≡ Ok sum
    → IsRight fingerprints c pin sum
pin_right fingerprints c pin sum is = go (looked_at c (release_key pin) (checksum_by pin)) refl is
  where
    go : (first : Result (List ℕ) Stop) → looked_at c (release_key pin) (checksum_by pin) ≡ first
        → and_then first (λ checksum. looked_at c (archive_key pin) (archive_by fingerprints pin checksum)) ≡ Ok sum
        → IsRight fingerprints c pin sum
    go (Ok checksum) at is =
        let release = is_found c (release_key pin) (checksum_by pin) checksum at in
        let archive = is_found c (archive_key pin) (archive_by fingerprints pin checksum) sum is in
        let it = is_matched fingerprints pin checksum archive.reply sum archive.says_it in
        record {
          release = release.reply;
          released = release.there;
          names = release.says_it ∙ ap (λ s. Ok s) (sym it.same);
          archive = archive.reply;
          archived = archive.there;
          is_there = it.is_there;
          has = it.has ∙ ap (λ s. Some s) (sym it.same);
          trusted = λ kept is_kept. it.kept kept is_kept ∙ sym it.same;
        }
    go (Err stop) at is = cc

pub pins_right : (fingerprints : Fingerprints) (c : Catalogue) (pins : List Pin) (sums : List (List ℕ))
    → pins_looked fingerprints c pins ≡ Ok sums → AreRight fingerprints c pins sums
pins_right fingerprints c [] [] is = tt
pins_right fingerprints c [] (sum ∷ sums) is = cc
pins_right fingerprints c (pin ∷ pins) sums is =
    go (λ others. pins_right fingerprints c pins others) (pin_looked fingerprints c pin) refl (pins_looked fingerprints c pins) refl is
  where
    right : (sum : List ℕ) (others all : List (List ℕ)) → sum ∷ others ≡ all → IsRight fingerprints c pin sum → AreRight fingerprints c pins others
        → AreRight fingerprints c (pin ∷ pins) all
    right sum others all same one rest = subst (AreRight fingerprints c (pin ∷ pins)) same (one, rest)

    go : ((others : List (List ℕ)) → pins_looked fingerprints c pins ≡ Ok others → AreRight fingerprints c pins others)
        → (first : Result (List ℕ) Stop) → pin_looked fingerprints c pin ≡ first → (later : Result (List (List ℕ)) Stop)
        → pins_looked fingerprints c pins ≡ later → and_then first (λ sum. with_sum sum later) ≡ Ok sums
        → AreRight fingerprints c (pin ∷ pins) sums
    go rest_right (Ok sum) at (Ok others) after is =
        let same : sum ∷ others ≡ sums = cc in
        right sum others sums same (pin_right fingerprints c pin sum at) (rest_right others after)
    go rest_right (Ok sum) at (Err stop) after is = cc
    go rest_right (Err stop) at later after is = cc
