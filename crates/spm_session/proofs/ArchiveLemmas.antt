-- Looking at the archives of pins, key by key and pin by pin.
use Rattle.std.proofs.Common.{◌≡◌, ℕ, List, [], ◌∷◌, Option, Some, None, Result, Ok, Err, refl, sym, ap, ◌∙◌, subst, inl, inr}
use Rattle.std.proofs.lemmas.Bool.{cases_Bool, cond-false, cond-true}
use Rattle.std.specs.FinMap as replies
use Rattle.std.specs.Ordering.{eq_by_cmp}
use Rattle.std.specs.Prelude.{IfErr, IfSome}
use Rattle.spm_api.specs.Refused.{Refusal, garbled, reply_refusal, too_long, unreadable}
use Rattle.spm_api.specs.Refused.{says as refusal_says}
use Rattle.spm_api.specs.Said.{Says, reply_said, said_of}
use Rattle.spm_api.specs.Said as said
use Rattle.spm_api.specs.declared.replies.ReplyFault.{ReplyFault}
use Rattle.spm_api.specs.declared.replies.ReplyFault.TheVariants as fault
use Rattle.spm_api.specs.declared.replies.Said.{Said}
use Rattle.spm_key.proofs.KeyLemmas.{same_key}
use Rattle.spm_key.specs.Catalogue.{Catalogue, Extends}
use Rattle.spm_key.specs.KeyLaws.{key_cmp, key_equiv, key_ties, key_total}
use Rattle.spm_key.specs.declared.key.Key.{Key}
use Rattle.spm_key.specs.declared.reply.Reply.{Reply}
use Rattle.spm_session.specs.Archives.{Fingerprints, Pin, Stop, and_then, archive_by, archive_key, checksum_by, ends, looked_at, looked_in, pin_looked, pins_looked, refused_with, release_key, unless_refused, with_sum}
use Rattle.spm_session.specs.Outcome.{IsNoFault}
use Rattle.spm_session.specs.Known.{IsFrom, IsWider, Known}
use Rattle.spm_session.specs.Run.{DifferOnlyAt, Finds, FindsErr, GrowsBy, IsKeyOf, IsNotFetched, IsUnanswered, LacksAll, Looks, LooksFrom, StopsAt, missed_by, refused_by}
use Rattle.spm_session.specs.declared.source.Missed.{Missed}
use Rattle.spm_session.specs.declared.source.Missed.TheVariants as missed_for
use Rattle.spm_session.specs.declared.outcome.Outcome.{Outcome}
use Rattle.spm_session.specs.declared.outcome.Outcome.TheVariants as outcome

-- ---- a catalogue with one reply more

there : (c : Catalogue) (asked : Key) (reply : Reply) → replies.get (replies.insert c asked reply) asked ≡ Some reply
there c asked reply =
    replies.get-insert key_total c asked reply asked
    ∙ cond-true (eq_by_cmp key_cmp asked asked) (Some reply) (replies.get c asked) (sym (key_ties asked asked) ∙ key_equiv.refl asked)

pub elsewhere : (c : Catalogue) (asked : Key) (reply : Reply) → DifferOnlyAt (λ other. other ≡ asked) (replies.insert c asked reply) c
elsewhere c asked reply other differs =
    replies.get-insert key_total c asked reply other
    ∙ elim (cases_Bool (eq_by_cmp key_cmp other asked)) [
      | inl same ↦ absurd (differs (same_key other asked same))
      | inr apart ↦ cond-false (eq_by_cmp key_cmp other asked) (Some reply) (replies.get c other) apart
    ]

-- what is known still is with a reply that is
pub from_more : (known : Known) (c : Catalogue) (asked : Key) (reply : Reply) → known asked reply → IsFrom known c
    → IsFrom known (replies.insert c asked reply)
from_more known c asked reply has from other =
    subst (λ found. IfSome found (λ it. known other it)) (sym (replies.get-insert key_total c asked reply other))
    (elim (cases_Bool (eq_by_cmp key_cmp other asked)) [
      | inl same ↦
          subst (λ found. IfSome found (λ it. known other it)) (sym (cond-true (eq_by_cmp key_cmp other asked) (Some reply) (replies.get c other) same))
          (subst (λ (k : Key). known k reply) (sym (same_key other asked same)) has)
      | inr apart ↦
          subst (λ found. IfSome found (λ it. known other it)) (sym (cond-false (eq_by_cmp key_cmp other asked) (Some reply) (replies.get c other) apart))
          (from other)
    ])

-- what some are, they are by a wider test
some_wider : (first second : Reply → Type 0) → ((reply : Reply) → first reply → second reply) → (found : Option Reply)
    → IfSome found first → IfSome found second
some_wider first second wider None some = tt
some_wider first second wider (Some reply) some = wider reply some

-- what is known stays known
pub from_wider : (first second : Known) → IsWider first second → (c : Catalogue) → IsFrom first c → IsFrom second c
from_wider first second wider c from asked = some_wider (first asked) (second asked) (wider asked) (replies.get c asked) (from asked)

-- a catalogue grows by a reply that is known
pub grows_more : (known : Known) (c : Catalogue) (asked : Key) (reply : Reply) → known asked reply → GrowsBy known c (replies.insert c asked reply)
grows_more known c asked reply has other =
    elim (cases_Bool (eq_by_cmp key_cmp other asked)) [
      | inl same ↦
          inr (subst (λ found. IfSome found (λ it. known other it))
          (sym (replies.get-insert key_total c asked reply other ∙ cond-true (eq_by_cmp key_cmp other asked) (Some reply) (replies.get c other) same))
          (subst (λ (k : Key). known k reply) (sym (same_key other asked same)) has))
      | inr apart ↦
          inl (replies.get-insert key_total c asked reply other ∙ cond-false (eq_by_cmp key_cmp other asked) (Some reply) (replies.get c other) apart)
    ]

-- and by more of them
pub grows_on : (known : Known) (first second third : Catalogue) → GrowsBy known first second → GrowsBy known second third → GrowsBy known first third
grows_on known first second third early late asked =
    elim (late asked) [
      | inl same ↦
          elim (early asked) [
            | inl before ↦ inl (same ∙ before)
            | inr has ↦ inr (subst (λ found. IfSome found (λ reply. known asked reply)) (sym same) has)
          ]
      | inr has ↦ inr has
    ]

-- what it grows by is known, as what it had
pub grown_from : (known : Known) (c more : Catalogue) → IsFrom known c → GrowsBy known c more → IsFrom known more
grown_from known c more from grows asked =
    elim (grows asked) [
      | inl same ↦ subst (λ found. IfSome found (λ reply. known asked reply)) (sym same) (from asked)
      | inr has ↦ has
    ]

pub grows_wider : (first second : Known) → IsWider first second → (c more : Catalogue) → GrowsBy first c more → GrowsBy second c more
grows_wider first second wider c more grows asked =
    elim (grows asked) [
      | inl same ↦ inl same
      | inr has ↦ inr (some_wider (first asked) (second asked) (wider asked) (replies.get more asked) has)
    ]

-- a look stays one, whatever else comes to be known
pub looks_wider : {A : Type 0} (first second : Known) → IsWider first second → (is_there : Key → Type 0) (look : Catalogue → Result A Stop) (result : Result A Outcome)
    → LooksFrom first is_there look result → LooksFrom second is_there look result
looks_wider first second wider is_there look result looks c lacks =
    let it = looks c lacks in
    record { more = it.more; grows = grows_wider first second wider c it.more it.grows; others = it.others; looks = it.looks }

-- ---- a catalogue that has more

-- what differs only where nothing was holds all that was
pub extends_lacking : (is_there : Key → Type 0) (c more : Catalogue) → LacksAll is_there c → DifferOnlyAt is_there more c → Extends more c
extends_lacking is_there c more lacks others asked = go (replies.get c asked) refl
  where
    go : (found : Option Reply) → replies.get c asked ≡ found → IfSome found (λ reply. replies.get more asked ≡ Some reply)
    go None at = tt
    go (Some reply) at =
        others asked (λ is.
        let none : Some reply ≡ None = sym at ∙ lacks asked is in
        cc)
        ∙ at

-- a reply that is there stays
some_stays : (c more : Catalogue) (asked : Key) (reply : Reply) → Extends more c → replies.get c asked ≡ Some reply → replies.get more asked ≡ Some reply
some_stays c more asked reply wider at = subst (λ found. IfSome found (λ it. replies.get more asked ≡ Some it)) at (wider asked)

looked_stays : (c more : Catalogue) (asked : Key) (says : Reply → Result (List ℕ) Outcome) (sum : List ℕ) → Extends more c
    → looked_at c asked says ≡ Ok sum → looked_at more asked says ≡ Ok sum
looked_stays c more asked says sum wider is = go (replies.get c asked) refl is
  where
    go : (found : Option Reply) → replies.get c asked ≡ found → looked_in asked says found ≡ Ok sum → looked_at more asked says ≡ Ok sum
    go None at is = cc
    go (Some reply) at is = ap (looked_in asked says) (some_stays c more asked reply wider at) ∙ is

-- what is right of a pin stays right
pin_stays : (fingerprints : Fingerprints) (c more : Catalogue) (pin : Pin) (sum : List ℕ) → Extends more c
    → pin_looked fingerprints c pin ≡ Ok sum → pin_looked fingerprints more pin ≡ Ok sum
pin_stays fingerprints c more pin sum wider is = go (looked_at c (release_key pin) (checksum_by pin)) refl is
  where
    go : (first : Result (List ℕ) Stop) → looked_at c (release_key pin) (checksum_by pin) ≡ first
        → and_then first (λ checksum. looked_at c (archive_key pin) (archive_by fingerprints pin checksum)) ≡ Ok sum
        → pin_looked fingerprints more pin ≡ Ok sum
    go (Ok checksum) at is =
        ap (λ first. and_then first (λ it. looked_at more (archive_key pin) (archive_by fingerprints pin it)))
        (looked_stays c more (release_key pin) (checksum_by pin) checksum wider at)
        ∙ looked_stays c more (archive_key pin) (archive_by fingerprints pin checksum) sum wider is
    go (Err stop) at is = cc

-- and of pins
pub pins_stay : (fingerprints : Fingerprints) (c more : Catalogue) (pins : List Pin) (sums : List (List ℕ)) → Extends more c
    → pins_looked fingerprints c pins ≡ Ok sums → pins_looked fingerprints more pins ≡ Ok sums
pins_stay fingerprints c more [] sums wider is = is
pins_stay fingerprints c more (pin ∷ pins) sums wider is =
    go (λ others. pins_stay fingerprints c more pins others wider) (pin_looked fingerprints c pin) refl (pins_looked fingerprints c pins) refl is
  where
    go : ((others : List (List ℕ)) → pins_looked fingerprints c pins ≡ Ok others → pins_looked fingerprints more pins ≡ Ok others)
        → (first : Result (List ℕ) Stop) → pin_looked fingerprints c pin ≡ first → (rest : Result (List (List ℕ)) Stop)
        → pins_looked fingerprints c pins ≡ rest → and_then first (λ sum. with_sum sum rest) ≡ Ok sums
        → pins_looked fingerprints more (pin ∷ pins) ≡ Ok sums
    go stay (Ok sum) at (Ok others) after is =
        ap (λ first. and_then first (λ it. with_sum it (pins_looked fingerprints more pins))) (pin_stays fingerprints c more pin sum wider at)
        ∙ ap (with_sum sum) (stay others after)
        ∙ is
    go stay (Ok sum) at (Err stop) after is = cc
    go stay (Err stop) at rest after is = cc

-- ---- a stop

-- a stop stays one through steps that keep stops
pub stops_through : {A B : Type 0} (step : Result A Stop → Result B Stop) → ((stop : Stop) → step (Err stop) ≡ Err stop) → (it : Outcome)
    (found : Result A Stop) → StopsAt it found → StopsAt it (step found)
stops_through step keeps (outcome.Resolved pins sums turns) found stops = ap step stops ∙ keeps _
stops_through step keeps (outcome.Refuted derivation texts turns) found stops = ap step stops ∙ keeps _
stops_through step keeps outcome.RootMissing found stops = ap step stops ∙ keeps _
stops_through step keeps (outcome.RootUnreadable place kind) found stops = ap step stops ∙ keeps _
stops_through step keeps (outcome.RootTooNew needed running) found stops = ap step stops ∙ keeps _
stops_through step keeps (outcome.ResolvedUnreadable place kind) found stops = ap step stops ∙ keeps _
stops_through step keeps (outcome.TooWide wide) found stops = ap step stops ∙ keeps _
stops_through step keeps (outcome.RegistrySays asked status detail) found stops = ap step stops ∙ keeps _
stops_through step keeps (outcome.Garbled asked) found stops = ap step stops ∙ keeps _
stops_through step keeps (outcome.TooLong asked) found stops = ap step stops ∙ keeps _
stops_through step keeps (outcome.ListUnreadable asked) found stops = ap step stops ∙ keeps _
stops_through step keeps (outcome.ReleaseUnreadable asked) found stops = ap step stops ∙ keeps _
stops_through step keeps (outcome.NoArchive identity release) found stops = ap step stops ∙ keeps _
stops_through step keeps (outcome.ChecksumDiffers identity release said sum) found stops = ap step stops ∙ keeps _
stops_through step keeps (outcome.TrustDiffers identity release kept said) found stops = ap step stops ∙ keeps _
stops_through step keeps (outcome.FetchFault asked) found stops = ap step stops ∙ keeps _
stops_through step keeps (outcome.Cancelled by) found stops = tt
stops_through step keeps (outcome.DeskFault name) found stops = ap step stops ∙ keeps _
stops_through step keeps outcome.Memory found stops = tt

-- what a reply that isn't refused comes to stops the look
stops_by : (asked : Key) (it : Outcome) (found : Result (List ℕ) Outcome) → FindsErr it found → IsNoFault it → StopsAt it (unless_refused asked None found)
stops_by asked (outcome.Resolved pins sums turns) found finds quiet = ap (unless_refused asked None) finds
stops_by asked (outcome.Refuted derivation texts turns) found finds quiet = ap (unless_refused asked None) finds
stops_by asked outcome.RootMissing found finds quiet = ap (unless_refused asked None) finds
stops_by asked (outcome.RootUnreadable place kind) found finds quiet = ap (unless_refused asked None) finds
stops_by asked (outcome.RootTooNew needed running) found finds quiet = ap (unless_refused asked None) finds
stops_by asked (outcome.ResolvedUnreadable place kind) found finds quiet = ap (unless_refused asked None) finds
stops_by asked (outcome.TooWide wide) found finds quiet = ap (unless_refused asked None) finds
stops_by asked (outcome.RegistrySays other status detail) found finds quiet = ap (unless_refused asked None) finds
stops_by asked (outcome.Garbled other) found finds quiet = ap (unless_refused asked None) finds
stops_by asked (outcome.TooLong other) found finds quiet = ap (unless_refused asked None) finds
stops_by asked (outcome.ListUnreadable other) found finds quiet = ap (unless_refused asked None) finds
stops_by asked (outcome.ReleaseUnreadable other) found finds quiet = ap (unless_refused asked None) finds
stops_by asked (outcome.NoArchive identity release) found finds quiet = ap (unless_refused asked None) finds
stops_by asked (outcome.ChecksumDiffers identity release said sum) found finds quiet = ap (unless_refused asked None) finds
stops_by asked (outcome.TrustDiffers identity release kept said) found finds quiet = ap (unless_refused asked None) finds
stops_by asked (outcome.FetchFault other) found finds quiet = absurd quiet
stops_by asked (outcome.Cancelled by) found finds quiet = absurd quiet
stops_by asked (outcome.DeskFault name) found finds quiet = ap (unless_refused asked None) finds
stops_by asked outcome.Memory found finds quiet = tt

-- ---- one key

-- a key that wasn't fetched
pub wants : (known : Known) (asked : Key) (it : Outcome) → IsNotFetched asked it → IsUnanswered known asked it
wants known asked it missed says c lacks = record {
  more = c;
  grows = λ other. inl refl;
  others = λ other differs. refl;
  looks = subst (λ (o : Outcome). StopsAt o (looked_at c asked says)) (sym missed.1) (by missed.0);
}
  where
    by : (why : Missed) → StopsAt (missed_by asked why) (looked_at c asked says)
    by missed_for.Failed = ap (looked_in asked says) (lacks asked refl)
    by (missed_for.Cancelled who) = tt
    by missed_for.Memory = tt

-- one whose reply is refused
pub refuses : (known : Known) (asked : Key) (reply : Reply) (why : ReplyFault) → known asked reply
    → Says (Err why) (reply_said asked reply) → IsUnanswered known asked (refused_by asked why)
refuses known asked reply why has is says c lacks = record {
  more = replies.insert c asked reply;
  grows = grows_more known c asked reply has;
  others = elsewhere c asked reply;
  looks = subst (λ found. StopsAt (refused_by asked why) (looked_in asked says found)) (sym (there c asked reply))
      (by (reply_refusal asked reply) why is);
}
  where
    by : (refusal : Option Refusal) (why : ReplyFault) → Says (Err why) (said.unless_refused refusal (said_of asked reply))
        → StopsAt (refused_by asked why) (unless_refused asked refusal (says reply))
    by (Some refusal) fault.Garbled is = let e : refusal ≡ garbled = cc in ap (λ r. Err (ends (refused_with asked r))) e
    by (Some refusal) fault.TooLong is = let e : refusal ≡ too_long = cc in ap (λ r. Err (ends (refused_with asked r))) e
    by (Some refusal) fault.Unreadable is = let e : refusal ≡ unreadable = cc in ap (λ r. Err (ends (refused_with asked r))) e
    by (Some refusal) (fault.Says status detail) is =
        let e : refusal ≡ refusal_says status detail = cc in ap (λ r. Err (ends (refused_with asked r))) e
    by (Some refusal) fault.Memory is = tt
    by None fault.Garbled is = cc
    by None fault.TooLong is = cc
    by None fault.Unreadable is = cc
    by None (fault.Says status detail) is = cc
    by None fault.Memory is = tt

-- one whose reply says something isn't refused
pub isnt_refused : (asked : Key) (reply : Reply) (it : Said) → Says (Ok it) (reply_said asked reply) → reply_refusal asked reply ≡ None
isnt_refused asked reply it is = go (reply_refusal asked reply) is
  where
    go : (refusal : Option Refusal) → said.unless_refused refusal (said_of asked reply) ≡ Ok it → refusal ≡ None
    go None is = refl
    go (Some refusal) is = cc

-- and is read
pub looks_by : (known : Known) (asked : Key) (reply : Reply) (says : Reply → Result (List ℕ) Outcome)
    (result : Result (List ℕ) Outcome) → known asked reply → reply_refusal asked reply ≡ None → Finds result (says reply)
    → IfErr result (λ it. IsNoFault it) → LooksFrom known (λ other. other ≡ asked) (λ c. looked_at c asked says) result
looks_by known asked reply says result has fine finds quiet c lacks = record {
  more = replies.insert c asked reply;
  grows = grows_more known c asked reply has;
  others = elsewhere c asked reply;
  looks = subst (λ found. Looks result (looked_in asked says found)) (sym (there c asked reply))
      (subst (λ refusal. Looks result (unless_refused asked refusal (says reply))) (sym fine) (by result finds quiet));
}
  where
    by : (result : Result (List ℕ) Outcome) → Finds result (says reply) → IfErr result (λ it. IsNoFault it)
        → Looks result (unless_refused asked None (says reply))
    by (Ok sum) finds quiet = ap (unless_refused asked None) finds
    by (Err it) finds quiet = stops_by asked it (says reply) finds quiet

-- want of memory may come at any time
pub looks_memory : {A : Type 0} (known : Known) (is_there : Key → Type 0) (look : Catalogue → Result A Stop)
    → LooksFrom known is_there look (Err outcome.Memory)
looks_memory known is_there look c lacks = record { more = c; grows = λ other. inl refl; others = λ other differs. refl; looks = tt }

-- ---- one pin

module _ (known : Known) (fingerprints : Fingerprints) (pin : Pin) where
  -- its release stops the look
  pub pin_stopped : (it : Outcome) → LooksFrom known (λ other. other ≡ release_key pin) (λ c. looked_at c (release_key pin) (checksum_by pin)) (Err it)
      → LooksFrom known (IsKeyOf pin) (λ c. pin_looked fingerprints c pin) (Err it)
  pin_stopped it first c lacks =
      let one = first c (λ other is. lacks other (inl is)) in
      record {
        more = one.more;
        grows = one.grows;
        others = λ other differs. one.others other (λ is. differs (inl is));
        looks = stops_through (λ found. and_then found (λ checksum. looked_at one.more (archive_key pin) (archive_by fingerprints pin checksum)))
            (λ stop. refl) it (looked_at one.more (release_key pin) (checksum_by pin)) one.looks;
      }

  -- its release names a checksum, and its archive is looked at
  pub pin_looks : (checksum : List ℕ) (result : Result (List ℕ) Outcome)
      → LooksFrom known (λ other. other ≡ release_key pin) (λ c. looked_at c (release_key pin) (checksum_by pin)) (Ok checksum)
      → LooksFrom known (λ other. other ≡ archive_key pin) (λ c. looked_at c (archive_key pin) (archive_by fingerprints pin checksum)) result
      → LooksFrom known (IsKeyOf pin) (λ c. pin_looked fingerprints c pin) result
  pin_looks checksum result first second c lacks =
      let one = first c (λ other is. lacks other (inl is)) in
      let still : LacksAll (λ other. other ≡ archive_key pin) one.more
      = λ other is. one.others other (λ was. let same : archive_key pin ≡ release_key pin = sym is ∙ was in cc) ∙ lacks other (inr is) in
      let two = second one.more still in
      record {
        more = two.more;
        grows = grows_on known c one.more two.more one.grows two.grows;
        others = λ other differs. two.others other (λ is. differs (inr is)) ∙ one.others other (λ is. differs (inl is));
        looks = subst (Looks result)
            (sym (ap (λ found. and_then found (λ it. looked_at two.more (archive_key pin) (archive_by fingerprints pin it)))
            (looked_stays one.more two.more (release_key pin) (checksum_by pin) checksum
            (extends_lacking (λ other. other ≡ archive_key pin) one.more two.more still two.others) one.looks)))
            two.looks;
      }
