-- Looking at the archives of pins, one pin after the other.
use Rattle.std.proofs.Common.{◌≡◌, ℕ, ◌+◌, ◌<◌, List, [], ◌∷◌, ◌++◌, length, drop, get_or, map, Result, Ok, Err, refl, sym, ap, ◌∙◌, subst, inl, inr, append_assoc, append-nil}
use Rattle.std.proofs.lemmas.List.{drop_more}
use Rattle.std.specs.Cmp.Lexicographic.{nat_list_cmp_total, slice_cmp}
use Rattle.std.specs.List.{AllByRecursion}
use Rattle.std.specs.List.Sorted.{IsStrictlySortedBy}
use Rattle.std.specs.Ordering.{nat_cmp, ordering_reverse}
use Rattle.std.specs.declared.cmp.Ordering.TheVariants.{Less}
use Rattle.spm_key.specs.Catalogue.{Catalogue}
use Rattle.spm_key.specs.declared.key.Key.{Key}
use Rattle.spm_key.specs.declared.key.Key.TheVariants as key
use Rattle.spm_session.specs.Archives.{Fingerprints, Pin, Stop, and_then, pin_looked, pins_looked, with_sum}
use Rattle.spm_session.specs.Known.{IsWider, Known}
use Rattle.spm_session.specs.Run.{GrowsBy, ArePinsAscending, DifferOnlyAt, IsKeyOf, IsKeyOfAny, LacksAll, LooksFrom, StopsAt}
use Rattle.spm_session.specs.declared.outcome.Outcome.{Outcome}
use Rattle.spm_session.proofs.ArchiveLemmas.{grows_on, grows_wider, extends_lacking, pins_stay, stops_through}

-- ---- what is found of pins behind others

abbrev pub prepended : List (List ℕ) → Result (List (List ℕ)) Stop → Result (List (List ℕ)) Stop
prepended sums (Ok others) = Ok (sums ++ others)
prepended sums (Err stop) = Err stop

prepended_none : (found : Result (List (List ℕ)) Stop) → found ≡ prepended [] found
prepended_none (Ok others) = refl
prepended_none (Err stop) = refl

with_prepended : (sum : List ℕ) (sums : List (List ℕ)) (found : Result (List (List ℕ)) Stop)
    → with_sum sum (prepended sums found) ≡ prepended (sum ∷ sums) found
with_prepended sum sums (Ok others) = refl
with_prepended sum sums (Err stop) = refl

pub pins_behind : (fingerprints : Fingerprints) (c : Catalogue) (done rest : List Pin) (sums : List (List ℕ))
    → pins_looked fingerprints c done ≡ Ok sums → pins_looked fingerprints c (done ++ rest) ≡ prepended sums (pins_looked fingerprints c rest)
pins_behind fingerprints c [] rest sums is =
    let none : sums ≡ [] = cc in
    prepended_none (pins_looked fingerprints c rest) ∙ ap (λ s. prepended s (pins_looked fingerprints c rest)) (sym none)
pins_behind fingerprints c (pin ∷ done) rest sums is =
    go (λ others. pins_behind fingerprints c done rest others) (pin_looked fingerprints c pin) refl (pins_looked fingerprints c done) refl is
  where
    go : ((others : List (List ℕ)) → pins_looked fingerprints c done ≡ Ok others
        → pins_looked fingerprints c (done ++ rest) ≡ prepended others (pins_looked fingerprints c rest))
        → (first : Result (List ℕ) Stop) → pin_looked fingerprints c pin ≡ first → (later : Result (List (List ℕ)) Stop)
        → pins_looked fingerprints c done ≡ later → and_then first (λ sum. with_sum sum later) ≡ Ok sums
        → pins_looked fingerprints c (pin ∷ (done ++ rest)) ≡ prepended sums (pins_looked fingerprints c rest)
    go behind (Ok sum) at (Ok others) after is =
        let e : sum ∷ others ≡ sums = cc in
        ap (λ first. and_then first (λ it. with_sum it (pins_looked fingerprints c (done ++ rest)))) at
        ∙ ap (with_sum sum) (behind others after)
        ∙ with_prepended sum others (pins_looked fingerprints c rest)
        ∙ ap (λ s. prepended s (pins_looked fingerprints c rest)) e
    go behind (Ok sum) at (Err stop) after is = cc
    go behind (Err stop) at later after is = cc

-- one pin
pin_alone : (fingerprints : Fingerprints) (c : Catalogue) (pin : Pin) (sum : List ℕ) → pin_looked fingerprints c pin ≡ Ok sum
    → pins_looked fingerprints c (pin ∷ []) ≡ Ok (sum ∷ [])
pin_alone fingerprints c pin sum is = ap (λ first. and_then first (λ it. with_sum it (Ok []))) is

-- ---- the keys of pins

-- those of a pin among others
key_among : (done : List Pin) (pin : Pin) (rest : List Pin) (asked : Key) → IsKeyOf pin asked → IsKeyOfAny (done ++ pin ∷ rest) asked
key_among [] pin rest asked is = inl is
key_among (first ∷ done) pin rest asked is = inr (key_among done pin rest asked is)

-- the package of a key of a release or an archive
abbrev package_in : Key → List ℕ
package_in (key.List identity) = []
package_in (key.Manifest identity release) = []
package_in (key.Release identity release) = identity
package_in (key.Archive identity release) = identity
package_in (key.Identifiers url) = []

package_of_key : (pin : Pin) (asked : Key) → IsKeyOf pin asked → package_in asked ≡ pin.0
package_of_key pin asked (inl is) = ap package_in is
package_of_key pin asked (inr is) = ap package_in is

-- a text isn't below itself
not_below : (text : List ℕ) → slice_cmp nat_cmp text text ≡ Less → ⊥
not_below text below =
    let turned : slice_cmp nat_cmp text text ≡ ordering_reverse (slice_cmp nat_cmp text text) = nat_list_cmp_total.antisymm text text in
    let both : Less ≡ ordering_reverse Less = sym below ∙ turned ∙ ap ordering_reverse below in
    cc

-- the keys of a pin aren't those of pins of greater packages
keys_apart : (pin : Pin) (rest : List Pin) (asked : Key)
    → AllByRecursion (λ identity. slice_cmp nat_cmp pin.0 identity ≡ Less) (map (λ (other : Pin). other.0) rest)
    → IsKeyOf pin asked → IsKeyOfAny rest asked → ⊥
keys_apart pin [] asked above is among = among
keys_apart pin (other ∷ rest) asked above is (inl this) =
    not_below pin.0 (subst (λ identity. slice_cmp nat_cmp pin.0 identity ≡ Less)
    (sym (package_of_key other asked this) ∙ package_of_key pin asked is) above.0)
keys_apart pin (other ∷ rest) asked above is (inr later) = keys_apart pin rest asked above.1 is later

-- ---- the look, so far

-- from a catalogue without replies of the pins' keys: what is looked at is right, and of what is left nothing was asked
pub record IsLookedAt (known : Known) (fingerprints : Fingerprints) (all done rest : List Pin) (sums : List (List ℕ))
    (c : Catalogue) : Type 0 where
  pub more : Catalogue
  pub grows : GrowsBy known c more
  pub others : DifferOnlyAt (IsKeyOfAny all) more c
  pub lacks : LacksAll (IsKeyOfAny rest) more
  pub right : pins_looked fingerprints more done ≡ Ok sums

pub record IsLooking (known : Known) (fingerprints : Fingerprints) (all rest : List Pin) (sums : List (List ℕ)) : Type 0 where
  pub done : List Pin
  pub split : done ++ rest ≡ all
  pub ascend : ArePinsAscending all → ArePinsAscending rest
  pub looks : (c : Catalogue) → LacksAll (IsKeyOfAny all) c → ArePinsAscending all
      → IsLookedAt known fingerprints all done rest sums c

-- it stays so, whatever else comes to be known
pub looking_wider : (first second : Known) → IsWider first second → (fingerprints : Fingerprints) (all rest : List Pin) (sums : List (List ℕ))
    → IsLooking first fingerprints all rest sums → IsLooking second fingerprints all rest sums
looking_wider first second wider fingerprints all rest sums so = record {
  done = so.done;
  split = so.split;
  ascend = so.ascend;
  looks = λ c lacks up.
      let it = so.looks c lacks up in
      record { more = it.more; grows = grows_wider first second wider c it.more it.grows; others = it.others; lacks = it.lacks; right = it.right };
}

-- what is left of the pins at one of them
pub drop_next : (pins : List Pin) (place : ℕ) (pin : Pin) → place < length pins → pin ≡ get_or pins place pin
    → drop place pins ≡ pin ∷ drop (place + 1) pins
drop_next pins place pin below is = drop_more pins place pin below ∙ ap (λ first. first ∷ drop (place + 1) pins) (sym is)

module _ (known : Known) (fingerprints : Fingerprints) (all : List Pin) where
  -- at the first pin
  pub looking_first : IsLooking known fingerprints all all []
  looking_first = record {
    done = [];
    split = refl;
    ascend = λ up. up;
    looks = λ c lacks up. record { more = c; grows = λ other. inl refl; others = λ other differs. refl; lacks = lacks; right = refl };
  }

  -- a pin more
  pub looking_on : (pin : Pin) (rest : List Pin) (sums : List (List ℕ)) (sum : List ℕ) → IsLooking known fingerprints all (pin ∷ rest) sums
      → LooksFrom known (IsKeyOf pin) (λ c. pin_looked fingerprints c pin) (Ok sum)
      → IsLooking known fingerprints all rest (sums ++ sum ∷ [])
  unfolding IsStrictlySortedBy
  looking_on pin rest sums sum so pin_looks = record {
    done = so.done ++ pin ∷ [];
    split = append_assoc so.done (pin ∷ []) rest ∙ so.split;
    ascend = λ up. behind (so.ascend up);
    looks = λ c lacks up. next c (so.looks c lacks up) (so.ascend up);
  }
    where
      behind : ArePinsAscending (pin ∷ rest) → ArePinsAscending rest
      behind up = up.1

      next : (c : Catalogue) → IsLookedAt known fingerprints all so.done (pin ∷ rest) sums c → ArePinsAscending (pin ∷ rest)
          → IsLookedAt known fingerprints all (so.done ++ pin ∷ []) rest (sums ++ sum ∷ []) c
      next c now up =
          let lacking : LacksAll (IsKeyOf pin) now.more = λ other is. now.lacks other (inl is) in
          let one = pin_looks now.more lacking in
          record {
            more = one.more;
            grows = grows_on known c now.more one.more now.grows one.grows;
            others = λ other differs.
                one.others other (λ is. differs (subst (λ pins. IsKeyOfAny pins other) so.split (key_among so.done pin rest other is)))
                ∙ now.others other differs;
            lacks = λ other among. one.others other (λ is. keys_apart pin rest other up.0 is among) ∙ now.lacks other (inr among);
            right = pins_behind fingerprints one.more so.done (pin ∷ []) sums
                (pins_stay fingerprints now.more one.more so.done sums (extends_lacking (IsKeyOf pin) now.more one.more lacking one.others) now.right)
                ∙ ap (prepended sums) (pin_alone fingerprints one.more pin sum one.looks);
          }

  -- a pin that stops it
  pub looking_stops : (pin : Pin) (rest : List Pin) (sums : List (List ℕ)) (it : Outcome) → IsLooking known fingerprints all (pin ∷ rest) sums
      → LooksFrom known (IsKeyOf pin) (λ c. pin_looked fingerprints c pin) (Err it) → ArePinsAscending all
      → LooksFrom known (IsKeyOfAny all) (λ c. pins_looked fingerprints c all) (Err it)
  looking_stops pin rest sums it so pin_looks up c lacks =
      let now = so.looks c lacks up in
      let lacking : LacksAll (IsKeyOf pin) now.more = λ other is. now.lacks other (inl is) in
      let one = pin_looks now.more lacking in
      record {
        more = one.more;
        grows = grows_on known c now.more one.more now.grows one.grows;
        others = λ other differs.
            one.others other (λ is. differs (subst (λ pins. IsKeyOfAny pins other) so.split (key_among so.done pin rest other is)))
            ∙ now.others other differs;
        looks = subst (λ pins. StopsAt it (pins_looked fingerprints one.more pins)) so.split
            (subst (StopsAt it) (sym (pins_behind fingerprints one.more so.done (pin ∷ rest) sums
            (pins_stay fingerprints now.more one.more so.done sums (extends_lacking (IsKeyOf pin) now.more one.more lacking one.others) now.right)))
            (stops_through (λ found. prepended sums (and_then found (λ sum. with_sum sum (pins_looked fingerprints one.more rest)))) (λ stop. refl)
            it (pin_looked fingerprints one.more pin) one.looks));
      }

  -- behind the last
  pub looking_ends : (sums : List (List ℕ)) → IsLooking known fingerprints all [] sums → ArePinsAscending all
      → LooksFrom known (IsKeyOfAny all) (λ c. pins_looked fingerprints c all) (Ok sums)
  looking_ends sums so up c lacks =
      let now = so.looks c lacks up in
      record {
        more = now.more;
        grows = now.grows;
        others = now.others;
        looks = ap (λ pins. pins_looked fingerprints now.more pins) (sym (sym (append-nil so.done) ∙ so.split)) ∙ now.right;
      }
