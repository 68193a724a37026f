-- The last of the releases of a sorted list that is no pre-release is the greatest of them.
use Rattle.std.proofs.Common.{◌≡◌, ℕ, suc, Bool, true, false, cond, not, nat_lt, List, [], ◌∷◌, ◌++◌, length, reverse, Option, Some, None, Ok, Err, refl, sym, ap, ◌∙◌, subst, arith, inl, inr}
use Rattle.std.proofs.lemmas.Bool.{cases_Bool}
use Rattle.std.proofs.lemmas.Bool.Decides.{nat_tests}
use Rattle.std.proofs.lemmas.List.{reverse-append}
use Rattle.std.proofs.lemmas.List.Elements.{All-cons, All-contains, All-nil, All-weaker}
use Rattle.std.proofs.lemmas.Map.Keys.{sorted_tail}
use Rattle.std.proofs.lemmas.Map.Views.{All-after_first}
use Rattle.std.proofs.lemmas.List.Sorted.{All-permutation, Contains-permutation, IsPermutation-sym}
use Rattle.std.specs.Cmp.{tied_itself}
use Rattle.std.specs.List.{All, Contains, IsAmong, find}
use Rattle.std.specs.List.Sorted.{IsPermutation, IsStrictlySortedBy}
use Rattle.std.specs.Ordering.{is_eq, is_le, ordering_reverse}
use Rattle.std.specs.declared.cmp.Ordering.{Ordering}
use Rattle.std.specs.declared.cmp.Ordering.TheVariants.{Less, Equal, Greater}
use Rattle.spm_json.specs.Reading.{Reading}
use Rattle.spm_key.specs.declared.key.Key.{Key}
use Rattle.spm_key.specs.declared.key.Key.TheVariants as key
use Rattle.spm_key.specs.declared.reply.Reply.{Reply}
use Rattle.spm_version.specs.Release.{Parts, is_prerelease}
use Rattle.spm_version.specs.ReleaseLaws.{release_cmp, release_ties, release_total}
use Rattle.spm_version.proofs.ReleaseLemmas.{same_release}
use Rattle.spm_api.specs.Bodies.{all_some, releases_of}
use Rattle.spm_api.specs.Guess.{AreListKeys, Guesses, GuessesOfContent, GuessesOfList, NewestStable, content_of, newest_keys}
use Rattle.spm_api.specs.Reads.{ReadsList}

-- no pre-release
abbrev is_stable : Parts → Bool
is_stable release = not (is_prerelease release)

-- ---- the last one

-- what is found, or else this release if it is stable
abbrev or_earlier : Option Parts → Parts → Option Parts
or_earlier (Some later) earlier = Some later
or_earlier None earlier = cond (is_stable earlier) (Some earlier) None

-- what is found first, or else later
found_in : (some : Bool) (release : Parts) (later : Option Parts) (earlier : Parts)
    → cond some (Some release) (or_earlier later earlier) ≡ or_earlier (cond some (Some release) later) earlier
found_in true release later earlier = refl
found_in false release later earlier = refl

-- one more release at the end is looked at last
find-push : (releases : List Parts) (earlier : Parts) → find is_stable (releases ++ earlier ∷ []) ≡ or_earlier (find is_stable releases) earlier
find-push [] earlier = refl
find-push (release ∷ releases) earlier =
    ap (cond (is_stable release) (Some release)) (find-push releases earlier)
    ∙ found_in (is_stable release) release (find is_stable releases) earlier

-- so the first is, from the back
last_of : (earlier : Parts) (releases : List Parts)
    → find is_stable (reverse (earlier ∷ releases)) ≡ or_earlier (find is_stable (reverse releases)) earlier
last_of earlier releases = ap (find is_stable) (reverse-append (earlier ∷ []) releases) ∙ find-push (reverse releases) earlier

-- ---- it is the greatest

-- where it is no pre-release it isn't above the newest
abbrev IsWithin : Parts → Parts → Type 0
IsWithin newest other = is_prerelease other ≡ false → is_le (release_cmp other newest) ≡ true

-- all of them are pre-releases
abbrev IsBefore : Parts → Type 0
IsBefore release = is_prerelease release ≡ true

-- a pre-release isn't stable
before_stable : (release : Parts) → IsBefore release → is_prerelease release ≡ false → ⊥
before_stable release before stable = cc

-- the first of a list that ascends is below the others
first_least : (first : Parts) (others : List Parts) (other : Parts) → IsStrictlySortedBy release_cmp (first ∷ others) → IsAmong others other
    → is_le (release_cmp first other) ≡ true
first_least first others other sorted among =
    ap is_le (All-contains (λ later. release_cmp first later ≡ Less) others other (All-after_first release_cmp first others sorted) (among.0, among.1.0, sym among.1.1))

-- what is so of all is so of one among them
among_all : (P : Parts → Type 0) (releases : List Parts) (release : Parts) → All P releases → IsAmong releases release → P release
among_all P releases release all among = All-contains P releases release all (among.0, among.1.0, sym among.1.1)

-- two releases of which neither is above the other are one
one_release : (first second : Parts) (order : Ordering) → release_cmp first second ≡ order → is_le order ≡ true → is_le (release_cmp second first) ≡ true → first ≡ second
one_release first second Less is below above =
    absurd (let other : release_cmp second first ≡ Greater = release_total.antisymm second first ∙ ap ordering_reverse is in cc (above, ap is_le other))
one_release first second Equal is below above = same_release first second (release_ties first second ∙ ap is_eq is)
one_release first second Greater is below above = absurd (cc below)

-- with one more release below the others
newest_in : (first : Parts) (others : List Parts) (found : Option Parts) → IsStrictlySortedBy release_cmp (first ∷ others) → NewestStable others found
    → NewestStable (first ∷ others) (or_earlier found first)
newest_in first others (Some newest) sorted is = record {
  listed = (suc is.listed.0, (omega arith, is.listed.1.1));
  stable = is.stable;
  greatest = All-cons (IsWithin newest) first others (λ stable. first_least first others newest sorted is.listed) is.greatest;
}
newest_in first others None sorted none = elim (cases_Bool (is_prerelease first)) [
  | inl before ↦ rw before (All-cons IsBefore first others before none)
  | inr stable ↦ rw stable (record {
    listed = (0, (omega arith, refl));
    stable = stable;
    greatest = All-cons (IsWithin first) first others (λ is. ap is_le (tied_itself release_total first))
        (All-weaker IsBefore (IsWithin first) (λ release before stable. absurd (before_stable release before stable)) others none);
  })
]

-- the last stable release of an ascending list is the greatest
newest_of : (releases : List Parts) → IsStrictlySortedBy release_cmp releases → NewestStable releases (find is_stable (reverse releases))
newest_of [] sorted = All-nil _
newest_of (first ∷ others) sorted =
    subst (NewestStable (first ∷ others)) (sym (last_of first others)) (newest_in first others _ sorted (newest_of others (sorted_tail release_cmp first others sorted)))

-- ---- whatever the order of the list

-- what is among releases is among them in another order
among_both : (releases usable : List Parts) (release : Parts) → IsPermutation releases usable → IsAmong releases release → IsAmong usable release
among_both releases usable release moved among =
    let there : Contains releases release = (among.0, among.1.0, sym among.1.1) in
    let here = Contains-permutation releases usable release moved there in
    (here.0, (here.1, sym here.2))

-- the greatest stays so in another order
newest_moved : (releases usable : List Parts) (found : Option Parts) → IsPermutation releases usable → NewestStable releases found → NewestStable usable found
newest_moved releases usable (Some newest) moved is = record {
  listed = among_both releases usable newest moved is.listed;
  stable = is.stable;
  greatest = All-permutation (IsWithin newest) releases usable moved is.greatest;
}
newest_moved releases usable None moved none = All-permutation IsBefore releases usable moved none

-- ---- the keys of a list that is read

-- the last release of a list that is no pre-release makes its manifest likely
pub list_keys : (identity : List ℕ) (reading : Reading (List (Option Parts))) (releases lent : List Parts) (found : Option Parts) (keys : List Key)
    → ReadsList (Ok releases) reading → lent ≡ releases → found ≡ find is_stable (reverse lent) → keys ≡ newest_keys identity found
    → GuessesOfList identity reading keys
list_keys identity (Ok listed) releases lent found keys reads same is made =
    let usable = all_some listed in
    let short : nat_lt 4096 (length usable) ≡ false = grind (arith, nat_tests, reads.2) in
    let last : found ≡ find is_stable (reverse releases) = is ∙ ap (λ (list : List Parts). find is_stable (reverse list)) same in
    let newest : NewestStable releases found = subst (NewestStable releases) (sym last) (newest_of releases reads.0) in
    subst (λ (long : Bool). AreListKeys long identity usable keys) (sym short)
    (found, newest_moved releases usable found (IsPermutation-sym usable releases reads.1) newest, made)
list_keys identity (Err fault) releases lent found keys reads same is made = absurd reads

-- the one key that is pushed
pub one_key : (identity copied : List ℕ) (newest copy : Parts) (before after : List Key) → after ≡ before ++ key.Manifest copied copy ∷ [] → before ≡ []
    → copied ≡ identity → copy ≡ newest → after ≡ newest_keys identity (Some newest)
one_key identity copied newest copy before after pushed none same_identity same_release = cc

-- ---- there is one guess

-- the greatest of the stable releases is one
newest_unique : (usable : List Parts) (first second : Option Parts) → NewestStable usable first → NewestStable usable second → first ≡ second
newest_unique usable None None a b = refl
newest_unique usable None (Some second) a b = absurd (before_stable second (among_all IsBefore usable second a b.listed) b.stable)
newest_unique usable (Some first) None a b = absurd (before_stable first (among_all IsBefore usable first b a.listed) a.stable)
newest_unique usable (Some first) (Some second) a b =
    ap Some (one_release first second _ refl (among_all (IsWithin second) usable first b.greatest a.listed a.stable)
    (among_all (IsWithin first) usable second a.greatest b.listed b.stable))

-- a list, too long or not, makes one guess
list_guess : (long : Bool) (identity : List ℕ) (usable : List Parts) (first second : List Key) → AreListKeys long identity usable first
    → AreListKeys long identity usable second → first ≡ second
list_guess true identity usable first second a b = a ∙ sym b
list_guess false identity usable first second a b = a.2 ∙ ap (newest_keys identity) (newest_unique usable a.0 b.0 a.1 b.1) ∙ sym b.2

-- and so does a body, a list or not
listed_guess : (identity : List ℕ) (reading : Reading (List (Option Parts))) (first second : List Key) → GuessesOfList identity reading first
    → GuessesOfList identity reading second → first ≡ second
listed_guess identity (Ok listed) first second a b = list_guess _ identity (all_some listed) first second a b
listed_guess identity (Err fault) first second a b = a ∙ sym b

-- and so does a content, of any key
content_guess : (asked : Key) (content : Option (List ℕ)) (first second : List Key) → GuessesOfContent asked content first
    → GuessesOfContent asked content second → first ≡ second
content_guess asked None first second a b = a ∙ sym b
content_guess (key.List identity) (Some bytes) first second a b = listed_guess identity (releases_of bytes) first second a b
content_guess (key.Manifest identity release) (Some bytes) first second a b = a ∙ sym b
content_guess (key.Release identity release) (Some bytes) first second a b = a ∙ sym b
content_guess (key.Archive identity release) (Some bytes) first second a b = a ∙ sym b
content_guess (key.Identifiers url) (Some bytes) first second a b = a ∙ sym b

-- what a reply makes likely is one list of keys
pub guess_unique : (asked : Key) (reply : Reply) (first second : List Key) → Guesses asked reply first → Guesses asked reply second → first ≡ second
guess_unique asked reply first second a b = content_guess asked (content_of reply) first second a b
