-- The lists that replies say ascend.
use Rattle.std.proofs.Common.{◌≡◌, ℕ, nat_lt, ◌==◌, List, [], length, Option, Some, None, Ok, Err, refl, sym, ap, ◌∙◌, subst, inl, inr}
use Rattle.std.specs.Prelude.{codes}
use Rattle.std.specs.Option.{option_map}
use Rattle.std.specs.FinMap as map_of
use Rattle.std.specs.List.{IsDistinct}
use Rattle.std.specs.List.Sorted.{IsStrictlySortedBy}
use Rattle.std.specs.Str.{is_utf8}
use Rattle.std.proofs.lemmas.Bool.{cases_Bool, cond-false, cond-true, cond_both}
use Rattle.serde_json.specs.Data.{Data, null, boolean, number, string, array, object}
use Rattle.serde_json.specs.Find.{get}
use Rattle.serde_json.specs.Read.{read}
use Rattle.spm_json.specs.Field.{required_in}
use Rattle.spm_json.specs.Reading.{Reading, in_document, or_fault, within, ◌>>=◌}
use Rattle.spm_json.specs.Sequence.{members_of}
use Rattle.spm_json.specs.Shape.{HasAscendingKeys, document_of, object_of}
use Rattle.spm_key.specs.Catalogue as replies
use Rattle.spm_key.specs.declared.key.Key.TheVariants as key
use Rattle.spm_key.specs.declared.reply.Reply.{Reply}
use Rattle.spm_version.specs.Release.{Parts}
use Rattle.spm_version.specs.ReleaseLaws.{release_cmp, release_eq, release_ties}
use Rattle.spm_version.specs.declared.kind.Kind.TheVariants.{NotJson}
use Rattle.spm_api.specs.Bodies.{all_some, list_reading, listed_reading, releases_of}
use Rattle.spm_api.specs.Guess.{bytes_in}
use Rattle.spm_api.specs.Refused.{Refusal, reply_refusal}
use Rattle.spm_api.specs.Said.{ascending, list_said, present, releases_said, reply_said, said_of, unless_refused}
use Rattle.spm_api.specs.declared.replies.Said.{Said}
use Rattle.spm_api.specs.declared.replies.Said.TheVariants as said
use Rattle.spm_api.proofs.AscendingLemmas.{ascending_sorted}
use Rattle.spm_api.proofs.DistinctLemmas.{listed_distinct}
use Rattle.pub_plain.specs.Answers.{answers_of, unless_refused as given}
use Rattle.pub_plain.specs.Preferred.{AreAscending}
use Rattle.pub_plain.proofs.OrderedLemmas.{IsOrdered, got_ordered, read_ordered}

-- ---- readings

-- ordered data has ascending keys, if it is an object
ordered_keys : (d : Data) → IsOrdered d → HasAscendingKeys d
ordered_keys null are = tt
ordered_keys (boolean b) are = tt
ordered_keys (number n) are = tt
ordered_keys (string s) are = tt
ordered_keys (array items) are = tt
ordered_keys (object all) are = are.0

-- a reading after another that gives something is of what that one gives
after_both : {A B : Type 0} (first : Reading A) (second : A → Reading B) (made : B) → (first >>= second) ≡ Ok made
    → (x : A) × (first ≡ Ok x) × (second x ≡ Ok made)
after_both (Ok x) second made is = (x, refl, is)
after_both (Err fault) second made is = cc

-- what a whole document is read as is read of its data
of_document : {A : Type 0} (reading : Reading A) (made : A) → in_document reading ≡ Ok made → reading ≡ Ok made
of_document (Ok x) made is = is
of_document (Err fault) made is = cc

-- and what a member is read as is read of the member
of_member : {A : Type 0} (name : List ℕ) (reading : Reading A) (made : A) → within name reading ≡ Ok made → reading ≡ Ok made
of_member name (Ok x) made is = is
of_member name (Err fault) made is = cc

-- the data of a document is ordered
document_ordered : (bytes : List ℕ) (d : Data) → document_of bytes ≡ Ok d → IsOrdered d
document_ordered bytes d is = elim (cases_Bool (is_utf8 bytes)) [
  | inl text ↦ go (read bytes) refl (sym (cond-true (is_utf8 bytes) _ _ text) ∙ is)
  | inr none ↦ (let e = sym (cond-false (is_utf8 bytes) _ _ none) ∙ is in cc)
]
  where
    go : (found : Option Data) → read bytes ≡ found → or_fault NotJson found ≡ Ok d → IsOrdered d
    go None at e = cc
    go (Some other) at e = (let same : other ≡ d = cc in read_ordered bytes d (at ∙ ap (λ (x : Data). Some x) same))

-- an object is itself
same_object : (d o : Data) → object_of d ≡ Ok o → d ≡ o
same_object null o is = cc
same_object (boolean b) o is = cc
same_object (number n) o is = cc
same_object (string s) o is = cc
same_object (array items) o is = cc
same_object (object all) o is = cc

-- ---- lists

-- what a body lists is distinct
body_distinct : (bytes : List ℕ) (listed : List (Option Parts)) → releases_of bytes ≡ Ok listed → IsDistinct release_eq (all_some listed)
body_distinct bytes listed is =
    let document = after_both (document_of bytes) list_reading listed (of_document (document_of bytes >>= list_reading) listed is) in
    let whole = after_both (object_of document.0) _ listed document.2 in
    let ordered : IsOrdered whole.0
    = subst IsOrdered (same_object document.0 whole.0 whole.1) (document_ordered bytes document.0 document.1) in
    go whole.0 ordered (get (codes "releases") whole.0) refl (of_member (codes "releases") _ listed whole.2)
  where
    go : (o : Data) → IsOrdered o → (found : Option Data) → get (codes "releases") o ≡ found
        → required_in (members_of listed_reading) found ≡ Ok listed → IsDistinct release_eq (all_some listed)
    go o are None at read = cc
    go o are (Some d) at read = listed_distinct d listed read (ordered_keys d (got_ordered (codes "releases") o d are at))

-- a said that is no list of releases
abbrev IsAscending : Said → Type 0
IsAscending it = (list : List Parts) → it ≡ said.Releases list → IsStrictlySortedBy release_cmp list

-- the releases that are said of distinct ones ascend
distinct_ascends : (usable : List Parts) → IsDistinct release_eq usable → IsAscending (releases_said usable)
distinct_ascends usable distinct list is = elim (cases_Bool (nat_lt 4096 (length usable))) [
  | inl many ↦ (let e = sym (cond-true (nat_lt 4096 (length usable)) _ _ many) ∙ is in cc)
  | inr few ↦
      (let e : said.Releases (ascending usable) ≡ said.Releases list = sym (cond-false (nat_lt 4096 (length usable)) _ _ few) ∙ is in
      let same : ascending usable ≡ list = cc in
      subst (IsStrictlySortedBy release_cmp) same
      (ascending_sorted usable (subst (λ same. IsDistinct same usable) (λ i first second. release_ties first second i) distinct)))
]

-- the empty list ascends
pub nothing_ascends : IsStrictlySortedBy release_cmp []
unfolding IsStrictlySortedBy
nothing_ascends = tt

-- no releases ascend
none_ascends : IsAscending (said.Releases [])
none_ascends list is = (let same : [] ≡ list = cc in subst (IsStrictlySortedBy release_cmp) same nothing_ascends)

-- what a body of a list says ascends
list_ascends : (bytes : List ℕ) (reading : Reading (List (Option Parts))) → releases_of bytes ≡ reading → IsAscending (list_said reading)
list_ascends bytes (Ok listed) is = distinct_ascends (all_some listed) (body_distinct bytes listed is)
list_ascends bytes (Err first) is = none_ascends

-- what is said of a list with the status 200 does
present_ascends : (identity : List ℕ) (bytes : Option (List ℕ)) → IsAscending (present (key.List identity) bytes)
present_ascends identity None = none_ascends
present_ascends identity (Some bytes) = list_ascends bytes (releases_of bytes) refl

-- and so does what any reply says of it
reply_ascends : (identity : List ℕ) (reply : Reply) → IsAscending (said_of (key.List identity) reply)
reply_ascends identity reply =
    cond_both (reply.status == 200) (present (key.List identity) (bytes_in reply.body)) (said.Releases []) IsAscending
    (λ _. present_ascends identity (bytes_in reply.body)) (λ _. none_ascends)

-- ---- the law

-- each list that is given ascends
pub said_ascend : (c : replies.Catalogue) → AreAscending (answers_of c)
said_ascend c identity list is = go (map_of.get c (key.List identity)) is
  where
    kept : (reply : Reply) (refusal : Option Refusal)
        → given (Some (unless_refused refusal (said_of (key.List identity) reply))) ≡ Some (said.Releases list)
        → IsStrictlySortedBy release_cmp list
    kept reply (Some refusal) e = cc
    kept reply None e =
        (let same : said_of (key.List identity) reply ≡ said.Releases list = cc in reply_ascends identity reply list same)

    go : (found : Option Reply) → given (option_map (reply_said (key.List identity)) found) ≡ Some (said.Releases list)
        → IsStrictlySortedBy release_cmp list
    go None e = cc
    go (Some reply) e = kept reply (reply_refusal (key.List identity) reply) e
