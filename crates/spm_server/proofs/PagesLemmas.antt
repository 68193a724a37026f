-- What is found in the book of a shelf.
use Rattle.std.specs.Str.{bytes_eq}
use Rattle.std.proofs.Common.{◌≡◌, ℕ, zero, suc, ◌+◌, ◌<◌, ◌≤◌, Bool, true, false, List, [], ◌∷◌, ◌++◌, append_assoc, append-nil, drop, get_or, length, length-drop, map, Option, Some, None, Result, Ok, Err, IfOk, refl, sym, ap, ◌∙◌, subst, arith, inl, inr}
use Rattle.std.specs.Prelude.{◌&&◌, ◌==◌, nat_le, if◌then◌else◌, option_and_then, option_map, ◌⊎◌}
use Rattle.std.specs.Cmp.Lexicographic.{nat_list_eq_equiv}
use Rattle.std.specs.List.{All, Contains, flat_map}
use Rattle.std.proofs.lemmas.Bool.{and_from, and_parts, cases_Bool, eq-eqb, false≢true, le-leb, leb-true, not-true, not_from_false, true≢false}
use Rattle.std.proofs.lemmas.List.{drop_more, nil_from_length}
use Rattle.std.proofs.lemmas.List.Elements.{All-head, All-push, All-tail, Contains-append_left, Contains-append_right}
use Rattle.semver.specs.OrderLaws.{same_text}
use Rattle.spm_api.specs.Endpoint.{request_for}
use Rattle.spm_api.specs.declared.base.Base.{Base}
use Rattle.spm_key.specs.Key.{IsKey}
use Rattle.spm_key.specs.declared.key.Key.{Key}
use Rattle.spm_key.specs.declared.key.Key.TheVariants as key
use Rattle.spm_outside.specs.Book.{Pages, is_for, response_in, response_of, same_authority}
use Rattle.spm_outside.specs.declared.book.Authority.{Authority}
use Rattle.spm_outside.specs.declared.book.Entry.{Entry}
use Rattle.spm_shelf.specs.Shelf.{package_of}
use Rattle.spm_shelf.specs.declared.file.ShelfFile.{ShelfFile}
use Rattle.spm_shelf.specs.declared.file.ShelfPackage.{ShelfPackage}
use Rattle.spm_shelf.specs.declared.file.ShelfRelease.{ShelfRelease}
use Rattle.spm_shelf.specs.declared.file.ShelfUrl.{ShelfUrl}
use Rattle.spm_version.specs.Release.{Parts, ends_in_zip, parts_text}
use Rattle.spm_version.proofs.ReleaseLemmas.{same_release}
use Rattle.spm_version.specs.ReleaseLaws.{release_eq}
use Rattle.spm_server.specs.Answer.{answer_text, content_answer}
use Rattle.spm_server.specs.Content.{archive_content, content_of, found_release, identifiers_data, json_content, list_data, manifest_content, metadata_content, release_in, unless_problem, url_of, usable_release}
use Rattle.spm_server.specs.Keys.{HasPlainVersion}
use Rattle.spm_server.specs.Pages.{AnswersAskable, RefusesOthers, entries_for, entries_on, entry_of, has_plain_version, is_served, keys_on, not_found, package_keys, release_keys, url_key}
use Rattle.spm_server.specs.RoundTrip.{IsAskable, IsPlainBase}
use Rattle.spm_server.specs.declared.content.Content.{Content}
use Rattle.spm_server.proofs.AnswerLaws.{sent_is_answered}
use Rattle.spm_server.proofs.Paths.{path_asks}
use Rattle.spm_api.proofs.RequestLaws.{same_request}

-- what is so of all, and of one more, is so of all with it
pub pushed : {X : Type 0} (P : X → Type 0) (xs ys : List X) (x : X) → ys ≡ xs ++ x ∷ [] → P x → All P xs → All P ys
pushed P xs ys x same is all = subst (All P) (sym same) (All-push P xs x all is)

-- ---- keys in lists

-- one more key before the others
behind : (asked key : Key) (keys : List Key) → Contains keys asked → Contains (key ∷ keys) asked
behind asked key keys is = (suc is.0, omega (arith, is.1), is.2)

-- a key of a list is its first, or one of the others
first_or_later : (asked key : Key) (keys : List Key) → Contains (key ∷ keys) asked → (asked ≡ key) ⊎ Contains keys asked
first_or_later asked key keys (zero, within, is) = inl (sym is)
first_or_later asked key keys (suc place, within, is) = inr (place, omega (arith, within), is)

-- ---- served keys

-- a version that passes the test is plain
plain_version : (asked : Key) → has_plain_version asked ≡ true → HasPlainVersion asked
plain_version (key.List identity) is = tt
plain_version (key.Manifest identity release) is = not-true (ends_in_zip (parts_text release)) is
plain_version (key.Release identity release) is = not-true (ends_in_zip (parts_text release)) is
plain_version (key.Archive identity release) is = not-true (ends_in_zip (parts_text release)) is
plain_version (key.Identifiers url) is = tt

-- a plain version passes the test
has_plain : (asked : Key) → HasPlainVersion asked → has_plain_version asked ≡ true
has_plain (key.List identity) is = refl
has_plain (key.Manifest identity release) is = not_from_false (ends_in_zip (parts_text release)) is
has_plain (key.Release identity release) is = not_from_false (ends_in_zip (parts_text release)) is
has_plain (key.Archive identity release) is = not_from_false (ends_in_zip (parts_text release)) is
has_plain (key.Identifiers url) is = refl

-- a key that fits and is plain is served
pub served : (base : Base) (asked : Key) → length (request_for base asked) ≤ 65536 → has_plain_version asked ≡ true → is_served base asked ≡ true
served base asked fits plain = and_from (nat_le (length (request_for base asked)) 65536) (has_plain_version asked) (le-leb (length (request_for base asked)) 65536 fits) plain

-- a key that can be asked is served
askable_is_served : (base : Base) (asked : Key) → IsAskable base asked → is_served base asked ≡ true
askable_is_served base asked askable = served base asked askable.fits (has_plain asked askable.version)

-- a key that is served can be asked
served_is_askable : (base : Base) (asked : Key) → IsKey asked → is_served base asked ≡ true → IsAskable base asked
served_is_askable base asked is serves =
    let parts = and_parts (nat_le (length (request_for base asked)) 65536) (has_plain_version asked) serves in
    record { key = is; version = plain_version asked parts.1; fits = leb-true (length (request_for base asked)) 65536 parts.0 }

-- a served key has its entry
pub entry_served : (shelf : ShelfFile) (base : Base) (asked : Key) → is_served base asked ≡ true → entries_for shelf base asked ≡ entry_of shelf base asked ∷ []
entry_served shelf base asked is = ap (λ (b : Bool). if b then entry_of shelf base asked ∷ [] else []) is

-- another has none
pub entry_unserved : (shelf : ShelfFile) (base : Base) (asked : Key) → is_served base asked ≡ false → entries_for shelf base asked ≡ []
entry_unserved shelf base asked is = ap (λ (b : Bool). if b then entry_of shelf base asked ∷ [] else []) is

-- ---- the look-up

-- a key's own answer is found, or the other where none of the keys is this one and served
pub Finds : ShelfFile → Base → Key → List Key → List ℕ → List ℕ → Type 0
Finds shelf base asked keys other response =
    ((is_served base asked ≡ true) × (response ≡ answer_text (content_answer (content_of shelf asked))))
    ⊎ ((response ≡ other) × (Contains keys asked → is_served base asked ≡ false))

-- a place is itself
same_place : (to : Authority) → same_authority to to ≡ true
same_place to = and_from (bytes_eq to.host to.host) (to.port == to.port) (nat_list_eq_equiv.refl to.host) (eq-eqb to.port to.port refl)

-- an entry is for a request at its place where the requests are the same
is_for_served : (base : Base) (request : List ℕ) (entry : Entry) (same : Bool) → entry.to ≡ base.to → bytes_eq entry.request request ≡ same → is_for base.to request entry ≡ same
is_for_served base request entry same to is =
    ap (λ (place : Authority). same_authority place base.to && bytes_eq entry.request request) to
    ∙ ap (λ (b : Bool). b && bytes_eq entry.request request) (same_place base.to) ∙ is

module _ (shelf : ShelfFile) (base : Base) (plain : IsPlainBase base) (other : List ℕ) (asked : Key) (is : IsKey asked) where
  -- what is found behind a key is found with it, unless it is the key
  later : (key : Key) (keys : List Key) (response : List ℕ) → (asked ≡ key → is_served base asked ≡ false) → Finds shelf base asked keys other response → Finds shelf base asked (key ∷ keys) other response
  unfolding Finds
  later key keys response apart finds = elim finds [
    | inl here ↦ inl here
    | inr none ↦ inr (none.0, λ among. elim (first_or_later asked key keys among) [ inl first ↦ apart first | inr rest ↦ none.1 rest ])
  ]

  -- what is found among the entries of keys
  pub find_key : (keys : List Key) → All IsKey keys → Finds shelf base asked keys other (response_in (flat_map (entries_for shelf base) keys) other base.to (request_for base asked))
  unfolding Finds
  find_key [] all = inr (refl, λ among. absurd (omega (arith, among.1)))
  find_key (key ∷ keys) all =
      let rest = find_key keys (All-tail IsKey key keys all) in
      let tail = flat_map (entries_for shelf base) keys in
      elim (cases_Bool (is_served base key)) [
        | inr unserved ↦
            subst (λ (front : List Entry). Finds shelf base asked (key ∷ keys) other (response_in (front ++ tail) other base.to (request_for base asked))) (sym (entry_unserved shelf base key unserved))
            (later key keys (response_in tail other base.to (request_for base asked)) (λ same. ap (is_served base) same ∙ unserved) rest)
        | inl serves ↦
            subst (λ (front : List Entry). Finds shelf base asked (key ∷ keys) other (response_in (front ++ tail) other base.to (request_for base asked))) (sym (entry_served shelf base key serves))
            (elim (cases_Bool (bytes_eq (request_for base key) (request_for base asked))) [
              | inl same ↦
                  (let matched : key ≡ asked = same_request base key asked (All-head IsKey key keys all) is (same_text (request_for base key) (request_for base asked) same) in
                  inl (
                    sym (ap (is_served base) matched) ∙ serves,
                    ap (λ (b : Bool). if b then (entry_of shelf base key).response else response_in tail other base.to (request_for base asked))
                        (is_for_served base (request_for base asked) (entry_of shelf base key) true refl same)
                        ∙ ap (λ (k : Key). answer_text (content_answer (content_of shelf k))) matched,
                  ))
              | inr differs ↦
                  subst (λ (b : Bool). Finds shelf base asked (key ∷ keys) other (if b then (entry_of shelf base key).response else response_in tail other base.to (request_for base asked)))
                  (sym (is_for_served base (request_for base asked) (entry_of shelf base key) false refl differs))
                  (later key keys (response_in tail other base.to (request_for base asked))
                  (λ same. absurd (false≢true (sym differs ∙ ap (λ (k : Key). bytes_eq (request_for base k) (request_for base asked)) (sym same) ∙ nat_list_eq_equiv.refl (request_for base asked)))) rest)
            ])
      ]

-- ---- what is on a shelf has a key in the list

-- a package that is found stands among them, and its keys among theirs
FindsPackage : List ℕ → List ShelfPackage → Type 0
FindsPackage identity packages = (entry : ShelfPackage) × (package_of identity packages ≡ Some entry) × (entry.identity ≡ identity)
    × ((asked : Key) → Contains (package_keys entry) asked → Contains (flat_map package_keys packages) asked)

-- a package is found, or there is none
find_package : (identity : List ℕ) (packages : List ShelfPackage) → (package_of identity packages ≡ None) ⊎ FindsPackage identity packages
unfolding FindsPackage
find_package identity [] = inl refl
find_package identity (entry ∷ packages) =
    elim (cases_Bool (bytes_eq entry.identity identity)) [
      | inl same ↦ inr (
        entry,
        ap (λ (b : Bool). if b then Some entry else package_of identity packages) same,
        same_text entry.identity identity same,
        λ asked is. Contains-append_left (package_keys entry) (flat_map package_keys packages) asked is,
      )
      | inr other ↦
          (let skip : package_of identity (entry ∷ packages) ≡ package_of identity packages = ap (λ (b : Bool). if b then Some entry else package_of identity packages) other in
          elim (find_package identity packages) [
            | inl none ↦ inl (skip ∙ none)
            | inr found ↦ inr (found.0, skip ∙ found.1, found.2, λ asked is. Contains-append_right (package_keys entry) (flat_map package_keys packages) asked (found.3 asked is))
          ])
    ]

-- a release that is found stands among them, and its keys among theirs
FindsRelease : List ℕ → Parts → List ShelfRelease → Type 0
FindsRelease identity release entries = (entry : ShelfRelease) × (entry.release ≡ release)
    × ((asked : Key) → Contains (release_keys identity entry) asked → Contains (flat_map (release_keys identity) entries) asked)

-- a release is found, or there is none
find_release : (identity : List ℕ) (release : Parts) (entries : List ShelfRelease) → (release_in release entries ≡ None) ⊎ FindsRelease identity release entries
unfolding FindsRelease
find_release identity release [] = inl refl
find_release identity release (entry ∷ entries) =
    elim (cases_Bool (release_eq entry.release release)) [
      | inl same ↦ inr (entry, same_release entry.release release same, λ asked is. Contains-append_left (release_keys identity entry) (flat_map (release_keys identity) entries) asked is)
      | inr other ↦
          (let skip : release_in release (entry ∷ entries) ≡ release_in release entries = ap (λ (b : Bool). if b then Some entry else release_in release entries) other in
          elim (find_release identity release entries) [
            | inl none ↦ inl (skip ∙ none)
            | inr found ↦ inr (found.0, found.1, λ asked is. Contains-append_right (release_keys identity entry) (flat_map (release_keys identity) entries) asked (found.2 asked is))
          ])
    ]

-- a key of a release, by what is said of the release that is found
release_known : (shelf : ShelfFile) (identity : List ℕ) (release : Parts) (made : List ℕ → Parts → Key) (content : ShelfRelease → Option Content)
    → ((name : List ℕ) (entry : ShelfRelease) → Contains (release_keys name entry) (made name entry.release))
    → (option_and_then content (found_release shelf identity release) ≡ None) ⊎ Contains (keys_on shelf) (made identity release)
unfolding FindsPackage FindsRelease
release_known shelf identity release made content among =
    elim (find_package identity shelf.packages) [
      | inl none ↦ inl (ap (λ (found : Option ShelfPackage). option_and_then content (option_and_then (usable_release release) found)) none)
      | inr place ↦
          elim (find_release place.0.identity release place.0.releases) [
            | inl none ↦
                inl (ap (λ (found : Option ShelfPackage). option_and_then content (option_and_then (usable_release release) found)) place.1
                ∙ ap (λ (found : Option ShelfRelease). option_and_then content (option_and_then (λ (entry : ShelfRelease). unless_problem entry.problem entry) found)) none)
            | inr found ↦
                inr (Contains-append_left (flat_map package_keys shelf.packages) (map url_key shelf.urls) (made identity release)
                (place.3 (made identity release) (behind (made identity release) (key.List place.0.identity) (flat_map (release_keys place.0.identity) place.0.releases) (found.2 (made identity release)
                (subst (λ (asked : Key). Contains (release_keys place.0.identity found.0) asked) (λ i. made (place.2 i) (found.1 i)) (among place.0.identity found.0))))))
          ]
    ]

-- a URL is found, or there is none
find_url : (url : List ℕ) (entries : List ShelfUrl) → (url_of url entries ≡ None) ⊎ Contains (map url_key entries) (key.Identifiers url)
find_url url [] = inl refl
find_url url (entry ∷ entries) =
    elim (cases_Bool (bytes_eq entry.url url)) [
      | inl same ↦ inr (0, omega arith, ap (λ (text : List ℕ). key.Identifiers text) (same_text entry.url url same))
      | inr other ↦
          (let skip : url_of url (entry ∷ entries) ≡ url_of url entries = ap (λ (b : Bool). if b then Some entry else url_of url entries) other in
          elim (find_url url entries) [
            | inl none ↦ inl (skip ∙ none)
            | inr found ↦ inr (behind (key.Identifiers url) (url_key entry) (map url_key entries) found)
          ])
    ]

-- a key behind which there is something is one of the shelf's
known : (shelf : ShelfFile) (asked : Key) → (content_of shelf asked ≡ None) ⊎ Contains (keys_on shelf) asked
unfolding FindsPackage
known shelf (key.List identity) =
    elim (find_package identity shelf.packages) [
      | inl none ↦ inl (ap (option_map (λ (entry : ShelfPackage). json_content (list_data entry))) none)
      | inr place ↦ inr (Contains-append_left (flat_map package_keys shelf.packages) (map url_key shelf.urls) (key.List identity)
          (place.3 (key.List identity) (0, omega arith, ap (λ (name : List ℕ). key.List name) place.2)))
    ]
known shelf (key.Manifest identity release) = release_known shelf identity release (λ name r. key.Manifest name r) manifest_content (λ name entry. (0, omega arith, refl))
known shelf (key.Release identity release) = release_known shelf identity release (λ name r. key.Release name r) (metadata_content identity) (λ name entry. (1, omega arith, refl))
known shelf (key.Archive identity release) = release_known shelf identity release (λ name r. key.Archive name r) archive_content (λ name entry. (2, omega arith, refl))
known shelf (key.Identifiers url) =
    elim (find_url url shelf.urls) [
      | inl none ↦ inl (ap (option_map (λ (entry : ShelfUrl). json_content (identifiers_data entry))) none)
      | inr found ↦ inr (Contains-append_right (flat_map package_keys shelf.packages) (map url_key shelf.urls) (key.Identifiers url) found)
    ]

-- ---- the book

module _ (shelf : ShelfFile) (base : Base) (plain : IsPlainBase base) (all : All IsKey (keys_on shelf)) where
  abbrev pages : Pages
  pages = record { entries = entries_on shelf base; other = not_found }

  -- what is found in the book for a key
  finds : (asked : Key) → IsKey asked → Finds shelf base asked (keys_on shelf) not_found (response_of pages base.to (request_for base asked))
  finds asked is = find_key shelf base plain not_found asked is (keys_on shelf) all

  -- a key that is served has its own answer, whether there is an entry or not
  own_answer : (asked : Key) → IsKey asked → is_served base asked ≡ true → response_of pages base.to (request_for base asked) ≡ answer_text (content_answer (content_of shelf asked))
  unfolding Finds
  own_answer asked is serves =
      elim (finds asked is) [
        | inl found ↦ found.1
        | inr none ↦ elim (known shelf asked) [
          | inl nothing ↦ none.0 ∙ sym (ap (λ (found : Option Content). answer_text (content_answer found)) nothing)
          | inr among ↦ absurd (true≢false (sym serves ∙ none.1 among))
        ]
      ]

  pub answers_askable : AnswersAskable shelf base pages
  answers_askable asked askable = (
    content_answer (content_of shelf asked),
    sent_is_answered shelf base asked (Some asked) plain (path_asks asked askable.key askable.version) askable.fits,
    own_answer asked askable.key (askable_is_served base asked askable),
  )

  pub refuses_others : RefusesOthers base pages
  unfolding Finds
  refuses_others asked is other =
      elim (finds asked is) [
        | inl found ↦ absurd (other (served_is_askable base asked is found.0))
        | inr none ↦ none.0
      ]

-- ---- loops that add the entries of each

-- what one more gives stands behind what is there
pub one_more : {X Y : Type 0} (f : X → List Y) (old new total : List Y) (xs : List X) (i : ℕ) (x : X) → i < length xs → x ≡ get_or xs i x → new ≡ old ++ f x
    → old ++ flat_map f (drop i xs) ≡ total → new ++ flat_map f (drop (i + 1) xs) ≡ total
one_more f old new total xs i x inside is added so_far =
    let next : drop i xs ≡ x ∷ drop (i + 1) xs = drop_more xs i x inside ∙ ap (λ first. first ∷ drop (i + 1) xs) (sym is) in
    ap (λ front. front ++ flat_map f (drop (i + 1) xs)) added ∙ append_assoc old (f x) (flat_map f (drop (i + 1) xs))
    ∙ ap (λ rest. old ++ flat_map f rest) (sym next) ∙ so_far

-- behind the last there is nothing more
pub all_done : {X Y : Type 0} (f : X → List Y) (old total : List Y) (xs : List X) (i : ℕ) → length xs ≤ i → old ++ flat_map f (drop i xs) ≡ total → old ≡ total
all_done f old total xs i past so_far =
    let none : drop i xs ≡ [] = nil_from_length (drop i xs) (omega (arith, length-drop i xs, past)) in
    sym (append-nil old) ∙ ap (λ rest. old ++ flat_map f rest) (sym none) ∙ so_far

-- what follows from an answer is so of the answer
pub if_ok_then : {A E : Type 0} (P Q : A → Type 0) (result : Result A E) → ((x : A) → P x → Q x) → IfOk result P → IfOk result Q
if_ok_then P Q (Ok x) carry is = carry x is
if_ok_then P Q (Err e) carry is = tt

-- the book that is made is the one that is defined
pub same_pages : (shelf : ShelfFile) (base : Base) (keys : List Key) (book : Pages) (entries : List Entry) (other : List ℕ) → keys ≡ keys_on shelf → entries ≡ flat_map (entries_for shelf base) keys → other ≡ not_found
    → book ≡ record { entries = entries; other = other } → book ≡ record { entries = entries_on shelf base; other = not_found }
same_pages shelf base keys book entries other listed added none is =
    is ∙ (λ i. record { entries = (added ∙ ap (flat_map (entries_for shelf base)) listed) i; other = none i })

-- an entry of these parts
abbrev made : Authority → List ℕ → List ℕ → Entry
made to request response = record { to = to; request = request; response = response }

-- the entry that is made is the one that is defined
pub entry_is : (shelf : ShelfFile) (base : Base) (asked : Key) (to : Authority) (request response : List ℕ) → to ≡ base.to → request ≡ request_for base asked
    → response ≡ answer_text (content_answer (content_of shelf asked)) → made to request response ≡ entry_of shelf base asked
entry_is shelf base asked to request response place asks answers = λ i. record { to = place i; request = asks i; response = answers i }
