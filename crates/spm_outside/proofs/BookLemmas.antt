-- What a look-up in a book finds.
use Rattle.std.proofs.Common.{◌≡◌, ℕ, ◌<◌, ◌≤◌, List, [], ◌∷◌, length, get_or, Bool, true, false, cond, Option, Some, None, refl, sym, ap, ◌∙◌, subst, arith}
use Rattle.std.proofs.lemmas.Bool.{false_from_ne_true, true≢false}
use Rattle.std.proofs.lemmas.List.Folds.{find_at}
use Rattle.std.proofs.lemmas.List.FromFn.{get_or-range_with_len, length-range_with_len}
use Rattle.std.proofs.lemmas.List.Sorted.{ranks_by}
use Rattle.std.proofs.lemmas.List.Sums.{position_or_len_is}
use Rattle.std.proofs.lemmas.Option.{get_or_from_slice_get, none-some, slice_get-get_or, slice_get_past, slice_get_read, slice_get_within}
use Rattle.std.specs.Bool.{then_some}
use Rattle.std.specs.Cmp.{IsStrictWeakOrder, IsTotalOrder, both_tied, nat_cmp_total, on_total, then_total, unsigned_ties}
use Rattle.std.specs.Cmp.Lexicographic.{nat_list_cmp_total, options_total, slice_cmp, texts_ties}
use Rattle.std.specs.List.{Contains, find, range_with_len, slice_get}
use Rattle.std.specs.List.Sorted.{IsPartitionPoint, IsPartitionedBy}
use Rattle.std.specs.Option.{option_cmp, option_copied, option_map, option_map_or}
use Rattle.std.specs.Ordering.{is_eq, is_lt, nat_cmp}
use Rattle.std.specs.Slice.{IsItemAt}
use Rattle.std.specs.declared.cmp.Ordering.TheVariants.{Equal, Less}
use Rattle.spm_outside.specs.Book.{is_for, response_in}
use Rattle.spm_outside.specs.BookOrder.{IsOrderOf, authority_cmp, is_below, key_at, key_cmp, place_cmp}
use Rattle.spm_outside.proofs.PlaceLemmas.{IsPartitionedBy-below, equal_from, first_has}
use Rattle.spm_outside.specs.declared.book.Authority.{Authority}
use Rattle.spm_outside.specs.declared.book.Entry.{Entry}
use denote.Ref.{Bor}

-- ---- the order

-- the order of authorities with requests is total
key_cmp_total : IsTotalOrder key_cmp
key_cmp_total =
    then_total
    (on_total (λ (key : Authority × List ℕ). key.0)
    (then_total (on_total (λ (to : Authority). to.host) nat_list_cmp_total) (on_total (λ (to : Authority). to.port) nat_cmp_total)))
    (on_total (λ (key : Authority × List ℕ). key.1) nat_list_cmp_total)

-- and so is that of what may be absent
key_at_total : IsTotalOrder (option_cmp key_cmp)
key_at_total = options_total key_cmp_total

-- places are sorted by a strict weak order
pub place_cmp_weak : (entries : List Entry) → IsStrictWeakOrder (λ first second. is_lt (place_cmp entries first second))
place_cmp_weak entries = ranks_by (then_total (on_total (key_at entries) key_at_total) nat_cmp_total) (λ place. place)

-- an entry is for a request exactly where the order doesn't tell them apart
is_for-key_cmp : (to : Authority) (request : List ℕ) (entry : Entry) → is_for to request entry ≡ is_eq (key_cmp (entry.to, entry.request) (to, request))
is_for-key_cmp to request entry =
    both_tied _ _ (authority_cmp entry.to to) (slice_cmp nat_cmp entry.request request)
    (both_tied _ _ (slice_cmp nat_cmp entry.to.host to.host) (nat_cmp entry.to.port to.port) (texts_ties entry.to.host to.host) (unsigned_ties entry.to.port to.port))
    (texts_ties entry.request request)

-- ---- the entry that a look-up finds

-- an item that was lent stands there
pub item_some : {X : Type 0} (xs : List X) (i : ℕ) (item : Bor X) → IsItemAt xs i (Some item) → slice_get xs i ≡ Some item.now
item_some xs i item is = slice_get_read xs (length xs) i item.now refl is.3.0 is.1

-- none is lent behind the last
pub item_none : {X : Type 0} (xs : List X) (i : ℕ) → IsItemAt xs i None → slice_get xs i ≡ None
item_none xs i is = slice_get_past xs i is.3

-- what was lent on a condition, copied
pub copied-then_some : {X : Type 0} (b : Bool) (item : Bor X) → option_copied (then_some b item) ≡ cond b (Some item.now) None
copied-then_some true item = refl
copied-then_some false item = refl

module _ (entries : List Entry) (to : Authority) (request : List ℕ) where
  abbrev wanted_key : Option (Authority × List ℕ)
  wanted_key = Some (to, request)

  key_at-entry : (place : ℕ) (entry : Entry) → slice_get entries place ≡ Some entry → key_at entries place ≡ Some (entry.to, entry.request)
  key_at-entry place entry is = ap (option_map (λ (e : Entry). (e.to, e.request))) is

  find_first : (place : ℕ) (entry : Entry) → slice_get entries place ≡ Some entry → is_for to request entry ≡ true
      → ((i : ℕ) (d : Entry) → i < place → is_for to request (get_or entries i d) ≡ true → ⊥) → find (is_for to request) entries ≡ Some entry
  find_first place entry is fits first =
      let within = slice_get_within entries place entry is in
      let there = get_or_from_slice_get entries place entry entry is in
      find_at (is_for to request) entries
      ∙ ap (slice_get entries)
      (position_or_len_is (is_for to request) entries place entry (omega arith) (λ i h. false_from_ne_true _ (first i entry h)) (λ h. ap (is_for to request) there ∙ fits))
      ∙ is

  find_none : ((i : ℕ) (d : Entry) → i < length entries → is_for to request (get_or entries i d) ≡ true → ⊥) → find (is_for to request) entries ≡ None
  find_none none =
      find_at (is_for to request) entries
      ∙ ap (slice_get entries)
      (position_or_len_is (is_for to request) entries (length entries) (record { to = to; request = request; response = [] })
      (omega arith) (λ i h. false_from_ne_true _ (none i _ h)) (λ h. absurd (omega arith)))
      ∙ slice_get_past entries (length entries) (omega arith)

  fits_at : (i : ℕ) (d : Entry) → i < length entries → is_for to request (get_or entries i d) ≡ true
      → option_cmp key_cmp (key_at entries i) wanted_key ≡ Equal
  fits_at i d within fits =
      subst (λ key. option_cmp key_cmp key wanted_key ≡ Equal) (sym (key_at-entry i (get_or entries i d) (slice_get-get_or entries i d within)))
      (equal_from _ (sym (is_for-key_cmp to request (get_or entries i d)) ∙ fits))

  module _ (places : List ℕ) (order : IsOrderOf entries places) where
    pub IsPartitionedBy-is_below : IsPartitionedBy (is_below entries to request) places
    IsPartitionedBy-is_below = IsPartitionedBy-below key_at_total (key_at entries) wanted_key places order.sorted

    module _ (at : ℕ) (parts : IsPartitionPoint (λ place. is_below entries to request place ≡ true) (λ place. is_below entries to request place ≡ false) places at) where
      -- where an entry fits, the place at the partition point is one of an entry that does, and not behind it
      behind : (i : ℕ) (d : Entry) → i < length entries → is_for to request (get_or entries i d) ≡ true
          → (at < length places) × (option_cmp key_cmp (key_at entries (get_or places at i)) wanted_key ≡ Equal) × (get_or places at i ≤ i)
      behind i d within fits =
          let there = order.all i within in
          let has : option_cmp key_cmp (key_at entries (get_or places there.0 i)) wanted_key ≡ Equal =
          subst (λ place. option_cmp key_cmp (key_at entries place) wanted_key ≡ Equal) (sym there.2) (fits_at i d within fits) in
          let first = first_has key_at_total (key_at entries) wanted_key places order.sorted at parts there.0 i there.1 has in
          (omega (arith, first.0, there.1), first.1, subst (λ place. get_or places at i ≤ place) there.2 first.2)

      pub finds_none_past : slice_get places at ≡ None → find (is_for to request) entries ≡ None
      finds_none_past past =
          find_none (λ i d within fits. none-some _ (sym past ∙ slice_get-get_or places at i (behind i d within fits).0))

      module _ (place : ℕ) (here : slice_get places at ≡ Some place) where
        has_here : (i : ℕ) (d : Entry) → i < length entries → is_for to request (get_or entries i d) ≡ true
            → (option_cmp key_cmp (key_at entries place) wanted_key ≡ Equal) × (place ≤ i)
        has_here i d within fits =
            let both = behind i d within fits in
            let is = get_or_from_slice_get places at place i here in
            (subst (λ p. option_cmp key_cmp (key_at entries p) wanted_key ≡ Equal) is both.1, subst (λ p. p ≤ i) is both.2)

        pub finds_none_there : slice_get entries place ≡ None → find (is_for to request) entries ≡ None
        finds_none_there none =
            find_none (λ i d within fits.
            let less : option_cmp key_cmp (key_at entries place) wanted_key ≡ Less = ap (λ e. option_cmp key_cmp (option_map (λ (entry : Entry). (entry.to, entry.request)) e) wanted_key) none in
            true≢false (ap is_lt (sym less ∙ (has_here i d within fits).0)))

        find_by : (entry : Entry) (b : Bool) → slice_get entries place ≡ Some entry → is_for to request entry ≡ b
            → find (is_for to request) entries ≡ cond b (Some entry) None
        find_by entry true is fits =
            find_first place entry is fits (λ i d before fits_too.
            let within = slice_get_within entries place entry is in
            let not_before = (has_here i d (omega arith) fits_too).1 in
            omega arith)
        find_by entry false is fails =
            find_none (λ i d within fits.
            let has : key_cmp (entry.to, entry.request) (to, request) ≡ Equal =
            subst (λ key. option_cmp key_cmp key wanted_key ≡ Equal) (key_at-entry place entry is) (has_here i d within fits).0 in
            true≢false (sym (is_for-key_cmp to request entry ∙ ap is_eq has) ∙ fails))

        pub finds_there : (entry : Entry) → slice_get entries place ≡ Some entry → find (is_for to request) entries ≡ cond (is_for to request entry) (Some entry) None
        finds_there entry is = find_by entry _ is refl

-- the response is that of the first entry for the request
response_in-find : (entries : List Entry) (other : List ℕ) (to : Authority) (request : List ℕ)
    → response_in entries other to request ≡ option_map_or (λ entry. entry.response) (find (is_for to request) entries) other
response_in-find [] other to request = refl
response_in-find (entry ∷ entries) other to request =
    elim (is_for to request entry) as (λ b. cond b entry.response (response_in entries other to request)
    ≡ option_map_or (λ (e : Entry). e.response) (cond b (Some entry) (find (is_for to request) entries)) other) [
      | true ↦ refl
      | false ↦ response_in-find entries other to request
    ]

-- so whatever found that entry gives the response
pub response_found : (entries : List Entry) (other : List ℕ) (to : Authority) (request : List ℕ) (found : Option Entry)
    → found ≡ find (is_for to request) entries → option_map_or (λ entry. entry.response) found other ≡ response_in entries other to request
response_found entries other to request found is =
    ap (λ entry. option_map_or (λ (e : Entry). e.response) entry other) is ∙ sym (response_in-find entries other to request)

-- ---- the places before they are sorted

-- each place below the count is among the places
pub all_places : (count place : ℕ) → place < count → Contains (range_with_len 0 count) place
all_places count place within = (place, rw length-range_with_len within, get_or-range_with_len 0 count place place within ∙ (omega arith))
