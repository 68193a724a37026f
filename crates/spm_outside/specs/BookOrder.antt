-- The order in which a book's entries are looked up.
use Rattle.std.specs.Prelude.{ℕ, ◌<◌, Bool, List, Option, Some, length, slice_get}
use Rattle.std.specs.Cmp.Lexicographic.{slice_cmp}
use Rattle.std.specs.List.{Contains}
use Rattle.std.specs.List.Sorted.{IsSorted}
use Rattle.std.specs.Option.{option_cmp, option_map}
use Rattle.std.specs.Ordering.{is_lt, nat_cmp, ordering_then}
use Rattle.std.specs.declared.cmp.Ordering.{Ordering}
use Rattle.spm_outside.specs.declared.book.Authority.{Authority}
use Rattle.spm_outside.specs.declared.book.Entry.{Entry}

-- by their hosts, and then by their ports
abbrev pub authority_cmp : Authority → Authority → Ordering
authority_cmp first second = ordering_then (slice_cmp nat_cmp first.host second.host) (nat_cmp first.port second.port)

-- by their authorities, and then by their requests
abbrev pub key_cmp : Authority × List ℕ → Authority × List ℕ → Ordering
key_cmp first second = ordering_then (authority_cmp first.0 second.0) (slice_cmp nat_cmp first.1 second.1)

-- what the entry at a place is found by, if there is one
abbrev pub key_at : List Entry → ℕ → Option (Authority × List ℕ)
key_at entries place = option_map (λ entry. (entry.to, entry.request)) (slice_get entries place)

-- by the entries there, and else by the places
abbrev pub place_cmp : List Entry → ℕ → ℕ → Ordering
place_cmp entries first second = ordering_then (option_cmp key_cmp (key_at entries first) (key_at entries second)) (nat_cmp first second)

-- whether the entry at a place is below this authority and request
abbrev pub is_below : List Entry → Authority → List ℕ → ℕ → Bool
is_below entries to request place = is_lt (option_cmp key_cmp (key_at entries place) (Some (to, request)))

-- each place of an entry, in that order
pub record IsOrderOf (entries : List Entry) (places : List ℕ) : Type 0 where
  pub all : (place : ℕ) → place < length entries → Contains places place
  pub sorted : IsSorted (place_cmp entries) places
