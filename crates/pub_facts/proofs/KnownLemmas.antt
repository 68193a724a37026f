-- What is known: lists within their limit, the numbers of nodes, and choices in range.
use Rattle.std.specs.Str.{bytes_eq}
use Rattle.std.proofs.Common.{◌≡◌, ◌≤◌, ◌<◌, ℕ, zero, suc, List, [], ◌∷◌, All, length, slice_get, Some, None, arith}
use Rattle.std.proofs.lemmas.Bool.{cond_both}
use Rattle.std.proofs.lemmas.List.Elements.{All-head, All-tail}
use Rattle.spm_version.specs.Release.{Parts}
use Rattle.pub_facts.specs.Catalogue.{Lookups, Owner, release_at}
use Rattle.pub_facts.specs.Facts.{owner_node, size_of}
use Rattle.pub_facts.specs.Known.{IsThere, list_in}

abbrev IsShort : List ℕ × List Parts → Type 0
IsShort one = length one.1 ≤ 4096

-- a package's list is within the limit where all lists are
pub short_list : (lists : List (List ℕ × List Parts)) (identity : List ℕ) → All (λ (one : List ℕ × List Parts). length one.1 ≤ 4096) lists
    → length (list_in lists identity) ≤ 4096
short_list [] identity short = omega arith
short_list (one ∷ others) identity short =
    cond_both (bytes_eq one.0 identity) one.1 (list_in others identity) (λ list. length list ≤ 4096) (λ _. All-head IsShort one others short)
    (λ _. short_list others identity (All-tail IsShort one others short))

got_below : (list : List Parts) (k : ℕ) (release : Parts) → slice_get list k ≡ Some release → k < length list
got_below [] k release is = cc
got_below (first ∷ list) zero release is = omega arith
got_below (first ∷ list) (suc k) release is = (let below = got_below list k release is in omega (arith, below))

-- a choice that is there is one of the owner's
pub choice_below : (l : Lookups) (owner : Owner) (choice : ℕ) → IsThere l owner choice → choice < size_of l (owner_node owner)
choice_below l None choice there = omega (arith, there)
choice_below l (Some identity) choice there = listed choice there.1
  where
    listed : (k : ℕ) → release_at (l.list identity) k ≡ Some there.0 → k < suc (length (l.list identity))
    listed zero is = cc
    listed (suc k) is = (let below = got_below (l.list identity) k there.0 is in omega (arith, below))
