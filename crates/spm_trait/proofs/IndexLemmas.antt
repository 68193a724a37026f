-- An index of entries, from the last to the first.
use Rattle.std.specs.Str.{bytes_eq}
use Rattle.std.proofs.Common.{◌≡◌, ℕ, Bool, true, false, cond, ◌||◌, List, [], ◌∷◌, ◌++◌, map, reverse, Option, Some, is_some, refl, ap, ◌∙◌}
use Rattle.std.specs.Borrow.{Bor}
use Rattle.std.proofs.lemmas.List.{map_push, reverse-append}
use Rattle.spm_trait.specs.Reached.{Index, IsIndex, found_in, names_or_none}
use Rattle.spm_trait.specs.declared.traits.TraitEntry.{TraitEntry}

-- the entries that a loop from the back has passed
abbrev pub passed : List (Bor TraitEntry) → List TraitEntry
passed entries = reverse (map (λ entry. entry.now) entries)

-- one entry more was passed
pub passed_push : (entries : List (Bor TraitEntry)) (entry : Bor TraitEntry) → passed (entries ++ entry ∷ []) ≡ entry.now ∷ passed entries
passed_push entries entry =
    ap reverse (map_push (λ (e : Bor TraitEntry). e.now) entries entry) ∙ reverse-append (map (λ (e : Bor TraitEntry). e.now) entries) (entry.now ∷ [])

-- what a name enables, behind an entry that was put before
put_enabled : (same : Bool) (found : Option (Bor (List (List ℕ)))) (here : Bor (List (List ℕ))) → names_or_none (cond same (Some here) found) ≡ cond same here.now (names_or_none found)
put_enabled true found here = refl
put_enabled false found here = refl

-- whether a name is there, behind an entry that was put before
put_named : (same : Bool) (found : Option (Bor (List (List ℕ)))) (here : Bor (List (List ℕ))) → is_some (cond same (Some here) found) ≡ (same || is_some found)
put_named true found here = refl
put_named false found here = refl

-- an entry more, before the others
pub IsIndex-put : (entry : TraitEntry) (entries : List TraitEntry) (old new : Index) (here : Bor (List (List ℕ))) → here.now ≡ entry.enables
    → ((name : List ℕ) → found_in new name ≡ cond (bytes_eq entry.name name) (Some here) (found_in old name))
    → IsIndex entries old → IsIndex (entry ∷ entries) new
IsIndex-put entry entries old new here is puts h = record {
  enabled = λ name. rw (puts name, put_enabled (bytes_eq entry.name name) (found_in old name) here, is, h.enabled name) refl;
  named = λ name. rw (puts name, put_named (bytes_eq entry.name name) (found_in old name) here, h.named name) refl;
}
