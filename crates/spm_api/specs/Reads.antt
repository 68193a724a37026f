-- What the readers of bodies answer.
use Rattle.std.specs.Prelude.{◌≡◌, ℕ, ◌<◌, ◌≤◌, List, length, Option, Some, None, Result, Ok, Err}
use Rattle.std.specs.List.Sorted.{IsPermutation, IsStrictlySortedBy}
use Rattle.spm_json.specs.Reading.{Reading}
use Rattle.spm_json.specs.declared.fault.ReadFault.{ReadFault}
use Rattle.spm_json.specs.declared.fault.ReadFault.TheVariants as read
use Rattle.spm_json.specs.declared.fault.ReadFault.TheVariants.{At}
use Rattle.spm_version.specs.Release.{Parts}
use Rattle.spm_version.specs.ReleaseLaws.{release_cmp}
use Rattle.spm_api.specs.Bodies.{IsLeastIdentity, all_some}
use Rattle.spm_api.specs.declared.bodies.BodyFault.{BodyFault}
use Rattle.spm_api.specs.declared.bodies.BodyFault.TheVariants.{Unreadable, TooMany, Memory}

-- a fault of reading is a refusal of the body
abbrev pub refusal_of : ReadFault → BodyFault
refusal_of (At place kind) = Unreadable
refusal_of read.Memory = Memory

-- the usable releases, each below those after it, at most 4,096 of them
abbrev pub ListsReleases : Result (List Parts) BodyFault → List Parts → Type 0
ListsReleases (Ok releases) usable = IsStrictlySortedBy release_cmp releases × IsPermutation usable releases × (length usable ≤ 4096)
ListsReleases (Err Unreadable) usable = ⊥
ListsReleases (Err TooMany) usable = 4096 < length usable
ListsReleases (Err Memory) usable = Unit {0}

-- a body that isn't of its form
abbrev pub Refuses : {A : Type 0} → Result A BodyFault → Type 0
Refuses (Ok answer) = ⊥
Refuses (Err Unreadable) = Unit {0}
Refuses (Err TooMany) = ⊥
Refuses (Err Memory) = Unit {0}

abbrev pub ReadsList : Result (List Parts) BodyFault → Reading (List (Option Parts)) → Type 0
ReadsList result (Ok listed) = ListsReleases result (all_some listed)
ReadsList result (Err fault) = Refuses result

-- the least of the identities, or nothing
abbrev pub NamesLeast : Result (Option (List ℕ)) BodyFault → List (List ℕ) → Type 0
NamesLeast (Ok least) texts = IsLeastIdentity texts least
NamesLeast (Err Unreadable) texts = ⊥
NamesLeast (Err TooMany) texts = ⊥
NamesLeast (Err Memory) texts = Unit {0}

abbrev pub ReadsIdentifiers : Result (Option (List ℕ)) BodyFault → Reading (List (List ℕ)) → Type 0
ReadsIdentifiers result (Ok texts) = NamesLeast result texts
ReadsIdentifiers result (Err fault) = Refuses result

-- what is read, or nothing where the body isn't of its form
abbrev pub Reads : {A : Type 0} → Result A BodyFault → Option A → Type 0
Reads (Ok answer) found = found ≡ Some answer
Reads (Err Unreadable) found = found ≡ None
Reads (Err TooMany) found = ⊥
Reads (Err Memory) found = Unit {0}
