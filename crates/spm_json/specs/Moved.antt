-- A fault seen from the item around the one that was read.
use Rattle.std.specs.Prelude.{ℕ, List, [], ◌∷◌, ◌++◌}
use Rattle.spm_json.specs.Reading.{place_text}
use Rattle.spm_json.specs.declared.fault.ReadFault.{ReadFault}
use Rattle.spm_json.specs.declared.fault.ReadFault.TheVariants.{At, Memory}

-- its place goes on behind this step
abbrev pub moved : List ℕ → ReadFault → ReadFault
moved step (At place kind) = At (47 ∷ (step ++ place)) kind
moved step Memory = Memory

-- its place is the item's own
abbrev pub without_place : ReadFault → ReadFault
without_place (At place kind) = At [] kind
without_place Memory = Memory

-- its place is that in the whole document
abbrev pub whole_place : ReadFault → ReadFault
whole_place (At place kind) = At (place_text place) kind
whole_place Memory = Memory
