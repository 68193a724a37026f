-- What the steps before a root's job answer.
use Rattle.std.specs.Prelude.{◌≡◌, ℕ, List, Result, Ok, Err}
use Rattle.spm_session.specs.declared.outcome.Outcome.{Outcome}
use Rattle.spm_session.specs.declared.outcome.Outcome.TheVariants as outcome

-- a step with the get of this file is refused as `step` says, unless memory runs out or the get fails
abbrev pub IsRefusal : {A : Type 0} → List ℕ → Outcome → Result A Outcome → Type 0
IsRefusal name outcome.Memory step = Unit {0}
IsRefusal name (outcome.DeskFault failed) step = failed ≡ name
IsRefusal name it step = step ≡ Err it

-- it comes to what `step` says
abbrev pub Steps : {A : Type 0} → List ℕ → Result A Outcome → Result A Outcome → Type 0
Steps name (Ok answer) step = step ≡ Ok answer
Steps name (Err it) step = IsRefusal name it step

-- the same of a step without a call
abbrev pub Refuses : {A : Type 0} → Outcome → Result A Outcome → Type 0
Refuses outcome.Memory step = Unit {0}
Refuses (outcome.DeskFault failed) step = ⊥
Refuses it step = step ≡ Err it

abbrev pub Computes : {A : Type 0} → Result A Outcome → Result A Outcome → Type 0
Computes (Ok answer) step = step ≡ Ok answer
Computes (Err it) step = Refuses it step
