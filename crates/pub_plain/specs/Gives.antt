-- What is kept of a reply that is given.
use Rattle.std.specs.Prelude.{◌≡◌, ◌≤◌, ℕ, List, length, All, Result, Ok, Err}
use Rattle.spm_api.specs.Refused.{Refusal}
use Rattle.spm_api.specs.Said.{Says, reply_said}
use Rattle.spm_api.specs.declared.replies.ReplyFault.{ReplyFault}
use Rattle.spm_api.specs.declared.replies.Said.{Said}
use Rattle.spm_api.specs.declared.replies.Said.TheVariants as said
use Rattle.spm_key.specs.declared.key.Key.{Key}
use Rattle.spm_key.specs.declared.key.Key.TheVariants as key
use Rattle.spm_key.specs.declared.reply.Reply.{Reply}
use Rattle.spm_version.specs.Release.{Parts}
use Rattle.pub_plain.specs.Given.{with_said}
use Rattle.pub_plain.specs.Solver.{Solver, answers_now}
use Rattle.pub_plain.specs.Told.{answers_to, job_of}
use Rattle.pub_plain.specs.declared.told.Told.{Told}

-- what can be said of the keys that a solver reads
abbrev pub IsSaidOf : Key → Said → Type 0
IsSaidOf (key.List identity) (said.Releases list) = length list ≤ 4096
IsSaidOf (key.List identity) said.TooMany = Unit {0}
IsSaidOf (key.List identity) (said.Package found) = ⊥
IsSaidOf (key.List identity) (said.Manifest contents) = ⊥
IsSaidOf (key.List identity) (said.FaultyManifest place kind) = ⊥
IsSaidOf (key.List identity) said.NoManifest = ⊥
IsSaidOf (key.List identity) said.Nothing = ⊥
IsSaidOf (key.Manifest identity release) it = Unit {0}
IsSaidOf (key.Release identity release) it = ⊥
IsSaidOf (key.Archive identity release) it = ⊥
IsSaidOf (key.Identifiers url) (said.Package found) = Unit {0}
IsSaidOf (key.Identifiers url) (said.Releases list) = ⊥
IsSaidOf (key.Identifiers url) said.TooMany = ⊥
IsSaidOf (key.Identifiers url) (said.Manifest contents) = ⊥
IsSaidOf (key.Identifiers url) (said.FaultyManifest place kind) = ⊥
IsSaidOf (key.Identifiers url) said.NoManifest = ⊥
IsSaidOf (key.Identifiers url) said.Nothing = ⊥

abbrev pub IsShort : List ℕ × List Parts → Type 0
IsShort one = length one.1 ≤ 4096

-- what is said of the key is kept, and all else is as it was
pub record IsKeptMore (given : Key) (it : Said) (old new : Told) : Type 0 where
  pub answers : (asked : Key) → answers_to new asked ≡ with_said given it (answers_to old) asked
  pub job : job_of new ≡ job_of old
  pub pins : new.pins ≡ old.pins
  pub nodes : new.known.nodes ≡ old.known.nodes
  pub short : All IsShort old.known.lists → All IsShort new.known.lists

-- ---- of a solver

-- the reply says something of the key, and the solver has it
pub record IsGiven (given : Key) (reply : Reply) (old new : Solver) : Type 0 where
  pub it : Said
  pub says : reply_said given reply ≡ Ok it
  pub answers : (asked : Key) → answers_now new asked ≡ with_said given it (answers_now old) asked
  pub job : new.job ≡ old.job
  pub pins : new.pins ≡ old.pins
  pub state : new.state ≡ old.state
  pub turns : new.turns ≡ old.turns

-- the reply is refused for this reason
abbrev pub Refuses : ReplyFault → Result Said Refusal → Type 0
Refuses fault found = Says (Err fault) found
