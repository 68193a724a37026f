-- The lines behind a refutation, as the code writes them: the newest stands last.
use Rattle.std.specs.Prelude.{◌≡◌, ℕ, ◌<◌, ◌≤◌, Bool, List, [], length, map, reverse, slice_index_or}
use Rattle.pub_term.specs.declared.cause.Cause.{Cause}
use Rattle.pub_term.specs.declared.term.Term.{Term}
use Rattle.pub_trail.specs.Derived.{AreBelow, AreOrigins, IsChain, Line, Given, Resolves, Put, Says, put_steps, write}
use Rattle.pub_trail.specs.Turn.{Refuted, Step, turn_of}
use Rattle.pub_trail.specs.Walk.{terms_of}
use Rattle.pub_plain.specs.Kept.{Kept, state_with}
use Rattle.pub_plain.specs.Turning.{rules_by}
use Rattle.pub_plain.specs.declared.told.Told.{Told}
use Rattle.pub_plain.specs.declared.writing.LineOrigin.{LineOrigin}
use Rattle.pub_plain.specs.declared.writing.LineOrigin.TheVariants.{Fact, Resolution}
use Rattle.pub_plain.specs.declared.writing.WrittenLine.{WrittenLine}

abbrev pub line_of : List Term → LineOrigin → Line
line_of terms (Fact cause) = Given terms cause
line_of terms (Resolution first second on) = Resolves first second on

abbrev pub says_of : WrittenLine → Says
says_of line = record { line = line_of line.incompat.terms line.origin; terms = line.incompat.terms }

-- the newest first
abbrev pub lines_of : List WrittenLine → List Says
lines_of lines = reverse (map says_of lines)

-- the lines, and the number of the one that was put or found
abbrev pub put_of : List WrittenLine → ℕ → Put
put_of lines number = record { lines = lines_of lines; number = number }

-- ---- what is asked of what is kept, so that it can be written

-- each incompatibility comes from where its origin says
pub record AreWritable (kept : Kept) : Type 0 where
  pub facts : List (List Term)
  pub long : length kept.origins ≡ length kept.incompats
  pub are : AreOrigins kept.sizes facts (terms_of kept.incompats) kept.origins

-- the steps of a conflict can be resolved, and cite incompatibilities below a number
pub record AreSteps (kept : Kept) (bound first : ℕ) (steps : List Step) : Type 0 where
  pub bounded : bound ≤ length kept.incompats
  pub first_below : first < bound
  pub below : AreBelow bound steps
  pub final : List Term
  pub chain : IsChain (terms_of kept.incompats) (slice_index_or (terms_of kept.incompats) first []) steps final

-- ---- what is written of what is kept

-- an incompatibility with what it comes from, where at most so many stand behind one another
abbrev pub written_at : (Cause → Cause → Bool) → Kept → ℕ → ℕ → List WrittenLine → Put
written_at same kept depth number lines = write same (terms_of kept.incompats) kept.origins depth number (lines_of lines)

-- a conflict with its steps
abbrev pub written_steps : (Cause → Cause → Bool) → Kept → ℕ → ℕ → List Step → List WrittenLine → Put
written_steps same kept depth first steps lines =
    put_steps same (terms_of kept.incompats) (write same (terms_of kept.incompats) kept.origins depth)
    (slice_index_or (terms_of kept.incompats) first []) steps (written_at same kept depth first lines)

-- ---- a refutation

-- the next turn refutes, by the steps of this conflict
abbrev pub IsRefutedBy : Told → Kept → ℕ → List Step → Type 0
IsRefutedBy told kept first steps = (terms : List Term) × (turn_of (rules_by told) (state_with told.known.nodes kept) ≡ Refuted terms first steps)

-- the next turn refutes
abbrev pub IsRefuted : Told → Kept → Type 0
IsRefuted told kept =
    (terms : List Term) × (first : ℕ) × (steps : List Step) × (turn_of (rules_by told) (state_with told.known.nodes kept) ≡ Refuted terms first steps)
