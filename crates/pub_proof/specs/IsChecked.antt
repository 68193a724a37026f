-- A checked derivation as a whole: there is what each line says, and it says it rightly.
use Rattle.std.specs.Prelude.{◌≡◌, ◌≢◌, ℕ, ◌+◌, ◌-◌, ◌<◌, ◌≤◌, List, [], length, Contains, true, slice_get, slice_index_or, IsSome, Some}
use Rattle.pub_set.specs.Choices.{ChoiceSet, do_meet}
use Rattle.pub_term.specs.Resolvent.{resolvent as resolvent_of}
use Rattle.pub_term.specs.Term.{set_at}
use Rattle.pub_term.specs.declared.term.Term.{Term}
use Rattle.pub_proof.specs.Formed.{IsFormed}
use Rattle.pub_proof.specs.Root.{is_refutation, root_of}
use Rattle.pub_proof.specs.declared.derivation.Derivation.{Derivation}
use Rattle.pub_proof.specs.declared.derivation.Line.{Line}
use Rattle.pub_proof.specs.declared.derivation.Line.TheVariants.{Fact, Resolve}

-- what the line with this number says, counted from 1
abbrev pub said_by : List (List Term) → ℕ → List Term
said_by said number = slice_index_or said (number - 1) []

-- a number of a line before this one
abbrev pub IsEarlier : ℕ → ℕ → Type 0
IsEarlier line number = (1 ≤ number) × (number < line)

-- the resolvent of two earlier lines that both have a term on the node, and whose other shared sets meet
pub record IsResolution (sizes : List ℕ) (line first second on : ℕ) (one other terms : List Term) : Type 0 where
  pub first_earlier : IsEarlier line first
  pub second_earlier : IsEarlier line second
  pub known : on < length sizes
  pub first_on : IsSome (set_at one on)
  pub second_on : IsSome (set_at other on)
  pub meets : (term : Term) (set : ChoiceSet) → Contains one term → term.node ≢ on → set_at other term.node ≡ Some set → do_meet term.choices set ≡ true
  pub resolvent : terms ≡ resolvent_of one other on

-- what the line with this number says, given what all say: one of the facts, and well formed; or a resolution
abbrev pub Says : List ℕ → List (List Term) → List (List Term) → ℕ → Line → List Term → Type 0
Says sizes facts said line (Fact incompat cause) terms = (terms ≡ incompat.terms) × Contains facts terms × IsFormed sizes terms
Says sizes facts said line (Resolve first second on) terms = IsResolution sizes line first second on (said_by said first) (said_by said second) terms

-- The terms are what the last line says, and that is a refutation.
pub record IsChecked (facts : List (List Term)) (derivation : Derivation) (terms : List Term) : Type 0 where
  -- what each line says
  pub said : List (List Term)
  pub one_each : length said ≡ length derivation.lines
  pub each : (place : ℕ) (line : Line) → slice_get derivation.lines place ≡ Some line
      → Says derivation.sizes facts said (place + 1) line (said_by said (place + 1))
  pub last : slice_get said (length said - 1) ≡ Some terms
  pub refutation : is_refutation (root_of derivation.nodes) terms ≡ true
