-- The lines of a derivation, newest first: facts, and resolutions of two earlier lines, which are numbered from the oldest, 1.
use Rattle.std.specs.Prelude.{◌≡◌, ◌≢◌, ℕ, zero, suc, ◌<◌, ◌+◌, ◌==◌, ◌&&◌, List, [], ◌∷◌, length, Bool, false, slice_index_or, Contains, Option, Some, None, if◌then◌else◌}
use Rattle.pub_term.specs.Resolvent.{CanResolve, resolvent}
use Rattle.pub_term.specs.TermLaws.{same_term}
use Rattle.std.specs.Cmp.Lexicographic.{pointwise}
use Rattle.pub_term.specs.declared.cause.Cause.{Cause}
use Rattle.pub_term.specs.declared.term.Term.{Term}
use Rattle.pub_trail.specs.Invariant.{IsFormed}
use Rattle.pub_trail.specs.Turn.{State, Step, is_refutation, no_origin}
use Rattle.pub_trail.specs.declared.origin.Origin.{Origin}
use Rattle.pub_trail.specs.declared.origin.Origin.TheVariants.{OfConflict, OfLoad}

-- each step resolves what the ones before made, which is no refutation yet, with the incompatibility of its number, and never on the root
abbrev pub IsChain : List (List Term) → List Term → List Step → List Term → Type 0
IsChain incompats terms [] final = terms ≡ final
IsChain incompats terms (step ∷ steps) final =
    (step.node ≢ 0) × (is_refutation terms ≡ false) × CanResolve terms (slice_index_or incompats step.number []) step.node
    × IsChain incompats (resolvent terms (slice_index_or incompats step.number []) step.node) steps final

-- a line: a fact as it was given, or the resolution of two earlier lines on a node
pub data Line : Type 0 where
  Given : List Term → Cause → Line
  Resolves : ℕ → ℕ → ℕ → Line

-- a line with its terms
pub record Says : Type 0 where
  pub line : Line
  pub terms : List Term

-- what the line of a number says
abbrev pub said : List Says → ℕ → Option (List Term)
said [] number = None
said (says ∷ before) number = if number == length before + 1 then Some says.terms else said before number

-- both lines are there and can be resolved, and these terms are their resolution
pub record IsResolution (sizes : List ℕ) (before : List Says) (first second on : ℕ) (terms : List Term) : Type 0 where
  pub a : List Term
  pub b : List Term
  pub first_said : said before first ≡ Some a
  pub second_said : said before second ≡ Some b
  pub can : CanResolve a b on
  pub is : terms ≡ resolvent a b on

-- what a line says: the fact, or the resolution
abbrev pub IsLine : List ℕ → List (List Term) → List Says → Line → List Term → Type 0
IsLine sizes facts before (Given given cause) terms = (terms ≡ given) × Contains facts terms × IsFormed sizes terms
IsLine sizes facts before (Resolves first second on) terms = IsResolution sizes before first second on terms

-- each line is a fact, or resolves two earlier lines
abbrev pub AreLines : List ℕ → List (List Term) → List Says → Type 0
AreLines sizes facts [] = Unit {0}
AreLines sizes facts (says ∷ before) = IsLine sizes facts before says.line says.terms × AreLines sizes facts before

-- none is a refutation
abbrev pub ArePlain : List Says → Type 0
ArePlain [] = Unit {0}
ArePlain (says ∷ before) = (is_refutation says.terms ≡ false) × ArePlain before

-- ---- writing

-- a fact with equal terms and an equal cause, or a resolution of the same lines on the same node
abbrev pub same_line : (Cause → Cause → Bool) → Line → Line → Bool
same_line same (Given first why) (Given second other) = pointwise same_term first second && same why other
same_line same (Given first why) (Resolves a b on) = false
same_line same (Resolves a b on) (Given second why) = false
same_line same (Resolves a b on) (Resolves c d other) = a == c && b == d && on == other

-- the number of a line that is written already
abbrev pub written : (Cause → Cause → Bool) → List Says → Line → Option ℕ
written same [] line = None
written same (says ∷ before) line = if same_line same says.line line then Some (length before + 1) else written same before line

-- the lines, and the number of the one that was written or found
pub record Put : Type 0 where
  pub lines : List Says
  pub number : ℕ

-- a line that is written already is cited; another comes behind the lines
abbrev pub put_found : List Says → Line → List Term → Option ℕ → Put
put_found lines line terms (Some number) = record { lines = lines; number = number }
put_found lines line terms None = record { lines = record { line = line; terms = terms } ∷ lines; number = length lines + 1 }

-- a line, where it isn't written already
abbrev pub put : (Cause → Cause → Bool) → List Says → Line → List Term → Put
put same lines line terms = put_found lines line terms (written same lines line)

-- the steps from a line that says these terms
abbrev pub put_steps : (Cause → Cause → Bool) → List (List Term) → (ℕ → List Says → Put) → List Term → List Step → Put → Put
put_steps same incompats writer terms [] start = start
put_steps same incompats writer terms (step ∷ steps) start =
    let second = writer step.number start.lines in
    let next = resolvent terms (slice_index_or incompats step.number []) step.node in
    put_steps same incompats writer next steps (put same second.lines (Resolves start.number second.number step.node) next)

-- a fact is one line; what was learned is written from the incompatibility in conflict on, step by step
abbrev pub put_origin : (Cause → Cause → Bool) → List (List Term) → (ℕ → List Says → Put) → ℕ → List Says → Origin → Put
put_origin same incompats writer number lines (OfLoad cause) =
    put same lines (Given (slice_index_or incompats number []) cause) (slice_index_or incompats number [])
put_origin same incompats writer number lines (OfConflict first steps) =
    put_steps same incompats writer (slice_index_or incompats first []) steps (writer first lines)

-- an incompatibility with what it comes from, where at most so many stand behind one another
abbrev pub write : (Cause → Cause → Bool) → List (List Term) → List Origin → ℕ → ℕ → List Says → Put
write same incompats origins zero number lines = record { lines = lines; number = 0 }
write same incompats origins (suc depth) number lines =
    put_origin same incompats (write same incompats origins depth) number lines (slice_index_or origins number no_origin)

-- ---- what is written

-- the steps cite earlier incompatibilities
abbrev pub AreBelow : ℕ → List Step → Type 0
AreBelow number [] = Unit {0}
AreBelow number (step ∷ steps) = (step.number < number) × AreBelow number steps

-- each incompatibility is a fact, or is made from earlier ones
abbrev pub IsOrigin : List (List Term) → List (List Term) → ℕ → Origin → Type 0
IsOrigin facts incompats number (OfLoad cause) = Contains facts (slice_index_or incompats number [])
IsOrigin facts incompats number (OfConflict first steps) =
    (first < number) × AreBelow number steps × (is_refutation (slice_index_or incompats first []) ≡ false)
    × (is_refutation (slice_index_or incompats number []) ≡ false) × IsChain incompats (slice_index_or incompats first []) steps (slice_index_or incompats number [])

-- each incompatibility is formed and comes from where its origin says
pub record AreOrigins (sizes : List ℕ) (facts incompats : List (List Term)) (origins : List Origin) : Type 0 where
  pub formed : (number : ℕ) → number < length incompats → IsFormed sizes (slice_index_or incompats number [])
  pub each : (number : ℕ) → number < length incompats → IsOrigin facts incompats number (slice_index_or origins number no_origin)

-- what the origins are at each moment, where these are the facts of the loads
pub record IsHistory (facts : List (List Term)) (state : State) : Type 0 where
  pub origins : length state.origins ≡ length state.incompats
  pub are : AreOrigins state.sizes facts state.incompats state.origins
  -- each fact stands among the incompatibilities
  pub given : (fact : List Term) → Contains facts fact → Contains state.incompats fact

-- the lines behind a refutation
abbrev pub derivation : (Cause → Cause → Bool) → State → ℕ → List Step → Put
derivation same state first steps =
    put_origin same state.incompats (write same state.incompats state.origins (length state.incompats)) (length state.incompats) [] (OfConflict first steps)

-- the last line says these terms, and all are checked
pub record IsEnd (sizes : List ℕ) (facts : List (List Term)) (final : List Term) (after : Put) : Type 0 where
  pub are : AreLines sizes facts after.lines
  pub before : List Says
  pub last : Says
  pub split : after.lines ≡ last ∷ before
  pub says : last.terms ≡ final
