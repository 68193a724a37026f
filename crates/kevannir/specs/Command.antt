-- What the program does with its words, by the first of them.
use Rattle.std.specs.Prelude.{ℕ, List, [], ◌∷◌, Bool, true, false, codes}
use Rattle.std.specs.Str.{bytes_eq}
use Rattle.pub_term.specs.declared.cause.Cause.{Cause}
use Rattle.spm_outside.specs.Desk.{DeskState}
use Rattle.spm_outside.specs.Sink.{SinkState}
use Rattle.spm_tool.specs.Still.{Still}
use Rattle.spm_tool.specs.Resolves.{Resolves}

abbrev pub is_resolve : List (List ℕ) → Bool
is_resolve [] = false
is_resolve (word ∷ words) = bytes_eq word (codes "resolve")

-- `resolve`, or a command that waits for nobody; `same` says which causes are equal
abbrev pub AnswersBy : Bool → (Cause → Cause → Bool) → List (List ℕ) → DeskState → DeskState → SinkState → SinkState → ℕ → Type 0
AnswersBy true same words before after sink_before sink_after status = Resolves same words before after sink_before sink_after status
AnswersBy false same words before after sink_before sink_after status = Still words before after sink_before sink_after status

abbrev pub Answers : (Cause → Cause → Bool) → List (List ℕ) → DeskState → DeskState → SinkState → SinkState → ℕ → Type 0
Answers same words before after sink_before sink_after status =
    AnswersBy (is_resolve words) same words before after sink_before sink_after status
