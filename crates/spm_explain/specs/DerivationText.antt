-- The text of a derivation: a line for each of its lines, numbered from 1, and that no selection exists. `choices` has the texts
-- of each node's choices, in their order. In a derivation that is checked each number is a node's, and each choice has a text.
use Rattle.std.specs.Prelude.{ℕ, ◌+◌, ◌==◌, List, [], ◌∷◌, ◌++◌, codes, slice_get, slice_index_or, if◌then◌else◌}
use Rattle.std.specs.Fmt.{decimal}
use Rattle.std.specs.List.{join_by}
use Rattle.std.specs.Result.{result_unwrap_or}
use Rattle.pub_set.specs.Runs.{runs_of}
use Rattle.pub_set.specs.declared.runs.Run.{Run}
use Rattle.pub_term.specs.declared.node.NodeName.{NodeName}
use Rattle.pub_term.specs.declared.term.Term.{Term}
use Rattle.pub_proof.specs.Checked.{lines_after}
use Rattle.pub_proof.specs.Checks.{own_facts}
use Rattle.pub_proof.specs.ProofText.{name_text}
use Rattle.pub_proof.specs.declared.derivation.Derivation.{Derivation}
use Rattle.pub_proof.specs.declared.derivation.Line.{Line}
use Rattle.pub_proof.specs.declared.derivation.Line.TheVariants.{Fact, Resolve}
use Rattle.spm_explain.specs.Sentence.{sentence}

-- a run by the texts of its first and its last choice; one choice by its text
abbrev pub run_text : List (List ℕ) → Run → List ℕ
run_text texts run = if run.first == run.last then slice_index_or texts run.first []
    else slice_index_or texts run.first [] ++ (codes ".." ++ slice_index_or texts run.last [])

-- a term: the name of its node, and the maximal runs of its set
abbrev pub term_text : List NodeName → List (List (List ℕ)) → Term → List ℕ
term_text nodes choices term = name_text (slice_get nodes term.node)
    ++ (codes " " ++ join_by (run_text (slice_index_or choices term.node [])) (codes "|") (runs_of term.choices))

-- why a line holds: the cause of a fact, or the lines that it resolves, and the node
abbrev pub reason_text : List NodeName → Line → List ℕ
reason_text nodes (Fact incompat cause) = sentence cause
reason_text nodes (Resolve first second on) =
    codes "from " ++ (decimal first ++ (codes " and " ++ (decimal second ++ (codes " on " ++ name_text (slice_get nodes on)))))

-- the line with this number, and the terms that it says
abbrev pub line_text : List NodeName → List (List (List ℕ)) → ℕ → Line → List Term → List ℕ
line_text nodes choices number line terms = decimal number ++ (codes ". " ++ (reason_text nodes line
    ++ (codes ": [" ++ (join_by (term_text nodes choices) (codes ", ") terms ++ (codes "]" ++ 10 ∷ [])))))

-- the lines from this number on, with what they say
abbrev pub lines_text : List NodeName → List (List (List ℕ)) → ℕ → List Line → List (List Term) → List ℕ
lines_text nodes choices number [] said = []
lines_text nodes choices number (line ∷ lines) [] = []
lines_text nodes choices number (line ∷ lines) (terms ∷ said) =
    line_text nodes choices number line terms ++ lines_text nodes choices (number + 1) lines said

-- what each line says; no line, where one is bad
abbrev pub said_in : Derivation → List (List Term)
said_in derivation = result_unwrap_or (lines_after derivation.sizes (own_facts derivation.lines) [] derivation.lines) []

abbrev pub derivation_text : Derivation → List (List (List ℕ)) → List ℕ
derivation_text derivation choices = lines_text derivation.nodes choices 1 derivation.lines (said_in derivation)
    ++ (codes "So no selection exists." ++ 10 ∷ [])
