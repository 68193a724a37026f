-- A checked derivation: each line is a fact that is given, or the resolution of two earlier lines, and the last line is a
-- refutation. The first bad line is the refusal.
use Rattle.std.specs.Prelude.{ℕ, ◌+◌, ◌-◌, ◌==◌, ◌&&◌, List, [], ◌∷◌, ◌++◌, length, not, nat_lt, Bool, true, slice_get, slice_index, Option, Some, None, Result, Ok, Err, if◌then◌else◌}
use Rattle.std.specs.List.{list_all, list_any}
use Rattle.pub_set.specs.Choices.{ChoiceSet, do_meet, is_empty, is_whole}
use Rattle.pub_term.specs.Resolvent.{resolvent}
use Rattle.pub_term.specs.Term.{set_at}
use Rattle.pub_term.specs.declared.node.NodeName.{NodeName}
use Rattle.pub_term.specs.declared.term.Term.{Term}
use Rattle.pub_proof.specs.Order.{is_above}
use Rattle.pub_proof.specs.Root.{is_refutation, root_of}
use Rattle.pub_proof.specs.Same.{same_terms}
use Rattle.pub_proof.specs.declared.derivation.Line.{Line}
use Rattle.pub_proof.specs.declared.derivation.Line.TheVariants.{Fact, Resolve}
use Rattle.pub_proof.specs.declared.fault.ProofKind.{ProofKind}
use Rattle.pub_proof.specs.declared.fault.ProofKind.TheVariants.{NoSuchLine, NoSuchNode, BadSet, NotAFact, NotOn, NotARefutation}

-- the nodes strictly ascend
abbrev pub do_ascend : Option ℕ → List Term → Bool
do_ascend before [] = true
do_ascend before (term ∷ terms) = is_above before term.node && do_ascend (Some term.node) terms

-- a set of its node's size, neither empty nor whole
abbrev pub is_proper : List ℕ → Term → Bool
is_proper sizes term = term.choices.size == slice_index sizes term.node && not (is_empty term.choices) && not (is_whole term.choices)

-- the fault of a line's terms: a node that there isn't; else a set of another size, an empty or a whole one, or nodes that
-- don't ascend
abbrev pub terms_fault : List ℕ → List Term → Option ProofKind
terms_fault sizes terms =
    if not (list_all (λ term. nat_lt term.node (length sizes)) terms) then Some NoSuchNode
    else if not (do_ascend None terms && list_all (is_proper sizes) terms) then Some BadSet
    else None

abbrev pub or_kind : {A : Type 0} → Option ProofKind → A → Result A ProofKind
or_kind (Some kind) answer = Err kind
or_kind None answer = Ok answer

-- a fact's line: well formed, and one of the facts
abbrev pub fact_fault : List ℕ → List (List Term) → List Term → Option ProofKind → Option ProofKind
fact_fault sizes facts terms (Some kind) = Some kind
fact_fault sizes facts terms None = if list_any (same_terms terms) facts then None else Some NotAFact

abbrev pub fact_in : List ℕ → List (List Term) → List Term → Result (List Term) ProofKind
fact_in sizes facts terms = or_kind (fact_fault sizes facts terms (terms_fault sizes terms)) terms

-- the sets of two lines on a node that isn't resolved meet, where both have one
abbrev pub do_sets_meet : Option ChoiceSet → Option ChoiceSet → Bool
do_sets_meet None second = true
do_sets_meet (Some first) None = true
do_sets_meet (Some first) (Some second) = do_meet first second

abbrev pub meets_in : List Term → ℕ → Term → Bool
meets_in second on term = if term.node == on then true else do_sets_meet (Some term.choices) (set_at second term.node)

abbrev pub has_node : List Term → ℕ → Bool
has_node terms node = list_any (λ term. term.node == node) terms

-- both lines have a term on the node, and their other shared sets meet
abbrev pub can_resolve : List Term → List Term → ℕ → Bool
can_resolve first second on = has_node first on && has_node second on && list_all (meets_in second on) first

abbrev pub resolved_in : ℕ → Option (List Term) → Option (List Term) → ℕ → Result (List Term) ProofKind
resolved_in nodes None second on = Err NoSuchLine
resolved_in nodes (Some first) None on = Err NoSuchLine
resolved_in nodes (Some first) (Some second) on =
    if not (nat_lt on nodes) then Err NoSuchNode
    else if can_resolve first second on then Ok (resolvent first second on) else Err NotOn

-- the line with this number, counted from 1, of those before
abbrev pub earlier_line : List (List Term) → ℕ → Option (List Term)
earlier_line earlier number = if number == 0 then None else slice_get earlier (number - 1)

-- what a line says, given the lines before it, or its fault
abbrev pub line_in : List ℕ → List (List Term) → List (List Term) → Line → Result (List Term) ProofKind
line_in sizes facts earlier (Fact incompat cause) = fact_in sizes facts incompat.terms
line_in sizes facts earlier (Resolve first second on) =
    resolved_in (length sizes) (earlier_line earlier first) (earlier_line earlier second) on

pub record LineFault : Type 0 where
  -- counted from 1; 0 where there are no lines
  pub line : ℕ
  pub kind : ProofKind

abbrev pub at_line : {A : Type 0} → ℕ → Result A ProofKind → Result A LineFault
at_line line (Ok answer) = Ok answer
at_line line (Err kind) = Err (record { line = line; kind = kind })

infixl 10 ◌>>=◌
abbrev pub ◌>>=◌ : {A B : Type 0} → Result A LineFault → (A → Result B LineFault) → Result B LineFault
(Ok answer) >>= f = f answer
(Err fault) >>= f = Err fault

-- what all lines say, behind those before them
abbrev pub lines_after : List ℕ → List (List Term) → List (List Term) → List Line → Result (List (List Term)) LineFault
lines_after sizes facts earlier [] = Ok earlier
lines_after sizes facts earlier (line ∷ lines) =
    at_line (length earlier + 1) (line_in sizes facts earlier line) >>= λ terms. lines_after sizes facts (earlier ++ terms ∷ []) lines

abbrev pub last_in : Option ℕ → ℕ → Option (List Term) → Result (List Term) LineFault
last_in root count None = Err (record { line = 0; kind = NotARefutation })
last_in root count (Some terms) = if is_refutation root terms then Ok terms else Err (record { line = count; kind = NotARefutation })

-- what the last line says, or the first bad line
abbrev pub checked_of : List NodeName → List ℕ → List (List Term) → List Line → Result (List Term) LineFault
checked_of nodes sizes facts lines = lines_after sizes facts [] lines >>= λ all. last_in (root_of nodes) (length all) (earlier_line all (length all))
