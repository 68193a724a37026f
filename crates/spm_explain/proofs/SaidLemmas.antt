-- What a derivation without a bad line has: what each line says, on nodes that there are, with sets of their nodes' sizes.
use Rattle.std.proofs.Common.{◌≡◌, ℕ, ◌+◌, ◌<◌, List, [], ◌∷◌, ◌++◌, length, Bool, true, false, not, nat_lt, Option, Some, None, Result, Ok, Err, ap, refl, arith, if◌then◌else◌}
use Rattle.std.specs.List.{All}
use Rattle.std.proofs.lemmas.Bool.{ltb-true}
use Rattle.std.proofs.lemmas.List.{length-map, length_push}
use Rattle.std.proofs.lemmas.List.Elements.{All-cons, All-nil}
use Rattle.pub_set.specs.Choices.{ChoiceSet, IsSet}
use Rattle.pub_set.specs.Runs.{AreRuns, runs_of}
use Rattle.pub_set.specs.declared.runs.Run.{Run}
use Rattle.pub_set.proofs.SetLemmas.{AreRuns-runs_of}
use Rattle.pub_term.specs.Sized.{AreSized}
use Rattle.pub_term.specs.declared.term.Incompat.{Incompat}
use Rattle.pub_term.specs.declared.term.Term.{Term}
use Rattle.pub_proof.specs.Checked.{◌>>=◌, at_line, earlier_line, line_in, lines_after, resolved_in}
use Rattle.pub_proof.specs.Checks.{terms_of}
use Rattle.pub_proof.specs.Formed.{AreFormed}
use Rattle.pub_proof.specs.declared.derivation.Line.{Line}
use Rattle.pub_proof.specs.declared.derivation.Line.TheVariants.{Fact, Resolve}
use Rattle.pub_proof.specs.declared.fault.ProofKind.{ProofKind}
use Rattle.pub_proof.specs.declared.fault.ProofKind.TheVariants.{NoSuchNode}
use Rattle.spm_explain.specs.Told.{IsOnNode, IsRunBelow, IsSizedTerm}

-- a test that was passed
passed : {A : Type 0} (test : Bool) (kind : ProofKind) (answer : Result A ProofKind) (terms : A)
    → (if not test then Err kind else answer) ≡ Ok terms → test ≡ true
passed true kind answer terms says = refl
passed false kind answer terms says = cc

-- a line that resolves is on a node that there is
on_from : (nodes : ℕ) (first second : Option (List Term)) (on : ℕ) (terms : List Term)
    → resolved_in nodes first second on ≡ Ok terms → on < nodes
on_from nodes None second on terms says = cc
on_from nodes (Some first) None on terms says = cc
on_from nodes (Some first) (Some second) on terms says = ltb-true on nodes (passed (nat_lt on nodes) NoSuchNode _ terms says)

line_on : (sizes : List ℕ) (facts earlier : List (List Term)) (line : Line) (terms : List Term)
    → line_in sizes facts earlier line ≡ Ok terms → IsOnNode (length sizes) line
line_on sizes facts earlier (Fact incompat cause) terms says = tt
line_on sizes facts earlier (Resolve first second on) terms says =
    on_from (length sizes) (earlier_line earlier first) (earlier_line earlier second) on terms says

-- what a line says, and what the lines behind it say
record IsNext (sizes : List ℕ) (facts earlier : List (List Term)) (lines : List Line)
    (answer : Result (List Term) ProofKind) (all : List (List Term)) : Type 0 where
  terms : List Term
  here : answer ≡ Ok terms
  rest : lines_after sizes facts (earlier ++ terms ∷ []) lines ≡ Ok all

next_from : (sizes : List ℕ) (facts earlier : List (List Term)) (lines : List Line) (number : ℕ)
    (answer : Result (List Term) ProofKind) (all : List (List Term))
    → (at_line number answer >>= λ terms. lines_after sizes facts (earlier ++ terms ∷ []) lines) ≡ Ok all
    → IsNext sizes facts earlier lines answer all
next_from sizes facts earlier lines number (Ok terms) all says = record { terms = terms; here = refl; rest = says }
next_from sizes facts earlier lines number (Err kind) all says = cc

-- there is a list of terms for each line
length_said : (sizes : List ℕ) (facts earlier : List (List Term)) (lines : List Line) (all : List (List Term))
    → lines_after sizes facts earlier lines ≡ Ok all → length all ≡ length earlier + length lines
length_said sizes facts earlier [] all says =
    let same : earlier ≡ all = cc in
    omega (arith, ap length same)
length_said sizes facts earlier (line ∷ lines) all says =
    let next = next_from sizes facts earlier lines (length earlier + 1) (line_in sizes facts earlier line) all says in
    omega (arith, length_said sizes facts (earlier ++ next.terms ∷ []) lines all next.rest, length_push earlier next.terms)

pub one_each : (sizes : List ℕ) (facts : List (List Term)) (lines : List Line) (said : List Incompat)
    → lines_after sizes facts [] lines ≡ Ok (terms_of said) → length said ≡ length lines
one_each sizes facts lines said says =
    omega (
      arith,
      length_said sizes facts [] lines (terms_of said) says,
      length-map said (λ (incompat : Incompat). incompat.terms),
    )

-- each line is on a node that there is
pub lines_on : (sizes : List ℕ) (facts earlier : List (List Term)) (lines : List Line) (all : List (List Term))
    → lines_after sizes facts earlier lines ≡ Ok all → All (IsOnNode (length sizes)) lines
lines_on sizes facts earlier [] all says = All-nil (IsOnNode (length sizes))
lines_on sizes facts earlier (line ∷ lines) all says =
    let next = next_from sizes facts earlier lines (length earlier + 1) (line_in sizes facts earlier line) all says in
    All-cons (IsOnNode (length sizes)) line lines (line_on sizes facts earlier line next.terms next.here)
    (lines_on sizes facts (earlier ++ next.terms ∷ []) lines all next.rest)

-- the sets of a line have their nodes' sizes
sized_terms : (sizes : List ℕ) (terms : List Term) → AreSized sizes terms → All (IsSizedTerm sizes) terms
sized_terms sizes [] sized = All-nil (IsSizedTerm sizes)
sized_terms sizes (term ∷ terms) sized = All-cons (IsSizedTerm sizes) term terms sized.0 (sized_terms sizes terms sized.1)

pub sized_said : (sizes : List ℕ) (said : List Incompat) → AreFormed sizes (terms_of said)
    → All (λ (incompat : Incompat). All (IsSizedTerm sizes) incompat.terms) said
sized_said sizes [] formed = All-nil (λ (incompat : Incompat). All (IsSizedTerm sizes) incompat.terms)
sized_said sizes (incompat ∷ said) formed =
    All-cons (λ (other : Incompat). All (IsSizedTerm sizes) other.terms) incompat said
    (sized_terms sizes incompat.terms formed.0.sized) (sized_said sizes said formed.1)

-- runs that end before a limit
runs_below_from : (low size : ℕ) (runs : List Run) → AreRuns low (size + 1) runs → All (IsRunBelow size) runs
runs_below_from low size [] up = All-nil (IsRunBelow size)
runs_below_from low size (run ∷ runs) up =
    All-cons (IsRunBelow size) run runs (omega arith, omega arith) (runs_below_from (run.last + 2) size runs up.3)

-- the choices of a set's runs are below its size
pub runs_of-below : (set : ChoiceSet) → IsSet set → All (IsRunBelow set.size) (runs_of set)
runs_of-below set is = runs_below_from 0 set.size (runs_of set) (AreRuns-runs_of set is)
