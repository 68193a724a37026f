-- A derivation that is checked line by line is checked as a whole, and what that means.
use Rattle.std.proofs.Common.{◌≡◌, ◌≢◌, ◌⊎◌, ℕ, zero, suc, ◌+◌, ◌<◌, ◌-◌, ◌==◌, Bool, true, cond, not, ◌&&◌, nat_eq, nat_lt, List, [], ◌∷◌, ◌++◌, length, slice_get, slice_index, get_or, Option, Some, None, IsSome, Result, Ok, Err, IfOk, is_ok, is_some, refl, sym, ap, ap₂, ◌∙◌, subst, inl, inr, arith, ne_eqb, eq-eqb, append_assoc, append-nil, length-append}
use Rattle.std.specs.Str.{bytes_eq}
use Rattle.std.specs.List.{Contains, list_all, list_any}
use Rattle.std.proofs.lemmas.Bool.{and_from, and_parts, cases_Bool, cases_eq, cond-false, cond-true, eqb-true, false≢true, lt-ltb, ltb-true, or_left, or_right}
use Rattle.std.proofs.lemmas.Map.Views.{Contains-from_any}
use Rattle.std.proofs.lemmas.Option.{get_or_from_slice_get, slice_get-get_or, slice_get_within}
use Rattle.pub_set.specs.Choices.{ChoiceSet, do_meet, has, is_empty, is_whole, same_set}
use Rattle.pub_term.specs.Resolvent.{resolvent}
use Rattle.pub_term.specs.Sized.{AreSized}
use Rattle.pub_term.specs.TermLaws.{same_term}
use Rattle.pub_term.specs.Term.{AreNodesAscending, AreProper, set_at, violates}
use Rattle.pub_term.specs.declared.node.NodeName.{NodeName}
use Rattle.pub_term.specs.declared.term.Incompat.{Incompat}
use Rattle.pub_term.specs.declared.term.Term.{Term}
use Rattle.pub_term.proofs.AboveLemmas.{set_at-tail}
use Rattle.pub_term.proofs.ResolventLemmas.{AreNodesAscending-resolvent}
use Rattle.pub_term.proofs.SizedLemmas.{sized_at, sized_resolvent}
use Rattle.pub_term.proofs.SoundLemmas.{one_violated}
use Rattle.pub_proof.specs.Checked.{◌>>=◌, LineFault, at_line, can_resolve, checked_of, do_ascend, do_sets_meet, earlier_line, fact_fault, fact_in, has_node, is_proper, last_in, line_in, lines_after, meets_in, or_kind, resolved_in, terms_fault}
use Rattle.pub_proof.specs.Checks.{Checks}
use Rattle.pub_proof.specs.Formed.{IsFormed}
use Rattle.pub_proof.specs.IsChecked.{IsChecked, IsEarlier, IsResolution, Says, said_by}
use Rattle.pub_proof.specs.Order.{is_above}
use Rattle.pub_proof.specs.Root.{has_root_choice, is_refutation, root_of}
use Rattle.pub_proof.specs.Same.{same_terms}
use Rattle.pub_proof.specs.Sound.{Follows, RefutesRoot}
use Rattle.pub_proof.specs.declared.derivation.Derivation.{Derivation}
use Rattle.pub_proof.specs.declared.derivation.Line.{Line}
use Rattle.pub_proof.specs.declared.derivation.Line.TheVariants.{Fact, Resolve}
use Rattle.pub_proof.specs.declared.fault.ProofFault.{ProofFault}
use Rattle.pub_proof.specs.declared.fault.ProofKind.{ProofKind}
use Rattle.pub_proof.specs.declared.fault.ProofKind.TheVariants.{NoSuchNode, BadSet, NotAFact, NotOn, NotARefutation}
use Rattle.pub_proof.proofs.FormedLemmas.{and_three, can_resolve_from, earlier_place, formed_from, same_all, some_at}

-- ---- results

-- an answer, or a fault
pub result_cases : {A E : Type 0} (result : Result A E) → ((answer : A) × (result ≡ Ok answer)) ⊎ ((fault : E) × (result ≡ Err fault))
result_cases (Ok answer) = inl (answer, refl)
result_cases (Err fault) = inr (fault, refl)

-- an answer without a fault
ok_part : {A : Type 0} (kind : Option ProofKind) (answer terms : A) → or_kind kind answer ≡ Ok terms → (kind ≡ None) × (answer ≡ terms)
ok_part None answer terms says = (refl, cc)
ok_part (Some kind) answer terms says = absurd (false≢true (ap is_ok says))

-- ---- a fact's line

-- numbers are told equal to themselves
same_refl_list : (xs : List ℕ) → bytes_eq xs xs ≡ true
same_refl_list [] = refl
same_refl_list (x ∷ xs) = and_from (nat_eq x x) (bytes_eq xs xs) (eq-eqb x x refl) (same_refl_list xs)

-- terms are told equal to themselves
same_refl : (terms : List Term) → same_terms terms terms ≡ true
same_refl [] = refl
same_refl (term ∷ terms) =
    and_from (same_term term term) (same_terms terms terms)
    (and_from (term.node == term.node) (same_set term.choices term.choices) (eq-eqb term.node term.node refl)
    (and_from (term.choices.size == term.choices.size) (bytes_eq term.choices.members term.choices.members) (eq-eqb term.choices.size term.choices.size refl)
    (same_refl_list term.choices.members)))
    (same_refl terms)

-- terms at a place of the facts are one of them
any_at : (terms : List Term) (facts : List (List Term)) (i : ℕ) → i < length facts → get_or facts i terms ≡ terms → list_any (same_terms terms) facts ≡ true
any_at terms [] i within at = absurd (omega arith)
any_at terms (fact ∷ facts) zero within at =
    or_left (same_terms terms fact) (list_any (same_terms terms) facts) (ap (same_terms terms) at ∙ same_refl terms)
any_at terms (fact ∷ facts) (suc i) within at =
    or_right (same_terms terms fact) (list_any (same_terms terms) facts) (any_at terms facts i (omega arith) at)

-- the first node is above the one before
abbrev is_before : Option ℕ → List Term → Bool
is_before before [] = true
is_before before (term ∷ terms) = is_above before term.node

-- nothing stands before a first node
before_none : (terms : List Term) → is_before None terms ≡ true
before_none [] = refl
before_none (term ∷ terms) = refl

-- formed terms pass the tests of a fact
ascend_from : (before : Option ℕ) (terms : List Term) → AreNodesAscending terms → is_before before terms ≡ true → do_ascend before terms ≡ true
ascend_from before [] up first = refl
ascend_from before (term ∷ []) up first = and_from (is_above before term.node) true first refl
ascend_from before (term ∷ next ∷ terms) up first =
    and_from (is_above before term.node) (do_ascend (Some term.node) (next ∷ terms)) first
    (ascend_from (Some term.node) (next ∷ terms) up.1 (lt-ltb term.node next.node up.0))

-- sized terms are on nodes that there are
all_known : (sizes : List ℕ) (terms : List Term) → AreSized sizes terms → list_all (λ (term : Term). nat_lt term.node (length sizes)) terms ≡ true
all_known sizes [] sized = refl
all_known sizes (term ∷ terms) sized =
    and_from (nat_lt term.node (length sizes)) (list_all (λ (t : Term). nat_lt t.node (length sizes)) terms) (lt-ltb term.node (length sizes) sized.0.0)
    (all_known sizes terms sized.1)

-- formed terms have proper sets
all_proper : (sizes : List ℕ) (terms : List Term) → AreSized sizes terms → AreProper terms → list_all (is_proper sizes) terms ≡ true
all_proper sizes [] sized proper = refl
all_proper sizes (term ∷ terms) sized proper =
    and_from (is_proper sizes term) (list_all (is_proper sizes) terms)
    (and_from (term.choices.size == slice_index sizes term.node && not (is_empty term.choices)) (not (is_whole term.choices))
    (and_from (term.choices.size == slice_index sizes term.node) (not (is_empty term.choices))
    (eq-eqb term.choices.size (slice_index sizes term.node) sized.0.1) (ap not proper.0)) (ap not proper.1))
    (all_proper sizes terms sized.1 proper.2)

-- formed terms have no fault
no_fault_from : (sizes : List ℕ) (terms : List Term) → IsFormed sizes terms → terms_fault sizes terms ≡ None
no_fault_from sizes terms formed =
    let known = list_all (λ (term : Term). nat_lt term.node (length sizes)) terms in
    let fine = do_ascend None terms && list_all (is_proper sizes) terms in
    let up : do_ascend None terms ≡ true = ascend_from None terms formed.incompat.ascending (before_none terms) in
    cond-false (not known) (Some NoSuchNode) _ (ap not (all_known sizes terms formed.sized))
    ∙ cond-false (not fine) (Some BadSet) None
    (ap not (and_from (do_ascend None terms) (list_all (is_proper sizes) terms) up (all_proper sizes terms formed.sized formed.incompat.proper)))

-- a fact's line without a fault
fact_fault_none : (sizes : List ℕ) (facts : List (List Term)) (terms : List Term) (fault : Option ProofKind) → fact_fault sizes facts terms fault ≡ None
    → (fault ≡ None) × (list_any (same_terms terms) facts ≡ true)
fact_fault_none sizes facts terms (Some kind) none = absurd (false≢true (sym (ap is_some none)))
fact_fault_none sizes facts terms None none =
    elim (cases_Bool (list_any (same_terms terms) facts)) [
      | inl there ↦ (refl, there)
      | inr absent ↦ absurd (false≢true (sym (ap is_some (sym (cond-false (list_any (same_terms terms) facts) None (Some NotAFact) absent) ∙ none))))
    ]

-- a fact's line says its terms just where they are a fact and formed
fact_says : (sizes : List ℕ) (facts : List (List Term)) (own terms : List Term) → fact_in sizes facts own ≡ Ok terms
    → (terms ≡ own) × Contains facts terms × IsFormed sizes terms
fact_says sizes facts own terms says =
    let parts = ok_part (fact_fault sizes facts own (terms_fault sizes own)) own terms says in
    let same = parts.1 in
    let here = fact_fault_none sizes facts own (terms_fault sizes own) parts.0 in (
      sym same,
      subst (Contains facts) same (Contains-from_any same_all own facts here.1),
      subst (IsFormed sizes) same (formed_from sizes own here.0),
    )

-- a fact's line that is one of the facts and formed says its terms
pub says_fact : (sizes : List ℕ) (facts : List (List Term)) (terms : List Term) → Contains facts terms → IsFormed sizes terms → fact_in sizes facts terms ≡ Ok terms
says_fact sizes facts terms there formed =
    ap (λ fault. or_kind (fact_fault sizes facts terms fault) terms) (no_fault_from sizes terms formed)
    ∙ ap (λ kind. or_kind kind terms)
    (cond-true (list_any (same_terms terms) facts) None (Some NotAFact) (any_at terms facts there.0 there.1 there.2))

-- ---- a resolution's line

-- a set on a node is a term's
pub has_from_some : (terms : List Term) (node : ℕ) → IsSome (set_at terms node) → has_node terms node ≡ true
has_from_some [] node some = absurd (false≢true some)
has_from_some (term ∷ terms) node some =
    elim (cases_eq term.node node) [
      | inl same ↦ or_left (term.node == node) (has_node terms node) (eq-eqb term.node node same)
      | inr differs ↦
          or_right (term.node == node) (has_node terms node)
          (has_from_some terms node (ap is_some (sym (set_at-tail term terms node differs)) ∙ some))
    ]

-- each term of the first line passes
meets_each : (first second : List Term) (on i : ℕ) (term : Term) (set : ChoiceSet) → list_all (meets_in second on) first ≡ true → i < length first
    → get_or first i term ≡ term → term.node ≢ on → set_at second term.node ≡ Some set → do_meet term.choices set ≡ true
meets_each [] second on i term set all within at differs there = absurd (omega arith)
meets_each (head ∷ first) second on zero term set all within at differs there =
    let parts = and_parts (meets_in second on head) (list_all (meets_in second on) first) all in
    let here = subst (λ (t : Term). meets_in second on t ≡ true) at parts.0 in
    ap (do_sets_meet (Some term.choices)) (sym there)
    ∙ sym (cond-false (term.node == on) true (do_sets_meet (Some term.choices) (set_at second term.node)) (ne_eqb term.node on differs)) ∙ here
meets_each (head ∷ first) second on (suc i) term set all within at differs there =
    let parts = and_parts (meets_in second on head) (list_all (meets_in second on) first) all in
    meets_each first second on i term set parts.1 (omega arith) at differs there

-- a set meets the other, where there is one
sets_meet : (own : ChoiceSet) (set : Option ChoiceSet) → ((there : ChoiceSet) → set ≡ Some there → do_meet own there ≡ true)
    → do_sets_meet (Some own) set ≡ true
sets_meet own None each = refl
sets_meet own (Some set) each = each set refl

-- a term that meets the other line's set passes
meets_one : (second : List Term) (on : ℕ) (term : Term) (set : Option ChoiceSet) → set_at second term.node ≡ set
    → (term.node ≢ on → (there : ChoiceSet) → set ≡ Some there → do_meet term.choices there ≡ true) → meets_in second on term ≡ true
meets_one second on term set at each =
    elim (cases_eq term.node on) [
      | inl same ↦ cond-true (term.node == on) true (do_sets_meet (Some term.choices) (set_at second term.node)) (eq-eqb term.node on same)
      | inr differs ↦
          cond-false (term.node == on) true (do_sets_meet (Some term.choices) (set_at second term.node)) (ne_eqb term.node on differs)
          ∙ ap (do_sets_meet (Some term.choices)) at ∙ sets_meet term.choices set (each differs)
    ]

-- terms that each meet the other line's set pass
pub all_meet : (first second : List Term) (on : ℕ)
    → ((term : Term) (set : ChoiceSet) → Contains first term → term.node ≢ on → set_at second term.node ≡ Some set → do_meet term.choices set ≡ true)
    → list_all (meets_in second on) first ≡ true
all_meet [] second on each = refl
all_meet (term ∷ first) second on each =
    and_from (meets_in second on term) (list_all (meets_in second on) first)
    (meets_one second on term (set_at second term.node) refl (λ differs set at. each term set (0, omega arith, refl) differs at))
    (all_meet first second on (λ other set there. each other set (suc there.0, omega (arith, there.1), there.2)))

-- what two lines that are there say together
abbrev cond_resolve : List Term → List Term → ℕ → Result (List Term) ProofKind
cond_resolve one other on = cond (can_resolve one other on) (Ok (resolvent one other on)) (Err NotOn)

-- what is known where a resolution's line says something
record IsFound (nodes : ℕ) (first second : Option (List Term)) (on : ℕ) (terms : List Term) : Type 0 where
  one : List Term
  other : List Term
  first_is : first ≡ Some one
  second_is : second ≡ Some other
  known : on < nodes
  can : can_resolve one other on ≡ true
  same : terms ≡ resolvent one other on

-- what a resolution's line found
found : (nodes : ℕ) (first second : Option (List Term)) (on : ℕ) (terms : List Term) → resolved_in nodes first second on ≡ Ok terms → IsFound nodes first second on terms
found nodes None second on terms says = absurd (false≢true (ap is_ok says))
found nodes (Some one) None on terms says = absurd (false≢true (ap is_ok says))
found nodes (Some one) (Some other) on terms says =
    elim (cases_Bool (nat_lt on nodes)) [
      | inl known ↦
          (let inner = sym (cond-false (not (nat_lt on nodes)) (Err NoSuchNode) (cond_resolve one other on) (ap not known)) ∙ says in
          elim (cases_Bool (can_resolve one other on)) [
            | inl can ↦
                (let e : Ok (resolvent one other on) ≡ Ok terms = sym (cond-true (can_resolve one other on) (Ok (resolvent one other on)) (Err NotOn) can) ∙ inner in
                record { one = one; other = other; first_is = refl; second_is = refl; known = ltb-true on nodes known; can = can; same = cc })
            | inr cannot ↦
                absurd (false≢true (ap is_ok (sym (cond-false (can_resolve one other on) (Ok (resolvent one other on)) (Err NotOn) cannot) ∙ inner)))
          ])
      | inr unknown ↦
          absurd (false≢true (ap is_ok (sym (cond-true (not (nat_lt on nodes)) (Err NoSuchNode) (cond_resolve one other on) (ap not unknown)) ∙ says)))
    ]

-- a resolution's line says the resolvent
pub says_resolvent : (nodes on : ℕ) (one other : List Term) → on < nodes → can_resolve one other on ≡ true
    → resolved_in nodes (Some one) (Some other) on ≡ Ok (resolvent one other on)
says_resolvent nodes on one other known can =
    cond-false (not (nat_lt on nodes)) (Err NoSuchNode) (cond_resolve one other on) (ap not (lt-ltb on nodes known))
    ∙ cond-true (can_resolve one other on) (Ok (resolvent one other on)) (Err NotOn) can

-- ---- the numbers of lines

-- a place among the first lines
pub get_front : (earlier rest : List (List Term)) (i : ℕ) → i < length earlier → slice_get (earlier ++ rest) i ≡ slice_get earlier i
get_front [] rest i within = absurd (omega arith)
get_front (terms ∷ earlier) rest zero within = refl
get_front (terms ∷ earlier) rest (suc i) within = get_front earlier rest i (omega arith)

-- a line's number among those so far is its number among all
earlier_is : (earlier rest : List (List Term)) (number : ℕ) (terms : List Term) → earlier_line earlier number ≡ Some terms
    → IsEarlier (length earlier + 1) number × (said_by (earlier ++ rest) number ≡ terms)
earlier_is earlier rest number terms at =
    elim (cases_eq number 0) [
      | inl none ↦ absurd (false≢true (ap is_some (sym (cond-true (number == 0) None (slice_get earlier (number - 1)) (eq-eqb number 0 none)) ∙ at)))
      | inr some ↦
          (let here : slice_get earlier (number - 1) ≡ Some terms
          = sym (cond-false (number == 0) None (slice_get earlier (number - 1)) (ne_eqb number 0 some)) ∙ at in
          let within = slice_get_within earlier (number - 1) terms here in (
            (omega arith, omega arith),
            get_or_from_slice_get (earlier ++ rest) (number - 1) terms [] (get_front earlier rest (number - 1) within ∙ here),
          ))
    ]

-- a number before the line's own is one of the lines so far
is_earlier : (earlier rest : List (List Term)) (number : ℕ) → IsEarlier (length earlier + 1) number
    → earlier_line earlier number ≡ Some (said_by (earlier ++ rest) number)
is_earlier earlier rest number before =
    let within : number - 1 < length earlier = omega arith in
    let here = slice_get-get_or earlier (number - 1) [] within in
    cond-false (number == 0) None (slice_get earlier (number - 1)) (ne_eqb number 0 (λ e. omega arith)) ∙ here
    ∙ ap Some (sym (get_or_from_slice_get (earlier ++ rest) (number - 1) (get_or earlier (number - 1) []) []
    (get_front earlier rest (number - 1) within ∙ here)))

-- ---- one line

-- a line's answer says it rightly
says_from : (sizes : List ℕ) (facts earlier rest : List (List Term)) (line : Line) (terms : List Term) → line_in sizes facts earlier line ≡ Ok terms
    → Says sizes facts (earlier ++ rest) (length earlier + 1) line terms
says_from sizes facts earlier rest (Fact incompat cause) terms says = fact_says sizes facts incompat.terms terms says
says_from sizes facts earlier rest (Resolve first second on) terms says =
    let f = found (length sizes) (earlier_line earlier first) (earlier_line earlier second) on terms says in
    let one = earlier_is earlier rest first f.one f.first_is in
    let other = earlier_is earlier rest second f.other f.second_is in
    let parts = and_three (has_node f.one on) (has_node f.other on) (list_all (meets_in f.other on) f.one) f.can in
    subst (λ xs. IsResolution sizes (length earlier + 1) first second on xs (said_by (earlier ++ rest) second) terms) (sym one.1)
    (subst (λ ys. IsResolution sizes (length earlier + 1) first second on f.one ys terms) (sym other.1)
    (record {
      first_earlier = one.0;
      second_earlier = other.0;
      known = f.known;
      first_on = some_at f.one on parts.0;
      second_on = some_at f.other on parts.1;
      meets = λ term set there differs at. meets_each f.one f.other on there.0 term set parts.2 there.1 there.2 differs at;
      resolvent = f.same;
    }))

-- a line that says it rightly is answered so
from_says : (sizes : List ℕ) (facts earlier rest : List (List Term)) (line : Line) (terms : List Term)
    → Says sizes facts (earlier ++ rest) (length earlier + 1) line terms → line_in sizes facts earlier line ≡ Ok terms
from_says sizes facts earlier rest (Fact incompat cause) terms says =
    let same = says.0 in
    ap (fact_in sizes facts) (sym same) ∙ says_fact sizes facts terms says.1 says.2
from_says sizes facts earlier rest (Resolve first second on) terms r =
    let one = said_by (earlier ++ rest) first in
    let other = said_by (earlier ++ rest) second in
    ap₂ (λ a b. resolved_in (length sizes) a b on) (is_earlier earlier rest first r.first_earlier) (is_earlier earlier rest second r.second_earlier)
    ∙ says_resolvent (length sizes) on one other r.known
    (and_from (has_node one on && has_node other on) (list_all (meets_in other on) one)
    (and_from (has_node one on) (has_node other on) (has_from_some one on r.first_on) (has_from_some other on r.second_on))
    (all_meet one other on r.meets))
    ∙ ap Ok (sym r.resolvent)

-- ---- all lines

-- each of these lines says what stands for it behind those before
abbrev EachSays : List ℕ → List (List Term) → List (List Term) → ℕ → List Line → Type 0
EachSays sizes facts all before lines = (place : ℕ) (line : Line) → slice_get lines place ≡ Some line
    → Says sizes facts all (before + place + 1) line (said_by all (before + place + 1))

-- what all lines say, behind those before
record AreSaid (sizes : List ℕ) (facts earlier : List (List Term)) (lines : List Line) (all : List (List Term)) : Type 0 where
  rest : List (List Term)
  whole : all ≡ earlier ++ rest
  one_each : length rest ≡ length lines
  each : EachSays sizes facts all (length earlier) lines

-- the line behind those so far
get_behind : (earlier : List (List Term)) (terms : List Term) (rest : List (List Term)) → get_or (earlier ++ terms ∷ rest) (length earlier) [] ≡ terms
get_behind [] terms rest = refl
get_behind (head ∷ earlier) terms rest = get_behind earlier terms rest

-- what it says
said_here : (earlier : List (List Term)) (terms : List Term) (rest : List (List Term)) → said_by (earlier ++ terms ∷ rest) (length earlier + 1) ≡ terms
said_here earlier terms rest =
    let place : length earlier + 1 - 1 ≡ length earlier = omega arith in
    ap (λ i. get_or (earlier ++ terms ∷ rest) i []) place ∙ get_behind earlier terms rest

-- the same line under an equal number and an equal list
says_at : (sizes : List ℕ) (facts all more : List (List Term)) (i j : ℕ) (line : Line) → all ≡ more → i ≡ j → Says sizes facts all i line (said_by all i)
    → Says sizes facts more j line (said_by more j)
says_at sizes facts all more i j line same at says =
    subst (λ n. Says sizes facts more n line (said_by more n)) at (subst (λ xs. Says sizes facts xs i line (said_by xs i)) same says)

-- there is no line past the end
no_line : {A : Type 0} (line : A) → ◌≡◌ {A = Option A} None (Some line) → ⊥
no_line line at = false≢true (ap is_some at)

-- what follows a line's answer
abbrev pub goes_on : List ℕ → List (List Term) → List (List Term) → List Line → Result (List Term) ProofKind → Result (List (List Term)) LineFault
goes_on sizes facts earlier lines answer = at_line (length earlier + 1) answer >>= λ terms. lines_after sizes facts (earlier ++ terms ∷ []) lines

-- one more line in front
said_next : (sizes : List ℕ) (facts earlier : List (List Term)) (line : Line) (lines : List Line) (all : List (List Term)) (terms : List Term) (rest : List (List Term))
    → all ≡ earlier ++ terms ∷ rest → line_in sizes facts earlier line ≡ Ok terms
    → EachSays sizes facts all (length (earlier ++ terms ∷ [])) lines → EachSays sizes facts all (length earlier) (line ∷ lines)
said_next sizes facts earlier line lines all terms rest whole says each zero other at =
    let same : line ≡ other = cc in
    let here = says_from sizes facts earlier (terms ∷ rest) line terms says in
    let there = subst (λ xs. Says sizes facts (earlier ++ terms ∷ rest) (length earlier + 1) line xs) (sym (said_here earlier terms rest)) here in
    subst (λ l. Says sizes facts all (length earlier + 0 + 1) l (said_by all (length earlier + 0 + 1))) same
    (says_at sizes facts (earlier ++ terms ∷ rest) all (length earlier + 1) (length earlier + 0 + 1) line (sym whole) (omega arith) there)
said_next sizes facts earlier line lines all terms rest whole says each (suc place) other at =
    says_at sizes facts all all (length (earlier ++ terms ∷ []) + place + 1) (length earlier + suc place + 1) other refl
    (omega (arith, length-append earlier (terms ∷ []))) (each place other at)

-- lines that are answered say it rightly
said_from : (sizes : List ℕ) (facts earlier : List (List Term)) (lines : List Line) (all : List (List Term)) → lines_after sizes facts earlier lines ≡ Ok all
    → AreSaid sizes facts earlier lines all
said_from sizes facts earlier [] all says =
    let e : earlier ≡ all = cc in
    record { rest = []; whole = sym e ∙ sym (append-nil earlier); one_each = refl; each = λ place line at. absurd (no_line line at) }
said_from sizes facts earlier (line ∷ lines) all says =
    elim (result_cases (line_in sizes facts earlier line)) [
      | inl answer ↦
          (let terms = answer.0 in
          let r = said_from sizes facts (earlier ++ terms ∷ []) lines all (sym (ap (goes_on sizes facts earlier lines) answer.1) ∙ says) in
          let whole : all ≡ earlier ++ terms ∷ r.rest = r.whole ∙ append_assoc earlier (terms ∷ []) r.rest in
          record { rest = terms ∷ r.rest; whole = whole; one_each = ap suc r.one_each; each = said_next sizes facts earlier line lines all terms r.rest whole answer.1 r.each })
      | inr fault ↦ absurd (false≢true (ap is_ok (sym (ap (goes_on sizes facts earlier lines) fault.1) ∙ says)))
    ]

-- lines that say it rightly are answered so
from_said : (sizes : List ℕ) (facts earlier rest : List (List Term)) (lines : List Line) → length rest ≡ length lines
    → EachSays sizes facts (earlier ++ rest) (length earlier) lines → lines_after sizes facts earlier lines ≡ Ok (earlier ++ rest)
from_said sizes facts earlier [] [] long each = ap Ok (sym (append-nil earlier))
from_said sizes facts earlier (terms ∷ rest) [] long each = absurd (omega arith)
from_said sizes facts earlier [] (line ∷ lines) long each = absurd (omega arith)
from_said sizes facts earlier (terms ∷ rest) (line ∷ lines) long each =
    let all = earlier ++ terms ∷ rest in
    let here = says_at sizes facts all all (length earlier + 0 + 1) (length earlier + 1) line refl (omega arith) (each 0 line refl) in
    let says : line_in sizes facts earlier line ≡ Ok terms
    = from_says sizes facts earlier (terms ∷ rest) line terms
    (subst (λ xs. Says sizes facts all (length earlier + 1) line xs) (said_here earlier terms rest) here) in
    ap (goes_on sizes facts earlier lines) says
    ∙ from_said sizes facts (earlier ++ terms ∷ []) rest lines (omega arith)
    (λ place next at.
    says_at sizes facts all ((earlier ++ terms ∷ []) ++ rest) (length earlier + suc place + 1) (length (earlier ++ terms ∷ []) + place + 1) next
    (sym (append_assoc earlier (terms ∷ []) rest)) (omega (arith, length-append earlier (terms ∷ []))) (each (suc place) next at))
    ∙ ap Ok (append_assoc earlier (terms ∷ []) rest)

-- ---- the last line

-- a last line that is taken is a refutation
last_some : (root : Option ℕ) (count : ℕ) (last : Option (List Term)) (terms : List Term) → last_in root count last ≡ Ok terms
    → (last ≡ Some terms) × (is_refutation root terms ≡ true)
last_some root count None terms says = absurd (false≢true (ap is_ok says))
last_some root count (Some last) terms says =
    elim (cases_Bool (is_refutation root last)) [
      | inl is ↦
          (let e : Ok last ≡ Ok terms
          = sym (cond-true (is_refutation root last) (Ok last) (Err (record { line = count; kind = NotARefutation })) is) ∙ says in
          let same : last ≡ terms = cc in
          (ap Some same, sym (ap (is_refutation root) same) ∙ is))
      | inr other ↦
          absurd (false≢true (ap is_ok
          (sym (cond-false (is_refutation root last) (Ok last) (Err (record { line = count; kind = NotARefutation })) other) ∙ says)))
    ]

-- ---- the whole

-- what is answered of the last line
abbrev ends : List NodeName → List (List Term) → Result (List Term) LineFault
ends nodes all = last_in (root_of nodes) (length all) (earlier_line all (length all))

-- what is known where a derivation was checked line by line
record IsPassed (nodes : List NodeName) (sizes : List ℕ) (facts : List (List Term)) (lines : List Line) (terms : List Term) : Type 0 where
  all : List (List Term)
  says : lines_after sizes facts [] lines ≡ Ok all
  last : slice_get all (length all - 1) ≡ Some terms
  refutation : is_refutation (root_of nodes) terms ≡ true

-- what is known of a derivation that passed
passed : (nodes : List NodeName) (sizes : List ℕ) (facts : List (List Term)) (lines : List Line) (terms : List Term)
    → checked_of nodes sizes facts lines ≡ Ok terms → IsPassed nodes sizes facts lines terms
passed nodes sizes facts lines terms checked =
    elim (result_cases (lines_after sizes facts [] lines)) [
      | inl answer ↦
          (let all = answer.0 in
          let last = last_some (root_of nodes) (length all) (earlier_line all (length all)) terms (sym (ap (λ r. r >>= ends nodes) answer.1) ∙ checked) in
          record { all = all; says = answer.1; last = (earlier_place all (length all) terms (sym last.0)).1; refutation = last.1 })
      | inr fault ↦ absurd (false≢true (ap is_ok (sym (ap (λ r. r >>= ends nodes) fault.1) ∙ checked)))
    ]

-- checked line by line, it is checked as a whole
pub whole_from_lines : (facts : List (List Term)) (derivation : Derivation) (terms : List Term)
    → checked_of derivation.nodes derivation.sizes facts derivation.lines ≡ Ok terms → IsChecked facts derivation terms
whole_from_lines facts derivation terms checked =
    let p = passed derivation.nodes derivation.sizes facts derivation.lines terms checked in
    let s = said_from derivation.sizes facts [] derivation.lines p.all p.says in
    record {
      said = p.all;
      one_each = ap length s.whole ∙ s.one_each;
      each = λ place line at. says_at derivation.sizes facts p.all p.all (0 + place + 1) (place + 1) line refl (omega arith) (s.each place line at);
      last = p.last;
      refutation = p.refutation;
    }

-- and the other way round
pub lines_from_whole : (facts : List (List Term)) (derivation : Derivation) (terms : List Term)
    → IsChecked facts derivation terms → checked_of derivation.nodes derivation.sizes facts derivation.lines ≡ Ok terms
lines_from_whole facts derivation terms c =
    let says = from_said derivation.sizes facts [] c.said derivation.lines c.one_each
    (λ place line at. says_at derivation.sizes facts c.said c.said (place + 1) (0 + place + 1) line refl (omega arith) (c.each place line at)) in
    let within = slice_get_within c.said (length c.said - 1) terms c.last in
    ap (λ r. r >>= ends derivation.nodes) says
    ∙ ap (last_in (root_of derivation.nodes) (length c.said))
    (cond-false (length c.said == 0) None (slice_get c.said (length c.said - 1)) (ne_eqb (length c.said) 0 (λ e. omega arith)) ∙ c.last)
    ∙ cond-true (is_refutation (root_of derivation.nodes) terms) (Ok terms) (Err (record { line = length c.said; kind = NotARefutation })) c.refutation

-- ---- what it means

-- a line that follows from the facts, over the nodes' sizes
record IsSound (sizes : List ℕ) (facts : List (List Term)) (terms : List Term) : Type 0 where
  ascending : AreNodesAscending terms
  sized : AreSized sizes terms
  follows : Follows sizes facts terms

-- the same of each line
abbrev AreSound : List ℕ → List (List Term) → List (List Term) → Type 0
AreSound sizes facts [] = Unit {0}
AreSound sizes facts (terms ∷ others) = IsSound sizes facts terms × AreSound sizes facts others

-- one of sound lines
sound_at : (sizes : List ℕ) (facts all : List (List Term)) (i : ℕ) (terms : List Term) → AreSound sizes facts all → slice_get all i ≡ Some terms → IsSound sizes facts terms
sound_at sizes facts [] i terms sound at = absurd (no_line terms at)
sound_at sizes facts (head ∷ all) zero terms sound at =
    let e : head ≡ terms = cc in
    subst (IsSound sizes facts) e sound.0
sound_at sizes facts (head ∷ all) (suc i) terms sound at = sound_at sizes facts all i terms sound.1 at

-- one more sound line
sound_append : (sizes : List ℕ) (facts all : List (List Term)) (terms : List Term) → AreSound sizes facts all → IsSound sizes facts terms
    → AreSound sizes facts (all ++ terms ∷ [])
sound_append sizes facts [] terms sound here = (here, tt)
sound_append sizes facts (head ∷ all) terms sound here = (sound.0, sound_append sizes facts all terms sound.1 here)

-- a resolvent follows from the facts
follows_resolvent : (sizes : List ℕ) (facts : List (List Term)) (one other : List Term) (on : ℕ) → IsSound sizes facts one → IsSound sizes facts other
    → can_resolve one other on ≡ true → Follows sizes facts (resolvent one other on)
follows_resolvent sizes facts one other on sound_one sound_other can = λ assignment is violated.
    elim (one_violated one other on assignment sound_one.ascending sound_other.ascending (can_resolve_from sizes one other on sound_one.sized sound_other.sized can)
    (λ set at.
    let sized = sized_at sizes one on set sound_one.sized at in
    subst (λ size. assignment on < size) (sym sized.1) (is on sized.0))
    violated) [
      | inl here ↦ sound_one.follows assignment is here
      | inr here ↦ sound_other.follows assignment is here
    ]

-- a line behind sound ones is sound
sound_line : (sizes : List ℕ) (facts earlier : List (List Term)) (line : Line) (terms : List Term) → line_in sizes facts earlier line ≡ Ok terms
    → AreSound sizes facts earlier → IsSound sizes facts terms
sound_line sizes facts earlier (Fact incompat cause) terms says sound =
    let fact = fact_says sizes facts incompat.terms terms says in
    record {
      ascending = fact.2.incompat.ascending;
      sized = fact.2.sized;
      follows = λ assignment is violated. record { fact = terms; given = fact.1; violated = violated };
    }
sound_line sizes facts earlier (Resolve first second on) terms says sound =
    let f = found (length sizes) (earlier_line earlier first) (earlier_line earlier second) on terms says in
    let one = sound_at sizes facts earlier (first - 1) f.one sound (earlier_place earlier first f.one (sym f.first_is)).1 in
    let other = sound_at sizes facts earlier (second - 1) f.other sound (earlier_place earlier second f.other (sym f.second_is)).1 in
    subst (IsSound sizes facts) (sym f.same)
    (record {
      ascending = AreNodesAscending-resolvent f.one f.other on other.ascending;
      sized = sized_resolvent sizes f.one f.other on one.sized other.sized;
      follows = follows_resolvent sizes facts f.one f.other on one other f.can;
    })

-- all lines are sound
sound_lines : (sizes : List ℕ) (facts earlier : List (List Term)) (lines : List Line) (all : List (List Term)) → lines_after sizes facts earlier lines ≡ Ok all
    → AreSound sizes facts earlier → AreSound sizes facts all
sound_lines sizes facts earlier [] all says sound =
    let e : earlier ≡ all = cc in
    subst (AreSound sizes facts) e sound
sound_lines sizes facts earlier (line ∷ lines) all says sound =
    elim (result_cases (line_in sizes facts earlier line)) [
      | inl answer ↦
          sound_lines sizes facts (earlier ++ answer.0 ∷ []) lines all (sym (ap (goes_on sizes facts earlier lines) answer.1) ∙ says)
          (sound_append sizes facts earlier answer.0 sound (sound_line sizes facts earlier line answer.0 answer.1 sound))
      | inr fault ↦ absurd (false≢true (ap is_ok (sym (ap (goes_on sizes facts earlier lines) fault.1) ∙ says)))
    ]

-- the last line follows from the facts
pub checked_follows : (nodes : List NodeName) (sizes : List ℕ) (facts : List (List Term)) (lines : List Line) (terms : List Term)
    → checked_of nodes sizes facts lines ≡ Ok terms → Follows sizes facts terms
checked_follows nodes sizes facts lines terms checked =
    let p = passed nodes sizes facts lines terms checked in
    (sound_at sizes facts p.all (length p.all - 1) terms (sound_lines sizes facts [] lines p.all p.says tt) p.last).follows

-- terms that are all on the root are violated where its choice is one of theirs
violated_at_root : (root : Option ℕ) (assignment : ℕ → ℕ) (terms : List Term) → is_refutation root terms ≡ true
    → list_all (has_root_choice root assignment) terms ≡ true → violates assignment terms ≡ true
violated_at_root root assignment [] on_root chosen = refl
violated_at_root None assignment (term ∷ terms) on_root chosen = absurd (false≢true on_root)
violated_at_root (Some root) assignment (term ∷ terms) on_root chosen =
    let here = and_parts (term.node == root) (is_refutation (Some root) terms) on_root in
    let has_it = and_parts (has term.choices (assignment root)) (list_all (has_root_choice (Some root) assignment) terms) chosen in
    and_from (has term.choices (assignment term.node)) (violates assignment terms)
    (ap (λ (node : ℕ). has term.choices (assignment node)) (eqb-true term.node root here.0) ∙ has_it.0)
    (violated_at_root (Some root) assignment terms here.1 has_it.1)

-- and refutes the root
pub checked_refutes : (nodes : List NodeName) (sizes : List ℕ) (facts : List (List Term)) (lines : List Line) (terms : List Term)
    → checked_of nodes sizes facts lines ≡ Ok terms → RefutesRoot (root_of nodes) sizes facts terms
checked_refutes nodes sizes facts lines terms checked = λ assignment is chosen.
    let p = passed nodes sizes facts lines terms checked in
    checked_follows nodes sizes facts lines terms checked assignment is (violated_at_root (root_of nodes) assignment terms p.refutation chosen)

-- the same of what the checker answers
pub follows_answer : (result : Result Incompat ProofFault) (nodes : List NodeName) (sizes : List ℕ) (facts : List (List Term)) (lines : List Line)
    → Checks result (checked_of nodes sizes facts lines) → IfOk result (λ last. Follows sizes facts last.terms)
follows_answer (Err fault) nodes sizes facts lines says = tt
follows_answer (Ok last) nodes sizes facts lines says = checked_follows nodes sizes facts lines last.terms says

-- the same, of the root
pub refutes_answer : (result : Result Incompat ProofFault) (nodes : List NodeName) (sizes : List ℕ) (facts : List (List Term)) (lines : List Line)
    → Checks result (checked_of nodes sizes facts lines) → IfOk result (λ last. RefutesRoot (root_of nodes) sizes facts last.terms)
refutes_answer (Err fault) nodes sizes facts lines says = tt
refutes_answer (Ok last) nodes sizes facts lines says = checked_refutes nodes sizes facts lines last.terms says
