-- The lines that a solver writes are checked lines, by other numbers of their nodes.
use Rattle.std.proofs.Common.{◌≡◌, ℕ, ◌+◌, ◌-◌, ◌<◌, ◌≤◌, ◌==◌, ◌&&◌, Bool, true, false, nat_lt, List, [], ◌∷◌, ◌++◌, map, reverse, length, slice_get, slice_index, Contains, Option, Some, None, IsSome, is_some, is_ok, Ok, Err, refl, sym, ap, ap₂, ◌∙◌, subst, inl, inr, arith, eq-eqb, ne_eqb}
use Rattle.std.specs.List.{list_all}
use Rattle.std.specs.Result.{IsOk}
use Rattle.std.proofs.lemmas.Bool.{and_from, and_parts, cases_eq, cond-false, cond-true, cond_both, eqb-true, false≢true}
use Rattle.std.proofs.lemmas.List.{length-map, length-reverse, map-append, reverse-append}
use Rattle.std.proofs.lemmas.List.Elements.{Contains-append_left, Contains-append_right}
use Rattle.std.proofs.lemmas.Option.{slice_get_within}
use Rattle.pub_facts.proofs.Members.{contains_head}
use Rattle.pub_proof.specs.Checked.{◌>>=◌, can_resolve, checked_of, earlier_line, fact_in, has_node, last_in, lines_after, meets_in, resolved_in}
use Rattle.pub_proof.specs.Checked as checked
use Rattle.pub_proof.specs.Checks.{own_facts}
use Rattle.pub_proof.specs.Formed as proved
use Rattle.pub_proof.specs.Root.{root_of}
use Rattle.pub_proof.specs.Root as root
use Rattle.pub_proof.specs.declared.derivation.Line.{Line}
use Rattle.pub_proof.specs.declared.derivation.Line.TheVariants.{Fact, Resolve}
use Rattle.pub_proof.specs.declared.fault.ProofKind.TheVariants.{NotARefutation}
use Rattle.pub_proof.proofs.CheckedLemmas.{all_meet, get_front, goes_on, has_from_some, result_cases, says_fact, says_resolvent}
use Rattle.pub_set.specs.Choices.{ChoiceSet, is_empty, is_whole}
use Rattle.pub_term.specs.Resolvent.{CanResolve}
use Rattle.pub_term.specs.Sized as sized
use Rattle.pub_term.specs.Term.{AreNodesAscending, AreProper, set_at}
use Rattle.pub_term.specs.declared.node.NodeName.{NodeName}
use Rattle.pub_term.specs.declared.term.Term.{Term}
use Rattle.pub_term.proofs.AboveLemmas.{set_at-place}
use Rattle.pub_trail.specs.Derived.{AreLines, IsEnd, IsLine, Given, Resolves, Put, Says, said}
use Rattle.pub_trail.specs.Derived as derived
use Rattle.pub_trail.specs.Invariant.{AreSized, IsFormed}
use Rattle.pub_trail.specs.Renamed.{IsNumbering, insert_term, renamed}
use Rattle.pub_trail.specs.Turn.{is_refutation}
use Rattle.pub_trail.proofs.DerivedLemmas.{said-last}
use Rattle.pub_trail.proofs.LieLemmas.{sized_at}
use Rattle.pub_trail.proofs.RenamedLemmas.{AreNodesAscending-renamed, renamed-resolvent, set_at-renamed, some_renamed}
use Rattle.pub_trail.proofs.ResolveLemmas.{IsFormed-resolvent}
use Rattle.pub_plain.specs.Derivation.{line_in}

-- ---- terms under other numbers

-- a proper term among proper ones
proper_insert : (term : Term) (terms : List Term) → is_empty term.choices ≡ false → is_whole term.choices ≡ false → AreProper terms
    → AreProper (insert_term term terms)
proper_insert term [] some part proper = (some, part, tt)
proper_insert term (other ∷ others) some part proper =
    cond_both (nat_lt term.node other.node) (term ∷ other ∷ others) (other ∷ insert_term term others) AreProper
    (λ _. (some, part, proper)) (λ _. (proper.0, proper.1, proper_insert term others some part proper.2))

-- terms stay proper
proper_renamed : (number : ℕ → ℕ) (terms : List Term) → AreProper terms → AreProper (renamed number terms)
proper_renamed number [] proper = tt
proper_renamed number (term ∷ terms) proper =
    proper_insert (record { node = number term.node; choices = term.choices }) (renamed number terms) proper.0 proper.1
    (proper_renamed number terms proper.2)

-- a sized term among sized ones
sized_insert : (sizes : List ℕ) (term : Term) (terms : List Term) → sized.IsSized sizes term.node term.choices → sized.AreSized sizes terms
    → sized.AreSized sizes (insert_term term terms)
sized_insert sizes term [] here each = (here, tt)
sized_insert sizes term (other ∷ others) here each =
    cond_both (nat_lt term.node other.node) (term ∷ other ∷ others) (other ∷ insert_term term others) (sized.AreSized sizes)
    (λ _. (here, each)) (λ _. (each.0, sized_insert sizes term others here each.1))

-- a term that passes among those that do
all_insert : (test : Term → Bool) (term : Term) (terms : List Term) → test term ≡ true → list_all test terms ≡ true
    → list_all test (insert_term term terms) ≡ true
all_insert test term [] here each = and_from (test term) true here refl
all_insert test term (other ∷ others) here each =
    cond_both (nat_lt term.node other.node) (term ∷ other ∷ others) (other ∷ insert_term term others) (λ terms. list_all test terms ≡ true)
    (λ _. and_from (test term) (list_all test (other ∷ others)) here each)
    (λ _.
    let parts = and_parts (test other) (list_all test others) each in
    and_from (test other) (list_all test (insert_term term others)) parts.0 (all_insert test term others here parts.1))

-- where the root keeps its number, terms on it alone stay so
refutation_renamed : (number : ℕ → ℕ) (terms : List Term) → number 0 ≡ 0 → is_refutation terms ≡ true
    → root.is_refutation (Some 0) (renamed number terms) ≡ true
refutation_renamed number [] keeps on_root = refl
refutation_renamed number (term ∷ terms) keeps on_root =
    let parts = and_parts (term.node == 0) (is_refutation terms) on_root in
    let node : number term.node ≡ 0 = ap number (eqb-true term.node 0 parts.0) ∙ keeps in
    all_insert (λ (t : Term). root.is_on_root (Some 0) t.node) (record { node = number term.node; choices = term.choices }) (renamed number terms)
    (eq-eqb (number term.node) 0 node) (refutation_renamed number terms keeps parts.1)

-- ---- other numbers over other sizes

-- different nodes have different numbers, and each its size
pub record IsRenumbering (number : ℕ → ℕ) (sizes more : List ℕ) : Type 0 where
  pub apart : IsNumbering number
  pub within : (node : ℕ) → node < length sizes → number node < length more
  pub size : (node : ℕ) → node < length sizes → slice_index more (number node) ≡ slice_index sizes node

-- the newest line comes last
map_newest : {A : Type 0} (f : Says → A) (says : Says) (before : List Says) → map f (reverse (says ∷ before)) ≡ map f (reverse before) ++ f says ∷ []
map_newest f says before = ap (map f) (reverse-append (says ∷ []) before) ∙ map-append f (reverse before) (says ∷ [])

-- the last of a list
get_last : (xs : List (List Term)) (x : List Term) → slice_get (xs ++ x ∷ []) (length xs) ≡ Some x
get_last [] x = refl
get_last (head ∷ xs) x = get_last xs x

-- ---- facts

-- the facts of two parts
own_append : (xs ys : List Line) → own_facts (xs ++ ys) ≡ own_facts xs ++ own_facts ys
own_append [] ys = refl
own_append (Fact incompat cause ∷ xs) ys = ap (λ facts. incompat.terms ∷ facts) (own_append xs ys)
own_append (Resolve first second on ∷ xs) ys = own_append xs ys

-- lines that are answered are answered before others
after_answered : (sizes : List ℕ) (facts earlier : List (List Term)) (lines more : List Line) (all : List (List Term))
    → lines_after sizes facts earlier lines ≡ Ok all → lines_after sizes facts earlier (lines ++ more) ≡ lines_after sizes facts all more
after_answered sizes facts earlier [] more all says =
    let e : earlier ≡ all = cc in
    ap (λ now. lines_after sizes facts now more) e
after_answered sizes facts earlier (line ∷ lines) more all says =
    elim (result_cases (checked.line_in sizes facts earlier line)) [
      | inl answer ↦
          ap (goes_on sizes facts earlier (lines ++ more)) answer.1
          ∙ after_answered sizes facts (earlier ++ answer.0 ∷ []) lines more all (sym (ap (goes_on sizes facts earlier lines) answer.1) ∙ says)
      | inr fault ↦ absurd (false≢true (ap is_ok (sym (ap (goes_on sizes facts earlier lines) fault.1) ∙ says)))
    ]

module _ (number : ℕ → ℕ) (sizes more : List ℕ) (is : IsRenumbering number sizes more) where
  -- ---- terms

  -- terms stay sized
  sized_renamed : (terms : List Term) → AreSized sizes terms → sized.AreSized more (renamed number terms)
  sized_renamed [] each = tt
  sized_renamed (term ∷ terms) each =
      sized_insert more (record { node = number term.node; choices = term.choices }) (renamed number terms)
      (is.within term.node each.0.0, each.0.1 ∙ sym (is.size term.node each.0.0)) (sized_renamed terms each.1)

  -- formed terms stay so
  formed_renamed : (terms : List Term) → IsFormed sizes terms → proved.IsFormed more (renamed number terms)
  formed_renamed terms formed = record {
    incompat = record {
      ascending = AreNodesAscending-renamed number terms is.apart formed.incompat.ascending;
      proper = proper_renamed number terms formed.incompat.proper;
    };
    sized = sized_renamed terms formed.sized;
  }

  -- a set that is there stays there
  some_on : (terms : List Term) (on : ℕ) → AreNodesAscending terms → IsSome (set_at terms on)
      → has_node (renamed number terms) (number on) ≡ true
  some_on terms on up some =
      has_from_some (renamed number terms) (number on) (ap is_some (set_at-renamed number terms on is.apart up) ∙ some)

  -- terms that can be resolved still can
  can_renamed : (first second : List Term) (on : ℕ) → AreNodesAscending first → AreNodesAscending second → CanResolve first second on
      → can_resolve (renamed number first) (renamed number second) (number on) ≡ true
  can_renamed first second on up_first up_second can =
      let a : List Term = renamed number first in
      let b : List Term = renamed number second in
      and_from (has_node a (number on) && has_node b (number on)) (list_all (meets_in b (number on)) a)
      (and_from (has_node a (number on)) (has_node b (number on)) (some_on first on up_first can.first_on) (some_on second on up_second can.second_on))
      (all_meet a b (number on)
      (λ term set there differs at.
      let here : set_at a term.node ≡ Some term.choices
      = subst (λ (t : Term). set_at a t.node ≡ Some t.choices) there.2
      (set_at-place a there.0 term (AreNodesAscending-renamed number first is.apart up_first) there.1) in
      let old = some_renamed number first term.node term.choices is.apart up_first here in
      can.meets old.old term.choices set (λ same. differs (sym old.is ∙ ap number same)) old.at
      (sym (set_at-renamed number second old.old is.apart up_second) ∙ ap (set_at b) old.is ∙ at)))

  -- ---- lines

  -- what a line says, and the line, by the other numbers
  abbrev says_then : Says → List Term
  says_then says = renamed number says.terms

  abbrev line_then : Says → Line
  line_then says = line_in number says.line

  -- what was said of a number is said at its place
  said_place : (lines : List Says) (k : ℕ) (terms : List Term) → said lines k ≡ Some terms
      → (1 ≤ k) × (slice_get (map says_then (reverse lines)) (k - 1) ≡ Some (renamed number terms))
  said_place [] k terms at = cc
  said_place (says ∷ before) k terms at =
      let xs : List (List Term) = map says_then (reverse before) in
      let long : length xs ≡ length before = length-map (reverse before) says_then ∙ length-reverse before in
      elim (cases_eq k (length before + 1)) [
        | inl last ↦
            (let e : Some says.terms ≡ Some terms
            = sym (cond-true (k == length before + 1) (Some says.terms) (said before k) (eq-eqb k (length before + 1) last)) ∙ at in
            let same : says.terms ≡ terms = cc in
            let place : k - 1 ≡ length xs = omega (arith, last, long) in (
              omega (arith, last),
              ap (λ all. slice_get all (k - 1)) (map_newest says_then says before)
                  ∙ ap (slice_get (xs ++ says_then says ∷ [])) place
                  ∙ get_last xs (says_then says) ∙ ap (λ ts. Some (renamed number ts)) same,
            ))
        | inr differs ↦
            (let rest = said_place before k terms
            (sym (cond-false (k == length before + 1) (Some says.terms) (said before k) (ne_eqb k (length before + 1) differs)) ∙ at) in (
              rest.0,
              ap (λ all. slice_get all (k - 1)) (map_newest says_then says before)
                  ∙ get_front xs (says_then says ∷ []) (k - 1) (slice_get_within xs (k - 1) (renamed number terms) rest.1)
                  ∙ rest.1,
            ))
      ]

  -- so it is what the line of that number says
  said_then : (lines : List Says) (k : ℕ) (terms : List Term) → said lines k ≡ Some terms
      → earlier_line (map says_then (reverse lines)) k ≡ Some (renamed number terms)
  said_then lines k terms at =
      let place = said_place lines k terms at in
      let all : List (List Term) = map says_then (reverse lines) in
      cond-false (k == 0) None (slice_get all (k - 1)) (ne_eqb k 0 (λ none. omega (arith, place.0, none))) ∙ place.1

  -- a line's terms are formed where those of the lines before are
  line_formed : (facts : List (List Term)) (before : List Says) (line : derived.Line) (terms : List Term) → IsLine sizes facts before line terms
      → ((k : ℕ) (ts : List Term) → said before k ≡ Some ts → IsFormed sizes ts) → IsFormed sizes terms
  line_formed facts before (Given given cause) terms says formed = says.2
  line_formed facts before (Resolves first second on) terms r formed =
      subst (IsFormed sizes) (sym r.is)
      (IsFormed-resolvent sizes r.a r.b on (formed first r.a r.first_said) (formed second r.b r.second_said) r.can)

  -- so all are
  lines_formed : (facts : List (List Term)) (lines : List Says) → AreLines sizes facts lines → (k : ℕ) (terms : List Term) → said lines k ≡ Some terms
      → IsFormed sizes terms
  lines_formed facts [] are k terms at = cc
  lines_formed facts (says ∷ before) are k terms at =
      elim (cases_eq k (length before + 1)) [
        | inl last ↦
            (let e : Some says.terms ≡ Some terms
            = sym (cond-true (k == length before + 1) (Some says.terms) (said before k) (eq-eqb k (length before + 1) last)) ∙ at in
            let same : says.terms ≡ terms = cc in
            subst (IsFormed sizes) same
            (line_formed facts before says.line says.terms are.0 (λ j ts there. lines_formed facts before are.1 j ts there)))
        | inr differs ↦
            lines_formed facts before are.1 k terms
            (sym (cond-false (k == length before + 1) (Some says.terms) (said before k) (ne_eqb k (length before + 1) differs)) ∙ at)
      ]

  -- a fact's line is of one of these facts, by the other numbers
  abbrev IsGivenIn : List (List Term) → derived.Line → Type 0
  IsGivenIn given (Given terms cause) = Contains given (renamed number terms)
  IsGivenIn given (Resolves first second on) = Unit {0}

  abbrev AreGivenIn : List (List Term) → List Says → Type 0
  AreGivenIn given [] = Unit {0}
  AreGivenIn given (says ∷ before) = IsGivenIn given says.line × AreGivenIn given before

  -- a node that has a set is one of the nodes
  known_on : (terms : List Term) (on : ℕ) → IsFormed sizes terms → (found : Option ChoiceSet) → set_at terms on ≡ found → IsSome found
      → on < length sizes
  known_on terms on formed None at some = absurd (false≢true some)
  known_on terms on formed (Some set) at some = (sized_at sizes terms on set formed.sized at).0

  -- each line is answered by its terms
  line_answered : (facts given : List (List Term)) (before : List Says) (line : derived.Line) (terms : List Term)
      → IsLine sizes facts before line terms → AreLines sizes facts before → IsGivenIn given line
      → checked.line_in more given (map says_then (reverse before)) (line_in number line) ≡ Ok (renamed number terms)
  line_answered facts given before (Given own cause) terms says are there =
      ap (λ ts. fact_in more given (renamed number ts)) (sym says.0)
      ∙ says_fact more given (renamed number terms) (subst (λ ts. Contains given (renamed number ts)) (sym says.0) there)
      (formed_renamed terms says.2)
  line_answered facts given before (Resolves first second on) terms r are there =
      let a = lines_formed facts before are first r.a r.first_said in
      let b = lines_formed facts before are second r.b r.second_said in
      ap₂ (λ one other. resolved_in (length more) one other (number on)) (said_then before first r.a r.first_said)
      (said_then before second r.b r.second_said)
      ∙ says_resolvent (length more) (number on) (renamed number r.a) (renamed number r.b)
      (is.within on (known_on r.a on a (set_at r.a on) refl r.can.first_on))
      (can_renamed r.a r.b on a.incompat.ascending b.incompat.ascending r.can)
      ∙ ap (λ ts. Ok ts) (sym (renamed-resolvent number r.a r.b on is.apart a.incompat.ascending b.incompat.ascending))
      ∙ ap (λ ts. Ok (renamed number ts)) (sym r.is)

  -- and so are all lines
  lines_answered : (facts given : List (List Term)) (lines : List Says) → AreLines sizes facts lines → AreGivenIn given lines
      → lines_after more given [] (map line_then (reverse lines)) ≡ Ok (map says_then (reverse lines))
  lines_answered facts given [] are there = refl
  lines_answered facts given (says ∷ before) are there =
      let all : List (List Term) = map says_then (reverse before) in
      ap (lines_after more given []) (map_newest line_then says before)
      ∙ after_answered more given [] (map line_then (reverse before)) (line_then says ∷ []) all (lines_answered facts given before are.1 there.1)
      ∙ ap (goes_on more given all []) (line_answered facts given before says.line says.terms are.0 are.1 there.0)
      ∙ ap (λ ts. Ok ts) (sym (map_newest says_then says before))

  -- a line stays given over more facts
  given_more : (given others : List (List Term)) (line : derived.Line) → IsGivenIn given line → IsGivenIn (given ++ others) line
  given_more given others (Given terms cause) there = Contains-append_left given others (renamed number terms) there
  given_more given others (Resolves first second on) there = tt

  -- and so do all
  all_given_more : (given others : List (List Term)) (lines : List Says) → AreGivenIn given lines → AreGivenIn (given ++ others) lines
  all_given_more given others [] there = tt
  all_given_more given others (says ∷ before) there = (given_more given others says.line there.0, all_given_more given others before there.1)

  -- a line is given by its own fact
  own_given : (given : List (List Term)) (line : derived.Line) → IsGivenIn (given ++ own_facts (line_in number line ∷ [])) line
  own_given given (Given terms cause) =
      Contains-append_right given (renamed number terms ∷ []) (renamed number terms) (contains_head (renamed number terms) [])
  own_given given (Resolves first second on) = tt

  -- all lines are given by their own facts
  all_own_given : (lines : List Says) → AreGivenIn (own_facts (map line_then (reverse lines))) lines
  all_own_given [] = tt
  all_own_given (says ∷ before) =
      let given : List (List Term) = own_facts (map line_then (reverse before)) in
      subst (λ facts. AreGivenIn facts (says ∷ before))
      (sym (ap own_facts (map_newest line_then says before) ∙ own_append (map line_then (reverse before)) (line_then says ∷ [])))
      (own_given given says.line, all_given_more given (own_facts (line_then says ∷ [])) before (all_own_given before))

  -- ---- the whole

  -- where the root is the first node and keeps its number, lines that end in a refutation are checked by their own facts
  pub end_checked : (nodes : List NodeName) (facts : List (List Term)) (final : List Term) (after : Put) → root_of nodes ≡ Some 0 → number 0 ≡ 0
      → IsEnd sizes facts final after → is_refutation final ≡ true
      → IsOk (checked_of nodes more (own_facts (map line_then (reverse after.lines))) (map line_then (reverse after.lines)))
  end_checked nodes facts final after rooted keeps end on_root =
      let given : List (List Term) = own_facts (map line_then (reverse after.lines)) in
      let all : List (List Term) = map says_then (reverse after.lines) in
      let long : length all ≡ length end.before + 1
      = length-map (reverse after.lines) says_then ∙ length-reverse after.lines ∙ ap length end.split ∙ omega arith in
      let spoken : said after.lines (length all) ≡ Some final
      = ap₂ said end.split long ∙ said-last end.last end.before ∙ ap Some end.says in
      let refutes : root.is_refutation (root_of nodes) (renamed number final) ≡ true
      = ap (λ at. root.is_refutation at (renamed number final)) rooted ∙ refutation_renamed number final keeps on_root in
      ap is_ok
      (ap (λ r. r >>= λ all. last_in (root_of nodes) (length all) (earlier_line all (length all)))
      (lines_answered facts given after.lines end.are (all_own_given after.lines))
      ∙ ap (last_in (root_of nodes) (length all)) (said_then after.lines (length all) final spoken)
      ∙ cond-true (root.is_refutation (root_of nodes) (renamed number final)) (Ok (renamed number final))
      (Err (record { line = length all; kind = NotARefutation })) refutes)
