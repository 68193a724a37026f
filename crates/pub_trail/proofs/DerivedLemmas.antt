-- What is written is checked: each line is a fact, or resolves two earlier ones.
use Rattle.std.proofs.Common.{Contains, ◌≡◌, ◌≢◌, ℕ, zero, suc, ◌+◌, ◌<◌, ◌≤◌, ◌==◌, ◌&&◌, Bool, true, false, List, [], ◌∷◌, length, nat_eq, slice_index_or, Option, Some, None, IsSome, is_some, refl, sym, ap, ap₂, ◌∙◌, subst, inl, inr, arith, eqb-true, eq-eqb, ne_eqb}
use Rattle.std.proofs.lemmas.Bool.{and_left, and_parts, and_right, cases_Bool, cases_eq, cond-false, cond-true, false≢true}
use Rattle.std.specs.Cmp.Lexicographic.{pointwise}
use Rattle.pub_set.specs.Choices.{ChoiceSet, same_set}
use Rattle.pub_term.specs.Resolvent.{CanResolve, resolvent}
use Rattle.pub_term.specs.Term.{set_at}
use Rattle.pub_term.specs.TermLaws.{same_term}
use Rattle.pub_term.specs.declared.cause.Cause.{Cause}
use Rattle.pub_term.specs.declared.term.Term.{Term}
use Rattle.pub_term.proofs.AboveLemmas.{set_at-tail}
use Rattle.pub_trail.specs.Derived.{AreBelow, AreLines, AreOrigins, ArePlain, IsChain, IsEnd, IsLine, IsOrigin, IsResolution, Line, Given, Resolves, Put, Says, put, put_found, put_origin, put_steps, said, same_line, write, written}
use Rattle.pub_trail.specs.Invariant.{IsFormed}
use Rattle.pub_trail.specs.Turn.{Step, is_refutation, no_origin}
use Rattle.pub_trail.specs.declared.origin.Origin.{Origin}
use Rattle.pub_trail.specs.declared.origin.Origin.TheVariants.{OfConflict, OfLoad}

-- ---- what lines say

-- the newest line has the last number
pub said-last : (says : Says) (before : List Says) → said (says ∷ before) (length before + 1) ≡ Some says.terms
said-last says before = cond-true (length before + 1 == length before + 1) _ _ (eq-eqb (length before + 1) (length before + 1) refl)

-- a number that says something is that of a line
said-within : (lines : List Says) (number : ℕ) (terms : List Term) → said lines number ≡ Some terms → number ≤ length lines
said-within [] number terms is = cc
said-within (says ∷ before) number terms is =
    elim (cases_eq number (length before + 1)) [
      | inl same ↦ omega arith
      | inr differs ↦
          (let rest : said before number ≡ Some terms
          = sym (cond-false (number == length before + 1) (Some says.terms) (said before number) (ne_eqb number (length before + 1) differs)) ∙ is in
          omega (arith, said-within before number terms rest))
    ]

-- lines keep their numbers
said-before : (says : Says) (before : List Says) (number : ℕ) (terms : List Term) → said before number ≡ Some terms → said (says ∷ before) number ≡ Some terms
said-before says before number terms is =
    cond-false (number == length before + 1) (Some says.terms) (said before number)
    (ne_eqb number (length before + 1) (λ same. omega (arith, said-within before number terms is))) ∙ is

-- more lines say all that was said
abbrev pub Keeps : List Says → List Says → Type 0
-- what lines said is still said
Keeps old new = (number : ℕ) (terms : List Term) → said old number ≡ Some terms → said new number ≡ Some terms

-- ---- lines that are told equal

-- sets that are alike are equal
same_set_is : (first second : ChoiceSet) → same_set first second ≡ true → first ≡ second
same_set_is first second same =
    let parts = and_parts (first.size == second.size) (pointwise nat_eq first.members second.members) same in
    ap₂ made (eqb-true first.size second.size parts.0) (numbers first.members second.members parts.1)
  where
    made : ℕ → List ℕ → ChoiceSet
    made size members = record { size = size; members = members }

    numbers : (xs ys : List ℕ) → pointwise nat_eq xs ys ≡ true → xs ≡ ys
    numbers [] [] same = refl
    numbers [] (y ∷ ys) same = absurd (false≢true same)
    numbers (x ∷ xs) [] same = absurd (false≢true same)
    numbers (x ∷ xs) (y ∷ ys) same =
        let parts = and_parts (nat_eq x y) (pointwise nat_eq xs ys) same in
        ap₂ ◌∷◌ (eqb-true x y parts.0) (numbers xs ys parts.1)

-- terms that are alike are equal
same_terms_are : (xs ys : List Term) → pointwise same_term xs ys ≡ true → xs ≡ ys
same_terms_are [] [] same = refl
same_terms_are [] (y ∷ ys) same = absurd (false≢true same)
same_terms_are (x ∷ xs) [] same = absurd (false≢true same)
same_terms_are (x ∷ xs) (y ∷ ys) same =
    let parts = and_parts (same_term x y) (pointwise same_term xs ys) same in
    let both = and_parts (x.node == y.node) (same_set x.choices y.choices) parts.0 in
    ap₂ ◌∷◌ (ap₂ term_at (eqb-true x.node y.node both.0) (same_set_is x.choices y.choices both.1)) (same_terms_are xs ys parts.1)
  where
    term_at : ℕ → ChoiceSet → Term
    term_at node set = record { node = node; choices = set }

-- lines that are alike say the same
line_like : (same : Cause → Cause → Bool) (sizes : List ℕ) (facts : List (List Term)) (before : List Says) (first second : Line) (terms : List Term)
    → same_line same first second ≡ true → IsLine sizes facts before first terms → IsLine sizes facts before second terms
line_like same sizes facts before (Given first why) (Given second other) terms alike is =
    subst (λ given. (terms ≡ given) × Contains facts terms × IsFormed sizes terms)
    (same_terms_are first second (and_parts (pointwise same_term first second) (same why other) alike).0) is
line_like same sizes facts before (Given first why) (Resolves a b on) terms alike is = absurd (false≢true alike)
line_like same sizes facts before (Resolves a b on) (Given second why) terms alike is = absurd (false≢true alike)
line_like same sizes facts before (Resolves a b on) (Resolves c d other) terms alike is =
    let parts = three (a == c) (b == d) (on == other) alike in
    subst (λ line. IsLine sizes facts before line terms)
    (ap₂ (λ x y. Resolves x y on) (eqb-true a c parts.0) (eqb-true b d parts.1) ∙ ap (λ o. Resolves c d o) (eqb-true on other parts.2)) is
  where
    three : (x y z : Bool) → (x && y && z) ≡ true → (x ≡ true) × (y ≡ true) × (z ≡ true)
    three true true true all = (refl, refl, refl)
    three true true false all = absurd (false≢true all)
    three true false z all = absurd (false≢true all)
    three false y z all = absurd (false≢true all)

-- two lines that are alike say the same
resolutions_agree : (sizes : List ℕ) (old new : List Says) (first second on : ℕ) (xs ys : List Term) → Keeps old new
    → IsResolution sizes old first second on xs → IsResolution sizes new first second on ys → xs ≡ ys
resolutions_agree sizes old new first second on xs ys keeps p q =
    let ea : Some p.a ≡ Some q.a = sym (keeps first p.a p.first_said) ∙ q.first_said in
    let eb : Some p.b ≡ Some q.b = sym (keeps second p.b p.second_said) ∙ q.second_said in
    let a : p.a ≡ q.a = cc in
    let b : p.b ≡ q.b = cc in
    p.is ∙ ap₂ (λ s t. resolvent s t on) a b ∙ sym q.is

-- one line over more lines says the same
lines_agree : (line : Line) (sizes : List ℕ) (facts : List (List Term)) (old new : List Says) (xs ys : List Term) → Keeps old new
    → IsLine sizes facts old line xs → IsLine sizes facts new line ys → xs ≡ ys
lines_agree (Given given cause) sizes facts old new xs ys keeps p q = p.0 ∙ sym q.0
lines_agree (Resolves first second on) sizes facts old new xs ys keeps p q = resolutions_agree sizes old new first second on xs ys keeps p q

-- a line that is written already says what it would say
found_says : (same : Cause → Cause → Bool) (sizes : List ℕ) (facts : List (List Term)) (lines all : List Says) (line : Line) (terms : List Term) (number : ℕ) → AreLines sizes facts lines
    → Keeps lines all → IsLine sizes facts all line terms → written same lines line ≡ Some number → said lines number ≡ Some terms
found_says same sizes facts [] all line terms number are keeps is found = cc
found_says same sizes facts (says ∷ before) all line terms number are keeps is found =
    elim (cases_Bool (same_line same says.line line)) [
      | inl alike_line ↦
          (let here : Some (length before + 1) ≡ Some number
          = sym (cond-true (same_line same says.line line) (Some (length before + 1)) (written same before line) alike_line) ∙ found in
          let n : length before + 1 ≡ number = cc in
          let alike : says.terms ≡ terms
          = lines_agree line sizes facts before all says.terms terms (λ k ts s. keeps k ts (said-before says before k ts s))
          (line_like same sizes facts before says.line line says.terms alike_line are.0) is in
          subst (λ k. said (says ∷ before) k ≡ Some terms) n (said-last says before ∙ ap Some alike))
      | inr other ↦
          (let rest : written same before line ≡ Some number
          = sym (cond-false (same_line same says.line line) (Some (length before + 1)) (written same before line) other) ∙ found in
          said-before says before number terms
          (found_says same sizes facts before all line terms number are.1 (λ k ts s. keeps k ts (said-before says before k ts s)) is rest))
    ]

-- ---- what a put leaves

-- after a put the lines are checked, and the number says the terms
pub record IsPut (sizes : List ℕ) (facts : List (List Term)) (lines : List Says) (terms : List Term) (after : Put) : Type 0 where
  pub are : AreLines sizes facts after.lines
  pub plain : ArePlain after.lines
  pub keeps : Keeps lines after.lines
  pub says : said after.lines after.number ≡ Some terms

-- a put line is checked
put_is : (same : Cause → Cause → Bool) (sizes : List ℕ) (facts : List (List Term)) (lines : List Says) (line : Line) (terms : List Term) → AreLines sizes facts lines → ArePlain lines
    → IsLine sizes facts lines line terms → is_refutation terms ≡ false → IsPut sizes facts lines terms (put same lines line terms)
put_is same sizes facts lines line terms are plain is other = go (written same lines line) refl
  where
    go : (found : Option ℕ) → written same lines line ≡ found → IsPut sizes facts lines terms (put_found lines line terms found)
    go (Some number) at = record {
      are = are;
      plain = plain;
      keeps = λ k ts s. s;
      says = found_says same sizes facts lines lines line terms number are (λ k ts s. s) is at;
    }
    go None at = record {
      are = (is, are);
      plain = (other, plain);
      keeps = λ k ts s. said-before (record { line = line; terms = terms }) lines k ts s;
      says = said-last (record { line = line; terms = terms }) lines;
    }

-- ---- what is written

-- a writer writes the incompatibilities below a number that are no refutations
abbrev Writes : List ℕ → List (List Term) → List (List Term) → ℕ → (ℕ → List Says → Put) → Type 0
Writes sizes facts incompats bound writer =
    (number : ℕ) (lines : List Says) → number < bound → is_refutation (slice_index_or incompats number []) ≡ false → AreLines sizes facts lines → ArePlain lines
    → IsPut sizes facts lines (slice_index_or incompats number []) (writer number lines)

-- terms with one that is not on the root are no refutation
not_on_root : (terms : List Term) (node : ℕ) → node ≢ 0 → IsSome (set_at terms node) → is_refutation terms ≡ false
not_on_root [] node differs some = absurd (false≢true some)
not_on_root (term ∷ terms) node differs some =
    elim (cases_eq term.node node) [
      | inl same ↦ and_left (term.node == 0) (is_refutation terms) (ne_eqb term.node 0 (λ root. differs (sym same ∙ root)))
      | inr other ↦
          and_right (term.node == 0) (is_refutation terms)
          (not_on_root terms node differs (ap is_some (sym (set_at-tail term terms node other)) ∙ some))
    ]

-- the terms of a step's line
abbrev written_by : List (List Term) → List Term → Step → List Term
written_by incompats terms step = resolvent terms (slice_index_or incompats step.number []) step.node

-- one step: its line may be written, over lines that have what it cites
pub record IsStep (sizes : List ℕ) (facts incompats : List (List Term)) (lines : List Says) (terms : List Term) (step : Step) (start second : Put) : Type 0 where
  pub are : AreLines sizes facts second.lines
  pub plain : ArePlain second.lines
  pub keeps : Keeps lines second.lines
  pub line : IsLine sizes facts second.lines (Resolves start.number second.number step.node) (written_by incompats terms step)

-- what a step cites is written
step_is : (sizes : List ℕ) (facts incompats : List (List Term)) (bound : ℕ) (writer : ℕ → List Says → Put) (lines : List Says) (terms : List Term) (step : Step)
    (start : Put) → Writes sizes facts incompats bound writer → step.number < bound → step.node ≢ 0
    → CanResolve terms (slice_index_or incompats step.number []) step.node → IsPut sizes facts lines terms start
    → IsStep sizes facts incompats lines terms step start (writer step.number start.lines)
step_is sizes facts incompats bound writer lines terms step start writes below differs can is =
    let second = slice_index_or incompats step.number [] in
    let by_is = writes step.number start.lines below (not_on_root second step.node differs can.second_on) is.are is.plain in
    record {
      are = by_is.are;
      plain = by_is.plain;
      keeps = λ k ts s. by_is.keeps k ts (is.keeps k ts s);
      line = record { a = terms; b = second; first_said = by_is.keeps start.number terms is.says; second_said = by_is.says; can = can; is = refl };
    }

-- the steps of a conflict are written
put_steps_is : (same : Cause → Cause → Bool) (sizes : List ℕ) (facts incompats : List (List Term)) (bound : ℕ) (writer : ℕ → List Says → Put) (lines : List Says) (steps : List Step)
    (terms final : List Term) (start : Put) → Writes sizes facts incompats bound writer → AreBelow bound steps → IsChain incompats terms steps final
    → is_refutation final ≡ false → IsPut sizes facts lines terms start → IsPut sizes facts lines final (put_steps same incompats writer terms steps start)
put_steps_is same sizes facts incompats bound writer lines [] terms final start writes below chain other is =
    subst (λ ts. IsPut sizes facts lines ts start) chain is
put_steps_is same sizes facts incompats bound writer lines (step ∷ steps) terms final start writes below chain other is =
    let by = writer step.number start.lines in
    let next = written_by incompats terms step in
    let so = step_is sizes facts incompats bound writer lines terms step start writes below.0 chain.0 chain.2 is in
    let after = put_is same sizes facts by.lines (Resolves start.number by.number step.node) next so.are so.plain so.line (next_plain incompats steps next final chain.3 other) in
    put_steps_is same sizes facts incompats bound writer lines steps next final (put same by.lines (Resolves start.number by.number step.node) next) writes below.1 chain.3 other
    (record {
      are = after.are;
      plain = after.plain;
      keeps = λ k ts s. after.keeps k ts (so.keeps k ts s);
      says = after.says;
    })
  where
    next_plain : (incompats : List (List Term)) (steps : List Step) (next final : List Term) → IsChain incompats next steps final → is_refutation final ≡ false
        → is_refutation next ≡ false
    next_plain incompats [] next final chain other = ap is_refutation chain ∙ other
    next_plain incompats (step ∷ steps) next final chain other = chain.1

-- an incompatibility is written by its origin
put_origin_is : (same : Cause → Cause → Bool) (sizes : List ℕ) (facts incompats : List (List Term)) (writer : ℕ → List Says → Put) (number : ℕ) (lines : List Says) (origin : Origin)
    → Writes sizes facts incompats number writer → IsFormed sizes (slice_index_or incompats number []) → IsOrigin facts incompats number origin
    → is_refutation (slice_index_or incompats number []) ≡ false → AreLines sizes facts lines → ArePlain lines
    → IsPut sizes facts lines (slice_index_or incompats number []) (put_origin same incompats writer number lines origin)
put_origin_is same sizes facts incompats writer number lines (OfLoad cause) writes formed is other are plain =
    put_is same sizes facts lines (Given (slice_index_or incompats number []) cause) (slice_index_or incompats number []) are plain (refl, is, formed) other
put_origin_is same sizes facts incompats writer number lines (OfConflict first steps) writes formed is other are plain =
    put_steps_is same sizes facts incompats number writer lines steps (slice_index_or incompats first []) (slice_index_or incompats number []) (writer first lines)
    writes is.1 is.4 is.3 (writes first lines is.0 is.2 are plain)

-- an incompatibility is written with what it stands on
pub write_is : (same : Cause → Cause → Bool) (sizes : List ℕ) (facts incompats : List (List Term)) (origins : List Origin) (depth number : ℕ) (lines : List Says)
    → AreOrigins sizes facts incompats origins → number < depth → number < length incompats → is_refutation (slice_index_or incompats number []) ≡ false
    → AreLines sizes facts lines → ArePlain lines
    → IsPut sizes facts lines (slice_index_or incompats number []) (write same incompats origins depth number lines)
write_is same sizes facts incompats origins zero number lines all within known other are plain = absurd (omega arith)
write_is same sizes facts incompats origins (suc depth) number lines all within known other are plain =
    put_origin_is same sizes facts incompats (write same incompats origins depth) number lines (slice_index_or origins number no_origin)
    (λ k more less no so plain_so. write_is same sizes facts incompats origins depth k more all (omega arith) (omega arith) no so plain_so)
    (all.formed number known) (all.each number known) other are plain

-- ---- the end

-- a refutation is the last line: none before it says as much
plain_said : (lines : List Says) (number : ℕ) (terms : List Term) → ArePlain lines → said lines number ≡ Some terms → is_refutation terms ≡ false
plain_said [] number terms plain is = cc
plain_said (says ∷ before) number terms plain is =
    elim (cases_eq number (length before + 1)) [
      | inl same ↦
          (let here : Some says.terms ≡ Some terms
          = sym (cond-true (number == length before + 1) (Some says.terms) (said before number) (eq-eqb number (length before + 1) same)) ∙ is in
          let e : says.terms ≡ terms = cc in
          sym (ap is_refutation e) ∙ plain.0)
      | inr differs ↦
          plain_said before number terms plain.1
          (sym (cond-false (number == length before + 1) (Some says.terms) (said before number) (ne_eqb number (length before + 1) differs)) ∙ is)
    ]

-- a line that is a refutation is the last
pub put_last : (same : Cause → Cause → Bool) (sizes : List ℕ) (facts : List (List Term)) (lines : List Says) (line : Line) (terms : List Term) → AreLines sizes facts lines → ArePlain lines
    → IsLine sizes facts lines line terms → is_refutation terms ≡ true → IsEnd sizes facts terms (put same lines line terms)
put_last same sizes facts lines line terms are plain is root = go (written same lines line) refl
  where
    go : (found : Option ℕ) → written same lines line ≡ found → IsEnd sizes facts terms (put_found lines line terms found)
    go (Some number) at =
        absurd (false≢true (sym (plain_said lines number terms plain (found_says same sizes facts lines lines line terms number are (λ k ts s. s) is at)) ∙ root))
    go None at = record { are = (is, are); before = lines; last = record { line = line; terms = terms }; split = refl; says = refl }

-- the steps to a refutation end in it
pub put_steps_end : (same : Cause → Cause → Bool) (sizes : List ℕ) (facts incompats : List (List Term)) (bound : ℕ) (writer : ℕ → List Says → Put) (lines : List Says) (step : Step) (steps : List Step)
    (terms final : List Term) (start : Put) → Writes sizes facts incompats bound writer → AreBelow bound (step ∷ steps) → IsChain incompats terms (step ∷ steps) final
    → is_refutation final ≡ true → IsPut sizes facts lines terms start → IsEnd sizes facts final (put_steps same incompats writer terms (step ∷ steps) start)
put_steps_end same sizes facts incompats bound writer lines step [] terms final start writes below chain root is =
    let by = writer step.number start.lines in
    let so = step_is sizes facts incompats bound writer lines terms step start writes below.0 chain.0 chain.2 is in
    subst (λ ts. IsEnd sizes facts ts (put same by.lines (Resolves start.number by.number step.node) (written_by incompats terms step))) chain.3
    (put_last same sizes facts by.lines (Resolves start.number by.number step.node) (written_by incompats terms step) so.are so.plain so.line (ap is_refutation chain.3 ∙ root))
put_steps_end same sizes facts incompats bound writer lines step (other ∷ steps) terms final start writes below chain root is =
    let by = writer step.number start.lines in
    let next = written_by incompats terms step in
    let so = step_is sizes facts incompats bound writer lines terms step start writes below.0 chain.0 chain.2 is in
    let after = put_is same sizes facts by.lines (Resolves start.number by.number step.node) next so.are so.plain so.line chain.3.1 in
    put_steps_end same sizes facts incompats bound writer lines other steps next final (put same by.lines (Resolves start.number by.number step.node) next) writes below.1 chain.3 root
    (record {
      are = after.are;
      plain = after.plain;
      keeps = λ k ts s. after.keeps k ts (so.keeps k ts s);
      says = after.says;
    })
