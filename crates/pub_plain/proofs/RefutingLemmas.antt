-- What is written of a conflict: each incompatibility after what it comes from.
use Rattle.std.proofs.Common.{◌≡◌, ℕ, suc, ◌+◌, ◌-◌, ◌<◌, ◌≤◌, Bool, List, [], ◌∷◌, drop, length, get_or, slice_index_or, sym, ap, ap₂, ◌∙◌, subst, arith}
use Rattle.std.proofs.lemmas.List.{get_or_read}
use Rattle.pub_facts.proofs.ListSteps.{drop_next}
use Rattle.pub_term.specs.Resolvent.{resolvent}
use Rattle.pub_term.specs.Term.{IsIncompat}
use Rattle.pub_term.specs.declared.cause.Cause.{Cause}
use Rattle.pub_term.specs.declared.term.Incompat.{Incompat}
use Rattle.pub_term.specs.declared.term.Term.{Term}
use Rattle.pub_trail.specs.Derived.{AreBelow, IsChain, IsOrigin, Given, Put, Resolves, put, put_origin, put_steps, write}
use Rattle.pub_trail.specs.Turn.{Step, no_origin}
use Rattle.pub_trail.specs.Walk.{terms_of}
use Rattle.pub_trail.specs.declared.origin.Origin.{Origin}
use Rattle.pub_trail.specs.declared.origin.Origin.TheVariants.{OfConflict, OfLoad}
use Rattle.pub_trail.proofs.WalkLemmas.{length-terms_of, terms_at}
use Rattle.pub_plain.specs.Kept.{Kept}
use Rattle.pub_plain.specs.Writing.{AreSteps, AreWritable, lines_of, written_at}
use Rattle.pub_plain.specs.declared.writing.WrittenLine.{WrittenLine}

-- ---- an incompatibility by its origin

-- what is written of an incompatibility is what its origin says
written_by_origin : (same : Cause → Cause → Bool) (kept : Kept) (depth number : ℕ) (lines : List WrittenLine) (origin : Origin) → 0 < depth
    → slice_index_or kept.origins number no_origin ≡ origin
    → written_at same kept depth number lines
    ≡ put_origin same (terms_of kept.incompats) (write same (terms_of kept.incompats) kept.origins (depth - 1)) number (lines_of lines) origin
written_by_origin same kept depth number lines origin some at =
    let n : depth ≡ suc (depth - 1) = omega (arith, some) in
    ap (λ d. written_at same kept d number lines) n
    ∙ ap (put_origin same (terms_of kept.incompats) (write same (terms_of kept.incompats) kept.origins (depth - 1)) number (lines_of lines)) at

-- the origin that is read is that of the number
pub origin_at : (kept : Kept) (number : ℕ) (origin : Origin) → AreWritable kept → number < length kept.incompats
    → origin ≡ get_or kept.origins number origin → slice_index_or kept.origins number no_origin ≡ origin
origin_at kept number origin writable below is = sym (get_or_read kept.origins number origin (omega (arith, below, writable.long)) is no_origin)

-- a fact is one line
pub written_fact : (same : Cause → Cause → Bool) (kept : Kept) (depth number : ℕ) (lines : List WrittenLine) (origin : Origin) (cause its : Cause)
    (incompat copy : Incompat) (put_line : Put) → AreWritable kept → number < depth → depth ≤ length kept.incompats
    → origin ≡ get_or kept.origins number origin → origin ≡ OfLoad cause → incompat ≡ get_or kept.incompats number incompat → copy ≡ incompat → its ≡ cause
    → put_line ≡ put same (lines_of lines) (Given copy.terms its) copy.terms → put_line ≡ written_at same kept depth number lines
written_fact same kept depth number lines origin cause its incompat copy put_line writable below deep is by is_incompat is_copy is_cause is_put =
    let terms : copy.terms ≡ slice_index_or (terms_of kept.incompats) number []
    = ap (λ (i : Incompat). i.terms) is_copy
    ∙ sym (terms_at kept.incompats number incompat (omega (arith, below, deep, length-terms_of kept.incompats)) is_incompat) in
    is_put ∙ ap₂ (λ ts why. put same (lines_of lines) (Given ts why) ts) terms is_cause
    ∙ sym (written_by_origin same kept depth number lines (OfLoad cause) (omega (arith, below))
    (origin_at kept number origin writable (omega (arith, below, deep)) is ∙ by))

-- fewer than fewer
AreBelow-more : (low high : ℕ) (steps : List Step) → low ≤ high → AreBelow low steps → AreBelow high steps
AreBelow-more low high [] within below = tt
AreBelow-more low high (step ∷ steps) within below = (omega (arith, within, below.0), AreBelow-more low high steps within below.1)

-- what was learned is written from its conflict
pub steps_of_origin : (kept : Kept) (depth number first : ℕ) (steps : List Step) (origin : Origin) → AreWritable kept → number < depth
    → depth ≤ length kept.incompats → origin ≡ get_or kept.origins number origin → origin ≡ OfConflict first steps → AreSteps kept (depth - 1) first steps
steps_of_origin kept depth number first steps origin writable below deep is by =
    let comes : IsOrigin writable.facts (terms_of kept.incompats) number (OfConflict first steps)
    = subst (IsOrigin writable.facts (terms_of kept.incompats) number) (origin_at kept number origin writable (omega (arith, below, deep)) is ∙ by)
    (writable.are.each number (omega (arith, below, deep, length-terms_of kept.incompats))) in
    record {
      bounded = omega (arith, deep);
      first_below = omega (arith, comes.0, below);
      below = AreBelow-more number (depth - 1) steps (omega (arith, below)) comes.1;
      final = slice_index_or (terms_of kept.incompats) number [];
      chain = comes.4;
    }

-- ---- the steps

-- the steps that are left, from a line that says these terms
pub record IsWriting (same : Cause → Cause → Bool) (kept : Kept) (depth : ℕ) (terms : List Term) (rest : List Step) (now all : Put) : Type 0 where
  pub incompat : IsIncompat terms
  pub below : AreBelow depth rest
  pub final : List Term
  pub chain : IsChain (terms_of kept.incompats) terms rest final
  pub left : put_steps same (terms_of kept.incompats) (write same (terms_of kept.incompats) kept.origins depth) terms rest now ≡ all

-- one step more
pub writing_more : (same : Cause → Cause → Bool) (kept : Kept) (depth : ℕ) (incompat other next copy : Incompat) (steps : List Step) (i : ℕ) (step : Step)
    (now second after all : Put) → depth ≤ length kept.incompats → i < length steps → step ≡ get_or steps i step
    → IsWriting same kept depth incompat.terms (drop i steps) now all
    → second ≡ write same (terms_of kept.incompats) kept.origins depth step.number now.lines
    → other ≡ get_or kept.incompats step.number other → next.terms ≡ resolvent incompat.terms other.terms step.node → IsIncompat next.terms → copy ≡ next
    → after ≡ put same second.lines (Resolves now.number second.number step.node) copy.terms
    → IsWriting same kept depth next.terms (drop (i + 1) steps) after all
writing_more same kept depth incompat other next copy steps i step now second after all deep within is writing is_second is_other is_next formed is_copy
    is_after =
    let incompats = terms_of kept.incompats in
    let writer = write same incompats kept.origins depth in
    let rest : drop i steps ≡ step ∷ drop (i + 1) steps = drop_next steps i step within (sym is) in
    let below : AreBelow depth (step ∷ drop (i + 1) steps) = subst (AreBelow depth) rest writing.below in
    let chain : IsChain incompats incompat.terms (step ∷ drop (i + 1) steps) writing.final
    = subst (λ ss. IsChain incompats incompat.terms ss writing.final) rest writing.chain in
    let resolved : next.terms ≡ resolvent incompat.terms (slice_index_or incompats step.number []) step.node
    = is_next ∙ ap (λ ts. resolvent incompat.terms ts step.node)
    (sym (terms_at kept.incompats step.number other (omega (arith, below.0, deep, length-terms_of kept.incompats)) is_other)) in
    record {
      incompat = formed;
      below = below.1;
      final = writing.final;
      chain = subst (λ ts. IsChain incompats ts (drop (i + 1) steps) writing.final) (sym resolved) chain.3;
      left =
          ap (λ put_line. put_steps same incompats writer next.terms (drop (i + 1) steps) put_line)
          (is_after ∙ ap (λ (c : Incompat). put same second.lines (Resolves now.number second.number step.node) c.terms) is_copy
          ∙ ap (λ (p : Put). put same p.lines (Resolves now.number p.number step.node) next.terms) is_second)
          ∙ ap (λ ts. put_steps same incompats writer ts (drop (i + 1) steps) (put same (writer step.number now.lines).lines
          (Resolves now.number (writer step.number now.lines).number step.node) ts)) resolved
          ∙ ap (λ ss. put_steps same incompats writer incompat.terms ss now) (sym rest) ∙ writing.left;
    }
