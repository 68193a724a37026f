use Rattle.std.proofs.Common.{◌≡◌, ◌≤◌, List, Option, Some, None, false, true, length, take, refl, sym, ap, ◌∙◌, subst}
use Rattle.std.proofs.lemmas.Option.{slice_get_past, slice_get_read}
use Rattle.std.specs.List.{list_all, slice_get}
use Rattle.std.specs.Prelude.{IfSome}
use Rattle.spm_key.specs.declared.key.Key.{Key}
use Rattle.spm_cache_core.specs.Answers as answer
use Rattle.spm_cache_core.specs.Cells.{cell_at, was_begun}
use Rattle.spm_cache_core.proofs.AnswerLemmas.{begun_passed, free_first, state_passed}
use Rattle.spm_cache_core.proofs.state.CacheState.first_hint.Goals as goal

pub first_free-place-requires-clause-passed : goal.first_free-place-requires-clause-passed
first_free-place-requires-clause-passed c =
    subst (λ (queue : List Key). list_all
    (λ key. was_begun (cell_at c.self.inside.cells key)) (take c.self.inside.next queue) ≡ true)
    (sym c.as_slice-queue.ensures.value) (begun_passed _ _ c.self.invariant)

pub invariant_of-self : goal.invariant_of-self
invariant_of-self c =
    let place = c.first_free-place.result in let queue = c.as_slice-queue.ensures.value in
    state_passed _ _ place c.self.invariant (subst (λ (q : List Key). place ≤ length q) queue c.first_free-place.ensures.within)
    (subst (λ (q : List Key). list_all
    (λ key. was_begun (cell_at c.self.inside.cells key)) (take place q) ≡ true) queue c.first_free-place.ensures.passed)

pub invariant_of-self-in_err-copy : goal.invariant_of-self-in_err-copy
invariant_of-self-in_err-copy c =
    let place = c.first_free-place.result in let queue = c.as_slice-queue.ensures.value in
    state_passed _ _ place c.self.invariant (subst (λ (q : List Key). place ≤ length q) queue c.first_free-place.ensures.within)
    (subst (λ (q : List Key). list_all
    (λ key. was_begun (cell_at c.self.inside.cells key)) (take place q) ≡ true) queue c.first_free-place.ensures.passed)

pub invariant_of-self-2 : goal.invariant_of-self-2
invariant_of-self-2 c =
    let place = c.first_free-place.result in let queue = c.as_slice-queue.ensures.value in
    state_passed _ _ place c.self.invariant (subst (λ (q : List Key). place ≤ length q) queue c.first_free-place.ensures.within)
    (subst (λ (q : List Key). list_all
    (λ key. was_begun (cell_at c.self.inside.cells key)) (take place q) ≡ true) queue c.first_free-place.ensures.passed)

pub returns-in_default-clause-found : goal.returns-in_default-clause-found
returns-in_default-clause-found c =
    let place = c.first_free-place.result in let queue = c.as_slice-queue.ensures.value in
    free_first _ c.args.self.now _ place None c.self.invariant c.self.view_is
    (subst (λ (q : List Key). list_all
    (λ key. was_begun (cell_at c.self.inside.cells key)) (take place q) ≡ true) queue c.first_free-place.ensures.passed)
    (ap (λ (q : List Key). slice_get q place) (sym c.deref.ensures.value) ∙ slice_get_past _ place c.in_default.ensures.lookup.3)
    tt

pub returns-clause-found : goal.returns-clause-found
returns-clause-found c =
    let place = c.first_free-place.result in let queue = c.as_slice-queue.ensures.value in let key = c.in-Some.key.now in
    let at : slice_get c.self.inside.queue.items place ≡ Some key =
    ap (λ (q : List Key). slice_get q place) (sym c.deref.ensures.value)
    ∙ slice_get_read _ _ place key refl c.in-Some.ensures.lookup.3.0 (c.in-Some.ensures.lookup.3.1 key) in
    let free = subst (λ (o : Option Key). IfSome o (λ k. was_begun (cell_at c.self.inside.cells k) ≡ false)) at
    (subst (λ (q : List Key). IfSome (slice_get q place)
    (λ k. was_begun (cell_at c.self.inside.cells k) ≡ false)) queue c.first_free-place.ensures.free) in
    free_first _ c.args.self.now _ place (Some key) c.self.invariant c.self.view_is
    (subst (λ (q : List Key). list_all
    (λ k. was_begun (cell_at c.self.inside.cells k)) (take place q) ≡ true) queue c.first_free-place.ensures.passed)
    at free
    ∙ ap answer.Fetch (sym c.in_ok-copy.ensures)
