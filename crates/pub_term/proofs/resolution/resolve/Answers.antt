use Rattle.std.proofs.Common.{◌≡◌, ◌≤◌, ◌⊎◌, ◌++◌, ◌∷◌, [], ◌∙◌, ap, inl, inr, drop, length, arith}
use Rattle.std.proofs.lemmas.Cmp.{ranked}
use Rattle.std.proofs.lemmas.List.{take_rest}
use Rattle.pub_term.proofs.StepLemmas.{IsIncompat-end, IsMerging-both, IsMerging-first, IsMerging-second, resolvent-end, size_of_both}
use Rattle.pub_term.proofs.resolution.resolve.Goals as goal
use Rattle.pub_term.proofs.resolution.resolve.Goals.{then-loop-i-test+else-j-second, else-loop-i-test}

pub loop-i-preserved-in-Less : goal.loop-i-preserved-in-Less
loop-i-preserved-in-Less c =
    let x = c.index-first-i.result in
    let y = c.index-second-j.result in
    IsMerging-first c.as_slice-first.result.now c.as_slice-second.result.now c.args.on c.loop-i.terms c.push.new.self c.loop-i.i c.loop-i.j x y
    c.loop-i.invariant (omega arith) (omega arith) c.index-first-i.is c.index-second-j.is
    (ranked x.node y.node _ c.in-Less.ensures)
    (c.in_ok-push-in-Less.ensures.ok ∙ ap (λ copy. c.loop-i.terms ++ copy ∷ []) c.in_ok-copy-in-Less.ensures)

pub loop-i-preserved-in-Greater : goal.loop-i-preserved-in-Greater
loop-i-preserved-in-Greater c =
    let x = c.index-first-i.result in
    let y = c.index-second-j.result in
    IsMerging-second c.as_slice-first.result.now c.as_slice-second.result.now c.args.on c.loop-i.terms c.push-in-Greater.new.self c.loop-i.i c.loop-i.j x y
    c.loop-i.invariant (omega arith) (omega arith) c.index-first-i.is c.index-second-j.is
    (ranked x.node y.node _ c.in-Greater.ensures)
    (c.in_ok-push-in-Greater.ensures.ok ∙ ap (λ copy. c.loop-i.terms ++ copy ∷ []) c.in_ok-copy-in-Greater.ensures)

pub push_joined-requires : goal.push_joined-requires
push_joined-requires c =
    let x = c.index-first-i.result in
    let y = c.index-second-j.result in
    size_of_both c.as_slice-first.result.now c.as_slice-second.result.now c.args.on c.loop-i.terms c.loop-i.i c.loop-i.j x y
    c.loop-i.invariant (omega arith) (omega arith) c.index-first-i.is c.index-second-j.is
    (ranked x.node y.node _ c.in-Equal.ensures)

pub loop-i-preserved : goal.loop-i-preserved
loop-i-preserved c =
    let x = c.index-first-i.result in
    let y = c.index-second-j.result in
    IsMerging-both c.as_slice-first.result.now c.as_slice-second.result.now c.args.on c.loop-i.terms c.push_joined.new.terms c.loop-i.i c.loop-i.j x y
    c.loop-i.invariant (omega arith) (omega arith) c.index-first-i.is c.index-second-j.is
    (ranked x.node y.node _ c.in-Equal.ensures) c.push_joined.ensures.set c.in_ok-push_joined-in-Equal.ensures.pushed

pub returns : goal.returns
returns c =
    let first = c.as_slice-first.result.now in
    let second = c.as_slice-second.result.now in
    let past : (length first ≤ c.loop-i.i) ⊎ (length second ≤ c.loop-i.j)
    = elim c.loop-i-test.branch [
      | then-loop-i-test+else-j-second w ↦ inr (omega arith)
      | else-loop-i-test w ↦ inl (omega arith)
    ] in
    let with_first : c.push_copies.new.terms ≡ c.loop-i.terms ++ drop c.loop-i.i first
    = c.in_ok-push_copies.ensures ∙ ap (λ rest. c.loop-i.terms ++ rest) (take_rest first c.loop-i.i) in
    let with_both : c.push_copies-2.new.terms ≡ c.loop-i.terms ++ drop c.loop-i.i first ++ drop c.loop-i.j second
    = c.in_ok-push_copies-2.ensures ∙ ap (λ rest. c.push_copies.new.terms ++ rest) (take_rest second c.loop-i.j)
    ∙ ap (λ terms. terms ++ drop c.loop-i.j second) with_first in
    record {
      resolvent = rw (← c.as_slice-first.ensures, ← c.as_slice-second.ensures)
          (with_both ∙ resolvent-end first second c.args.on c.loop-i.terms c.loop-i.i c.loop-i.j c.loop-i.invariant past);
      incompat = rw with_both (IsIncompat-end first second c.args.on c.loop-i.terms c.loop-i.i c.loop-i.j c.loop-i.invariant past);
    }
