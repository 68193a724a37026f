use Rattle.std.proofs.Common.{[], take, ◌++◌, ◌∷◌, get_or, subst, sym, arith}
use Rattle.std.proofs.lemmas.List.{take_all, take_more}
use Rattle.pub_trail.specs.KnownOf.{AreLeft}
use Rattle.pub_trail.proofs.KnownLemmas.{AreLeft-none, AreLeft-whole}
use Rattle.pub_trail.proofs.left.all_whole.Goals as goal

pub loop-size-init : goal.loop-size-init
loop-size-init c = subst (AreLeft [] []) (sym c.new-known.ensures.items) AreLeft-none

pub loop-size-preserved : goal.loop-size-preserved
loop-size-preserved c =
    let sizes = c.args.sizes.now in
    let i = c.loop-size.size-index in
    subst (λ xs. AreLeft xs [] c.push.new.self.items) (sym (take_more sizes i 0 (omega arith)))
    (subst (AreLeft (take i sizes ++ get_or sizes i 0 ∷ []) []) (sym c.in_ok-push.ensures.items)
    (AreLeft-whole (take i sizes) c.loop-size.known.items (get_or sizes i 0) c.in_ok-whole.field-0 c.loop-size.invariant c.in_ok-whole.ensures))

pub returns : goal.returns
returns c = subst (λ xs. AreLeft xs [] c.loop-size.known.items) (take_all c.loop-size.size-index c.args.sizes.now (omega arith)) c.loop-size.invariant
