use Rattle.std.proofs.lemmas.Result.{MatchResult-weaker}
use Rattle.spm_trait.specs.Reached.{names_in}
use Rattle.spm_trait.proofs.ClosureLemmas.{IsClosure-reached, IsClosureFault-reached}
use Rattle.spm_trait.proofs.closures.closure.Goals as goal

pub returns-clause-ok : goal.returns-clause-ok
returns-clause-ok c =
    let index = rw c.as_slice.ensures at c.in_ok-index.ensures in
    MatchResult-weaker c.declared_copies.result c.declared_copies.ensures.ok
    (λ copies h. rw h.same (IsClosure-reached c.args.traits.now.entries c.in_ok-index.index index c.args.asked.now (names_in c.in_ok-names.names) c.in_ok-names.ensures h.declared))
    (λ fault h. tt)

pub returns-clause-err : goal.returns-clause-err
returns-clause-err c =
    let index = rw c.as_slice.ensures at c.in_ok-index.ensures in
    MatchResult-weaker c.declared_copies.result c.declared_copies.ensures.err
    (λ copies h. tt)
    (λ fault h. IsClosureFault-reached c.args.traits.now.entries c.in_ok-index.index index c.args.asked.now (names_in c.in_ok-names.names) fault c.in_ok-names.ensures h)
