use Rattle.std.proofs.Common.{subst, sym}
use Rattle.pub_term.specs.contracts.cause.CausePartialEq.TheImpl.{eq-value}
use Rattle.spm_session.specs.declared.job.RootInput.{RootInput}
use Rattle.spm_tool.specs.Shelf.{IsShelfOutcome}
use Rattle.spm_tool.proofs.run.outcome_of.Goals as goal

-- src/run.rt
pub returns-in-Ready-clause-end : goal.returns-in-Ready-clause-end
returns-in-Ready-clause-end c = λ shelf is_book.
    let job = c.args.job in
    subst (λ (i : RootInput). IsShelfOutcome eq-value.it shelf c.args.trust.now
    (record { name = job.name; input = i; asked = job.asked; tools = job.tools }) c.over_book.result)
    (sym c.in-Ready.is) (c.over_book.ensures.end shelf is_book)
