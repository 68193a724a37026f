use Rattle.std.proofs.Common.{map, string_bytes}
use Rattle.pub_term.specs.contracts.cause.CausePartialEq.TheImpl.{eq-value}
use Rattle.spm_tool.specs.WordsView.{order_view}
use Rattle.spm_tool.proofs.JobLemmas.{runs_told}
use Rattle.spm_tool.proofs.top.outcomes.Goals as goal

-- src/top.rt
pub returns-clause-told : goal.returns-clause-told
returns-clause-told g c =
    runs_told eq-value.it c.args.shelf.now c.args.trust.now c.in_ok-base.base c.in_ok-book.book (order_view c.args.order.now)
    (map string_bytes c.args.order.now.roots.now) c.in_ok-jobs.jobs (g.D.Desk.state c.args.desk.now).files c.run_all.result
    c.in_ok-jobs.ensures.told c.run_all.ensures.end c.in_ok-book.ensures
