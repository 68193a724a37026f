use Rattle.spm_tool.proofs.run.run_of.Goals as goal

-- src/run.rt
pub returns-clause-end : goal.returns-clause-end
returns-clause-end c = λ shelf is_book. record {
  origin = c.origin_in-origin.ensures;
  comes = c.outcome_of-outcome.ensures.end shelf is_book;
  quiet = c.outcome_of-outcome.ensures.quiet;
}
