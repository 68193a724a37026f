use Rattle.std.proofs.Common.{ap}
use Rattle.spm_session.specs.declared.outcome.Outcome.TheVariants as outcome
use Rattle.spm_session.proofs.run.refuted.Goals as goal

-- src/run.rt
pub returns : goal.returns
returns c = record {
  put = record {
    terms = c.requires.0;
    first = c.requires.1;
    steps = c.requires.2;
    is = c.requires.3;
    derivation = c.in_ok-derivation.derivation;
    texts = c.in_ok-choices.choices;
    put = ap (outcome.Refuted c.in_ok-derivation.derivation c.in_ok-choices.choices) c.turns-turns.ensures;
    derivation_is = c.in_ok-derivation.ensures c.requires.0 c.requires.1 c.requires.2 c.requires.3;
    texts_are = c.in_ok-choices.ensures;
  };
}
