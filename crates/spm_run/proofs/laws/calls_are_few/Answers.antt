use Rattle.spm_run.proofs.FewLemmas.{few_by_history, few_by_outcomes, few_of_sessions}
use Rattle.spm_run.proofs.laws.calls_are_few.Goals as goal

pub returns-clause-history : goal.returns-clause-history
returns-clause-history g c = λ same base fingerprints workers jobs old new outcomes cache run told key form.
    few_by_history g.L.Link.state key form same base fingerprints workers jobs old new outcomes cache run told

pub returns-clause-outcomes : goal.returns-clause-outcomes
returns-clause-outcomes g c = λ same base fingerprints workers jobs old new outcomes cache run told key form.
    few_by_outcomes g.L.Link.state key form same base fingerprints workers jobs old new outcomes cache run told

pub returns-clause-sessions : goal.returns-clause-sessions
returns-clause-sessions g c = λ same base fingerprints workers jobs old new outcomes cache run told key form.
    few_of_sessions g.L.Link.state key form same base fingerprints workers jobs old new outcomes cache run told
