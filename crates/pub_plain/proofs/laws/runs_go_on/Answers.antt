use Rattle.pub_plain.specs.Plain.{opening, rules_of}
use Rattle.pub_trail.specs.Turn.{Went}
use Rattle.pub_plain.proofs.RunLemmas.{run_once, run_same, run_solver, run_step}
use Rattle.pub_plain.proofs.laws.runs_go_on.Goals as goal

pub returns-clause-solver : goal.returns-clause-solver
returns-clause-solver c = run_solver

pub returns-clause-more : goal.returns-clause-more
returns-clause-more c = run_same

pub returns-clause-step : goal.returns-clause-step
returns-clause-step c = λ job pins answers n state. run_step (rules_of job pins answers) n (Went opening) state

pub returns-clause-one : goal.returns-clause-one
returns-clause-one c = λ job pins answers n m state other. run_once (rules_of job pins answers) n m (Went opening) state other
