use Rattle.std.proofs.Common.{◌++◌, [], rules, ap, ◌∙◌, subst, sym}
use Rattle.spm_tool.specs.Left.{FaultsLeft, faulty_gets}
use Rattle.spm_tool.specs.Puts.{failed_puts, fingerprints_put, root_puts, with_put}
use Rattle.spm_tool.specs.WordsView.{order_view}
use Rattle.spm_tool.proofs.FaultLemmas.{faults_on}
use Rattle.spm_tool.proofs.PutLemmas.{failed_puts_on, none_put, with_put_on}
use Rattle.spm_tool.proofs.top.resolve_roots.Goals.{in-Ok, in-Err}
use Rattle.spm_tool.proofs.top.resolve_roots.Goals as goal

-- src/top.rt
pub returns-clause-faults : goal.returns-clause-faults
returns-clause-faults g c =
    let order = order_view c.args.order.now in
    let old = g.D.Desk.state c.args.desk.now in
    let got = g.D.Desk.state c.outcomes.new.desk in
    let kept = g.D.Desk.state c.match-gained.desk in
    let new = g.D.Desk.state c.put_all_roots-puts.new.desk in
    let found = c.in_ok-runs.ensures.faults in
    let names = faulty_gets c.in_ok-runs.runs in
    let one = fingerprints_put order.fingerprints c.match-gained.gained.0 c.match-gained.gained.1 in
    let roots = root_puts order.proofs order.roots c.in_ok-runs.runs c.put_all_roots-puts.result in
    let first : FaultsLeft names old got = subst (λ all. FaultsLeft all old got) found.2 found.1 in
    let second : FaultsLeft (failed_puts (with_put one [])) got kept
    = elim c.match-gained.branch [
      | in-Ok w ↦ search rules
      | in-Err w ↦ search (rules, none_put)
    ] in
    let third : FaultsLeft (failed_puts roots) kept new
    = subst (λ runs. FaultsLeft (failed_puts (root_puts order.proofs order.roots runs c.put_all_roots-puts.result)) kept new) c.as_slice-3.ensures
    c.put_all_roots-puts.ensures.faults in
    subst (λ all. FaultsLeft all old new)
    (ap (λ puts. names ++ puts) (sym (failed_puts_on (with_put one []) roots) ∙ ap failed_puts (sym (with_put_on one [] roots))))
    (faults_on names (failed_puts (with_put one []) ++ failed_puts roots) old got new first
    (faults_on (failed_puts (with_put one [])) (failed_puts roots) got kept new second third))
