use Rattle.std.proofs.Common.{◌<◌, [], take, length, map, string_bytes, is_some, ap, sym, ◌∙◌, subst, arith}
use Rattle.spm_tool.specs.Left.{FaultsLeft}
use Rattle.spm_tool.specs.Puts.{IsPut, PutsLeave, failed_puts, root_put, root_puts, with_put}
use Rattle.spm_tool.proofs.FaultLemmas.{faults_on}
use Rattle.spm_tool.proofs.PutLemmas.{are_puts_next, at_root, below_map, failed_puts_on, puts_on, root_puts_next}
use Rattle.spm_tool.proofs.puts.put_roots.Goals as goal

pub loop-place-preserved : goal.loop-place-preserved
loop-place-preserved g c =
    let proofs = c.args.proofs in
    let place = c.loop-place.place in
    let roots = map string_bytes c.args.roots.now in
    let runs = c.args.runs.now in
    let root = string_bytes c.index-roots-place.result in
    let run = c.index-runs-place.result in
    let it = c.put_root.result in
    let old = g.D.Desk.state c.args.desk.now in
    let between = g.D.Desk.state c.loop-place.desk in
    let new = g.D.Desk.state c.put_root.new.desk in
    let before = c.loop-place.invariant in
    let done = root_puts proofs (take place roots) (take place runs) (take place c.loop-place.puts) in
    let one = with_put (root_put proofs root run it) [] in
    let in_runs : place < length runs = c.loop-place-test.true in
    let in_texts : place < length c.args.roots.now = omega (arith, in_runs, c.requires.0) in
    let in_puts : place < length c.loop-place.puts = omega (arith, in_runs, c.requires.0, c.requires.1, c.loop-place.auto.puts) in
    let in_roots = below_map string_bytes c.args.roots.now place c.index-roots-place.result in_texts in
    let root_is = at_root string_bytes c.args.roots.now place c.index-roots-place.result in_texts c.index-roots-place.is in
    let next = root_puts_next proofs roots runs c.loop-place.puts place root run it in_roots in_runs in_puts root_is (sym c.index-runs-place.is) before.is in
    record {
      is = are_puts_next proofs roots runs c.loop-place.puts place root run it in_roots in_runs in_puts root_is (sym c.index-runs-place.is) before.is
          (subst (λ r. IsPut (is_some (root_put proofs r run it)) it) c.as_str.ensures.value c.put_root.ensures.is);
      files = subst (λ puts. PutsLeave puts old.files new.files) (sym next)
          (puts_on done one old.files between.files new.files before.files
          (subst (λ r. PutsLeave (with_put (root_put proofs r run it) []) between.files new.files) c.as_str.ensures.value c.put_root.ensures.files));
      faults = subst (λ names. FaultsLeft names old new) (sym (ap failed_puts next ∙ failed_puts_on done one))
          (faults_on (failed_puts done) (failed_puts one) old between new before.faults
          (subst (λ r. FaultsLeft (failed_puts (with_put (root_put proofs r run it) [])) between new) c.as_str.ensures.value c.put_root.ensures.faults));
    }
