use Rattle.std.proofs.Common.{◌∙◌, ap, map}
use Rattle.std.specs.BTreeMap.{get_by_text}
use Rattle.std.specs.Prelude.{is_some}
use Rattle.spm_json.specs.Names.{has_name}
use Rattle.spm_manifest.specs.Counted.{counted_use, with_counted}
use Rattle.spm_manifest.specs.Guard.{need_of}
use Rattle.spm_manifest.proofs.Counting.{is_numbered, need_at-need_of, needs_more}
use Rattle.spm_manifest.proofs.guard.needs_of.Goals as goal

pub need-requires : goal.need-requires
need-requires c = ap is_some (c.in_ok-numbers_of.ensures _)
    ∙ is_numbered c.args.dependencies.now c.loop-dependency.dependency-index c.dependency-item.result c.loop-dependency-test.true c.dependency-item.is

pub loop-dependency-preserved : goal.loop-dependency-preserved
loop-dependency-preserved c =
    let counted = c.in_ok-counted.ensures
    ∙ ap (λ uses. with_counted (get_by_text c.in_ok-numbers_of.field-0) (has_name c.in_ok-target_names.field-0) (map (λ found. found.now) uses)) c.as_slice.ensures.value
    ∙ ap (with_counted (get_by_text c.in_ok-numbers_of.field-0) (has_name c.in_ok-target_names.field-0)) c.in_ok-uses.ensures in
    let made = c.in_ok-need.ensures
    ∙ need_at-need_of c.args.targets.now c.args.dependencies.now c.loop-dependency.dependency-index c.dependency-item.result c.loop-dependency-test.true
    c.dependency-item.is (get_by_text c.in_ok-numbers_of.field-0) (has_name c.in_ok-target_names.field-0) (map counted_use c.as_slice-in-loop-dependency.result.now)
    c.in_ok-numbers_of.ensures c.in_ok-target_names.ensures (ap (map counted_use) c.as_slice-in-loop-dependency.ensures.value ∙ counted) in
    needs_more (need_of c.args.targets.now c.args.dependencies.now) c.args.dependencies.now c.loop-dependency.dependency-index c.dependency-item.result
    c.loop-dependency.needs.items c.push.new.self.items c.in_ok-need.field-0 c.loop-dependency-test.true c.dependency-item.is made c.in_ok-push.ensures.items
    ∙ c.loop-dependency.invariant
