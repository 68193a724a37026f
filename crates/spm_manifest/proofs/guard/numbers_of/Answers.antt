use Rattle.std.proofs.Common.{◌∙◌, ap, cond, Some, string_bytes}
use Rattle.std.specs.BTreeMap.{get_by_text}
use Rattle.std.specs.Str.{bytes_eq, str_to_ascii_lowercase}
use Rattle.std.proofs.lemmas.Map.Text.{btree_map_updates_text}
use Rattle.spm_manifest.proofs.Counting.{number_more}
use Rattle.spm_manifest.proofs.guard.numbers_of.Goals as goal

pub loop-number-preserved : goal.loop-number-preserved
loop-number-preserved c = λ identity.
    number_more identity c.args.dependencies.now c.loop-number.number c.index-dependencies-number.result
    (get_by_text c.loop-number.numbers identity) (get_by_text c.insert.new.self identity) c.loop-number-test.true c.index-dependencies-number.is
    (btree_map_updates_text (string_bytes c.in_ok-identity.identity) c.loop-number.numbers c.insert.new.self _ c.in_ok-_earlier.ensures.updates identity
    ∙ ap (λ text. cond (bytes_eq text identity) (Some c.loop-number.number) (get_by_text c.loop-number.numbers identity)) (c.in_ok-identity.ensures.ok ∙ ap str_to_ascii_lowercase c.as_str.ensures))
    ∙ c.loop-number.invariant identity
