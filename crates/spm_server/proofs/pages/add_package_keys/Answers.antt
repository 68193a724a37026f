use Rattle.std.proofs.Common.{arith}
use Rattle.spm_server.specs.Pages.{release_keys}
use Rattle.spm_server.proofs.PagesLemmas.{one_more}
use Rattle.spm_server.proofs.pages.add_package_keys.Goals as goal

pub loop-release-preserved : goal.loop-release-preserved
loop-release-preserved c = record {
  keys = one_more (release_keys c.args.entry.now.identity) c.loop-release.keys.items c.add_release_keys.new.keys.items _ c.as_slice-release-items.result.now c.loop-release.release-index
      c.release-item.result (omega arith) c.release-item.is c.in_ok-add_release_keys.ensures.keys c.loop-release.invariant.keys;
  are = λ all. c.in_ok-add_release_keys.ensures.are (c.loop-release.invariant.are all);
}
