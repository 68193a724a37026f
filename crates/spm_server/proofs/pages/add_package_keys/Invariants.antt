use Rattle.std.proofs.Common.{◌≡◌, ◌++◌, drop}
use Rattle.std.specs.List.{All, flat_map}
use Rattle.spm_key.specs.Key.{IsKey}
use Rattle.spm_server.specs.Pages.{package_keys, release_keys}
use Rattle.spm_server.proofs.pages.add_package_keys.Given as goal

abbrev pub invariant-loop-release : goal.invariant-loop-release
invariant-loop-release l = record {
  keys : l.keys.items ++ flat_map (release_keys l.entry.identity) (drop l.release-index l.release-items) ≡ l.fn.keys.items ++ package_keys l.entry;
  are : All IsKey l.fn.keys.items → All IsKey l.keys.items;
}
