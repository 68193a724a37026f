use Rattle.std.proofs.Common.{◌≡◌, ◌++◌, drop}
use Rattle.std.specs.List.{All, flat_map}
use Rattle.spm_key.specs.Key.{IsKey}
use Rattle.spm_server.specs.Pages.{package_keys}
use Rattle.spm_server.proofs.pages.keys_on.Given as goal

abbrev pub invariant-loop-package : goal.invariant-loop-package
invariant-loop-package l = record {
  keys : l.keys.items ++ flat_map package_keys (drop l.package-index l.package-items) ≡ flat_map package_keys l.package-items;
  are : All IsKey l.keys.items;
}
