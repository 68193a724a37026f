use Rattle.std.proofs.Common.{◌≡◌, ◌++◌, drop, map}
use Rattle.std.specs.List.{All}
use Rattle.spm_key.specs.Key.{IsKey}
use Rattle.spm_server.specs.Pages.{url_key}
use Rattle.spm_server.proofs.pages.add_url_keys.Given as goal

abbrev pub invariant-loop-entry : goal.invariant-loop-entry
invariant-loop-entry l = record {
  keys : l.keys.items ++ map url_key (drop l.entry-index l.urls) ≡ l.fn.keys.items ++ map url_key l.urls;
  are : All IsKey l.fn.keys.items → All IsKey l.keys.items;
}
