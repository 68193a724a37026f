use Rattle.std.proofs.Common.{◌≡◌, take}
use Rattle.pub_facts.proofs.known.copy_of_urls.Given as goal

abbrev pub invariant-loop-url : goal.invariant-loop-url
invariant-loop-url l = l.copy ≡ take l.url-index l.urls
