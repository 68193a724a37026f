use Rattle.std.proofs.Common.{rules}
use Rattle.std.proofs.lemmas.Fn.{always_returns_same}
use Rattle.spm_trust.specs.Adding.{beside}
use Rattle.spm_trust.proofs.Searching.{search-found, search-missed}
use Rattle.spm_trust.proofs.adding.place_of.Goals as goal

pub returns-clause-found : goal.returns-clause-found
returns-clause-found c =
    search-found c.args.identity.now c.args.packages.now c.binary_search_by.result
    (c.binary_search_by.ensures.position (beside c.args.identity.now) (always_returns_same _ _ _ (λ a r after called. search rules)))

pub returns-clause-missed : goal.returns-clause-missed
returns-clause-missed c =
    search-missed c.args.identity.now c.args.packages.now c.binary_search_by.result c.requires
    (c.binary_search_by.ensures.position (beside c.args.identity.now) (always_returns_same _ _ _ (λ a r after called. search rules)))
