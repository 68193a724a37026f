use Rattle.std.proofs.Common.{◌≡◌, Some, drop}
use Rattle.std.specs.Option.{option_copied}
use Rattle.pub_facts.specs.Facts.{owner_node}
use Rattle.spm_judge.specs.Spread.{each_put, put_on, spread_ask}
use Rattle.spm_judge.proofs.spread.spread_to.Given as goal

abbrev pub invariant-loop-ask : goal.invariant-loop-ask
invariant-loop-ask l =
    each_put (spread_ask (option_copied l.owner) l.target) l.on.keys (drop l.ask-index l.need.asked)
    ≡ each_put (spread_ask (option_copied l.owner) l.target) (put_on l.fn.on.keys (owner_node (Some l.target))) l.need.asked
