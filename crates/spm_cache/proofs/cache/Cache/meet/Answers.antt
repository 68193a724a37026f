use Rattle.spm_cache.proofs.Meeting.{met_fits}
use Rattle.spm_cache.proofs.cache.Cache.meet.Goals as goal

pub invariant_of-result : goal.invariant_of-result
invariant_of-result c =
    met_fits c.first.inside.seat c.second.inside.seat c.meet.result c.first.inside.actor c.second.inside.actor c.first.invariant c.second.invariant
    c.meet.ensures.seat.1 c.meet.ensures.seat.3 c.meet.ensures.terms.0 c.meet.ensures.terms.1 c.meet.ensures.longer
