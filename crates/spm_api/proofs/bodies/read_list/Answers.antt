use Rattle.std.proofs.Common.{arith}
use Rattle.spm_api.specs.Bodies.{releases_of}
use Rattle.spm_api.proofs.DistinctLemmas.{reads_sorted}
use Rattle.spm_api.proofs.bodies.read_list.Goals as goal

pub returns : goal.returns
returns c =
    reads_sorted (releases_of c.args.body.now) c.in_ok-listing.listing c.listing.inside.listed c.in_ok-releases.releases.items c.sort.new.self.items c.from_vec.result
    c.in_ok-listing.ensures c.listing.view_is c.listing.invariant c.in_ok-releases.ensures.ok (omega (arith, c.len.ensures, c.if-len-gt-MAX_RELEASES.false))
    c.in_ok-sort.ensures.permutation c.in_ok-sort.ensures.sorted c.from_vec.ensures
