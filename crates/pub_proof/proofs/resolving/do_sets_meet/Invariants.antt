use Rattle.std.proofs.Common.{◌≡◌, drop}
use Rattle.std.specs.List.{list_all}
use Rattle.pub_proof.specs.Checked.{meets_in}
use Rattle.pub_proof.specs.Formed.{SizesAgree}
use Rattle.pub_proof.proofs.resolving.do_sets_meet.Given as goal

abbrev pub invariant-loop-term : goal.invariant-loop-term
invariant-loop-term l = record {
  agree : SizesAgree (drop l.term-index l.first) l.second.terms;
  left :
      list_all (meets_in l.second.terms l.on) (drop l.term-index l.first)
      ≡ list_all (meets_in l.second.terms l.on) l.first;
}
