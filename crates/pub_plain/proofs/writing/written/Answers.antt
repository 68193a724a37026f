use Rattle.std.proofs.Common.{arith}
use Rattle.pub_plain.proofs.WritingLemmas.{searches_all, searches_found, searches_none, searches_other}
use Rattle.pub_plain.proofs.writing.written.Goals as goal

pub loop-place-init : goal.loop-place-init
loop-place-init c = record { within = omega arith; searched = searches_all c.args.lines.now c.args.line.now }

pub returns-then-is_same : goal.returns-then-is_same
returns-then-is_same c =
    searches_found c.args.lines.now c.args.line.now c.index-lines-place.result c.loop-place.place c.is_same.result (omega arith)
    c.loop-place.invariant.within c.index-lines-place.is c.is_same.ensures c.if-is_same.true c.loop-place.invariant.searched

pub loop-place-preserved : goal.loop-place-preserved
loop-place-preserved c = record {
  within = omega arith;
  searched =
      searches_other c.args.lines.now c.args.line.now c.index-lines-place.result c.loop-place.place c.is_same.result (omega arith)
      c.loop-place.invariant.within c.index-lines-place.is c.is_same.ensures c.if-is_same.false c.loop-place.invariant.searched;
}

pub returns : goal.returns
returns c = searches_none c.args.lines.now c.args.line.now c.loop-place.place (omega arith) c.loop-place.invariant.searched
