use Rattle.std.proofs.Common.{◌≡◌, ◌∙◌, ◌+◌, ◌++◌, ◌∷◌, [], length, Ok, subst, arith}
use Rattle.pub_proof.specs.Checked.{at_line, line_in}
use Rattle.pub_proof.specs.Checks.{terms_of}
use Rattle.pub_proof.proofs.FormedLemmas.{are_formed_behind, lines_next}
use Rattle.pub_proof.proofs.checking.all_lines.Goals as goal

pub loop-line-preserved : goal.loop-line-preserved
loop-line-preserved c =
    let sizes = c.args.sizes.now in
    let facts = terms_of c.args.facts.now in
    let pushed : c.push.new.self ≡ c.loop-line.derived ++ c.in_ok-next.next ∷ [] = c.in_ok-push.ensures.ok in
    record {
      place = omega arith;
      formed = rw pushed (are_formed_behind sizes c.loop-line.derived c.in_ok-next.next c.loop-line.invariant.formed c.in_ok-next.ensures.formed);
      left =
          rw pushed
          (lines_next sizes facts c.loop-line.derived c.args.lines.now c.loop-line.line-index c.line-item.result c.in_ok-next.next (omega arith) c.line-item.is
          (subst (λ earlier. at_line (length earlier + 1) (line_in sizes facts (terms_of earlier) c.line-item.result) ≡ Ok c.in_ok-next.next.terms)
          c.as_slice-earlier.ensures c.in_ok-next.ensures.checked)
          ∙ c.loop-line.invariant.left);
    }
