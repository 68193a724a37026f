use Rattle.std.proofs.Common.{◌≡◌, map, take}
use Rattle.serde_json.specs.View.{view}
use Rattle.pub_proof.specs.ProofText.{line_data}
use Rattle.pub_proof.proofs.file_text.lines_value.Given as goal

abbrev pub invariant-loop-line : goal.invariant-loop-line
invariant-loop-line l = map view l.values.items ≡ map (line_data l.nodes) (take l.line-index l.lines)
