use Rattle.std.proofs.Common.{◌≡◌, map, take}
use Rattle.serde_json.specs.View.{view}
use Rattle.pub_proof.specs.ProofText.{term_data}
use Rattle.pub_proof.proofs.file_text.terms_value.Given as goal

abbrev pub invariant-loop-term : goal.invariant-loop-term
invariant-loop-term l = map view l.values.items ≡ map (term_data l.nodes) (take l.term-index l.terms)
