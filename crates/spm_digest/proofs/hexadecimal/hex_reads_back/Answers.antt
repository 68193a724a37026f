use Rattle.spm_digest.proofs.SumLemmas.{sum_of-encode_lower}
use Rattle.spm_digest.proofs.hexadecimal.hex_reads_back.Goals as goal

pub returns : goal.returns
returns c = sum_of-encode_lower
