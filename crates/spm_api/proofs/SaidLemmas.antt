-- What a list and a look-up say, by what their readers answer.
use Rattle.std.proofs.Common.{◌≡◌, ℕ, false, nat_lt, List, length, Option, Ok, Err, refl, arith}
use Rattle.std.specs.Prelude.{is_ok}
use Rattle.std.proofs.lemmas.Bool.Decides.{nat_tests}
use Rattle.spm_json.specs.Reading.{Reading}
use Rattle.spm_version.specs.Release.{Parts}
use Rattle.spm_api.specs.Bodies.{all_some}
use Rattle.spm_api.specs.Reads.{ReadsIdentifiers, ReadsList}
use Rattle.spm_api.specs.Said.{list_said, package_said}
use Rattle.spm_api.specs.SaidParts.{unless_unreadable}
use Rattle.spm_api.specs.declared.replies.Said.TheVariants.{Package, Releases}
use Rattle.spm_api.proofs.AscendingLemmas.{ascending_is}
use Rattle.spm_api.proofs.LeastIdentity.{least_identity_is}

-- the releases that are read are what the list says
pub list_read : (reading : Reading (List (Option Parts))) (releases : List Parts) → ReadsList (Ok releases) reading
    → unless_unreadable (is_ok reading) (list_said reading) ≡ Ok (Releases releases)
list_read (Ok listed) releases reads =
    let short : nat_lt 4096 (length (all_some listed)) ≡ false = grind (arith, nat_tests, reads.2) in
    rw (short, ascending_is (all_some listed) releases reads.0 reads.1) refl
list_read (Err first) releases reads = absurd reads

-- the identity that is read is what the look-up says
pub package_read : (reading : Reading (List (List ℕ))) (least : Option (List ℕ)) → ReadsIdentifiers (Ok least) reading
    → unless_unreadable (is_ok reading) (package_said reading) ≡ Ok (Package least)
package_read (Ok texts) least reads = rw (least_identity_is texts least reads) refl
package_read (Err first) least reads = absurd reads
