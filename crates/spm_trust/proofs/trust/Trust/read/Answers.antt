use Rattle.std.proofs.Common.{◌≡◌, ◌∙◌, List, Ok, ap, rules, sym}
use Rattle.std.specs.Cmp.Lexicographic.{nat_list_cmp_total}
use Rattle.std.specs.Prelude.{IsTrue, filter}
use Rattle.std.proofs.lemmas.Fn.{filter_same}
use Rattle.std.proofs.lemmas.List.Elements.{All-filter, filter_passes}
use Rattle.std.proofs.lemmas.List.Sorted.{All-permutation, answers_always, ranks_by}
use Rattle.spm_trust.specs.File.{trust_of}
use Rattle.spm_trust.specs.Trust.{AreSums, has_sums}
use Rattle.spm_trust.specs.declared.file.KeptPackage.{KeptPackage}
use Rattle.spm_trust.proofs.Ascending.{AreAscending-from_sorted, AreDistinct-permutation, is_before}
use Rattle.spm_trust.proofs.Distinct.{AreDistinct-filter, AreDistinct-trust_of}
use Rattle.spm_trust.proofs.trust.Trust.read.Goals as goal

-- the file is what the bytes say
reads : (c : goal.After-sort_unstable_by) → trust_of c.args.bytes.now ≡ Ok c.file.inside.packages
reads c = c.in_ok-file.ensures ∙ ap Ok (sym c.file.view_is)

-- the packages that have a sum are kept
retained : (c : goal.After-sort_unstable_by) → c.retain.new.self.items ≡ filter has_sums c.file.inside.packages
retained c = filter_same _ has_sums _ (λ x b f' k. search rules) _ _ c.retain.ensures.filtered ∙ ap (filter has_sums) c.into_vec-packages.ensures

pub invariant_of-result : goal.invariant_of-result
invariant_of-result c =
    let sort = c.sort_unstable_by.ensures in
    let file : List KeptPackage = c.file.inside.packages in
    let sorted = sort.sorted is_before (ranks_by nat_list_cmp_total (λ (p : KeptPackage). p.identity)) (answers_always _ _ _ (λ f a r after called. search rules)) in
    let distinct = AreDistinct-filter has_sums file (AreDistinct-trust_of c.args.bytes.now file (reads c)) in
    let same = rw (retained c) at sort.permutation in
    record {
      ascending = AreAscending-from_sorted c.sort_unstable_by.new.self.items sorted (AreDistinct-permutation _ _ same distinct);
      sums = All-permutation (λ (entry : KeptPackage). AreSums entry.sums) _ _ same (All-filter has_sums (λ (entry : KeptPackage). AreSums entry.sums) file c.file.invariant);
      kept = All-permutation (λ (entry : KeptPackage). IsTrue (has_sums entry)) _ _ same (filter_passes has_sums file);
    }

pub returns : goal.returns
returns c = (c.file.inside.packages, reads c, rw (← retained c) c.sort_unstable_by.ensures.permutation, invariant_of-result c)
