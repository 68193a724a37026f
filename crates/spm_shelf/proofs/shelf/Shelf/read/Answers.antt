use Rattle.std.proofs.Common.{◌≡◌, ◌∙◌, Ok, ap, refl, rules, sym}
use Rattle.std.specs.Cmp.Lexicographic.{nat_list_cmp_total}
use Rattle.std.proofs.lemmas.List.Sorted.{All-permutation, answers_always, ranks_by}
use Rattle.spm_shelf.specs.File.{shelf_of}
use Rattle.spm_shelf.specs.Shelf.{AreReleases}
use Rattle.spm_shelf.specs.declared.file.ShelfFile.{ShelfFile}
use Rattle.spm_shelf.specs.declared.file.ShelfPackage.{ShelfPackage}
use Rattle.spm_shelf.proofs.Ascending.{AreAscending-from_sorted, AreDistinct-permutation, is_before}
use Rattle.spm_shelf.proofs.Distinct.{AreDistinct-shelf_of}
use Rattle.spm_shelf.proofs.shelf.Shelf.read.Goals as goal

-- the file that was read
file_of : goal.After-urls → ShelfFile
file_of c = record { packages = c.packages-2.inside.packages; urls = c.urls.inside.urls }

-- it is what the bytes say
reads : (c : goal.After-urls) → shelf_of c.args.bytes.now ≡ Ok (file_of c)
unfolding file_of
reads c =
    c.in_ok-packages.ensures ∙ ap Ok (sym c.packages.view_is)
    ∙ ap (λ packages. Ok (record { packages = packages; urls = c.packages.inside.urls })) (sym c.packages-2.view_is)
    ∙ ap (λ urls. Ok (record { packages = c.packages-2.inside.packages; urls = urls })) (sym c.urls.view_is)

pub invariant_of-result : goal.invariant_of-result
unfolding file_of
invariant_of-result c =
    let sort = c.sort_unstable_by.ensures in
    let sorted = sort.sorted is_before (ranks_by nat_list_cmp_total (λ (p : ShelfPackage). p.identity)) (answers_always _ _ _ (λ f a r after called. search rules)) in
    let distinct = AreDistinct-shelf_of c.args.bytes.now (file_of c) (reads c) in
    let same = rw c.into_vec-packages.ensures at sort.permutation in
    rw c.from_vec.ensures (record {
      packages = AreAscending-from_sorted c.sort_unstable_by.new.self.items sorted (AreDistinct-permutation _ _ same distinct);
      releases = All-permutation (λ (entry : ShelfPackage). AreReleases entry.releases) _ _ same c.packages-2.invariant;
      urls = c.urls.invariant;
    })

pub returns : goal.returns
unfolding file_of
returns c =
    let sort = c.sort_unstable_by.ensures in (
      file_of c,
      reads c,
      record {
        same = rw (c.from_vec.ensures, ← c.into_vec-packages.ensures) sort.permutation;
        ascending = (invariant_of-result c).packages;
        urls = refl;
      },
    )
