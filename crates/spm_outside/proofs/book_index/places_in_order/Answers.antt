use Rattle.std.proofs.Common.{rules, subst, sym}
use Rattle.std.proofs.lemmas.Fn.{always_returns_same}
use Rattle.std.proofs.lemmas.List.Sorted.{Contains-permutation}
use Rattle.std.specs.List.{Contains}
use Rattle.std.specs.Ordering.{is_lt}
use Rattle.spm_outside.proofs.BookLemmas.{all_places, place_cmp_weak}
use Rattle.spm_outside.specs.BookOrder.{place_cmp}
use Rattle.spm_outside.proofs.book_index.places_in_order.Goals as goal

pub returns : goal.returns
returns c =
    let entries = c.args.entries.now in
    record {
      all = λ place within.
          Contains-permutation _ _ place c.sort_unstable_by.ensures.permutation
          (subst (λ places. Contains places place) (sym c.in_ok-places.ensures) (all_places _ place within));
      sorted =
          c.sort_unstable_by.ensures.sorted (λ first second. is_lt (place_cmp entries first second)) (place_cmp_weak entries)
          (always_returns_same _ _ _ (λ a r q k. search rules));
    }
