-- The order of all releases: by the three numbers, by the pre-release, and then by the build metadata,
-- as Cargo's `semver` orders them. It tells apart what differs in any part, and agrees with precedence
-- where that tells two apart.
use Rattle.std.specs.Str.{bytes_eq}
use Rattle.std.specs.Prelude.{◌≡◌, ◌==◌, ◌&&◌, Bool, Some}
use Rattle.std.specs.Cmp.{IsEquivalence, IsPartialOrder, IsTotalOrder, and_equiv, both_tied, nat_cmp_total, nat_eq_equiv, on_equiv, on_total, po, then_total, unsigned_ties}
use Rattle.std.specs.Cmp.Lexicographic.{nat_list_eq_equiv}
use Rattle.std.specs.Ordering.{eq_by_cmp, nat_cmp, ordering_then}
use Rattle.std.specs.declared.cmp.Ordering.{Ordering}
use Rattle.semver.specs.Order.{build_cmp, pre_cmp}
use Rattle.semver.specs.OrderLaws.{build-anti, build_total, order_ties, pre-anti, pre_total}
use Rattle.spm_version.specs.Release.{Parts}

-- the same parts
abbrev pub release_eq : Parts → Parts → Bool
release_eq first second = first.0 == second.0 && (first.1 == second.1 && (first.2 == second.2
    && (bytes_eq first.3 second.3 && bytes_eq first.4 second.4)))

-- the order by all parts
abbrev pub release_cmp : Parts → Parts → Ordering
release_cmp first second = ordering_then (nat_cmp first.0 second.0) (ordering_then (nat_cmp first.1 second.1)
    (ordering_then (nat_cmp first.2 second.2) (ordering_then (pre_cmp first.3 second.3) (build_cmp first.4 second.4))))

pub release_equiv : IsEquivalence release_eq
release_equiv = and_equiv (on_equiv (λ (p : Parts). p.0) nat_eq_equiv) (and_equiv (on_equiv (λ (p : Parts). p.1) nat_eq_equiv)
    (and_equiv (on_equiv (λ (p : Parts). p.2) nat_eq_equiv) (and_equiv (on_equiv (λ (p : Parts). p.3) nat_list_eq_equiv)
    (on_equiv (λ (p : Parts). p.4) nat_list_eq_equiv))))

pub release_total : IsTotalOrder release_cmp
release_total = then_total (on_total (λ (p : Parts). p.0) nat_cmp_total) (then_total (on_total (λ (p : Parts). p.1) nat_cmp_total)
    (then_total (on_total (λ (p : Parts). p.2) nat_cmp_total) (then_total (on_total (λ (p : Parts). p.3) pre_total)
    (on_total (λ (p : Parts). p.4) build_total))))

-- `==` holds exactly where the order does not tell two apart
pub release_ties : (first second : Parts) → release_eq first second ≡ eq_by_cmp release_cmp first second
release_ties first second = both_tied _ _ _ _ (unsigned_ties first.0 second.0) (both_tied _ _ _ _ (unsigned_ties first.1 second.1)
    (both_tied _ _ _ _ (unsigned_ties first.2 second.2) (both_tied _ _ _ _ (order_ties pre_cmp pre_total pre-anti first.3 second.3)
    (order_ties build_cmp build_total build-anti first.4 second.4))))

pub release_po : IsPartialOrder release_eq (λ first second. Some (release_cmp first second))
release_po = po release_total release_ties
