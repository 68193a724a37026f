-- The laws of the order of nodes: a node is told by its package and its trait.
use Rattle.std.specs.Str.{bytes_eq}
use Rattle.std.specs.Prelude.{◌≡◌, ◌&&◌, ℕ, List, Bool, Option, Some, None, refl}
use Rattle.std.specs.Cmp.{IsEquivalence, IsPartialOrder, IsTotalOrder, and_equiv, both_tied, on_equiv, on_total, po, then_total}
use Rattle.std.specs.Cmp.Lexicographic.{nat_list_cmp_total, nat_list_eq_equiv, options_equiv, options_total, slice_cmp, texts_ties}
use Rattle.std.specs.Option.{option_cmp, option_eq}
use Rattle.std.specs.Ordering.{eq_by_cmp, nat_cmp}
use Rattle.std.proofs.Common.{subst}
use Rattle.pub_term.specs.Node.{node_cmp, optional_cmp, package_of, trait_of}
use Rattle.pub_term.specs.declared.node.NodeName.{NodeName}

-- the same package and the same trait
abbrev pub node_eq : NodeName → NodeName → Bool
node_eq first second =
    option_eq (bytes_eq) (package_of first) (package_of second) && option_eq (bytes_eq) (trait_of first) (trait_of second)

pub node_equiv : IsEquivalence node_eq
node_equiv = and_equiv (on_equiv package_of (options_equiv nat_list_eq_equiv)) (on_equiv trait_of (options_equiv nat_list_eq_equiv))

-- it is the order of `Option`
optional-is : (first second : Option (List ℕ)) → option_cmp (slice_cmp nat_cmp) first second ≡ optional_cmp first second
optional-is None None = refl
optional-is None (Some second) = refl
optional-is (Some first) None = refl
optional-is (Some first) (Some second) = refl

pub optional_total : IsTotalOrder optional_cmp
optional_total = subst IsTotalOrder (λ i first second. optional-is first second i) (options_total nat_list_cmp_total)

pub optional_ties : (first second : Option (List ℕ)) → option_eq (bytes_eq) first second ≡ eq_by_cmp optional_cmp first second
optional_ties None None = refl
optional_ties None (Some second) = refl
optional_ties (Some first) None = refl
optional_ties (Some first) (Some second) = texts_ties first second

pub node_total : IsTotalOrder node_cmp
node_total = then_total (on_total package_of optional_total) (on_total trait_of optional_total)

-- two nodes are equal exactly where the order does not tell them apart
pub node_ties : (first second : NodeName) → node_eq first second ≡ eq_by_cmp node_cmp first second
node_ties first second = both_tied _ _ _ _ (optional_ties (package_of first) (package_of second)) (optional_ties (trait_of first) (trait_of second))

pub node_po : IsPartialOrder node_eq (λ first second. Some (node_cmp first second))
node_po = po node_total node_ties
