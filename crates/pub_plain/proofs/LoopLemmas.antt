-- Lists in loops.
use Rattle.std.proofs.Common.{◌≤◌, Bool, true, false, cond, List, [], ◌∷◌, length, arith}
use Rattle.std.specs.List.{filter}
use Rattle.pub_term.specs.declared.node.NodeName.{NodeName}
use Rattle.pub_plain.specs.Loading.{is_package, package_count}

-- there are no more packages than nodes
pub count_bound : (nodes : List NodeName) → package_count nodes ≤ length nodes
count_bound [] = omega arith
count_bound (node ∷ nodes) = go (count_bound nodes) (is_package node)
  where
    go : package_count nodes ≤ length nodes → (is_one : Bool)
        → length (cond is_one (node ∷ filter is_package nodes) (filter is_package nodes)) ≤ length (node ∷ nodes)
    go rest true = omega (arith, rest)
    go rest false = omega (arith, rest)
