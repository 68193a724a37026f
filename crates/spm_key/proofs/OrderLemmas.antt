-- Comparing what references point to.
use Rattle.std.proofs.Common.{◌≡◌, Option, Some, None, refl}
use Rattle.std.specs.Borrow.{Bor}
use Rattle.std.specs.Option.{option_cmp, option_copied}
use Rattle.std.specs.declared.cmp.Ordering.{Ordering}

-- what references point to is compared
pub option_cmp-copied : {K : Type 0} (R : K → K → Ordering) (first second : Option (Bor K))
    → option_cmp (λ x y. R x.now y.now) first second ≡ option_cmp R (option_copied first) (option_copied second)
option_cmp-copied R None None = refl
option_cmp-copied R None (Some second) = refl
option_cmp-copied R (Some first) None = refl
option_cmp-copied R (Some first) (Some second) = refl
