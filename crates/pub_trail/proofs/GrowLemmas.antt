-- What stands over fewer nodes and incompatibilities stands over more.
use Rattle.std.proofs.Common.{◌≡◌, ℕ, ◌-◌, ◌<◌, ◌≤◌, ◌==◌, Bool, not, List, [], ◌∷◌, ◌++◌, length, slice_index, slice_index_or, refl, sym, ◌∙◌, subst, inl, inr, arith, length-append}
use Rattle.std.proofs.lemmas.Bool.{cases_lt}
use Rattle.std.proofs.lemmas.List.{get_or-append_right, get_or_append_left}
use Rattle.pub_set.specs.Choices.{ChoiceSet, has}
use Rattle.pub_term.specs.declared.term.Term.{Term}
use Rattle.pub_trail.specs.Invariant.{AreFormed, AreSized, IsAlmost, IsAssignment, IsDerived, IsFormed, IsReason, IsSized, IsTrail, Leaves, ViolatesNone, Within}
use Rattle.pub_trail.specs.declared.trail.Assigned.{Assigned}
use Rattle.pub_trail.specs.declared.trail.Reason.{Reason}
use Rattle.pub_trail.specs.declared.trail.Reason.TheVariants.{Decided, Derived}
use Rattle.pub_trail.proofs.LieLemmas.{formed_at, sized_at}

-- the new list begins with the old
pub record Extends {X : Type 0} (default : X) (old new : List X) : Type 0 where
  pub longer : length old ≤ length new
  pub same : (i : ℕ) → i < length old → slice_index_or new i default ≡ slice_index_or old i default

-- a list extends its beginning
pub Extends-append : {X : Type 0} (default : X) (old more : List X) → Extends default old (old ++ more)
Extends-append default old more = record {
  longer = omega (arith, length-append old more);
  same = λ i within. get_or_append_left old more default i within;
}

-- and itself
pub Extends-same : {X : Type 0} (default : X) (old : List X) → Extends default old old
Extends-same default old = record { longer = omega arith; same = λ i within. refl }

-- sets keep their sizes over more nodes
sized_grow : (sizes more : List ℕ) (node : ℕ) (set : ChoiceSet) → Extends 0 sizes more → IsSized sizes node set → IsSized more node set
sized_grow sizes more node set extends sized = (omega (arith, sized.0, extends.longer), sized.1 ∙ sym (extends.same node sized.0), sized.2)

-- and so do those of terms
are_sized_grow : (sizes more : List ℕ) (terms : List Term) → Extends 0 sizes more → AreSized sizes terms → AreSized more terms
are_sized_grow sizes more [] extends sized = tt
are_sized_grow sizes more (term ∷ terms) extends sized =
    (sized_grow sizes more term.node term.choices extends sized.0, are_sized_grow sizes more terms extends sized.1)

-- well formed terms stay so over more nodes
pub IsFormed-grow : (sizes more : List ℕ) (terms : List Term) → Extends 0 sizes more → IsFormed sizes terms → IsFormed more terms
IsFormed-grow sizes more terms extends formed = record { incompat = formed.incompat; sized = are_sized_grow sizes more terms extends formed.sized }

-- and so do incompatibilities
pub AreFormed-grow : (sizes more : List ℕ) (incompats : List (List Term)) → Extends 0 sizes more → AreFormed sizes incompats → AreFormed more incompats
AreFormed-grow sizes more [] extends formed = tt
AreFormed-grow sizes more (terms ∷ others) extends formed =
    (IsFormed-grow sizes more terms extends formed.0, AreFormed-grow sizes more others extends formed.1)

-- two lists of well formed incompatibilities
pub AreFormed-append : (sizes : List ℕ) (xs ys : List (List Term)) → AreFormed sizes xs → AreFormed sizes ys → AreFormed sizes (xs ++ ys)
AreFormed-append sizes [] ys formed_x formed_y = formed_y
AreFormed-append sizes (x ∷ xs) ys formed_x formed_y = (formed_x.0, AreFormed-append sizes xs ys formed_x.1 formed_y)

-- an assignment of more nodes is one of fewer
pub IsAssignment-shrink : (sizes more : List ℕ) (assignment : ℕ → ℕ) → Extends 0 sizes more → IsAssignment more assignment → IsAssignment sizes assignment
IsAssignment-shrink sizes more assignment extends is = λ node known.
    subst (λ size. assignment node < size) (extends.same node known) (is node (omega (arith, extends.longer)))

-- ---- the trail

-- what is left lies within a set over more nodes too
within_grow : (sizes more : List ℕ) (trail : List Assigned) (node : ℕ) (set : ChoiceSet) → Extends 0 sizes more → node < length sizes
    → Within sizes trail node set → Within more trail node set
within_grow sizes more trail node set extends known within = λ choice below allowed.
    within choice (subst (λ size. choice < size) (extends.same node known) below) allowed

-- and passes the same test
leaves_grow : (sizes more : List ℕ) (trail : List Assigned) (node : ℕ) (test : ℕ → Bool) → Extends 0 sizes more → node < length sizes
    → Leaves sizes trail node test → Leaves more trail node test
leaves_grow sizes more trail node test extends known left = record {
  choice = left.choice;
  below = subst (λ size. left.choice < size) (sym (extends.same node known)) left.below;
  allowed = left.allowed;
  passes = left.passes;
}

-- what is almost satisfied stays so
almost_grow : (sizes more : List ℕ) (trail : List Assigned) (terms : List Term) (node : ℕ) (set : ChoiceSet) → Extends 0 sizes more → IsFormed sizes terms
    → IsAlmost sizes trail terms node set → IsAlmost more trail terms node set
almost_grow sizes more trail terms node set extends formed almost =
    let known = (sized_at sizes terms node set formed.sized almost.at).0 in
    record {
      at = almost.at;
      others = λ other its differs at.
          within_grow sizes more trail other its extends (sized_at sizes terms other its formed.sized at).0 (almost.others other its differs at);
      meets = leaves_grow sizes more trail node (has set) extends known almost.meets;
      lacks = leaves_grow sizes more trail node (λ choice. not (has set choice)) extends known almost.lacks;
    }

-- an entry keeps its reason
reason_grow : (reason : Reason) (sizes more : List ℕ) (incompats others : List (List Term)) (before : List Assigned) (entry : Assigned)
    → Extends 0 sizes more → Extends [] incompats others → AreFormed sizes incompats
    → IsReason reason sizes incompats before entry → IsReason reason more others before entry
reason_grow Decided sizes more incompats others before entry extends grows formed by = record {
  choice = by.choice;
  known = omega (arith, by.known, extends.longer);
  fresh = by.fresh;
  left = leaves_grow sizes more before entry.node (λ other. other == by.choice) extends by.known by.left;
  choices = λ other below. by.choices other (subst (λ size. other < size) (extends.same entry.node by.known) below);
  level = by.level;
}
reason_grow (Derived number) sizes more incompats others before entry extends grows formed by = (
  omega (arith, by.0, grows.longer),
  subst (λ terms. IsDerived more terms before entry) (sym (grows.same number by.0)) (record {
    set = by.1.set;
    almost = almost_grow sizes more before (slice_index_or incompats number []) entry.node by.1.set extends (formed_at sizes incompats number formed by.0) by.1.almost;
    choices = by.1.choices;
    level = by.1.level;
  }),
)

-- a trail stays one over more nodes and incompatibilities
pub IsTrail-grow : (sizes more : List ℕ) (incompats others : List (List Term)) (trail : List Assigned) → Extends 0 sizes more → Extends [] incompats others
    → AreFormed sizes incompats → IsTrail sizes incompats trail → IsTrail more others trail
IsTrail-grow sizes more incompats others [] extends grows formed is = tt
IsTrail-grow sizes more incompats others (entry ∷ before) extends grows formed is = (
  reason_grow entry.reason sizes more incompats others before entry extends grows formed is.0,
  IsTrail-grow sizes more incompats others before extends grows formed is.1,
)

-- each node of two lists has a choice
pub some_append : (sizes more : List ℕ) → ((node : ℕ) → node < length sizes → 0 < slice_index sizes node)
    → ((node : ℕ) → node < length more → 0 < slice_index more node) → (node : ℕ) → node < length (sizes ++ more) → 0 < slice_index (sizes ++ more) node
some_append sizes more some_old some_new node known =
    elim (cases_lt node (length sizes)) [
      | inl old ↦ subst (λ size. 0 < size) (sym (get_or_append_left sizes more 0 node old)) (some_old node old)
      | inr new ↦
          subst (λ size. 0 < size) (sym (get_or-append_right sizes more (length sizes) node 0 refl new))
          (some_new (node - length sizes) (omega (arith, length-append sizes more)))
    ]

-- ---- violations

-- an assignment that violates none of two lists
pub ViolatesNone-append : (xs ys : List (List Term)) (assignment : ℕ → ℕ) → ViolatesNone xs assignment → ViolatesNone ys assignment
    → ViolatesNone (xs ++ ys) assignment
ViolatesNone-append [] ys assignment none_x none_y = none_y
ViolatesNone-append (x ∷ xs) ys assignment none_x none_y = (none_x.0, ViolatesNone-append xs ys assignment none_x.1 none_y)

-- and of each of them
pub ViolatesNone-parts : (xs ys : List (List Term)) (assignment : ℕ → ℕ) → ViolatesNone (xs ++ ys) assignment
    → ViolatesNone xs assignment × ViolatesNone ys assignment
ViolatesNone-parts [] ys assignment none = (tt, none)
ViolatesNone-parts (x ∷ xs) ys assignment none =
    let rest = ViolatesNone-parts xs ys assignment none.1 in
    ((none.0, rest.0), rest.1)
