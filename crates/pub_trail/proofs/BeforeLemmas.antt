-- What is left without the newest assignment, from what was left for its node before it.
use Rattle.std.proofs.Common.{◌≡◌, ℕ, ◌+◌, ◌-◌, ◌<◌, ◌≤◌, ◌==◌, ◌&&◌, ◌||◌, not, Bool, true, false, List, [], ◌∷◌, ◌++◌, length, get_or, reverse, set, take, slice_index, refl, sym, ap, ◌∙◌, subst, inl, inr, arith, if◌then◌else◌, eq-eqb, ne_eqb, length-set}
use Rattle.std.proofs.lemmas.Bool.{cases_eq, cases_lt, cond-false, cond-true}
use Rattle.std.proofs.lemmas.List.{get_or-set_other, get_or-set_same, get_or-take, get_or_append_left, get_or_push, get_or_read, length-take-le, length_push}
use Rattle.std.proofs.Math.Seq.{take-take}
use Rattle.pub_set.specs.Choices.{ChoiceSet, has, intersection, no_choices}
use Rattle.pub_term.specs.Known.{known_at}
use Rattle.pub_trail.specs.KnownOf.{AreBefore, AreLeft, IsEntry}
use Rattle.pub_trail.specs.Trail.{accum, allows}
use Rattle.pub_trail.specs.declared.trail.Assigned.{Assigned}
use Rattle.pub_term.specs.declared.term.Term.{Term}
use Rattle.pub_term.specs.Known as kept
use Rattle.pub_trail.specs.Invariant.{AreSized}
use Rattle.pub_trail.specs.Trail.{holds}
use Rattle.pub_trail.proofs.KnownLemmas.{holds-left, kept_other, narrowed, where_same}
use Rattle.pub_trail.proofs.WalkLemmas.{split_at}

-- without the newest assignment its node has what was left before it, and the others what they have
pub AreLeft-back : (sizes : List ℕ) (before : List Assigned) (entry : Assigned) (known : List ChoiceSet) (choices : ChoiceSet) → AreLeft sizes (entry ∷ before) known
    → IsEntry sizes entry → choices ≡ accum sizes before entry.node → AreLeft sizes before (set known entry.node choices)
AreLeft-back sizes before entry known choices left is at = record {
  nodes = length-set known entry.node choices ∙ left.nodes;
  sets = λ node within.
      elim (cases_eq node entry.node) [
        | inl same ↦
            subst (λ n. known_at (set known entry.node choices) n ≡ accum sizes before n) (sym same)
            (get_or-set_same known entry.node choices (no_choices 0) (omega (arith, left.nodes, is.0)) ∙ at)
        | inr differs ↦
            get_or-set_other known entry.node node choices (no_choices 0) differs
            ∙ left.sets node within ∙ sym (kept_other sizes before entry node (λ same. differs (sym same)))
      ];
}

-- a satisfier that stays on top of the trail
swapped : (a b rest : Bool) → (a && (b && rest)) ≡ (b && (a && rest))
swapped true b rest = refl
swapped false true rest = refl
swapped false false rest = refl

-- two assignments leave the same in either order
accum-swap : (sizes : List ℕ) (first second : Assigned) (before : List Assigned) (node : ℕ)
    → accum sizes (first ∷ second ∷ before) node ≡ accum sizes (second ∷ first ∷ before) node
accum-swap sizes first second before node =
    where_same (slice_index sizes node) (allows (first ∷ second ∷ before) node) (allows (second ∷ first ∷ before) node)
    (λ k below.
    swapped (not (first.node == node) || has first.choices k) (not (second.node == node) || has second.choices k) (allows before node k))

-- what is left for the entry's node without it, with the satisfier
pub without_is : (sizes : List ℕ) (satisfier entry : Assigned) (before : List Assigned) (was choices : ChoiceSet) → was ≡ accum sizes before entry.node
    → choices ≡ (if entry.node == satisfier.node then intersection was satisfier.choices else was)
    → choices ≡ accum sizes (satisfier ∷ before) entry.node
without_is sizes satisfier entry before was choices at is =
    elim (cases_eq entry.node satisfier.node) [
      | inl same ↦
          is ∙ cond-true (entry.node == satisfier.node) (intersection was satisfier.choices) was (eq-eqb entry.node satisfier.node same)
          ∙ ap (λ s. intersection s satisfier.choices) (at ∙ ap (accum sizes before) same) ∙ narrowed sizes before satisfier
          ∙ ap (accum sizes (satisfier ∷ before)) (sym same)
      | inr differs ↦
          is ∙ cond-false (entry.node == satisfier.node) (intersection was satisfier.choices) was (ne_eqb entry.node satisfier.node differs)
          ∙ at ∙ kept_other sizes before satisfier entry.node (λ same. differs (sym same))
    ]

-- the same under the satisfier: the entry below it goes
pub AreLeft-below : (sizes : List ℕ) (satisfier entry : Assigned) (before : List Assigned) (known : List ChoiceSet) (choices : ChoiceSet)
    → AreLeft sizes (satisfier ∷ entry ∷ before) known → IsEntry sizes entry → choices ≡ accum sizes (satisfier ∷ before) entry.node
    → AreLeft sizes (satisfier ∷ before) (set known entry.node choices)
AreLeft-below sizes satisfier entry before known choices left is at =
    AreLeft-back sizes (satisfier ∷ before) entry known choices
    (record { nodes = left.nodes; sets = λ node within. left.sets node within ∙ accum-swap sizes satisfier entry before node }) is at

-- what was before the assignments of a part of the trail
pub AreBefore-take : (sizes : List ℕ) (trail : List Assigned) (before : List ChoiceSet) (place : ℕ) → place ≤ length trail → AreBefore sizes trail before
    → AreBefore sizes (take place trail) before
AreBefore-take sizes trail before place within are = record {
  long = omega (arith, are.long, length-take-le place trail within);
  sets = λ i entry inside at.
      let short : i < place = omega (arith, length-take-le place trail within) in
      are.sets i entry (omega arith) (at ∙ get_or-take place trail i entry short)
      ∙ ap (λ t. accum sizes (reverse t) entry.node) (sym (take-take i place trail (omega arith)));
}

-- one more assignment, and what was before it
pub AreBefore-more : (sizes : List ℕ) (trail : List Assigned) (i : ℕ) (entry : Assigned) (before : List ChoiceSet) (was : ChoiceSet) → i < length trail
    → entry ≡ get_or trail i entry → length before ≡ i → AreBefore sizes (take i trail) before → was ≡ accum sizes (reverse (take i trail)) entry.node
    → AreBefore sizes (take (i + 1) trail) (before ++ was ∷ [])
AreBefore-more sizes trail i entry before was within at long are is = record {
  long = omega (arith, length-take-le (i + 1) trail (omega arith), length_push before was);
  sets = λ k other inside here.
      let short : k < i + 1 = omega (arith, length-take-le (i + 1) trail (omega arith)) in
      let there : other ≡ get_or trail k other = here ∙ get_or-take (i + 1) trail k other short in
      elim (cases_lt k i) [
        | inl earlier ↦
            get_or_append_left before (was ∷ []) (no_choices 0) k (omega arith)
            ∙ are.sets k other (omega (arith, length-take-le i trail (omega arith))) (there ∙ sym (get_or-take i trail k other earlier))
            ∙ ap (λ t. accum sizes (reverse t) other.node) (take-take k i trail (omega arith) ∙ sym (take-take k (i + 1) trail (omega arith)))
        | inr last ↦
            (let e : i ≡ k = omega arith in
            get_or_push before was (no_choices 0) k (long ∙ e) ∙ is
            ∙ ap (λ (a : Assigned). accum sizes (reverse (take i trail)) a.node) (get_same trail i k entry other within at there e)
            ∙ ap (λ t. accum sizes (reverse t) other.node) (ap (λ n. take n trail) e ∙ sym (take-take k (i + 1) trail (omega arith))))
      ];
}
  where
    get_same : (trail : List Assigned) (i k : ℕ) (entry other : Assigned) → i < length trail → entry ≡ get_or trail i entry → other ≡ get_or trail k other
        → i ≡ k → entry ≡ other
    get_same trail i k entry other within at there e =
        get_or_read trail i entry within at other ∙ ap (λ n. get_or trail n other) e ∙ sym there

-- ---- steps of the walks

-- what is read of what was before the newest assignment
read_before : (sizes : List ℕ) (trail : List Assigned) (before : List ChoiceSet) (place : ℕ) (entry : Assigned) (was : ChoiceSet) → 0 < place → place ≤ length trail
    → AreBefore sizes trail before → entry ≡ get_or trail (place - 1) entry → was ≡ get_or before (place - 1) was
    → was ≡ accum sizes (reverse (take (place - 1) trail)) entry.node
read_before sizes trail before place entry was some within are at read =
    get_or_read before (place - 1) was (omega (arith, are.long)) read (no_choices 0) ∙ are.sets (place - 1) entry (omega arith) at

-- a walk's step down the trail
pub walk_left : (sizes : List ℕ) (trail : List Assigned) (before known : List ChoiceSet) (place : ℕ) (entry : Assigned) (was choices : ChoiceSet) → 0 < place
    → place ≤ length trail → AreLeft sizes (reverse (take place trail)) known → AreBefore sizes trail before → IsEntry sizes entry
    → entry ≡ get_or trail (place - 1) entry → was ≡ get_or before (place - 1) was → choices ≡ was
    → AreLeft sizes (reverse (take (place - 1) trail)) (set known entry.node choices)
walk_left sizes trail before known place entry was choices some within left are is at read copied =
    AreLeft-back sizes (reverse (take (place - 1) trail)) entry known choices
    (subst (λ t. AreLeft sizes t known) (split_at trail place entry some within at) left) is
    (copied ∙ read_before sizes trail before place entry was some within are at read)

-- and under a satisfier
pub previous_left : (sizes : List ℕ) (trail : List Assigned) (before known : List ChoiceSet) (place : ℕ) (satisfier entry : Assigned) (was choices : ChoiceSet)
    → 0 < place → place ≤ length trail → AreLeft sizes (satisfier ∷ reverse (take place trail)) known → AreBefore sizes trail before → IsEntry sizes entry
    → entry ≡ get_or trail (place - 1) entry → was ≡ get_or before (place - 1) was
    → choices ≡ (if entry.node == satisfier.node then intersection was satisfier.choices else was)
    → AreLeft sizes (satisfier ∷ reverse (take (place - 1) trail)) (set known entry.node choices)
previous_left sizes trail before known place satisfier entry was choices some within left are is at read made =
    AreLeft-below sizes satisfier entry (reverse (take (place - 1) trail)) known choices
    (subst (λ t. AreLeft sizes (satisfier ∷ t) known) (split_at trail place entry some within at) left) is
    (without_is sizes satisfier entry (reverse (take (place - 1) trail)) was choices (read_before sizes trail before place entry was some within are at read) made)

-- what holds by what is kept holds by the trail
pub holds_by : (sizes : List ℕ) (trail : List Assigned) (known : List ChoiceSet) (terms : List Term) (found : Bool) → AreLeft sizes trail known → AreSized sizes terms
    → found ≡ kept.holds known terms → holds sizes trail terms ≡ found
holds_by sizes trail known terms found left sized is = sym (is ∙ holds-left sizes trail known terms left sized)
