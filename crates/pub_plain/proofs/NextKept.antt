-- Which node is next, by what is kept of nodes.
use Rattle.std.proofs.Common.{◌≡◌, ℕ, zero, suc, ◌+◌, ◌-◌, ◌<◌, ◌≤◌, ◌==◌, ◌&&◌, ◌||◌, Bool, true, false, cond, List, [], ◌∷◌, length, reverse, Option, Some, None, refl, sym, ap, ap₂, ◌∙◌, subst, inl, inr, arith, All, ne_eqb, not}
use Rattle.std.proofs.lemmas.Bool.{cases_lt}
use Rattle.std.proofs.lemmas.List.Elements.{All-append, All-cons, All-filter, All-head, All-map, All-nil, All-tail}
use Rattle.std.proofs.lemmas.List.{get_or-reverse, get_or_past, length-reverse, reverse-reverse}
use Rattle.std.specs.List.{filter}
use Rattle.std.specs.Prelude.{is_some, slice_index}
use Rattle.pub_facts.specs.Catalogue.{Lookups, release_at}
use Rattle.pub_facts.specs.Facts.{size_of}
use Rattle.pub_facts.specs.Numbered.{sizes_of}
use Rattle.pub_facts.proofs.FactLemmas.{sizes_length}
use Rattle.pub_set.specs.Choices.{ChoiceSet, has, numbers_below, set_where}
use Rattle.std.specs.Ordering.{is_lt}
use Rattle.pub_term.specs.Known.{known_at}
use Rattle.pub_term.specs.Node.{node_cmp}
use Rattle.pub_term.specs.declared.node.NodeName.{NodeName}
use Rattle.pub_term.specs.declared.node.NodeName.TheVariants.{Root, RootTrait, Package, PackageTrait}
use Rattle.pub_term.specs.declared.term.Incompat.{Incompat}
use Rattle.pub_term.specs.declared.term.Term.{Term}
use Rattle.pub_trail.specs.First.{chosen, first_or}
use Rattle.pub_trail.specs.Invariant.{AreFormed, AreSized}
use Rattle.pub_trail.specs.KnownOf.{AreLeft, IsEntry}
use Rattle.pub_trail.specs.Required.{AreAmong, AreDecisions, AreOpen, decision_in, decision_of, loaded_facts}
use Rattle.pub_trail.specs.Trail.{allows, by_reason, is_decided}
use Rattle.pub_trail.specs.Turn.{Next, State, or_some, when_true}
use Rattle.pub_trail.specs.Walk.{terms_of}
use Rattle.pub_trail.specs.declared.origin.Origin.{Origin}
use Rattle.pub_trail.specs.declared.trail.Assigned.{Assigned}
use Rattle.pub_trail.specs.declared.trail.Reason.{Reason}
use Rattle.pub_trail.specs.declared.trail.Reason.TheVariants.{Decided, Derived}
use Rattle.pub_trail.proofs.TestLemmas.{has-where, passes-where}
use Rattle.spm_version.specs.Release.{Parts}
use Rattle.pub_plain.specs.Answers.{lookups_by}
use Rattle.pub_plain.specs.Choosing.{choices_down, first_that, is_needed, is_pinned, is_ready, is_trait, least_from, lesser, next_at, next_in, next_named, next_node, next_package, owner_number, pin_of, ranked_in}
use Rattle.pub_plain.specs.Invariant.{IsPlaced}
use Rattle.pub_plain.specs.Kept.{Kept, state_with}
use Rattle.pub_plain.specs.Loading.{is_package, name_at}
use Rattle.pub_plain.specs.Next.{choice_or_none, is_needed_in, is_ready_in, next_by, numbered_name}
use Rattle.pub_plain.specs.Told.{answers_to}
use Rattle.pub_plain.specs.Turning.{IsTurning}
use Rattle.pub_plain.specs.declared.told.Told.{Told}
use Rattle.pub_plain.proofs.BroughtLemmas.{size_named}
use Rattle.pub_plain.proofs.NextSteps.{same_from}
use Rattle.pub_plain.proofs.ToldLemmas.{lookups_told}

-- ---- lists

-- what holds of each holds of each in reverse
pub All-reverse : {X : Type 0} (P : X → Type 0) (xs : List X) → All P xs → All P (reverse xs)
All-reverse P xs all = λ k d inside.
    let within : k < length xs = omega (arith, inside, length-reverse xs) in
    subst P (sym (get_or-reverse xs k d within)) (all (length xs - 1 - k) d (omega (arith, within)))

-- and in order again
pub All-ordered : {X : Type 0} (P : X → Type 0) (xs : List X) → All P (reverse xs) → All P xs
All-ordered P xs all = subst (All P) (reverse-reverse xs) (All-reverse P (reverse xs) all)

-- what follows of each
pub All-follows : {X : Type 0} (P Q : X → Type 0) (xs : List X) → ((x : X) → P x → Q x) → All P xs → All Q xs
All-follows P Q [] f all = All-nil Q
All-follows P Q (x ∷ xs) f all = All-cons Q x xs (f x (All-head P x xs all)) (All-follows P Q xs f (All-tail P x xs all))

-- ---- decisions

-- a node is decided where there is a decision of it
some_decided : (trail : List Assigned) (node : ℕ) → is_some (decision_of trail node) ≡ is_decided trail node
some_decided [] node = refl
some_decided (entry ∷ before) node = go entry.reason (entry.node == node) (some_decided before node)
  where
    go : (reason : Reason) (same : Bool) → is_some (decision_of before node) ≡ is_decided before node
        → is_some (by_reason reason (cond same (Some (first_or entry.choices.members 0)) (decision_of before node)) (λ number. decision_of before node))
        ≡ by_reason reason (same || is_decided before node) (λ number. is_decided before node)
    go Decided true rest = refl
    go Decided false rest = rest
    go (Derived number) same rest = rest

-- the decided choice, or 0
pub choice_chosen : (trail : List Assigned) (node : ℕ) → choice_or_none (decision_of trail node) ≡ chosen trail node
choice_chosen [] node = refl
choice_chosen (entry ∷ before) node = go entry.reason (entry.node == node) (choice_chosen before node)
  where
    go : (reason : Reason) (same : Bool) → choice_or_none (decision_of before node) ≡ chosen before node
        → choice_or_none (by_reason reason (cond same (Some (first_or entry.choices.members 0)) (decision_of before node)) (λ number. decision_of before node))
        ≡ by_reason reason (cond same (first_or entry.choices.members 0) (chosen before node)) (λ number. chosen before node)
    go Decided true rest = refl
    go Decided false rest = rest
    go (Derived number) same rest = rest

abbrev pub IsBelow : ℕ → Assigned → Type 0
IsBelow count entry = entry.node < count

-- of a node that isn't there nothing is decided
none_beyond : (count node : ℕ) (trail : List Assigned) → All (IsBelow count) trail → count ≤ node → decision_of trail node ≡ None
none_beyond count node [] below past = refl
none_beyond count node (entry ∷ before) below past =
    let here = All-head (IsBelow count) entry before below in
    let apart : (entry.node == node) ≡ false = ne_eqb entry.node node (λ e. absurd (omega (arith, e, here, past))) in
    go entry.reason (entry.node == node) apart (none_beyond count node before (All-tail (IsBelow count) entry before below) past)
  where
    go : (reason : Reason) (same : Bool) → same ≡ false → decision_of before node ≡ None
        → by_reason reason (cond same (Some (first_or entry.choices.members 0)) (decision_of before node)) (λ number. decision_of before node) ≡ None
    go Decided true apart rest = cc
    go Decided false apart rest = rest
    go (Derived number) same apart rest = rest

-- what is kept of decisions is what is decided, of each number
pub decision_same : (count : ℕ) (trail : List Assigned) (decided : List (Option ℕ)) → AreDecisions count trail decided → All (IsBelow count) trail
    → (node : ℕ) → decision_in decided node ≡ decision_of trail node
decision_same count trail decided are below node = elim (cases_lt node count) [
  | inl within ↦ are.each node within
  | inr past ↦
      (let beyond : length decided ≤ node = omega (arith, are.nodes, past) in
      get_or_past decided node None beyond ∙ sym (none_beyond count node trail below past))
]

-- ---- tests

ready_same : (names : List NodeName) (facts : List (List Term)) (trail : List Assigned) (opens : List Bool) (decided : List (Option ℕ))
    → AreOpen (length names) facts trail opens → ((node : ℕ) → decision_in decided node ≡ decision_of trail node) → (i : ℕ) → i < length names
    → is_ready_in names opens decided i (name_at names i) ≡ is_ready names facts trail i (name_at names i)
ready_same names facts trail opens decided opened same i below =
    ap₂ (λ a b. is_trait (name_at names i) && (a && b)) (opened.each i below)
    (ap is_some (same (owner_number names (name_at names i))) ∙ some_decided trail (owner_number names (name_at names i)))

needed_same : (names : List NodeName) (facts : List (List Term)) (trail : List Assigned) (opens : List Bool) → AreOpen (length names) facts trail opens
    → (i : ℕ) → i < length names → is_needed_in opens i (name_at names i) ≡ is_needed facts trail i (name_at names i)
needed_same names facts trail opens opened i below = ap (λ b. is_package (name_at names i) && b) (opened.each i below)

zeroed : (P : ℕ → Type 0) (i : ℕ) → P i → P (0 + i)
zeroed P i p = let e : i ≡ 0 + i = omega arith in subst P e p

-- the node that is found by what is kept is the next
pub node_same : (names : List NodeName) (facts : List (List Term)) (trail : List Assigned) (opens : List Bool) (decided : List (Option ℕ))
    → AreOpen (length names) facts trail opens → ((node : ℕ) → decision_in decided node ≡ decision_of trail node)
    → or_some (least_from (is_ready_in names opens decided) 0 names) (least_from (is_needed_in opens) 0 names) ≡ next_node names facts trail
node_same names facts trail opens decided opened same =
    ap₂ or_some (same_from (is_ready_in names opens decided) (is_ready names facts trail) 0 names
    (λ i below. zeroed (λ n. is_ready_in names opens decided n (name_at names i) ≡ is_ready names facts trail n (name_at names i)) i
    (ready_same names facts trail opens decided opened same i below)))
    (same_from (is_needed_in opens) (is_needed facts trail) 0 names
    (λ i below. zeroed (λ n. is_needed_in opens n (name_at names i) ≡ is_needed facts trail n (name_at names i)) i
    (needed_same names facts trail opens opened i below)))

-- ---- the choice of a package

abbrev IsChoiceOf : List Parts → ℕ → Type 0
IsChoiceOf list k = k < suc (length list)

-- the numbers below one are below
below_from : (n limit : ℕ) → n ≤ limit → All (λ k. suc k < suc limit) (numbers_below n)
below_from zero limit within = All-nil (λ k. suc k < suc limit)
below_from (suc n) limit within =
    let here : suc n < suc limit = omega (arith, within) in
    All-append (λ k. suc k < suc limit) (numbers_below n) (n ∷ []) (below_from n limit (omega (arith, within)))
    (All-cons (λ k. suc k < suc limit) n [] here (All-nil (λ k. suc k < suc limit)))

below_all : (n : ℕ) → All (λ k. suc k < suc n) (numbers_below n)
below_all n = below_from n n (omega arith)

-- each choice that is ranked is one of the package
ranked_below : (pin : Option Parts) (list : List Parts) → All (IsChoiceOf list) (ranked_in pin list)
ranked_below pin list =
    let down = All-map (IsChoiceOf list) (λ k. suc k) (reverse (numbers_below (length list)))
    (All-reverse (λ k. suc k < suc (length list)) (numbers_below (length list)) (below_all (length list))) in
    All-append (IsChoiceOf list) (filter (λ k. is_pinned pin (release_at list k)) (choices_down list))
    (filter (λ k. not (is_pinned pin (release_at list k))) (choices_down list))
    (All-filter (λ k. is_pinned pin (release_at list k)) (IsChoiceOf list) (choices_down list) down)
    (All-filter (λ k. not (is_pinned pin (release_at list k))) (IsChoiceOf list) (choices_down list) down)

-- tests that agree on all numbers find the same
found_same : (test other : ℕ → Bool) (xs : List ℕ) → All (λ k. test k ≡ other k) xs → first_that test xs ≡ first_that other xs
found_same test other [] same = refl
found_same test other (x ∷ xs) same =
    ap₂ (λ b rest. cond b (Some x) rest) (All-head (λ k. test k ≡ other k) x xs same)
    (found_same test other xs (All-tail (λ k. test k ≡ other k) x xs same))

-- what is left is what the trail allows
left_allows : (size : ℕ) (test : ℕ → Bool) (k : ℕ) → k < size → has (set_where size test) k ≡ test k
left_allows size test k below = go (test k) refl (has (set_where size test) k) refl
  where
    go : (b : Bool) → test k ≡ b → (c : Bool) → has (set_where size test) k ≡ c → c ≡ b
    go true at c is = sym is ∙ has-where size k test below at
    go false at true is = sym (passes-where size k test is).1 ∙ at
    go false at false is = refl

-- of a package's preferred choices the first that is left
pub choice_same : (known : List ChoiceSet) (number size : ℕ) (trail : List Assigned) (pin : Option Parts) (list : List Parts) → size ≡ suc (length list)
    → known_at known number ≡ set_where size (allows trail number)
    → first_that (has (known_at known number)) (ranked_in pin list) ≡ first_that (allows trail number) (ranked_in pin list)
choice_same known number size trail pin list is left =
    ap (λ set. first_that (has set) (ranked_in pin list)) left
    ∙ found_same (has (set_where size (allows trail number))) (allows trail number) (ranked_in pin list)
    (All-follows (IsChoiceOf list) (λ k. has (set_where size (allows trail number)) k ≡ allows trail number k) (ranked_in pin list)
    (λ k below. left_allows size (allows trail number) k (omega (arith, is, below))) (ranked_below pin list))

-- ---- the node of a number

abbrev trait_at : ℕ → ℕ → Next
trait_at number choice = record { node = number; choice = 1; place = record { node = number; choice = choice } }

-- the node of a number as the next one
pub named_next : (told : Told) (kept : Kept) (left : List ChoiceSet) (decided : List (Option ℕ)) (number : ℕ)
    → kept.sizes ≡ sizes_of (lookups_by (answers_to told)) told.known.nodes → number < length told.known.nodes
    → AreLeft kept.sizes (reverse kept.trail) left → ((node : ℕ) → decision_in decided node ≡ decision_of (reverse kept.trail) node)
    → (name : NodeName) → name_at told.known.nodes number ≡ name
    → next_by told left decided number name
    ≡ next_named told.pins (lookups_by (answers_to told)) told.known.nodes (reverse kept.trail) number name
named_next told kept left decided number sized below are same Root is = refl
named_next told kept left decided number sized below are same (RootTrait name) is =
    ap (λ choice. Some (trait_at number choice))
    (ap choice_or_none (same (owner_number told.known.nodes (RootTrait name))) ∙ choice_chosen (reverse kept.trail) (owner_number told.known.nodes (RootTrait name)))
named_next told kept left decided number sized below are same (Package identity) is =
    let l = lookups_by (answers_to told) in
    let long : length kept.sizes ≡ length told.known.nodes = ap length sized ∙ sizes_length l told.known.nodes in
    let there : number < length kept.sizes = omega (arith, below, long) in
    ap (λ list. next_package number (first_that (has (known_at left number)) (ranked_in (pin_of told.pins identity) list)))
    (ap (λ (found : Lookups). found.list identity) (sym (lookups_told told)))
    ∙ ap (next_package number)
    (choice_same left number (slice_index kept.sizes number) (reverse kept.trail) (pin_of told.pins identity) (l.list identity)
    (ap (λ ns. slice_index ns number) sized ∙ size_named l told.known.nodes number below ∙ ap (size_of l) is) (are.sets number there))
named_next told kept left decided number sized below are same (PackageTrait identity name) is =
    ap (λ choice. Some (trait_at number choice))
    (ap choice_or_none (same (owner_number told.known.nodes (PackageTrait identity name)))
    ∙ choice_chosen (reverse kept.trail) (owner_number told.known.nodes (PackageTrait identity name)))

-- ---- the next node

-- there is none
pub none_next : (told : Told) (state : State) (found : Option ℕ) → found ≡ None
    → numbered_name state.names found ≡ next_node state.names (loaded_facts state.incompats state.origins) state.trail
    → None ≡ next_in told.pins (lookups_by (answers_to told)) state
none_next told state found is at =
    ap (next_at told.pins (lookups_by (answers_to told)) state.names state.trail) (ap (numbered_name state.names) (sym is) ∙ at)

-- the number of what is found
abbrev number_or : Option (ℕ × NodeName) → ℕ
number_or None = 0
number_or (Some found) = found.0

-- of two, each is below
lesser_below : (bound number k : ℕ) (name first : NodeName) (other : ℕ × NodeName) (b : Bool) → k < bound → (Some (number, name) ≡ Some other → number < bound)
    → Some (number, name) ≡ cond b (Some other) (Some (k, first)) → number < bound
lesser_below bound number k name first other true here later is = later is
lesser_below bound number k name first other false here later is = let e : number ≡ k = ap number_or is in omega (arith, e, here)

-- there is one, and it is among the nodes
pub found_below : (test : ℕ → NodeName → Bool) (k number : ℕ) (name : NodeName) (names : List NodeName) → Some (number, name) ≡ least_from test k names
    → number < k + length names
found_below test k number name [] is = cc
found_below test k number name (first ∷ names) is =
    go (test k first) (least_from test (k + 1) names) (λ e. let later = found_below test (k + 1) number name names e in omega (arith, later)) is
  where
    go : (b : Bool) (rest : Option (ℕ × NodeName)) → (Some (number, name) ≡ rest → number < k + length (first ∷ names))
        → Some (number, name) ≡ lesser (when_true b (k, first)) rest → number < k + length (first ∷ names)
    go false rest later is = later is
    go true None later is = let e : number ≡ k = ap number_or is in omega (arith, e)
    go true (Some other) later is =
        lesser_below (k + length (first ∷ names)) number k name first other (is_lt (node_cmp other.1 first)) (omega arith) later is

-- what is found of two kinds is among the nodes
pub number_below : (names : List NodeName) (first second : ℕ → NodeName → Bool) (found : Option ℕ) (number : ℕ) → found ≡ Some number
    → numbered_name names found ≡ or_some (least_from first 0 names) (least_from second 0 names) → number < length names
number_below names first second found number is at =
    go (least_from first 0 names) refl (ap (numbered_name names) (sym is) ∙ at)
  where
    go : (kind : Option (ℕ × NodeName)) → least_from first 0 names ≡ kind
        → Some (number, name_at names number) ≡ or_some kind (least_from second 0 names) → number < length names
    go None none is = let below = found_below second 0 number (name_at names number) names is in omega (arith, below)
    go (Some one) some is = let below = found_below first 0 number (name_at names number) names (is ∙ sym some) in omega (arith, below)

-- ---- what a turning solver gives

-- there are as many sizes as names
pub as_many : (told : Told) (kept : Kept) → IsTurning told kept → length kept.sizes ≡ length told.known.nodes
as_many told kept is = ap length is.solver.sizes ∙ sizes_length (lookups_by (answers_to told)) told.known.nodes

-- each assignment is on a node, by a set of its size
pub trail_entries : (told : Told) (kept : Kept) → IsTurning told kept → All (λ entry. IsEntry kept.sizes entry) kept.trail
trail_entries told kept is =
    All-ordered (λ entry. IsEntry kept.sizes entry) kept.trail
    (All-follows (IsPlaced (lookups_by (answers_to told)) told.known.nodes kept.sizes) (λ entry. IsEntry kept.sizes entry) (reverse kept.trail)
    (λ entry placed. placed.fits) is.solver.placed)

pub trail_below : (told : Told) (kept : Kept) → IsTurning told kept → All (IsBelow (length told.known.nodes)) kept.trail
trail_below told kept is =
    let many = as_many told kept is in
    All-follows (λ entry. IsEntry kept.sizes entry) (IsBelow (length told.known.nodes)) kept.trail
    (λ entry fits. let here = fits.0 in omega (arith, many, here)) (trail_entries told kept is)

sized_among : (sizes : List ℕ) (count : ℕ) (terms : List Term) → length sizes ≡ count → AreSized sizes terms → All (λ (term : Term). term.node < count) terms
sized_among sizes count [] many sized = All-nil (λ (term : Term). term.node < count)
sized_among sizes count (term ∷ terms) many sized =
    let here = sized.0.0 in
    let below : term.node < count = omega (arith, many, here) in
    All-cons (λ (term : Term). term.node < count) term terms below (sized_among sizes count terms many sized.1)

formed_among : (sizes : List ℕ) (count : ℕ) (incompats : List Incompat) → length sizes ≡ count → AreFormed sizes (terms_of incompats)
    → All (λ (incompat : Incompat). AreAmong count incompat.terms) incompats
formed_among sizes count [] many formed = All-nil (λ (incompat : Incompat). AreAmong count incompat.terms)
formed_among sizes count (incompat ∷ incompats) many formed =
    All-cons (λ (incompat : Incompat). AreAmong count incompat.terms) incompat incompats
    (formed.0.incompat.ascending, sized_among sizes count incompat.terms many formed.0.sized) (formed_among sizes count incompats many formed.1)

-- each incompatibility is on nodes, in their order
pub incompats_among : (told : Told) (kept : Kept) → IsTurning told kept
    → All (λ (incompat : Incompat). AreAmong (length told.known.nodes) incompat.terms) kept.incompats
incompats_among told kept is = formed_among kept.sizes (length told.known.nodes) kept.incompats (as_many told kept is) is.solver.is.formed

-- which nodes are open, by what stands for the same lists
pub open_by : (count : ℕ) (names : List NodeName) (seen trail : List Assigned) (decided held : List (Option ℕ)) (incompats own : List Incompat)
    (origins whence : List Origin) (opens : List Bool) → seen ≡ trail → held ≡ decided → incompats ≡ own → origins ≡ whence → count ≡ length names
    → AreDecisions count (reverse seen) decided
    → ((other : List Assigned) → AreDecisions (length held) other held → AreOpen (length held) (loaded_facts (terms_of incompats) origins) other opens)
    → AreOpen (length names) (loaded_facts (terms_of own) whence) (reverse trail) opens
open_by count names seen trail decided held incompats own origins whence opens seen_is held_is own_is whence_is many are gives =
    let long : length held ≡ count = ap length held_is ∙ are.nodes in
    let own_decisions : AreDecisions (length held) (reverse trail) held
    = subst (λ n. AreDecisions n (reverse trail) held) (sym long)
    (subst (AreDecisions count (reverse trail)) (sym held_is) (subst (λ t. AreDecisions count (reverse t) decided) seen_is are)) in
    subst (λ n. AreOpen n (loaded_facts (terms_of own) whence) (reverse trail) opens) (long ∙ many)
    (subst (λ o. AreOpen (length held) (loaded_facts (terms_of own) o) (reverse trail) opens) whence_is
    (subst (λ is. AreOpen (length held) (loaded_facts (terms_of is) origins) (reverse trail) opens) own_is (gives (reverse trail) own_decisions)))

-- ---- what is found is the next node

-- the number that is found, by what stands for the same lists, is that of the next node
found_at : (told : Told) (kept : Kept) (opens : List Bool) (decided : List (Option ℕ)) (names : List NodeName) (seen : List Bool) (held : List (Option ℕ))
    (found : Option ℕ) → IsTurning told kept → AreDecisions (length told.known.nodes) (reverse kept.trail) decided
    → AreOpen (length told.known.nodes) (loaded_facts (terms_of kept.incompats) kept.origins) (reverse kept.trail) opens → names ≡ told.known.nodes
    → seen ≡ opens → held ≡ decided
    → numbered_name names found ≡ or_some (least_from (is_ready_in names seen held) 0 names) (least_from (is_needed_in seen) 0 names)
    → numbered_name told.known.nodes found ≡ next_node told.known.nodes (loaded_facts (terms_of kept.incompats) kept.origins) (reverse kept.trail)
found_at told kept opens decided names seen held found is decisions are names_is seen_is held_is at =
    ap (λ ns. numbered_name ns found) (sym names_is) ∙ at
    ∙ ap (λ ns. or_some (least_from (is_ready_in ns seen held) 0 ns) (least_from (is_needed_in seen) 0 ns)) names_is
    ∙ ap₂ (λ os ds. or_some (least_from (is_ready_in told.known.nodes os ds) 0 told.known.nodes) (least_from (is_needed_in os) 0 told.known.nodes)) seen_is held_is
    ∙ node_same told.known.nodes (loaded_facts (terms_of kept.incompats) kept.origins) (reverse kept.trail) opens decided are
    (decision_same (length told.known.nodes) (reverse kept.trail) decided decisions
    (All-reverse (IsBelow (length told.known.nodes)) kept.trail (trail_below told kept is)))

pub none_found : (told : Told) (kept : Kept) (opens : List Bool) (decided : List (Option ℕ)) (names : List NodeName) (seen : List Bool)
    (held : List (Option ℕ)) (found : Option ℕ) → IsTurning told kept → AreDecisions (length told.known.nodes) (reverse kept.trail) decided
    → AreOpen (length told.known.nodes) (loaded_facts (terms_of kept.incompats) kept.origins) (reverse kept.trail) opens → names ≡ told.known.nodes
    → seen ≡ opens → held ≡ decided
    → numbered_name names found ≡ or_some (least_from (is_ready_in names seen held) 0 names) (least_from (is_needed_in seen) 0 names) → found ≡ None
    → None ≡ next_in told.pins (lookups_by (answers_to told)) (state_with told.known.nodes kept)
none_found told kept opens decided names seen held found is decisions are names_is seen_is held_is at none =
    none_next told (state_with told.known.nodes kept) found none
    (found_at told kept opens decided names seen held found is decisions are names_is seen_is held_is at)

pub there_found : (nodes names : List NodeName) (seen : List Bool) (held : List (Option ℕ)) (found : Option ℕ) (number : ℕ) → names ≡ nodes
    → numbered_name names found ≡ or_some (least_from (is_ready_in names seen held) 0 names) (least_from (is_needed_in seen) 0 names)
    → found ≡ Some number → number < length nodes
there_found nodes names seen held found number names_is at is =
    let below = number_below names (is_ready_in names seen held) (is_needed_in seen) found number is at in
    let many = ap length names_is in
    omega (arith, below, many)

pub some_found : (told : Told) (kept : Kept) (left : List ChoiceSet) (opens : List Bool) (decided : List (Option ℕ)) (names : List NodeName)
    (seen : List Bool) (held other : List (Option ℕ)) (found : Option ℕ) (number : ℕ) → IsTurning told kept
    → AreLeft kept.sizes (reverse kept.trail) left → AreDecisions (length told.known.nodes) (reverse kept.trail) decided
    → AreOpen (length told.known.nodes) (loaded_facts (terms_of kept.incompats) kept.origins) (reverse kept.trail) opens → names ≡ told.known.nodes
    → seen ≡ opens → held ≡ decided → other ≡ decided
    → numbered_name names found ≡ or_some (least_from (is_ready_in names seen held) 0 names) (least_from (is_needed_in seen) 0 names)
    → found ≡ Some number
    → next_by told left other number (name_at told.known.nodes number)
    ≡ next_in told.pins (lookups_by (answers_to told)) (state_with told.known.nodes kept)
some_found told kept left opens decided names seen held other found number is lefts decisions are names_is seen_is held_is other_is at some =
    ap (λ ds. next_by told left ds number (name_at told.known.nodes number)) other_is
    ∙ named_next told kept left decided number is.solver.sizes (there_found told.known.nodes names seen held found number names_is at some) lefts
    (decision_same (length told.known.nodes) (reverse kept.trail) decided decisions
    (All-reverse (IsBelow (length told.known.nodes)) kept.trail (trail_below told kept is))) (name_at told.known.nodes number) refl
    ∙ ap (next_at told.pins (lookups_by (answers_to told)) told.known.nodes (reverse kept.trail))
    (ap (numbered_name told.known.nodes) (sym some)
    ∙ found_at told kept opens decided names seen held found is decisions are names_is seen_is held_is at)
