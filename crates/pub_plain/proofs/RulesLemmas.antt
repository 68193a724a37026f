-- The rules of a solver are right at each of its states.
use Rattle.std.proofs.Common.{◌≡◌, ℕ, suc, ◌<◌, ◌≤◌, ◌==◌, ◌||◌, true, not, cond, List, [], ◌∷◌, ◌++◌, length, slice_index, All, Some, None, refl, sym, ap, ap₂, ◌∙◌, subst, inl, inr, arith, eqb-true, eq-eqb, length-append}
use Rattle.std.proofs.lemmas.Bool.{cases_Bool, cond-false, cond-true, false≢true, or_cases}
use Rattle.std.proofs.lemmas.List.Elements.{All-head, All-tail}
use Rattle.pub_facts.specs.Catalogue.{Job, Lookups, Owner}
use Rattle.pub_facts.specs.Facts.{load_of, owner_node, size_of}
use Rattle.pub_facts.specs.Known.{IsInRange, IsThere}
use Rattle.pub_facts.specs.Numbered.{number_in, sizes_of}
use Rattle.pub_facts.proofs.FactLemmas.{node_same, sizes_length}
use Rattle.pub_facts.proofs.KnownLemmas.{choice_below}
use Rattle.pub_term.specs.Node.{package_of}
use Rattle.pub_term.specs.NodeLaws.{node_eq}
use Rattle.pub_term.specs.declared.node.NodeName.{NodeName}
use Rattle.pub_term.specs.declared.node.NodeName.TheVariants.{Root, RootTrait, Package, PackageTrait}
use Rattle.pub_trail.specs.First.{chosen, first_or}
use Rattle.pub_trail.specs.Invariant.{AreFormed, AreRules, IsSettled, IsSmall, Leaves}
use Rattle.pub_trail.specs.Required.{loaded_facts}
use Rattle.pub_trail.specs.Trail.{by_reason, is_decided}
use Rattle.pub_trail.specs.Turn.{Loaded, Next, State}
use Rattle.pub_trail.specs.declared.trail.Assigned.{Assigned}
use Rattle.pub_trail.specs.declared.trail.Place.{Place}
use Rattle.pub_trail.specs.declared.trail.Reason.{Reason}
use Rattle.pub_trail.specs.declared.trail.Reason.TheVariants.{Decided, Derived}
use Rattle.pub_plain.specs.Answers.{Answers, catalogue_by, lookups_by}
use Rattle.pub_plain.specs.Choosing.{Pins, owner_number}
use Rattle.pub_plain.specs.Invariant.{IsDecidedAt, IsOwnerAt, IsPlaced, IsSolver}
use Rattle.pub_plain.specs.Loading.{load_at, name_at, named_first, package_count}
use Rattle.pub_plain.specs.Plain.{plain_limits, rules_of}
use Rattle.pub_plain.proofs.AskedLemmas.{left_of_asked}
use Rattle.pub_plain.proofs.BroughtLemmas.{as_many, at_formed, size_named, size_within, sizes_above, sizes_append, sizes_small, wide_none}
use Rattle.pub_plain.proofs.NextLemmas.{IsNext, IsNextAt, next_is}
use Rattle.pub_plain.proofs.ReadLemmas.{IsBrought, loading_read}

-- ---- what a load brings at a state

-- the nodes that a load names first
abbrev pub new_at : Job → Answers → State → Place → List NodeName
new_at job answers state place = named_first job (catalogue_by answers) state.names (load_at state.names place)

-- the sizes of all names after a load
pub sizes_after : (job : Job) (answers : Answers) (state : State) (place : Place) (loaded : Loaded) → IsSolver answers state
    → IsBrought job answers state.names (load_at state.names place) loaded
    → state.sizes ++ loaded.sizes ≡ sizes_of (lookups_by answers) (state.names ++ new_at job answers state place)
sizes_after job answers state place loaded is it =
    ap₂ (λ (old more : List ℕ). old ++ more) is.sizes (ap (λ (l : Loaded). l.sizes) it.is)
    ∙ sym (sizes_append (lookups_by answers) state.names (new_at job answers state place))

-- and how many there are
pub names_within : (job : Job) (answers : Answers) (state : State) (place : Place) (loaded : Loaded) → IsSolver answers state
    → IsBrought job answers state.names (load_at state.names place) loaded → length (state.names ++ new_at job answers state place) ≤ 4096
names_within job answers state place loaded is it =
    let within = wide_none (length state.names) (package_count state.names) (new_at job answers state place) is.nodes it.limited in
    omega (arith, length-append state.names (new_at job answers state place), within)

-- the facts of a load are well formed
facts_after : (job : Job) (answers : Answers) (state : State) (place : Place) (loaded : Loaded) → IsSolver answers state
    → IsBrought job answers state.names (load_at state.names place) loaded → AreFormed (state.sizes ++ loaded.sizes) loaded.facts
facts_after job answers state place loaded is it =
    subst (λ sizes. AreFormed sizes loaded.facts) (sym (sizes_after job answers state place loaded is it))
    (subst (AreFormed (sizes_of (lookups_by answers) (state.names ++ new_at job answers state place))) (sym (ap (λ (l : Loaded). l.facts) it.is))
    (at_formed job (catalogue_by answers) (load_at state.names place) state.names))

-- ---- what is decided

-- the place of a name that is there has that name
pub name_of_number : (names : List NodeName) (node : NodeName) → number_in names node < length names → name_at names (number_in names node) ≡ node
name_of_number [] node below = absurd (omega (arith, below))
name_of_number (first ∷ names) node below = elim (cases_Bool (node_eq first node)) [
  | inl is ↦
      (let n : number_in (first ∷ names) node ≡ 0 = cond-true (node_eq first node) 0 (suc (number_in names node)) is in
      ap (name_at (first ∷ names)) n ∙ node_same first node is)
  | inr isnt ↦
      (let n : number_in (first ∷ names) node ≡ suc (number_in names node) = cond-false (node_eq first node) 0 (suc (number_in names node)) isnt in
      ap (name_at (first ∷ names)) n ∙ name_of_number names node (omega (arith, n, below)))
]

-- a decided node is named, and decided at a choice that can be loaded
record IsDecidedThere (l : Lookups) (names : List NodeName) (sizes : List ℕ) (trail : List Assigned) (node : ℕ) : Type 0 where
  known : node < length sizes
  there : IsOwnerAt l (name_at names node) (chosen trail node)

-- one more assignment keeps what is decided
decided_more : (l : Lookups) (names : List NodeName) (sizes : List ℕ) (entry : Assigned) (before : List Assigned) (node : ℕ) (reason : Reason)
    → entry.reason ≡ reason → IsPlaced l names sizes entry → (is_decided before node ≡ true → IsDecidedThere l names sizes before node)
    → is_decided (entry ∷ before) node ≡ true → IsDecidedThere l names sizes (entry ∷ before) node
decided_more l names sizes entry before node (Derived number) reason placed next decided =
    let rest = next (sym (ap (λ r. by_reason r (entry.node == node || is_decided before node) (λ n. is_decided before node)) reason) ∙ decided) in
    record {
      known = rest.known;
      there = subst (IsOwnerAt l (name_at names node))
          (sym (ap (λ r. by_reason r (cond (entry.node == node) (first_or entry.choices.members 0) (chosen before node)) (λ n. chosen before node)) reason))
          rest.there;
    }
decided_more l names sizes entry before node Decided reason placed next decided =
    let was : (entry.node == node || is_decided before node) ≡ true
    = sym (ap (λ r. by_reason r (entry.node == node || is_decided before node) (λ n. is_decided before node)) reason) ∙ decided in
    let is : chosen (entry ∷ before) node ≡ cond (entry.node == node) (first_or entry.choices.members 0) (chosen before node)
    = ap (λ r. by_reason r (cond (entry.node == node) (first_or entry.choices.members 0) (chosen before node)) (λ n. chosen before node)) reason in
    elim (cases_Bool (entry.node == node)) [
      | inl same ↦
          (let e : entry.node ≡ node = eqb-true entry.node node same in
          let here : IsOwnerAt l (name_at names entry.node) (first_or entry.choices.members 0)
          = subst (λ r. IsDecidedAt r l (name_at names entry.node) entry) reason placed.there in
          record {
            known = subst (λ n. n < length sizes) e placed.fits.0;
            there = subst (IsOwnerAt l (name_at names node))
                (sym (is ∙ cond-true (entry.node == node) (first_or entry.choices.members 0) (chosen before node) same))
                (subst (λ n. IsOwnerAt l (name_at names n) (first_or entry.choices.members 0)) e here);
          })
      | inr other ↦
          (let earlier : is_decided before node ≡ true
          = elim (or_cases (entry.node == node) (is_decided before node) was) [
            | inl same ↦ absurd (false≢true (sym other ∙ same))
            | inr behind ↦ behind
          ] in
          let rest = next earlier in
          record {
            known = rest.known;
            there = subst (IsOwnerAt l (name_at names node))
                (sym (is ∙ cond-false (entry.node == node) (first_or entry.choices.members 0) (chosen before node) other)) rest.there;
          })
    ]

-- where all assignments are placed, what is decided is so
decided_there : (l : Lookups) (names : List NodeName) (sizes : List ℕ) (trail : List Assigned) (node : ℕ) → All (IsPlaced l names sizes) trail
    → is_decided trail node ≡ true → IsDecidedThere l names sizes trail node
decided_there l names sizes [] node placed decided = absurd (false≢true decided)
decided_there l names sizes (entry ∷ before) node placed decided =
    decided_more l names sizes entry before node entry.reason refl (All-head (IsPlaced l names sizes) entry before placed)
    (decided_there l names sizes before node (All-tail (IsPlaced l names sizes) entry before placed)) decided

-- a choice at which an owner can be loaded is one of its own
owner_below : (l : Lookups) (owner : Owner) (choice : ℕ) → IsOwnerAt l (owner_node owner) choice → choice < size_of l (owner_node owner)
owner_below l None choice there = choice_below l None choice there
owner_below l (Some identity) choice there = choice_below l (Some identity) choice there

-- the owner of a trait is decided at a choice in range
owner_at : (answers : Answers) (state : State) (name : NodeName) → IsSolver answers state
    → is_decided state.trail (owner_number state.names name) ≡ true
    → IsOwnerAt (lookups_by answers) (owner_node (package_of name)) (chosen state.trail (owner_number state.names name))
owner_at answers state name is decided =
    let l = lookups_by answers in
    let owner = package_of name in
    let it = decided_there l state.names state.sizes state.trail (owner_number state.names name) is.placed decided in
    let long : length state.sizes ≡ length state.names = ap (λ (s : List ℕ). length s) is.sizes ∙ sizes_length l state.names in
    let below : owner_number state.names name < length state.names = omega (arith, it.known, long) in
    subst (λ n. IsOwnerAt l n (chosen state.trail (owner_number state.names name))) (name_of_number state.names (owner_node owner) below) it.there

-- an owner at its choice is in range
in_range : (l : Lookups) (owner : Owner) (choice : ℕ) → IsOwnerAt l (owner_node owner) choice → IsThere l owner choice
in_range l None choice at = at
in_range l (Some identity) choice at = at

-- the decided choice of an owner is within the limit
owner_within : (answers : Answers) (state : State) (name : NodeName) → IsSolver answers state
    → is_decided state.trail (owner_number state.names name) ≡ true
    → chosen state.trail (owner_number state.names name) < 4097
owner_within answers state name is decided =
    let less = owner_below (lookups_by answers) (package_of name) (chosen state.trail (owner_number state.names name)) (owner_at answers state name is decided) in
    let few = size_within answers (owner_node (package_of name)) is.short in
    omega (arith, less, few)

-- ---- what is next

-- the size of the node that is next
size_of_next : (answers : Answers) (state : State) (node : ℕ) (name : NodeName) → IsSolver answers state → node < length state.names
    → name_at state.names node ≡ name → slice_index state.sizes node ≡ size_of (lookups_by answers) name
size_of_next answers state node name is known named =
    ap (λ (s : List ℕ). slice_index s node) is.sizes ∙ size_named (lookups_by answers) state.names node known ∙ ap (size_of (lookups_by answers)) named

-- of two choices the one that isn't 0
switched_on : (choice : ℕ) → choice < 2 → not (choice == 0) ≡ true → choice ≡ 1
switched_on choice below some = elim (cases_Bool (choice == 0)) [
  | inl zero ↦ absurd (false≢true (sym (ap not zero) ∙ some))
  | inr more ↦ grind arith
]

-- a trait that is next can be switched on
left_trait : (state : State) (next : Next) → slice_index state.sizes next.node ≡ 2 → next.choice ≡ 1
    → Leaves state.sizes state.trail next.node (λ choice. not (choice == 0))
    → Leaves state.sizes state.trail next.node (λ other. other == next.choice)
left_trait state next size on left = record {
  choice = left.choice;
  below = left.below;
  allowed = left.allowed;
  passes = eq-eqb left.choice next.choice
      (switched_on left.choice (subst (λ n. left.choice < n) size left.below) left.passes ∙ sym on);
}

-- what is next has its choice left
pub next_left : (answers : Answers) (state : State) (next : Next) → (is : IsSolver answers state) → IsSettled state
    → IsNext (lookups_by answers) state.names (loaded_facts state.incompats state.origins) state.trail next
    → Leaves state.sizes state.trail next.node (λ other. other == next.choice)
next_left answers state next is settled it = go (name_at state.names next.node) refl it.at
  where
    l : Lookups
    l = lookups_by answers

    known : next.node < length state.sizes
    known = subst (λ (s : List ℕ). next.node < length s) (sym is.sizes) (subst (λ n. next.node < n) (sym (sizes_length l state.names)) it.known)

    left : Leaves state.sizes state.trail next.node (λ choice. not (choice == 0))
    left = left_of_asked is.facts state next.node is.is settled known it.asked

    go : (name : NodeName) → name_at state.names next.node ≡ name → IsNextAt l state.names state.trail next name
        → Leaves state.sizes state.trail next.node (λ other. other == next.choice)
    go Root named at = elim at [ ]
    go (RootTrait name) named at = left_trait state next (size_of_next answers state next.node (RootTrait name) is it.known named) at.on left
    go (Package identity) named at = record {
      choice = next.choice;
      below = subst (λ size. next.choice < size) (sym (size_of_next answers state next.node (Package identity) is it.known named))
          (choice_below l (Some identity) next.choice (at.release, at.there));
      allowed = at.allowed;
      passes = eq-eqb next.choice next.choice refl;
    }
    go (PackageTrait identity name) named at =
        left_trait state next (size_of_next answers state next.node (PackageTrait identity name) is it.known named) at.on left

-- and is loaded at a choice within the limit
next_within : (answers : Answers) (state : State) (next : Next) → IsSolver answers state
    → IsNext (lookups_by answers) state.names (loaded_facts state.incompats state.origins) state.trail next → next.place.choice < 4097
next_within answers state next is it = go (name_at state.names next.node) it.at
  where
    go : (name : NodeName) → IsNextAt (lookups_by answers) state.names state.trail next name → next.place.choice < 4097
    go Root at = elim at [ ]
    go (RootTrait name) at = subst (λ k. k < 4097) (sym at.place_choice) (owner_within answers state (RootTrait name) is at.owner)
    go (Package identity) at =
        let below = choice_below (lookups_by answers) (Some identity) next.choice (at.release, at.there) in
        let few = size_within answers (Package identity) is.short in
        let same = at.place_choice in
        omega (arith, below, few, same)
    go (PackageTrait identity name) at =
        subst (λ k. k < 4097) (sym at.place_choice) (owner_within answers state (PackageTrait identity name) is at.owner)

-- what is next is loaded in range
pub next_there : (answers : Answers) (state : State) (next : Next) → IsSolver answers state
    → IsNext (lookups_by answers) state.names (loaded_facts state.incompats state.origins) state.trail next
    → IsInRange (lookups_by answers) (load_at state.names next.place)
next_there answers state next is it =
    subst (λ n. IsInRange (lookups_by answers) (load_of (name_at state.names n) next.place.choice)) (sym it.place_node)
    (go (name_at state.names next.node) it.at)
  where
    go : (name : NodeName) → IsNextAt (lookups_by answers) state.names state.trail next name → IsInRange (lookups_by answers) (load_of name next.place.choice)
    go Root at = elim at [ ]
    go (RootTrait name) at =
        subst (IsThere (lookups_by answers) None) (sym at.place_choice)
        (in_range (lookups_by answers) None _ (owner_at answers state (RootTrait name) is at.owner))
    go (Package identity) at = subst (IsThere (lookups_by answers) (Some identity)) (sym at.place_choice) (at.release, at.there)
    go (PackageTrait identity name) at =
        subst (IsThere (lookups_by answers) (Some identity)) (sym at.place_choice)
        (in_range (lookups_by answers) (Some identity) _ (owner_at answers state (PackageTrait identity name) is at.owner))

-- ---- the law

-- the rules of a solver are right
pub rules_right : (job : Job) (pins : Pins) (answers : Answers) (state : State) → (is : IsSolver answers state)
    → AreRules plain_limits (rules_of job pins answers) is.facts state
rules_right job pins answers state is =
    let l = lookups_by answers in
    let long : length state.sizes ≡ length state.names = ap (λ (s : List ℕ). length s) is.sizes ∙ sizes_length l state.names in
    record {
      root = (omega arith, omega arith);
      sizes = λ place loaded at node below.
          let it = loading_read job answers state.names (load_at state.names place) loaded at in
          let e : loaded.sizes ≡ sizes_of l (new_at job answers state place) = ap (λ (x : Loaded). x.sizes) it.is in
          subst (λ (s : List ℕ). 0 < slice_index s node) (sym e)
          (sizes_above l (new_at job answers state place) node (subst (λ (s : List ℕ). node < length s) e below));
      small = λ place loaded at.
          let it = loading_read job answers state.names (load_at state.names place) loaded at in
          subst (IsSmall plain_limits) (sym (sizes_after job answers state place loaded is it))
          (sizes_small answers (state.names ++ new_at job answers state place) is.short (names_within job answers state place loaded is it));
      formed = λ place loaded at.
          facts_after job answers state place loaded is (loading_read job answers state.names (load_at state.names place) loaded at);
      caused = λ place loaded at.
          let it = loading_read job answers state.names (load_at state.names place) loaded at in
          ap (λ (x : Loaded). length x.causes) it.is ∙ as_many _ ∙ sym (ap (λ (x : Loaded). length x.facts) it.is);
      known = λ next settled at. let it = next_is pins l state next at in omega (arith, long, it.known);
      fresh = λ next settled at. (next_is pins l state next at).undecided;
      left = λ next settled at. next_left answers state next is settled (next_is pins l state next at);
      places = λ next settled small at.
          let it = next_is pins l state next at in
          let node : next.place.node < 4096 = omega (arith, it.place_node, it.known, is.nodes) in
          (node, next_within answers state next is it);
    }
