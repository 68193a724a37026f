-- What is said of more keys changes nothing of a solver, nor of a turn that needs no more.
use Rattle.std.proofs.Common.{◌≡◌, ℕ, suc, ◌<◌, ◌+◌, ◌==◌, ◌&&◌, ◌||◌, Bool, true, false, not, cond, List, [], ◌∷◌, length, All, Option, Some, None, refl, sym, ap, ap₂, ◌∙◌, subst, inl, inr, ◌⊎◌, arith, eqb-true}
use Rattle.std.specs.Ordering.{is_lt}
use Rattle.std.proofs.lemmas.Bool.{and_parts, cases_Bool, cases_lt, cond-false, cond-true, cond_both, false≢true, or_cases}
use Rattle.std.proofs.lemmas.List.{get_or_past}
use Rattle.pub_facts.specs.Catalogue.{Job, Lookups, release_at}
use Rattle.pub_facts.specs.Facts.{owner_node, size_of}
use Rattle.pub_facts.specs.Numbered.{number_in, sizes_of}
use Rattle.pub_facts.proofs.FactLemmas.{node_same, sizes_length}
use Rattle.pub_term.specs.Node.{node_cmp, package_of}
use Rattle.pub_term.specs.NodeLaws.{node_eq}
use Rattle.pub_term.specs.declared.node.NodeName.{NodeName}
use Rattle.pub_term.specs.declared.node.NodeName.TheVariants.{Root, RootTrait, Package, PackageTrait}
use Rattle.pub_trail.specs.First.{first_or}
use Rattle.pub_trail.specs.Required.{is_open, loaded_facts}
use Rattle.pub_trail.specs.Trail.{allows, by_reason, holds, is_decided}
use Rattle.pub_trail.specs.Turn.{Forced, Loading, Lacks, Passes, Brings, Next, Rules, State, Turn, after_load, after_next, conflict_or_force, decided, force_or_next, is_loaded, newest_forced, newest_from, or_some, root_place, turn_of, when_true}
use Rattle.pub_trail.specs.declared.trail.Assigned.{Assigned}
use Rattle.pub_trail.specs.declared.trail.Place.{Place}
use Rattle.pub_trail.specs.declared.trail.Reason.{Reason}
use Rattle.pub_trail.specs.declared.trail.Reason.TheVariants.{Decided, Derived}
use Rattle.spm_key.specs.declared.key.Key.TheVariants as key
use Rattle.spm_version.specs.Release.{Parts}
use Rattle.pub_plain.specs.Answers.{Answers, AreShort, Carries, lookups_by}
use Rattle.pub_plain.specs.Choosing.{Pins, first_that, is_needed, is_ready, is_trait, least_from, lesser, next_at, next_named, next_node, next_package, next_trait, owner_number, pin_of, ranked_in}
use Rattle.pub_plain.specs.Invariant.{IsDecidedAt, IsListed, IsOwnerAt, IsPlaced, IsSolver}
use Rattle.pub_plain.specs.Loading.{is_package, load_at, name_at}
use Rattle.pub_plain.specs.Plain.{rules_of}
use Rattle.pub_plain.specs.Stops.{IsStill}
use Rattle.pub_plain.proofs.SameFactLemmas.{IsSameOwner}
use Rattle.pub_plain.proofs.SameReadLemmas.{StillLacks, listed_same, loading_same}

-- ---- of each name

-- what is so of each name and of the root is so of the name of each number
pub each_name : (P : NodeName → Type 0) (names : List NodeName) → All P names → P Root → (number : ℕ) → P (name_at names number)
each_name P names all root number = elim (cases_lt number (length names)) [
  | inl within ↦ all number Root within
  | inr past ↦ subst P (sym (get_or_past names number Root past)) root
]

-- lookups that agree on the size of each name make the same list of sizes
pub sizes_same : (l m : Lookups) (names : List NodeName) → All (λ name. size_of l name ≡ size_of m name) names → sizes_of l names ≡ sizes_of m names
sizes_same l m [] same = refl
sizes_same l m (name ∷ names) same =
    ap₂ (λ size sizes. size ∷ sizes) (same 0 name (omega arith)) (sizes_same l m names (λ k d below. same (suc k) d (omega (arith, below))))

-- ---- a solver

module _ (answers more : Answers) (carries : Carries answers more) where
  -- a name that is listed stays so
  still_listed : (name : NodeName) → IsListed answers name → IsListed more name
  still_listed Root listed = tt
  still_listed (RootTrait name) listed = tt
  still_listed (Package identity) listed = (listed.0, carries (key.List identity) _ listed.1)
  still_listed (PackageTrait identity name) listed = tt

  -- and has the same size
  pub listed_size : (name : NodeName) → IsListed answers name → size_of (lookups_by answers) name ≡ size_of (lookups_by more) name
  listed_size Root listed = refl
  listed_size (RootTrait name) listed = refl
  listed_size (Package identity) listed = ap (λ (list : List Parts). suc (length list)) (listed_same answers more carries (Some identity) listed)
  listed_size (PackageTrait identity name) listed = refl

  -- and is an owner at the same choices
  listed_owner : (name : NodeName) (choice : ℕ) → IsListed answers name → IsOwnerAt (lookups_by answers) name choice
      → IsOwnerAt (lookups_by more) name choice
  listed_owner Root choice listed at = at
  listed_owner (RootTrait name) choice listed at = tt
  listed_owner (Package identity) choice listed at =
      (at.0, ap (λ list. release_at list choice) (sym (listed_same answers more carries (Some identity) listed)) ∙ at.1)
  listed_owner (PackageTrait identity name) choice listed at = tt

  -- a decision stays at a choice that can be loaded
  still_decided : (reason : Reason) (name : NodeName) (entry : Assigned) → IsListed answers name → IsDecidedAt reason (lookups_by answers) name entry
      → IsDecidedAt reason (lookups_by more) name entry
  still_decided Decided name entry listed at = listed_owner name (first_or entry.choices.members 0) listed at
  still_decided (Derived number) name entry listed at = tt

  -- an assignment stays where it may be
  still_placed : (names : List NodeName) (sizes : List ℕ) (entry : Assigned) → All (IsListed answers) names
      → IsPlaced (lookups_by answers) names sizes entry → IsPlaced (lookups_by more) names sizes entry
  still_placed names sizes entry listed placed = record {
    fits = placed.fits;
    there = still_decided entry.reason (name_at names entry.node) entry (each_name (IsListed answers) names listed tt entry.node) placed.there;
  }

  -- a solver stays one
  pub still_solver : (state : State) → IsSolver answers state → AreShort more → IsSolver more state
  still_solver state is short = record {
    nodes = is.nodes;
    rest = is.rest;
    rooted = is.rooted;
    listed = λ k d below. still_listed _ (is.listed k d below);
    short = short;
    sizes = is.sizes ∙ sizes_same (lookups_by answers) (lookups_by more) state.names (λ k d below. listed_size _ (is.listed k d below));
    placed = λ k d below. still_placed state.names state.sizes _ is.listed (is.placed k d below);
    facts = is.facts;
    is = is.is;
    history = is.history;
    apart = is.apart;
  }

-- ---- the node that is next

-- of two numbered names the lesser is one of them
lesser_cases : (first second : Option (ℕ × NodeName)) (found : ℕ × NodeName) → lesser first second ≡ Some found
    → (first ≡ Some found) ⊎ (second ≡ Some found)
lesser_cases None second found is = inr is
lesser_cases (Some first) None found is = inl is
lesser_cases (Some first) (Some second) found is =
    cond_both (is_lt (node_cmp second.1 first.1)) (Some second) (Some first)
    (λ least. least ≡ Some found → (Some first ≡ Some found) ⊎ (Some second ≡ Some found))
    (λ _ e. inr e) (λ _ e. inl e) is

-- what is found among names stands at its number, and passes
pub record IsFound (test : ℕ → NodeName → Bool) (number : ℕ) (names : List NodeName) (found : ℕ × NodeName) : Type 0 where
  pub k : ℕ
  pub within : k < length names
  pub place : found.0 ≡ number + k
  pub name : name_at names k ≡ found.1
  pub passes : test found.0 found.1 ≡ true

-- the least of the names that pass is found among them
pub least_found : (test : ℕ → NodeName → Bool) (number : ℕ) (names : List NodeName) (found : ℕ × NodeName) → least_from test number names ≡ Some found
    → IsFound test number names found
least_found test number [] found is = cc
least_found test number (name ∷ names) found is =
    elim (lesser_cases (when_true (test number name) (number, name)) (least_from test (number + 1) names) found is) [
      | inl first ↦ here (test number name) refl first
      | inr later ↦
          (let it = least_found test (number + 1) names found later in
          record { k = suc it.k; within = omega (arith, it.within); place = omega (arith, it.place); name = it.name; passes = it.passes })
    ]
  where
    here : (b : Bool) → test number name ≡ b → when_true b (number, name) ≡ Some found → IsFound test number (name ∷ names) found
    here true at e =
        let same : (number, name) ≡ found = cc in
        subst (IsFound test number (name ∷ names)) same
        (record { k = 0; within = omega arith; place = omega arith; name = refl; passes = at })
    here false at e = cc

-- what is found stands at its number, where the first name has the number 0
found_name : (test : ℕ → NodeName → Bool) (names : List NodeName) (found : ℕ × NodeName) → IsFound test 0 names found
    → name_at names found.0 ≡ found.1
found_name test names found it =
    let place : found.0 ≡ it.k = omega (arith, it.place) in
    ap (name_at names) place ∙ it.name

-- a node that is numbered stands at its number
numbered_name : (names : List NodeName) (node : NodeName) → number_in names node < length names → name_at names (number_in names node) ≡ node
numbered_name [] node below = absurd (omega (arith, below))
numbered_name (first ∷ names) node below = elim (cases_Bool (node_eq first node)) [
  | inl is ↦
      (let n : number_in (first ∷ names) node ≡ 0 = cond-true (node_eq first node) 0 (suc (number_in names node)) is in
      ap (name_at (first ∷ names)) n ∙ node_same first node is)
  | inr isnt ↦
      (let n : number_in (first ∷ names) node ≡ suc (number_in names node) = cond-false (node_eq first node) 0 (suc (number_in names node)) isnt in
      ap (name_at (first ∷ names)) n ∙ numbered_name names node (omega (arith, n, below)))
]

-- a node that is decided is there
pub decided_there : (l : Lookups) (names : List NodeName) (sizes : List ℕ) (trail : List Assigned) (node : ℕ) → All (IsPlaced l names sizes) trail
    → is_decided trail node ≡ true → node < length sizes
decided_there l names sizes [] node placed is = absurd (false≢true is)
decided_there l names sizes (entry ∷ before) node placed is =
    go (decided_there l names sizes before node (λ k d below. placed (suc k) d (omega (arith, below)))) entry.reason is
  where
    fits : entry.node < length sizes
    fits = (placed 0 entry (omega arith)).fits.0

    go : (is_decided before node ≡ true → node < length sizes) → (reason : Reason)
        → by_reason reason (entry.node == node || is_decided before node) (λ number. is_decided before node) ≡ true → node < length sizes
    go earlier Decided is = elim (or_cases (entry.node == node) (is_decided before node) is) [
      | inl same ↦ subst (λ n. n < length sizes) (eqb-true entry.node node same) fits
      | inr before_it ↦ earlier before_it
    ]
    go earlier (Derived number) is = earlier is

-- the first that is there is one of both
either_some : (first second : Option (ℕ × NodeName)) (found : ℕ × NodeName) → or_some first second ≡ Some found
    → (first ≡ Some found) ⊎ (second ≡ Some found)
either_some None second found is = inr is
either_some (Some first) second found is = inl is

-- what is next stands at its number, and its owner's list was given
pub record IsOwned (answers : Answers) (names : List NodeName) (found : ℕ × NodeName) : Type 0 where
  pub name : name_at names found.0 ≡ found.1
  pub listed : IsListed answers (owner_node (package_of found.1))

-- the owner of a trait that is ready is decided, so it is there
ready_owned : (answers : Answers) (state : State) → IsSolver answers state → (found : ℕ × NodeName)
    → IsFound (is_ready state.names (loaded_facts state.incompats state.origins) state.trail) 0 state.names found → IsOwned answers state.names found
ready_owned answers state is found it =
    let facts = loaded_facts state.incompats state.origins in
    let owner = owner_node (package_of found.1) in
    let passes
    = and_parts (is_trait found.1) (is_open facts state.trail found.0 && is_decided state.trail (owner_number state.names found.1)) it.passes in
    let ready = and_parts (is_open facts state.trail found.0) (is_decided state.trail (owner_number state.names found.1)) passes.1 in
    let there : number_in state.names owner < length state.sizes
    = decided_there (lookups_by answers) state.names state.sizes state.trail (number_in state.names owner) is.placed ready.1 in
    let count : length state.sizes ≡ length state.names
    = ap (λ (sizes : List ℕ). length sizes) is.sizes ∙ sizes_length (lookups_by answers) state.names in
    let within : number_in state.names owner < length state.names = omega (arith, there, count) in
    record {
      name = found_name (is_ready state.names facts state.trail) state.names found it;
      listed = subst (IsListed answers) (numbered_name state.names owner within)
          (each_name (IsListed answers) state.names is.listed tt (number_in state.names owner));
    }

-- a package owns itself
package_owned : (answers : Answers) (name : NodeName) → is_package name ≡ true → IsListed answers name
    → IsListed answers (owner_node (package_of name))
package_owned answers Root is listed = tt
package_owned answers (RootTrait name) is listed = tt
package_owned answers (Package identity) is listed = listed
package_owned answers (PackageTrait identity name) is listed = absurd (false≢true is)

-- so the owner of a package that is needed is listed
needed_owned : (answers : Answers) (state : State) → IsSolver answers state → (found : ℕ × NodeName)
    → IsFound (is_needed (loaded_facts state.incompats state.origins) state.trail) 0 state.names found → IsOwned answers state.names found
needed_owned answers state is found it =
    let passes = and_parts (is_package found.1) (is_open (loaded_facts state.incompats state.origins) state.trail found.0) it.passes in
    record {
      name = found_name (is_needed (loaded_facts state.incompats state.origins) state.trail) state.names found it;
      listed = package_owned answers found.1 passes.0 (subst (IsListed answers) it.name (each_name (IsListed answers) state.names is.listed tt it.k));
    }

-- and so is the owner of what is next
pub next_owned : (answers : Answers) (state : State) → IsSolver answers state → (found : ℕ × NodeName)
    → next_node state.names (loaded_facts state.incompats state.origins) state.trail ≡ Some found → IsOwned answers state.names found
next_owned answers state is found at =
    let facts = loaded_facts state.incompats state.origins in
    let ready = least_from (is_ready state.names facts state.trail) 0 state.names in
    let needed = least_from (is_needed facts state.trail) 0 state.names in
    elim (either_some ready needed found at) [
      | inl first ↦ ready_owned answers state is found (least_found (is_ready state.names facts state.trail) 0 state.names found first)
      | inr second ↦ needed_owned answers state is found (least_found (is_needed facts state.trail) 0 state.names found second)
    ]

-- the next node depends on the list of its owner alone
named_same : (pins : Pins) (l m : Lookups) (names : List NodeName) (trail : List Assigned) (number : ℕ) (name : NodeName)
    → IsSameOwner l m (package_of name) → next_named pins l names trail number name ≡ next_named pins m names trail number name
named_same pins l m names trail number Root same = refl
named_same pins l m names trail number (RootTrait name) same = refl
named_same pins l m names trail number (Package identity) same =
    ap (λ list. next_package number (first_that (allows trail number) (ranked_in (pin_of pins identity) list))) same
named_same pins l m names trail number (PackageTrait identity name) same = refl

-- a package is loaded at its own number
package_place : (number : ℕ) (choice : Option ℕ) (next : Next) → next_package number choice ≡ Some next → next.place.node ≡ number
package_place number None next is = cc
package_place number (Some choice) next is =
    let e : next ≡ record { node = number; choice = choice; place = record { node = number; choice = choice } } = cc in
    ap (λ (n : Next). n.place.node) e

-- and so is each node
named_place : (pins : Pins) (l : Lookups) (names : List NodeName) (trail : List Assigned) (number : ℕ) (name : NodeName) (next : Next)
    → next_named pins l names trail number name ≡ Some next → next.place.node ≡ number
named_place pins l names trail number Root next is = cc
named_place pins l names trail number (RootTrait name) next is =
    let e : next ≡ next_trait names trail number (RootTrait name) = cc in
    ap (λ (n : Next). n.place.node) e
named_place pins l names trail number (Package identity) next is =
    package_place number (first_that (allows trail number) (ranked_in (pin_of pins identity) (l.list identity))) next is
named_place pins l names trail number (PackageTrait identity name) next is =
    let e : next ≡ next_trait names trail number (PackageTrait identity name) = cc in
    ap (λ (n : Next). n.place.node) e

-- ---- a turn

-- rules that agree on what the turn asks of them
pub record AreSameRules (more : Answers) (rules other : Rules) (state : State) : Type 0 where
  pub root : StillLacks more (rules.load state root_place) → rules.load state root_place ≡ other.load state root_place
  pub next : rules.next state ≡ other.next state
  pub load : (next : Next) → rules.next state ≡ Some next → StillLacks more (rules.load state next.place)
      → rules.load state next.place ≡ other.load state next.place

-- a turn that needs nothing more comes of a load that lacks nothing
load_answered : (more : Answers) (state : State) (place : Place) (loading : Loading) → IsStill more (after_load state place loading) → StillLacks more loading
load_answered more state place (Lacks asked) answered = answered
load_answered more state place (Passes wide) answered = tt
load_answered more state place (Brings loaded) answered = tt

-- turns by cases are the same where those of the case that applies are
case_same : (more : Answers) (b : Bool) (first second third fourth : Turn) → (IsStill more first → first ≡ third) → (IsStill more second → second ≡ fourth)
    → IsStill more (cond b first second) → cond b first second ≡ cond b third fourth
case_same more true first second third fourth left right answered = left answered
case_same more false first second third fourth left right answered = right answered

-- the turn where nothing is almost satisfied
next_turn_same : (more : Answers) (rules other : Rules) (state : State) → AreSameRules more rules other state → (next : Option Next) → rules.next state ≡ next
    → IsStill more (after_next rules state next) → after_next rules state next ≡ after_next other state next
next_turn_same more rules other state same None at answered = refl
next_turn_same more rules other state same (Some next) at answered =
    case_same more (is_loaded state next.place) (decided state next) (after_load state next.place (rules.load state next.place)) (decided state next)
    (after_load state next.place (other.load state next.place)) (λ _. refl)
    (λ loads. ap (after_load state next.place) (same.load next at (load_answered more state next.place (rules.load state next.place) loads))) answered

-- the turn where nothing holds
forced_turn_same : (more : Answers) (rules other : Rules) (state : State) → AreSameRules more rules other state → (forced : Option Forced)
    → IsStill more (force_or_next rules state forced) → force_or_next rules state forced ≡ force_or_next other state forced
forced_turn_same more rules other state same (Some forced) answered = refl
forced_turn_same more rules other state same None answered =
    next_turn_same more rules other state same (rules.next state) refl answered ∙ ap (after_next other state) same.next

-- the turn where the root is loaded
conflict_turn_same : (more : Answers) (rules other : Rules) (state : State) → AreSameRules more rules other state → (number : Option ℕ)
    → IsStill more (conflict_or_force rules state number) → conflict_or_force rules state number ≡ conflict_or_force other state number
conflict_turn_same more rules other state same (Some number) answered = refl
conflict_turn_same more rules other state same None answered =
    forced_turn_same more rules other state same (newest_forced state.sizes state.trail 0 state.incompats) answered

-- by rules that agree a turn that needs nothing more comes to the same
turn_same : (more : Answers) (rules other : Rules) (state : State) → AreSameRules more rules other state → IsStill more (turn_of rules state)
    → turn_of rules state ≡ turn_of other state
turn_same more rules other state same answered =
    case_same more (not (is_loaded state root_place)) (after_load state root_place (rules.load state root_place))
    (conflict_or_force rules state (newest_from (holds state.sizes state.trail) 0 state.incompats))
    (after_load state root_place (other.load state root_place))
    (conflict_or_force other state (newest_from (holds state.sizes state.trail) 0 state.incompats))
    (λ loads. ap (after_load state root_place) (same.root (load_answered more state root_place (rules.load state root_place) loads)))
    (λ others. conflict_turn_same more rules other state same (newest_from (holds state.sizes state.trail) 0 state.incompats) others) answered

module _ (job : Job) (pins : Pins) (answers more : Answers) (carries : Carries answers more) (state : State) (is : IsSolver answers state) where
  -- the node that is next is the same
  next_same : (found : Option (ℕ × NodeName)) → next_node state.names (loaded_facts state.incompats state.origins) state.trail ≡ found
      → next_at pins (lookups_by answers) state.names state.trail found ≡ next_at pins (lookups_by more) state.names state.trail found
  next_same None at = refl
  next_same (Some found) at =
      named_same pins (lookups_by answers) (lookups_by more) state.names state.trail found.0 found.1
      (listed_same answers more carries (package_of found.1) (next_owned answers state is found at).listed)

  -- the list of the owner of what is loaded for it was given
  place_listed : (found : Option (ℕ × NodeName)) → next_node state.names (loaded_facts state.incompats state.origins) state.trail ≡ found
      → (next : Next) → next_at pins (lookups_by answers) state.names state.trail found ≡ Some next
      → IsListed answers (owner_node (package_of (name_at state.names next.place.node)))
  place_listed None at next it = cc
  place_listed (Some found) at next it =
      let owned = next_owned answers state is found at in
      let place : next.place.node ≡ found.0 = named_place pins (lookups_by answers) state.names state.trail found.0 found.1 next it in
      subst (λ name. IsListed answers (owner_node (package_of name))) (sym (ap (name_at state.names) place ∙ owned.name)) owned.listed

  -- the root needs no list
  root_listed : (names rest : List NodeName) → names ≡ Root ∷ rest → IsListed answers (owner_node (package_of (name_at names 0)))
  root_listed names rest rooted = subst (λ all. IsListed answers (owner_node (package_of (name_at all 0)))) (sym rooted) tt

  -- the rules of a turn agree
  pub rules_same : AreSameRules more (rules_of job pins answers) (rules_of job pins more) state
  rules_same = record {
    root = loading_same answers more carries job state.names (load_at state.names root_place) (root_listed state.names is.rest is.rooted);
    next = next_same (next_node state.names (loaded_facts state.incompats state.origins) state.trail) refl;
    load = λ next at.
        loading_same answers more carries job state.names (load_at state.names next.place)
        (place_listed (next_node state.names (loaded_facts state.incompats state.origins) state.trail) refl next at);
  }

  -- a turn that needs nothing more comes to the same
  pub same_turn : IsStill more (turn_of (rules_of job pins answers) state)
      → turn_of (rules_of job pins more) state ≡ turn_of (rules_of job pins answers) state
  same_turn answered = sym (turn_same more (rules_of job pins answers) (rules_of job pins more) state rules_same answered)
