-- A turn keeps what a solver is.
use Rattle.std.proofs.Common.{◌≡◌, ℕ, ◌+◌, ◌<◌, ◌≤◌, List, [], ◌∷◌, ◌++◌, map, length, slice_index, slice_index_or, All, Some, refl, sym, ap, ◌∙◌, subst, arith, eqb-true, eq-eqb, length-append}
use Rattle.std.proofs.lemmas.List.{get_or_append_left}
use Rattle.std.proofs.lemmas.List.Elements.{All-append, All-cons, All-nil, All-tail, All-weaker}
use Rattle.pub_set.specs.Choices.{choices_of, is_among}
use Rattle.pub_set.proofs.SetLemmas.{IsSet-where, has_below}
use Rattle.pub_facts.specs.Catalogue.{Job, Lookups}
use Rattle.pub_facts.specs.Numbered.{sizes_of, written_nodes}
use Rattle.pub_facts.proofs.FactLemmas.{sizes_length}
use Rattle.pub_term.specs.declared.node.NodeName.{NodeName}
use Rattle.pub_term.specs.declared.node.NodeName.TheVariants.{Root, RootTrait, Package, PackageTrait}
use Rattle.pub_term.specs.declared.term.Term.{Term}
use Rattle.pub_trail.specs.Derived.{IsHistory}
use Rattle.pub_trail.specs.First.{first_or}
use Rattle.pub_trail.specs.Invariant.{AreRules, IsSettled, IsState, Limits}
use Rattle.pub_trail.specs.Outcome.{IsLearned, IsOutcome}
use Rattle.pub_trail.specs.Trail.{holds, level_of, up_to}
use Rattle.pub_trail.specs.Turn.{Brings, Conflict, Forced, Lacks, Learns, Loaded, Loading, Needs, Next, Passes, Refuted, Refutes, Rules, Selected, State, Step, TooWide, Turn, Went, after_conflict, after_load, conflict, forced_entry, learned, learned_origin, newest_forced, root_place, turn_of}
use Rattle.pub_trail.specs.declared.origin.Origin.TheVariants.{OfLoad}
use Rattle.pub_trail.specs.declared.trail.Assigned.{Assigned}
use Rattle.pub_trail.specs.declared.trail.Place.{Place}
use Rattle.pub_trail.specs.declared.trail.Reason.TheVariants.{Decided}
use Rattle.pub_trail.proofs.BackLemmas.{Begins-up_to, IsTrail-up_to, up_to_both}
use Rattle.pub_trail.proofs.ChainLemmas.{IsMadeBy, conflict_made}
use Rattle.pub_trail.proofs.ConflictLemmas.{conflict_outcome}
use Rattle.pub_trail.proofs.FirstLemmas.{first_of_one}
use Rattle.pub_trail.proofs.GrowLemmas.{AreFormed-append, AreFormed-grow, Extends-append, Extends-same, IsAssignment-shrink, IsTrail-grow, ViolatesNone-append, ViolatesNone-parts, some_append}
use Rattle.pub_trail.proofs.HistoryLemmas.{learned_history, load_history}
use Rattle.pub_trail.proofs.LieLemmas.{formed_at, sized_at}
use Rattle.pub_trail.proofs.NewestLemmas.{newest_is}
use Rattle.pub_trail.proofs.TurnLemmas.{Begins-more, conflict_asked, forced_almost, has-one, learned_extends, learned_formed, learned_none, turn_cases}
use Rattle.pub_plain.specs.Answers.{Answers, catalogue_by, lookups_by}
use Rattle.pub_plain.specs.Choosing.{Pins}
use Rattle.pub_plain.specs.Invariant.{IsDecidedAt, IsListed, IsOwnerAt, IsPlaced, IsSolver}
use Rattle.pub_plain.specs.Loading.{facts_at, load_at, loading, name_at}
use Rattle.pub_plain.specs.Plain.{plain_limits, rules_of}
use Rattle.pub_plain.proofs.ApartLemmas.{AreApart, apart_new}
use Rattle.pub_plain.proofs.NextLemmas.{IsNextAt, next_is}
use Rattle.pub_plain.proofs.ReadLemmas.{IsRead, loading_read}
use Rattle.pub_plain.proofs.RulesLemmas.{names_within, new_at, next_left, rules_right, sizes_after}
use Rattle.pub_plain.proofs.WrittenLemmas.{OnPackage, new_are_read}

-- ---- what the lists are, over the same facts

-- a load
load_state : (facts : List (List Term)) (limits : Limits) (rules : Rules) (state : State) (place : Place) (loaded : Loaded) → IsState facts state
    → AreRules limits rules facts state → rules.load state place ≡ Brings loaded
    → IsState (facts ++ loaded.facts) (record {
      names = state.names ++ loaded.names;
      sizes = state.sizes ++ loaded.sizes;
      incompats = state.incompats ++ loaded.facts;
      origins = state.origins ++ map OfLoad loaded.causes;
      loads = state.loads ++ place ∷ [];
      trail = state.trail;
    })
load_state facts limits rules state place loaded is are at =
    let grown = Extends-append 0 state.sizes loaded.sizes in
    record {
      some = some_append state.sizes loaded.sizes is.some (are.sizes place loaded at);
      formed = AreFormed-append (state.sizes ++ loaded.sizes) state.incompats loaded.facts
          (AreFormed-grow state.sizes (state.sizes ++ loaded.sizes) state.incompats grown is.formed) (are.formed place loaded at);
      stands = IsTrail-grow state.sizes (state.sizes ++ loaded.sizes) state.incompats (state.incompats ++ loaded.facts) state.trail
          grown (Extends-append [] state.incompats loaded.facts) is.formed is.stands;
      begins = is.begins;
      follows = λ assignment assigns none.
          let parts = ViolatesNone-parts facts loaded.facts assignment none in
          ViolatesNone-append state.incompats loaded.facts assignment
          (is.follows assignment (IsAssignment-shrink state.sizes (state.sizes ++ loaded.sizes) assignment grown assigns) parts.0) parts.1;
    }

-- a conflict that learns
learned_state : (facts : List (List Term)) (state : State) (first level : ℕ) (terms : List Term) (steps : List Step) → IsState facts state
    → IsLearned state.sizes state.incompats state.trail terms level
    → IsState facts (record {
      names = state.names;
      sizes = state.sizes;
      incompats = learned state.incompats terms steps;
      origins = learned_origin state.origins first steps;
      loads = state.loads;
      trail = up_to level state.trail;
    })
learned_state facts state first level terms steps is out = record {
  some = is.some;
  formed = learned_formed state.sizes state.incompats terms steps is.formed out.formed;
  stands = IsTrail-grow state.sizes state.sizes state.incompats (learned state.incompats terms steps) (up_to level state.trail)
      (Extends-same 0 state.sizes) (learned_extends state.incompats terms steps) is.formed
      (IsTrail-up_to state.sizes state.incompats level state.trail is.stands);
  begins = Begins-up_to state.sizes state.incompats level state.trail out.some is.stands is.begins;
  follows = λ assignment assigns none.
      let all = is.follows assignment assigns none in
      learned_none state.incompats terms steps assignment all (out.follows assignment assigns all);
}

-- ---- what is listed

-- a package whose list was read is listed
read_listed : (answers : Answers) (name : NodeName) → OnPackage (IsRead answers) name → IsListed answers name
read_listed answers Root read = tt
read_listed answers (RootTrait name) read = tt
read_listed answers (PackageTrait identity name) read = tt
read_listed answers (Package identity) read = (read.it, read.given)

-- ---- what is placed

-- an assignment stays placed over more names
placed_grow : (l : Lookups) (names more : List NodeName) (sizes others : List ℕ) (entry : Assigned) → length sizes ≡ length names
    → IsPlaced l names sizes entry → IsPlaced l (names ++ more) (sizes ++ others) entry
placed_grow l names more sizes others entry long is =
    let known : entry.node < length sizes = is.fits.0 in
    record {
      fits = (
        omega (arith, known, length-append sizes others),
        is.fits.1 ∙ sym (get_or_append_left sizes others 0 entry.node known),
      );
      there = subst (λ name. IsDecidedAt entry.reason l name entry)
          (sym (get_or_append_left names more Root entry.node (omega (arith, known, long)))) is.there;
    }

-- and so do all those up to a level
placed_up_to : (l : Lookups) (names : List NodeName) (sizes : List ℕ) (level : ℕ) (trail : List Assigned) → All (IsPlaced l names sizes) trail
    → All (IsPlaced l names sizes) (up_to level trail)
placed_up_to l names sizes level [] all = All-nil (IsPlaced l names sizes)
placed_up_to l names sizes level (entry ∷ before) all =
    up_to_both (All (IsPlaced l names sizes)) level entry before all
    (placed_up_to l names sizes level before (All-tail (IsPlaced l names sizes) entry before all))

-- the first of the set of one choice is that choice
first_choice : (size choice : ℕ) → choice < size → first_or (choices_of size (choice ∷ [])).members 0 ≡ choice
first_choice size choice below =
    first_of_one (choices_of size (choice ∷ [])).members choice (has-one size choice choice below ∙ eq-eqb choice choice refl)
    (λ k among.
    let known : k < size = has_below (choices_of size (choice ∷ [])) k (IsSet-where size (is_among (choice ∷ []))) among in
    eqb-true k choice (sym (has-one size choice k known) ∙ among))

-- ---- turns

-- what a solver is after a turn that goes on
abbrev IsSolverAfter : Answers → Turn → Type 0
IsSolverAfter answers (Went next) = IsSolver answers next
IsSolverAfter answers (Needs asked) = Unit {0}
IsSolverAfter answers (TooWide wide) = Unit {0}
IsSolverAfter answers Selected = Unit {0}
IsSolverAfter answers (Refuted terms first steps) = Unit {0}

-- a load keeps it
load_solves : (job : Job) (pins : Pins) (answers : Answers) (state : State) (place : Place) → IsSolver answers state → (loaded : Loading)
    → loading job answers state.names (load_at state.names place) ≡ loaded → IsSolverAfter answers (after_load state place loaded)
load_solves job pins answers state place is (Lacks asked) at = tt
load_solves job pins answers state place is (Passes wide) at = tt
load_solves job pins answers state place is (Brings loaded) at =
    let l = lookups_by answers in
    let it = loading_read job answers state.names (load_at state.names place) loaded at in
    let new = new_at job answers state place in
    let e : loaded.names ≡ new = ap (λ (x : Loaded). x.names) it.is in
    let are = rules_right job pins answers state is in
    let long : length state.sizes ≡ length state.names = ap (λ (s : List ℕ). length s) is.sizes ∙ sizes_length l state.names in
    record {
      nodes = subst (λ (ns : List NodeName). length (state.names ++ ns) ≤ 4096) (sym e) (names_within job answers state place loaded is it);
      rest = is.rest ++ loaded.names;
      rooted = ap (λ (ns : List NodeName). ns ++ loaded.names) is.rooted;
      listed = All-append (IsListed answers) state.names loaded.names is.listed
          (subst (All (IsListed answers)) (sym e)
          (All-weaker (OnPackage (IsRead answers)) (IsListed answers) (λ name read. read_listed answers name read) new
          (new_are_read job answers state.names (load_at state.names place) it.read)));
      short = is.short;
      sizes = sizes_after job answers state place loaded is it ∙ ap (λ (ns : List NodeName). sizes_of l (state.names ++ ns)) (sym e);
      placed = All-weaker (IsPlaced l state.names state.sizes) (IsPlaced l (state.names ++ loaded.names) (state.sizes ++ loaded.sizes))
          (λ entry placed. placed_grow l state.names loaded.names state.sizes loaded.sizes entry long placed) state.trail is.placed;
      facts = is.facts ++ loaded.facts;
      is = load_state is.facts plain_limits (rules_of job pins answers) state place loaded is.is are at;
      history = load_history is.facts plain_limits (rules_of job pins answers) state place loaded is.is is.history are at;
      apart = subst (λ (ns : List NodeName). AreApart (state.names ++ ns)) (sym e)
          (apart_new state.names (written_nodes (facts_at job (catalogue_by answers) (load_at state.names place))) is.apart);
    }

-- a conflict does
conflict_solves : (answers : Answers) (state : State) (first : ℕ) → IsSolver answers state → first < length state.incompats → (outcome : Conflict)
    → IsMadeBy state.incompats (slice_index_or state.incompats first []) [] outcome
    → IsOutcome state.sizes state.incompats state.trail outcome → IsSolverAfter answers (after_conflict state first outcome)
conflict_solves answers state first is known (Refutes terms steps) made out = tt
conflict_solves answers state first is known (Learns terms steps level) made out = record {
  nodes = is.nodes;
  rest = is.rest;
  rooted = is.rooted;
  listed = is.listed;
  short = is.short;
  sizes = is.sizes;
  placed = placed_up_to (lookups_by answers) state.names state.sizes level state.trail is.placed;
  facts = is.facts;
  is = learned_state is.facts state first level terms steps is.is out;
  history = subst (λ all. IsHistory is.facts (record {
    names = state.names;
    sizes = state.sizes;
    incompats = learned state.incompats terms all;
    origins = learned_origin state.origins first all;
    loads = state.loads;
    trail = up_to level state.trail;
  })) (sym made.0.split)
      (learned_history is.facts state first level terms made.0.more is.history known made.0.below made.0.chain made.1 out.formed);
  apart = is.apart;
}

-- a derivation does
forced_solves : (answers : Answers) (state : State) (forced : Forced) → IsSolver answers state
    → newest_forced state.sizes state.trail 0 state.incompats ≡ Some forced → IsSolver answers (record {
      names = state.names;
      sizes = state.sizes;
      incompats = state.incompats;
      origins = state.origins;
      loads = state.loads;
      trail = forced_entry (level_of state.trail) forced ∷ state.trail;
    })
forced_solves answers state forced is found =
    let almost_at = forced_almost is.facts state forced is.is found in
    let terms = slice_index_or state.incompats forced.number [] in
    let sized = sized_at state.sizes terms forced.term.node forced.term.choices
    (formed_at state.sizes state.incompats forced.number is.is.formed almost_at.0).sized almost_at.1.at in
    record {
      nodes = is.nodes;
      rest = is.rest;
      rooted = is.rooted;
      listed = is.listed;
      short = is.short;
      sizes = is.sizes;
      placed = All-cons (IsPlaced (lookups_by answers) state.names state.sizes) (forced_entry (level_of state.trail) forced) state.trail
          (record { fits = (sized.0, sized.1); there = tt }) is.placed;
      facts = is.facts;
      is = record {
        some = is.is.some;
        formed = is.is.formed;
        stands = ((almost_at.0, record { set = forced.term.choices; almost = almost_at.1; choices = refl; level = refl }), is.is.stands);
        begins = Begins-more (forced_entry (level_of state.trail) forced) state.trail is.is.begins;
        follows = is.is.follows;
      };
      history = record { origins = is.history.origins; are = is.history.are; given = is.history.given };
      apart = is.apart;
    }

-- the assignment of a decision
abbrev decided_entry : State → Next → Assigned
decided_entry state next = record {
  node = next.node;
  choices = choices_of (slice_index state.sizes next.node) (next.choice ∷ []);
  level = level_of state.trail + 1;
  reason = Decided;
}

-- a decision does
decided_solves : (job : Job) (pins : Pins) (answers : Answers) (state : State) (next : Next) → IsSolver answers state → IsSettled state
    → (rules_of job pins answers).next state ≡ Some next → IsSolver answers (record {
      names = state.names;
      sizes = state.sizes;
      incompats = state.incompats;
      origins = state.origins;
      loads = state.loads;
      trail = decided_entry state next ∷ state.trail;
    })
decided_solves job pins answers state next is settled at =
    let are = rules_right job pins answers state is in
    let it = next_is pins (lookups_by answers) state next at in
    let left = next_left answers state next is settled it in
    let size = slice_index state.sizes next.node in
    let below : next.choice < size = subst (λ k. k < size) (eqb-true left.choice next.choice left.passes) left.below in
    let there : IsOwnerAt (lookups_by answers) (name_at state.names next.node) next.choice = owned (name_at state.names next.node) it.at in
    record {
      nodes = is.nodes;
      rest = is.rest;
      rooted = is.rooted;
      listed = is.listed;
      short = is.short;
      sizes = is.sizes;
      placed = All-cons (IsPlaced (lookups_by answers) state.names state.sizes) (decided_entry state next) state.trail
          (record {
            fits = (are.known next settled at, refl);
            there = subst (IsOwnerAt (lookups_by answers) (name_at state.names next.node)) (sym (first_choice size next.choice below)) there;
          }) is.placed;
      facts = is.facts;
      is = record {
        some = is.is.some;
        formed = is.is.formed;
        stands = (
          record {
            choice = next.choice;
            known = are.known next settled at;
            fresh = are.fresh next settled at;
            left = left;
            choices = λ other within. has-one size next.choice other within;
            level = refl;
          },
          is.is.stands,
        );
        begins = Begins-more (decided_entry state next) state.trail is.is.begins;
        follows = is.is.follows;
      };
      history = record { origins = is.history.origins; are = is.history.are; given = is.history.given };
      apart = is.apart;
    }
  where
    owned : (name : NodeName) → IsNextAt (lookups_by answers) state.names state.trail next name → IsOwnerAt (lookups_by answers) name next.choice
    owned Root none = elim none [ ]
    owned (RootTrait name) trait = tt
    owned (Package identity) here = (here.release, here.there)
    owned (PackageTrait identity name) trait = tt

-- each turn does
turn_solves : (job : Job) (pins : Pins) (answers : Answers) (state : State) → IsSolver answers state
    → IsSolverAfter answers (turn_of (rules_of job pins answers) state)
turn_solves job pins answers state is = turn_cases (rules_of job pins answers) state (IsSolverAfter answers) (record {
  loads_root = λ other.
      load_solves job pins answers state root_place is (loading job answers state.names (load_at state.names root_place)) refl;
  loads = λ next settled at other.
      load_solves job pins answers state next.place is (loading job answers state.names (load_at state.names next.place)) refl;
  conflicts = λ number found.
      let at = newest_is (holds state.sizes state.trail) 0 state.incompats number found in
      let first = slice_index_or state.incompats number [] in
      let asked = conflict_asked is.facts state number is.is found in
      conflict_solves answers state number is (omega (arith, at.is, at.within)) (conflict state.sizes state.incompats state.trail first [])
      (conflict_made state.sizes state.incompats state.trail first [] asked) (conflict_outcome state.sizes state.incompats state.trail first [] asked);
  forces = λ forced quiet found. forced_solves answers state forced is found;
  decides = λ next settled at loaded. decided_solves job pins answers state next is settled at;
  selects = λ settled at. tt;
})

-- the state that a turn goes to is a solver's
pub solver_kept : (job : Job) (pins : Pins) (answers : Answers) (state next : State) → IsSolver answers state
    → turn_of (rules_of job pins answers) state ≡ Went next → IsSolver answers next
solver_kept job pins answers state next is went = subst (IsSolverAfter answers) went (turn_solves job pins answers state is)
