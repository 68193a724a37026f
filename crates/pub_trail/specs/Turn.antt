-- One turn of a solver over three lists: incompatibilities in the order of their arrival, loads done, and the trail.
use Rattle.std.specs.Prelude.{ℕ, zero, suc, ◌+◌, ◌==◌, ◌&&◌, List, [], ◌∷◌, ◌++◌, map, Bool, true, false, not, slice_index, slice_index_or, Option, Some, None, if◌then◌else◌}
use Rattle.std.specs.List.{filter, list_all, list_any}
use Rattle.pub_set.specs.Choices.{choices_of, do_meet, opposite}
use Rattle.pub_term.specs.Resolvent.{resolvent}
use Rattle.pub_term.specs.declared.cause.Cause.{Cause}
use Rattle.pub_term.specs.declared.cause.Cause.TheVariants.{WordsAsk}
use Rattle.pub_term.specs.declared.node.NodeName.{NodeName}
use Rattle.pub_term.specs.declared.term.Term.{Term}
use Rattle.spm_key.specs.declared.key.Key.{Key}
use Rattle.pub_trail.specs.declared.origin.Origin.{Origin}
use Rattle.pub_trail.specs.declared.origin.Origin.TheVariants.{OfConflict, OfLoad}
use Rattle.pub_trail.specs.declared.turned.Wide.{Wide}
use Rattle.pub_trail.specs.declared.walk.Cited.{Cited}
use Rattle.pub_trail.specs.declared.trail.Assigned.{Assigned}
use Rattle.pub_trail.specs.declared.trail.Place.{Place}
use Rattle.pub_trail.specs.declared.trail.Reason.TheVariants.{Decided, Derived}
use Rattle.pub_trail.specs.Trail.{accum, by_reason, holds, is_held, level_of, previous_level, up_to}

-- ---- conflicts

-- a resolution with the incompatibility of this number, on this node
abbrev pub Step : Type 0
Step = Cited

-- what stands where an incompatibility has no origin, which none is without
abbrev pub no_cause : Cause
no_cause = WordsAsk []

-- and its origin
abbrev pub no_origin : Origin
no_origin = OfLoad no_cause

-- What a conflict comes to: a refutation; or what was learned, and the level to go back to. Each has the steps to it.
pub data Conflict : Type 0 where
  Refutes : List Term → List Step → Conflict
  Learns : List Term → List Step → ℕ → Conflict

-- no term, or one on the root alone
abbrev pub is_refutation : List Term → Bool
is_refutation terms = list_all (λ term. term.node == 0) terms

-- The satisfier is the newest assignment that the terms need, so a conflict goes down the trail.
abbrev pub conflict : List ℕ → List (List Term) → List Assigned → List Term → List Step → Conflict
conflict sizes incompats [] terms steps = Refutes terms steps
conflict sizes incompats (entry ∷ before) terms steps =
    if is_refutation terms then Refutes terms steps
    else if holds sizes before terms then conflict sizes incompats before terms steps
    else by_reason entry.reason (Learns terms steps (previous_level sizes entry before terms))
    (λ number. if entry.level == previous_level sizes entry before terms
    then conflict sizes incompats before (resolvent terms (slice_index_or incompats number []) entry.node)
    (steps ++ record { number = number; node = entry.node } ∷ [])
    else Learns terms steps (previous_level sizes entry before terms))

-- ---- what is almost satisfied

-- the one term, if the choices left for its node meet it
abbrev pub the_one : List ℕ → List Assigned → List Term → Option Term
the_one sizes trail [] = None
the_one sizes trail (term ∷ []) = if do_meet (accum sizes trail term.node) term.choices then Some term else None
the_one sizes trail (term ∷ next ∷ terms) = None

-- the one term that isn't held, if the choices left for its node meet it
abbrev pub almost : List ℕ → List Assigned → List Term → Option Term
almost sizes trail terms = the_one sizes trail (filter (λ term. not (is_held sizes trail term)) terms)

-- ---- the newest of the incompatibilities

-- the first that is there
abbrev pub or_some : {A : Type 0} → Option A → Option A → Option A
or_some None other = other
or_some (Some here) other = Some here

-- something where the test is true
abbrev pub when_true : {A : Type 0} → Bool → A → Option A
when_true true here = Some here
when_true false here = None

-- the number of the newest that passes, where the first has this number
abbrev pub newest_from : (List Term → Bool) → ℕ → List (List Term) → Option ℕ
newest_from test number [] = None
newest_from test number (terms ∷ others) = or_some (newest_from test (number + 1) others) (when_true (test terms) number)

-- the number of an incompatibility that is almost satisfied, and its term that isn't held
pub record Forced : Type 0 where
  pub number : ℕ
  pub term : Term

-- what is forced by the incompatibility of this number
abbrev pub forced_by : ℕ → Option Term → Option Forced
forced_by number None = None
forced_by number (Some term) = Some (record { number = number; term = term })

-- the newest that is almost satisfied, where the first has this number
abbrev pub newest_forced : List ℕ → List Assigned → ℕ → List (List Term) → Option Forced
newest_forced sizes trail number [] = None
newest_forced sizes trail number (terms ∷ others) =
    or_some (newest_forced sizes trail (number + 1) others) (forced_by number (almost sizes trail terms))

-- ---- the turn

-- the three lists of a solver, and its nodes
pub record State : Type 0 where
  -- the nodes, in the order of naming: a node's number is its place
  pub names : List NodeName
  -- how many choices each node has
  pub sizes : List ℕ
  -- in the order of their arrival
  pub incompats : List (List Term)
  -- of each incompatibility
  pub origins : List Origin
  pub loads : List Place
  -- the newest first
  pub trail : List Assigned

-- what a load brings: the nodes that it names first and their sizes, and its facts with their causes
pub record Loaded : Type 0 where
  pub names : List NodeName
  pub sizes : List ℕ
  pub facts : List (List Term)
  pub causes : List Cause

-- what a load comes to: a key that it reads isn't given, it passes a limit, or it brings something
pub data Loading : Type 0 where
  Lacks : Key → Loading
  Passes : Wide → Loading
  Brings : Loaded → Loading

-- a node that is next, the choice for it, and the load that its decision asks
pub record Next : Type 0 where
  pub node : ℕ
  pub choice : ℕ
  pub place : Place

-- what a solver takes from its job and its replies
pub record Rules : Type 0 where
  pub load : State → Place → Loading
  pub next : State → Option Next

-- what a turn comes to: another state, or one of the answers that change nothing
pub data Turn : Type 0 where
  Went : State → Turn
  -- a key that the load reads is not given
  Needs : Key → Turn
  -- the load passes a limit
  TooWide : Wide → Turn
  Selected : Turn
  -- the terms, and the conflict and its steps that they come from
  Refuted : List Term → ℕ → List Step → Turn

-- the same node at the same choice
abbrev pub same_place : Place → Place → Bool
same_place first second = first.node == second.node && first.choice == second.choice

-- the load is done
abbrev pub is_loaded : State → Place → Bool
is_loaded state place = list_any (same_place place) state.loads

-- a load that brings something is done with it; else nothing changes
abbrev pub after_load : State → Place → Loading → Turn
after_load state place (Lacks key) = Needs key
after_load state place (Passes wide) = TooWide wide
after_load state place (Brings loaded) = Went (record {
  names = state.names ++ loaded.names;
  sizes = state.sizes ++ loaded.sizes;
  incompats = state.incompats ++ loaded.facts;
  origins = state.origins ++ map OfLoad loaded.causes;
  loads = state.loads ++ place ∷ [];
  trail = state.trail;
})

-- what was learned arrives, unless it is what was in conflict
abbrev pub learned : List (List Term) → List Term → List Step → List (List Term)
learned incompats terms [] = incompats
learned incompats terms (step ∷ steps) = incompats ++ terms ∷ []

-- with the conflict and the steps that it comes from
abbrev pub learned_origin : List Origin → ℕ → List Step → List Origin
learned_origin origins first [] = origins
learned_origin origins first (step ∷ steps) = origins ++ OfConflict first (step ∷ steps) ∷ []

-- a conflict refutes, or learns and goes back
abbrev pub after_conflict : State → ℕ → Conflict → Turn
after_conflict state first (Refutes terms steps) = Refuted terms first steps
after_conflict state first (Learns terms steps level) = Went (record {
  names = state.names;
  sizes = state.sizes;
  incompats = learned state.incompats terms steps;
  origins = learned_origin state.origins first steps;
  loads = state.loads;
  trail = up_to level state.trail;
})

-- the node of the term is left the choices outside of the term's set
abbrev pub forced_entry : ℕ → Forced → Assigned
forced_entry level forced = record {
  node = forced.term.node;
  choices = opposite forced.term.choices;
  level = level;
  reason = Derived forced.number;
}

-- a derivation
abbrev pub after_forced : State → Forced → Turn
after_forced state forced = Went (record {
  names = state.names;
  sizes = state.sizes;
  incompats = state.incompats;
  origins = state.origins;
  loads = state.loads;
  trail = forced_entry (level_of state.trail) forced ∷ state.trail;
})

-- a decision raises the level
abbrev pub decided : State → Next → Turn
decided state next = Went (record {
  names = state.names;
  sizes = state.sizes;
  incompats = state.incompats;
  origins = state.origins;
  loads = state.loads;
  trail = record {
    node = next.node;
    choices = choices_of (slice_index state.sizes next.node) (next.choice ∷ []);
    level = level_of state.trail + 1;
    reason = Decided;
  } ∷ state.trail;
})

-- the next node is loaded if that load isn't done, else decided; where none is next, the decisions are a selection
abbrev pub after_next : Rules → State → Option Next → Turn
after_next rules state None = Selected
after_next rules state (Some next) =
    if is_loaded state next.place then decided state next else after_load state next.place (rules.load state next.place)

-- what is almost satisfied comes before the next node
abbrev pub force_or_next : Rules → State → Option Forced → Turn
force_or_next rules state (Some forced) = after_forced state forced
force_or_next rules state None = after_next rules state (rules.next state)

-- what holds comes before what is almost satisfied
abbrev pub conflict_or_force : Rules → State → Option ℕ → Turn
conflict_or_force rules state (Some number) =
    after_conflict state number (conflict state.sizes state.incompats state.trail (slice_index_or state.incompats number []) [])
conflict_or_force rules state None = force_or_next rules state (newest_forced state.sizes state.trail 0 state.incompats)

-- the root, chosen
abbrev pub root_place : Place
root_place = record { node = 0; choice = 1 }

-- one turn: the first of these cases that applies
abbrev pub turn_of : Rules → State → Turn
turn_of rules state =
    if not (is_loaded state root_place) then after_load state root_place (rules.load state root_place)
    else conflict_or_force rules state (newest_from (holds state.sizes state.trail) 0 state.incompats)

-- ---- runs

-- a run goes on from a state alone
abbrev pub run_from : Turn → (State → Turn) → Turn
run_from (Went state) more = more state
run_from (Needs key) more = Needs key
run_from (TooWide wide) more = TooWide wide
run_from Selected more = Selected
run_from (Refuted terms first steps) more = Refuted terms first steps

-- so many turns, as far as they go
abbrev pub run_on : Rules → ℕ → Turn → Turn
run_on rules zero turn = turn
run_on rules (suc n) turn = run_from turn (λ state. run_on rules n (turn_of rules state))
