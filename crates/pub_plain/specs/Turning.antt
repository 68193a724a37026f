-- One turn of a solver, by what it is told and what it keeps.
use Rattle.std.specs.Prelude.{◌≡◌, ◌<◌, ◌≤◌, ℕ, List, [], ◌∷◌, All, length}
use Rattle.pub_facts.specs.Known.{IsInRange, lookups_of}
use Rattle.pub_term.specs.declared.node.NodeName.{NodeName}
use Rattle.pub_term.specs.declared.term.Term.{Term}
use Rattle.pub_trail.specs.Turn.{Rules, Step, Turn, Went, Needs, TooWide, Selected, Refuted}
use Rattle.pub_trail.specs.declared.trail.Place.{Place}
use Rattle.pub_trail.specs.declared.turned.Turned.{Turned}
use Rattle.pub_trail.specs.declared.turned.Turned.TheVariants as turned
use Rattle.spm_version.specs.Release.{Parts}
use Rattle.pub_plain.specs.Invariant.{IsSolver}
use Rattle.pub_plain.specs.Kept.{Kept, state_with}
use Rattle.pub_plain.specs.Loading.{load_at}
use Rattle.pub_plain.specs.Plain.{root_entry, rules_of}
use Rattle.pub_plain.specs.Solver.{Solver}
use Rattle.pub_plain.specs.Told.{answers_to, given_of, job_of}
use Rattle.pub_plain.specs.declared.reading.Stop.{Stop}
use Rattle.pub_plain.specs.declared.reading.Stop.TheVariants as stop
use Rattle.pub_plain.specs.declared.told.Told.{Told}

-- what is kept is a solver's, and no list is too long
pub record IsTurning (told : Told) (kept : Kept) : Type 0 where
  pub solver : IsSolver (answers_to told) (state_with told.known.nodes kept)
  pub short : All (λ (one : List ℕ × List Parts). length one.1 ≤ 4096) told.known.lists

abbrev pub rules_by : Told → Rules
rules_by told = rules_of (job_of told) told.pins (answers_to told)

-- a load that may be done: its node is named, and it is in range
pub record IsDue (told : Told) (place : Place) : Type 0 where
  pub named : place.node < length told.known.nodes
  pub there : IsInRange (lookups_of told.known) (load_at told.known.nodes place)

-- the same with other nodes
abbrev pub with_nodes : Told → List NodeName → Told
with_nodes told nodes = record {
  root = told.root;
  tools = told.tools;
  pins = told.pins;
  known = record { asked = told.known.asked; lists = told.known.lists; urls = told.known.urls; nodes = nodes };
  long = told.long;
  manifests = told.manifests;
}

-- nothing changes
pub record IsSame (told : Told) (kept : Kept) (told_after : Told) (kept_after : Kept) : Type 0 where
  pub told_same : told_after ≡ told
  pub kept_same : kept_after ≡ kept

-- what a turn answers and leaves: it is done, or nothing changes
abbrev pub TurnsTo : Turned → Turn → Told → Kept → Told → Kept → Type 0
TurnsTo (turned.Need asked) turn told kept told_after kept_after = (turn ≡ Needs asked) × IsSame told kept told_after kept_after
TurnsTo turned.Went turn told kept told_after kept_after =
    (turn ≡ Went (state_with told_after.known.nodes kept_after)) × (told_after ≡ with_nodes told told_after.known.nodes)
TurnsTo turned.Selected turn told kept told_after kept_after = (turn ≡ Selected) × IsSame told kept told_after kept_after
TurnsTo turned.Refuted turn told kept told_after kept_after =
    ((terms : List Term) × (first : ℕ) × (steps : List Step) × (turn ≡ Refuted terms first steps)) × IsSame told kept told_after kept_after
TurnsTo (turned.TooWide wide) turn told kept told_after kept_after = (turn ≡ TooWide wide) × IsSame told kept told_after kept_after

-- ---- the solver as its callers see it

abbrev pub solver_of : Told → Kept → ℕ → Solver
solver_of told kept turns = record {
  job = job_of told;
  pins = told.pins;
  given = given_of told;
  state = state_with told.known.nodes kept;
  turns = turns;
}

-- what a load that stops answers
abbrev pub turned_of : Stop → Turned
turned_of (stop.Lacks asked) = turned.Need asked
turned_of (stop.Passes wide) = turned.TooWide wide

-- the lists of a solver at its opening
abbrev pub opening_kept : Kept
opening_kept = record { sizes = 2 ∷ []; incompats = []; origins = []; loads = []; trail = root_entry ∷ [] }
