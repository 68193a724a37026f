-- The trail of a solver: assignments, the newest first. Each leaves its node some choices.
use Rattle.std.specs.Prelude.{ℕ, ◌==◌, ◌&&◌, ◌||◌, List, [], ◌∷◌, Bool, true, false, not, nat_le, slice_index, if◌then◌else◌}
use Rattle.std.specs.List.{list_all}
use Rattle.pub_set.specs.Choices.{ChoiceSet, has, is_within, set_where}
use Rattle.pub_term.specs.declared.term.Term.{Term}
use Rattle.pub_trail.specs.declared.trail.Assigned.{Assigned}
use Rattle.pub_trail.specs.declared.trail.Reason.{Reason}
use Rattle.pub_trail.specs.declared.trail.Reason.TheVariants.{Decided, Derived}

-- no assignment on the node excludes the choice
abbrev pub allows : List Assigned → ℕ → ℕ → Bool
allows [] node choice = true
allows (entry ∷ before) node choice = (not (entry.node == node) || has entry.choices choice) && allows before node choice

-- the choices that are left for a node
abbrev pub accum : List ℕ → List Assigned → ℕ → ChoiceSet
accum sizes trail node = set_where (slice_index sizes node) (allows trail node)

-- each choice that is left for the term's node is in its set
abbrev pub is_held : List ℕ → List Assigned → Term → Bool
is_held sizes trail term = is_within (accum sizes trail term.node) term.choices

-- each term is held
abbrev pub holds : List ℕ → List Assigned → List Term → Bool
holds sizes trail terms = list_all (is_held sizes trail) terms

-- The trail up to the satisfier: the earliest assignment with which it makes the terms hold.
abbrev pub satisfied : List ℕ → List Assigned → List Term → List Assigned
satisfied sizes [] terms = []
satisfied sizes (entry ∷ before) terms = if holds sizes before terms then satisfied sizes before terms else entry ∷ before

-- The level of the previous satisfier: the earliest assignment with which the trail up to it and the satisfier together
-- make the terms hold; 1 where the satisfier alone does.
abbrev pub previous_level : List ℕ → Assigned → List Assigned → List Term → ℕ
previous_level sizes satisfier [] terms = 1
previous_level sizes satisfier (entry ∷ before) terms =
    if holds sizes (satisfier ∷ before) terms then previous_level sizes satisfier before terms else entry.level

-- the trail without the assignments above a level
abbrev pub up_to : ℕ → List Assigned → List Assigned
up_to level [] = []
up_to level (entry ∷ before) = if nat_le entry.level level then entry ∷ before else up_to level before

-- the level of the newest assignment
abbrev pub level_of : List Assigned → ℕ
level_of [] = 0
level_of (entry ∷ before) = entry.level

-- a case for each reason
abbrev pub by_reason : {A : Type 0} → Reason → A → (ℕ → A) → A
by_reason Decided decided derived = decided
by_reason (Derived number) decided derived = derived number

-- the node is decided
abbrev pub is_decided : List Assigned → ℕ → Bool
is_decided [] node = false
is_decided (entry ∷ before) node = by_reason entry.reason (entry.node == node || is_decided before node) (λ number. is_decided before node)
