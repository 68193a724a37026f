-- One turn, case by case.
use Rattle.std.proofs.Common.{◌≡◌, ℕ, ◌<◌, ◌≤◌, true, false, List, [], ◌∷◌, ◌++◌, map, length, get_or, reverse, Option, Some, None, Result, IfOk, option_map, refl, sym, ap, ap₂, ◌∙◌, subst, arith, eqb-true, All}
use Rattle.std.proofs.lemmas.Bool.{cond-false, cond-true}
use Rattle.std.proofs.lemmas.List.{length-append, map-append}
use Rattle.std.specs.List.{list_any}
use Rattle.std.specs.Prelude.{slice_index, slice_index_or}
use Rattle.pub_facts.specs.Facts.{Load, load_of}
use Rattle.pub_facts.specs.Known.{IsInRange, lookups_of}
use Rattle.pub_facts.specs.Numbered.{AreNamed, number_in, numbered, sizes_of}
use Rattle.pub_facts.proofs.NamedLemmas.{facts_are_named}
use Rattle.pub_term.specs.declared.cause.Cause.{Cause}
use Rattle.pub_term.specs.declared.node.NodeName.{NodeName}
use Rattle.pub_term.specs.declared.node.NodeName.TheVariants.{Root}
use Rattle.pub_term.specs.declared.term.Incompat.{Incompat}
use Rattle.pub_term.specs.declared.term.Term.{Term}
use Rattle.pub_trail.specs.Turn.{Brings, Conflict, Learns, Loading, Next, Refuted, Step, Turn, TooWide, Went, after_conflict, after_load, after_next, conflict, decided, newest_from, same_place}
use Rattle.pub_trail.specs.Walk.{ending_of, terms_of}
use Rattle.pub_trail.specs.declared.origin.Origin.TheVariants.{OfLoad}
use Rattle.pub_trail.specs.declared.trail.Place.{Place}
use Rattle.pub_trail.specs.declared.turned.Turned.{Turned}
use Rattle.pub_trail.specs.declared.turned.Wide.{Wide}
use Rattle.pub_plain.specs.Answers.{lookups_by}
use Rattle.pub_plain.specs.Kept.{Kept, loaded_kept, state_with}
use Rattle.pub_plain.specs.Loading.{brings, cause_of, facts_at, load_at, loading, name_at, named_first, package_count, terms_of as terms_in, unless_wide, wide_in}
use Rattle.pub_plain.specs.Told.{answers_to, catalogue_of, job_of, read_load, stopped}
use Rattle.pub_plain.specs.Turning.{IsDue, IsTurning, TurnsTo, rules_by, turned_of}
use Rattle.pub_plain.specs.declared.reading.Stop.{Stop}
use Rattle.pub_plain.specs.declared.reading.Stop.TheVariants as stop
use Rattle.pub_plain.specs.declared.told.Told.{Told}
use Rattle.pub_set.specs.Choices.{ChoiceSet}
use Rattle.pub_trail.specs.Invariant.{IsSettled}
use Rattle.pub_trail.specs.KnownOf.{AreLeft, CanHold}
use Rattle.pub_trail.proofs.KnownLemmas.{can_hold}
use Rattle.pub_trail.specs.Outcome.{IsAsked}
use Rattle.pub_trail.specs.Trail.{holds, level_of}
use Rattle.pub_trail.specs.declared.trail.Assigned.{Assigned}
use Rattle.pub_trail.specs.declared.walk.Ending.{Ending}
use Rattle.pub_trail.specs.declared.walk.Ending.TheVariants as ended
use Rattle.pub_trail.proofs.NewestLemmas.{newest_is}
use Rattle.pub_trail.proofs.SumLemmas.{levels_bound}
use Rattle.pub_trail.proofs.TurnLemmas.{conflict_asked}
use Rattle.pub_trail.proofs.WalkLemmas.{length-terms_of, terms_at}
use Rattle.pub_plain.specs.Choosing.{next_in}
use Rattle.pub_plain.specs.Next.{next_of}
use Rattle.pub_plain.specs.declared.next.NextNode.{NextNode}
use Rattle.pub_plain.proofs.NextKept.{as_many}
use Rattle.pub_plain.proofs.NextLemmas.{next_is}
use Rattle.pub_plain.proofs.RulesLemmas.{next_there, rules_right}
use Rattle.pub_plain.proofs.BroughtLemmas.{wide_none}
use Rattle.pub_plain.proofs.ToldLemmas.{lookups_told, stopped_any}
use Rattle.pub_trail.proofs.RequiredLemmas.{get_or_same}

-- ---- answers

-- what a turn answers, by what it comes to
pub same_turn : {E : Type 0} (told after : Told) (kept kept_after : Kept) (answer : Result Turned E) (first second : Turn) → first ≡ second
    → IfOk answer (λ turned. TurnsTo turned first told kept after kept_after) → IfOk answer (λ turned. TurnsTo turned second told kept after kept_after)
same_turn told after kept kept_after answer first second is ok =
    subst (λ turn. IfOk answer (λ turned. TurnsTo turned turn told kept after kept_after)) is ok

-- ---- a load

-- the load of a place, by its name and choice
pub load_is : (told : Told) (place : Place) (node : NodeName) (choice : ℕ) → node ≡ name_at told.known.nodes place.node → choice ≡ place.choice
    → load_of node choice ≡ load_at told.known.nodes place
load_is told place node choice is same = ap₂ load_of is same

-- behind those that were, the nodes of a load's facts are named
pub grown_named : (told : Told) (nodes names : List NodeName) (load : Load) → nodes ≡ told.known.nodes ++ names
    → names ≡ named_first (job_of told) (catalogue_of told) told.known.nodes load → AreNamed nodes (facts_at (job_of told) (catalogue_of told) load)
grown_named told nodes names load are is =
    let facts = facts_at (job_of told) (catalogue_of told) load in
    subst (λ ns. AreNamed ns facts) (sym (are ∙ ap (λ ns. told.known.nodes ++ ns) is)) (facts_are_named told.known.nodes facts)

-- what a load adds, by what stands for the same lists
pub loaded_is : (kept : Kept) (place : Place) (sizes own : List ℕ) (facts given : List (Incompat × Cause)) → sizes ≡ own → facts ≡ given
    → loaded_kept kept place sizes facts ≡ loaded_kept kept place own given
loaded_is kept place sizes own facts given same are = ap₂ (loaded_kept kept place) same are

-- ---- what a load brings

terms_append : (xs ys : List Incompat) → terms_of (xs ++ ys) ≡ terms_of xs ++ terms_of ys
terms_append xs ys = map-append (λ (incompat : Incompat). incompat.terms) xs ys

terms_facts : (facts : List (Incompat × Cause)) → terms_of (map (λ fact. fact.0) facts) ≡ map terms_in facts
terms_facts [] = refl
terms_facts (fact ∷ facts) = ap (λ rest. fact.0.terms ∷ rest) (terms_facts facts)

origins_facts : (facts : List (Incompat × Cause)) → map (λ fact. OfLoad fact.1) facts ≡ map OfLoad (map cause_of facts)
origins_facts [] = refl
origins_facts (fact ∷ facts) = ap (λ rest. OfLoad fact.1 ∷ rest) (origins_facts facts)

-- the state after a load
loaded_state : (names new : List NodeName) (kept : Kept) (place : Place) (sizes : List ℕ) (facts : List (Incompat × Cause))
    → after_load (state_with names kept) place (Brings (record { names = new; sizes = sizes; facts = map terms_in facts; causes = map cause_of facts }))
    ≡ Went (state_with (names ++ new) (loaded_kept kept place sizes facts))
loaded_state names new kept place sizes facts =
    ap₂ (λ incompats origins. Went (record {
      names = names ++ new;
      sizes = kept.sizes ++ sizes;
      incompats = incompats;
      origins = kept.origins ++ origins;
      loads = kept.loads ++ place ∷ [];
      trail = reverse kept.trail;
    })) (sym (terms_append kept.incompats (map (λ fact. fact.0) facts) ∙ ap (λ ts. terms_of kept.incompats ++ ts) (terms_facts facts)))
    (sym (origins_facts facts))

-- a load that passes no limit
pub brings_state : (told : Told) (kept kept_after : Kept) (place : Place) (names nodes : List NodeName)
    → names ≡ named_first (job_of told) (catalogue_of told) told.known.nodes (load_at told.known.nodes place)
    → wide_in (length told.known.nodes) (package_count told.known.nodes) names ≡ None → nodes ≡ told.known.nodes ++ names
    → kept_after ≡ loaded_kept kept place (sizes_of (lookups_of told.known) names)
    (numbered (number_in (told.known.nodes ++ names)) (facts_at (job_of told) (catalogue_of told) (load_at told.known.nodes place)))
    → after_load (state_with told.known.nodes kept) place (brings (job_of told) (catalogue_of told) told.known.nodes (load_at told.known.nodes place))
    ≡ Went (state_with nodes kept_after)
brings_state told kept kept_after place names nodes is none are left =
    let load = load_at told.known.nodes place in
    let job = job_of told in
    let c = catalogue_of told in
    let facts = facts_at job c load in
    let first = named_first job c told.known.nodes load in
    let by : List NodeName → Loading
    = λ ns. unless_wide (wide_in (length told.known.nodes) (package_count told.known.nodes) ns) (record {
      names = ns;
      sizes = sizes_of c.lookups ns;
      facts = map terms_in (numbered (number_in (told.known.nodes ++ ns)) facts);
      causes = map cause_of (numbered (number_in (told.known.nodes ++ ns)) facts);
    }) in
    ap (λ ns. after_load (state_with told.known.nodes kept) place (by ns)) (sym is)
    ∙ ap (λ wide. after_load (state_with told.known.nodes kept) place (unless_wide wide (record {
      names = names;
      sizes = sizes_of c.lookups names;
      facts = map terms_in (numbered (number_in (told.known.nodes ++ names)) facts);
      causes = map cause_of (numbered (number_in (told.known.nodes ++ names)) facts);
    }))) none
    ∙ loaded_state told.known.nodes names kept place (sizes_of c.lookups names) (numbered (number_in (told.known.nodes ++ names)) facts)
    ∙ ap₂ (λ ns k. Went (state_with ns k)) (sym are)
    (ap (λ l. loaded_kept kept place (sizes_of l names) (numbered (number_in (told.known.nodes ++ names)) facts)) (lookups_told told) ∙ sym left)

-- one that passes a limit
pub wide_state : (told : Told) (kept : Kept) (place : Place) (names : List NodeName) (wide : Wide)
    → names ≡ named_first (job_of told) (catalogue_of told) told.known.nodes (load_at told.known.nodes place)
    → wide_in (length told.known.nodes) (package_count told.known.nodes) names ≡ Some wide
    → after_load (state_with told.known.nodes kept) place (brings (job_of told) (catalogue_of told) told.known.nodes (load_at told.known.nodes place))
    ≡ TooWide wide
wide_state told kept place names wide is some =
    let load = load_at told.known.nodes place in
    let job = job_of told in
    let c = catalogue_of told in
    let facts = facts_at job c load in
    ap (λ w. after_load (state_with told.known.nodes kept) place (unless_wide w (record {
      names = named_first job c told.known.nodes load;
      sizes = sizes_of c.lookups (named_first job c told.known.nodes load);
      facts = map terms_in (numbered (number_in (told.known.nodes ++ named_first job c told.known.nodes load)) facts);
      causes = map cause_of (numbered (number_in (told.known.nodes ++ named_first job c told.known.nodes load)) facts);
    })))
    (ap (wide_in (length told.known.nodes) (package_count told.known.nodes)) (sym is) ∙ some)

-- a load that stops
pub stops_turn : (told : Told) (kept : Kept) (place : Place) (found : Stop) (came : Loading) → came ≡ stopped (Some found) came
    → TurnsTo (turned_of found) (after_load (state_with told.known.nodes kept) place came) told kept told kept
stops_turn told kept place (stop.Lacks asked) came is =
    (ap (after_load (state_with told.known.nodes kept) place) is, record { told_same = refl; kept_same = refl })
stops_turn told kept place (stop.Passes wide) came is =
    (ap (after_load (state_with told.known.nodes kept) place) is, record { told_same = refl; kept_same = refl })

-- by what stands for the same names
pub wide_is : (nodes names own given : List NodeName) (found wide : Option Wide) → own ≡ nodes → given ≡ names
    → found ≡ wide_in (length own) (package_count own) given → found ≡ wide → wide_in (length nodes) (package_count nodes) names ≡ wide
wide_is nodes names own given found wide own_is given_is at is =
    sym (at ∙ ap₂ (λ ns new. wide_in (length ns) (package_count ns) new) own_is given_is) ∙ is

-- where no limit is passed the nodes are few
pub names_few : (nodes names : List NodeName) → length nodes ≤ 4096 → wide_in (length nodes) (package_count nodes) names ≡ None
    → length (nodes ++ names) ≤ 4096
names_few nodes names few none =
    let all = wide_none (length nodes) (package_count nodes) names few none in
    let long = length-append nodes names in
    omega (arith, all, long)

-- the facts by the numbers of the nodes that are named then
pub grown_facts : (told : Told) (nodes names : List NodeName) (place : Place) (node : NodeName) (choice : ℕ) → nodes ≡ told.known.nodes ++ names
    → node ≡ name_at told.known.nodes place.node → choice ≡ place.choice
    → numbered (number_in nodes) (facts_at (job_of told) (catalogue_of told) (load_of node choice))
    ≡ numbered (number_in (told.known.nodes ++ names)) (facts_at (job_of told) (catalogue_of told) (load_at told.known.nodes place))
grown_facts told nodes names place node choice are is same =
    ap₂ (λ ns load. numbered (number_in ns) (facts_at (job_of told) (catalogue_of told) load)) are (load_is told place node choice is same)

-- ---- what stops a load, or doesn't

-- the name of a place's node
pub named_place : (told : Told) (place : Place) (node item : NodeName) → place.node < length told.known.nodes
    → item ≡ get_or told.known.nodes place.node item → node ≡ item → node ≡ name_at told.known.nodes place.node
named_place told place node item below at same = same ∙ at ∙ get_or_same told.known.nodes place.node item Root below

-- it stops
pub stopping : (told : Told) (place : Place) (node : NodeName) (found : Option Stop) (it : Stop) → node ≡ name_at told.known.nodes place.node
    → ((more : Loading) → read_load (answers_to told) (job_of told) (load_of node place.choice) more ≡ stopped found more) → found ≡ Some it
    → loading (job_of told) (answers_to told) told.known.nodes (load_at told.known.nodes place)
    ≡ stopped (Some it) (loading (job_of told) (answers_to told) told.known.nodes (load_at told.known.nodes place))
stopping told place node found it is reads some =
    let load = load_at told.known.nodes place in
    let more = brings (job_of told) (catalogue_of told) told.known.nodes load in
    ap (λ l. read_load (answers_to told) (job_of told) l more) (sym (load_is told place node place.choice is refl))
    ∙ reads more ∙ ap (λ s. stopped s more) some
    ∙ stopped_any it more (loading (job_of told) (answers_to told) told.known.nodes load)

-- it goes on
pub goes_on : (told : Told) (place : Place) (node : NodeName) (found : Option Stop) → node ≡ name_at told.known.nodes place.node
    → ((more : Loading) → read_load (answers_to told) (job_of told) (load_of node place.choice) more ≡ stopped found more) → found ≡ None
    → loading (job_of told) (answers_to told) told.known.nodes (load_at told.known.nodes place)
    ≡ brings (job_of told) (catalogue_of told) told.known.nodes (load_at told.known.nodes place)
goes_on told place node found is reads none =
    let load = load_at told.known.nodes place in
    let more = brings (job_of told) (catalogue_of told) told.known.nodes load in
    ap (λ l. read_load (answers_to told) (job_of told) l more) (sym (load_is told place node place.choice is refl))
    ∙ reads more ∙ ap (λ s. stopped s more) none

-- ---- a conflict

-- the incompatibility in conflict is there
pub first_within : (kept : Kept) (first : ℕ) → newest_from (holds kept.sizes (reverse kept.trail)) 0 (terms_of kept.incompats) ≡ Some first
    → first < length kept.incompats
first_within kept first found =
    let at = newest_is (holds kept.sizes (reverse kept.trail)) 0 (terms_of kept.incompats) first found in
    omega (arith, at.is, at.within, length-terms_of kept.incompats)

-- it is that of its number
pub index_is : (own kept : List Incompat) (first : ℕ) (it : Incompat) → own ≡ kept → it ≡ slice_index_or own first it → it ≡ get_or kept first it
index_is own kept first it same at = at ∙ ap (λ is. get_or is first it) same

-- its terms
terms_there : (kept : Kept) (first : ℕ) (it : Incompat) → newest_from (holds kept.sizes (reverse kept.trail)) 0 (terms_of kept.incompats) ≡ Some first
    → it ≡ get_or kept.incompats first it → slice_index_or (terms_of kept.incompats) first [] ≡ it.terms
terms_there kept first it found at =
    let below = first_within kept first found in
    terms_at kept.incompats first it (omega (arith, below, length-terms_of kept.incompats)) at

-- and it is what a conflict asks
pub conflict_is_asked : (told : Told) (kept : Kept) (first : ℕ) (sizes : List ℕ) (incompats : List Incompat) (trail : List Assigned) (it : Incompat)
    → IsTurning told kept → newest_from (holds kept.sizes (reverse kept.trail)) 0 (terms_of kept.incompats) ≡ Some first → sizes ≡ kept.sizes
    → incompats ≡ kept.incompats → trail ≡ kept.trail → it ≡ get_or kept.incompats first it
    → IsAsked sizes (terms_of incompats) (reverse trail) it.terms
conflict_is_asked told kept first sizes incompats trail it is found sizes_are incompats_are trail_is at =
    subst (λ s. IsAsked s (terms_of incompats) (reverse trail) it.terms) (sym sizes_are)
    (subst (λ i. IsAsked kept.sizes (terms_of i) (reverse trail) it.terms) (sym incompats_are)
    (subst (λ t. IsAsked kept.sizes (terms_of kept.incompats) (reverse t) it.terms) (sym trail_is)
    (subst (IsAsked kept.sizes (terms_of kept.incompats) (reverse kept.trail)) (terms_there kept first it found at)
    (conflict_asked is.solver.facts (state_with told.known.nodes kept) first is.solver.is found))))

-- what it comes to
abbrev pub conflict_in : Kept → ℕ → Conflict
conflict_in kept first =
    conflict kept.sizes (terms_of kept.incompats) (reverse kept.trail) (slice_index_or (terms_of kept.incompats) first []) []

pub conflict_comes : (kept : Kept) (first : ℕ) (sizes : List ℕ) (incompats : List Incompat) (trail : List Assigned) (it : Incompat) (ending : Ending)
    → newest_from (holds kept.sizes (reverse kept.trail)) 0 (terms_of kept.incompats) ≡ Some first → sizes ≡ kept.sizes → incompats ≡ kept.incompats
    → trail ≡ kept.trail → it ≡ get_or kept.incompats first it
    → ending_of ending ≡ conflict sizes (terms_of incompats) (reverse trail) it.terms [] → conflict_in kept first ≡ ending_of ending
conflict_comes kept first sizes incompats trail it ending found sizes_are incompats_are trail_is at comes =
    ap (λ ts. conflict kept.sizes (terms_of kept.incompats) (reverse kept.trail) ts []) (terms_there kept first it found at)
    ∙ ap (λ s. conflict s (terms_of kept.incompats) (reverse kept.trail) it.terms []) (sym sizes_are)
    ∙ ap₂ (λ i t. conflict sizes (terms_of i) (reverse t) it.terms []) (sym incompats_are) (sym trail_is)
    ∙ sym comes

-- it refutes
pub refutes_turn : (told : Told) (kept : Kept) (first : ℕ) (terms : Incompat) (steps : List Step) {ending : Ending}
    → conflict_in kept first ≡ ending_of ending → ending ≡ ended.Refuted terms steps
    → (x : List Term) × (y : ℕ) × (z : List Step)
    × (after_conflict (state_with told.known.nodes kept) first (conflict_in kept first) ≡ Refuted x y z)
refutes_turn told kept first terms steps comes is =
    (terms.terms, first, steps, ap (after_conflict (state_with told.known.nodes kept) first) (comes ∙ ap ending_of is))

-- it learns
pub learns_turn : (told : Told) (kept kept_after : Kept) (first : ℕ) (learned : Incompat) (steps : List Step) (level : ℕ) {ending : Ending}
    → conflict_in kept first ≡ ending_of ending → ending ≡ ended.Learned learned steps level
    → after_conflict (state_with told.known.nodes kept) first (Learns learned.terms steps level) ≡ Went (state_with told.known.nodes kept_after)
    → after_conflict (state_with told.known.nodes kept) first (conflict_in kept first) ≡ Went (state_with told.known.nodes kept_after)
learns_turn told kept kept_after first learned steps level comes is went =
    ap (after_conflict (state_with told.known.nodes kept) first) (comes ∙ ap ending_of is) ∙ went

-- ---- what is next

-- the next node, as it is found
pub next_comes : (told : Told) (kept : Kept) (found : Option NextNode) (it : NextNode)
    → option_map next_of found ≡ next_in told.pins (lookups_by (answers_to told)) (state_with told.known.nodes kept) → found ≡ Some it
    → next_in told.pins (lookups_by (answers_to told)) (state_with told.known.nodes kept) ≡ Some (next_of it)
next_comes told kept found it comes is = sym comes ∙ ap (option_map next_of) is

-- its node is there
pub node_within : (told : Told) (kept : Kept) (next : Next) → IsTurning told kept → IsSettled (state_with told.known.nodes kept)
    → next_in told.pins (lookups_by (answers_to told)) (state_with told.known.nodes kept) ≡ Some next → next.node < length kept.sizes
node_within told kept next is settled at =
    (rules_right (job_of told) told.pins (answers_to told) (state_with told.known.nodes kept) is.solver).known next settled at

-- its choice is one of the node's
pub choice_within : (told : Told) (kept : Kept) (next : Next) → IsTurning told kept → IsSettled (state_with told.known.nodes kept)
    → next_in told.pins (lookups_by (answers_to told)) (state_with told.known.nodes kept) ≡ Some next
    → next.choice < slice_index kept.sizes next.node
choice_within told kept next is settled at =
    let left = (rules_right (job_of told) told.pins (answers_to told) (state_with told.known.nodes kept) is.solver).left next settled at in
    subst (λ k. k < slice_index kept.sizes next.node) (eqb-true left.choice next.choice left.passes) left.below

-- there are no more levels than nodes
pub level_few : (told : Told) (kept : Kept) → IsTurning told kept → level_of (reverse kept.trail) ≤ 4096
level_few told kept is =
    let levels = levels_bound kept.sizes (terms_of kept.incompats) (reverse kept.trail) is.solver.is.stands in
    let many = as_many told kept is in
    let few = is.solver.nodes in
    omega (arith, levels, many, few)

-- its load may be done
pub due_next : (told : Told) (kept : Kept) (next : Next) → IsTurning told kept
    → next_in told.pins (lookups_by (answers_to told)) (state_with told.known.nodes kept) ≡ Some next → IsDue told next.place
due_next told kept next is at =
    let it = next_is told.pins (lookups_by (answers_to told)) (state_with told.known.nodes kept) next at in
    record {
      named = subst (λ n. n < length told.known.nodes) (sym it.place_node) it.known;
      there = subst (λ l. IsInRange l (load_at told.known.nodes next.place)) (lookups_told told)
          (next_there (answers_to told) (state_with told.known.nodes kept) next is.solver it);
    }

-- it is decided, where its load is done
pub next_decides : (told : Told) (kept kept_after : Kept) (it : NextNode)
    → next_in told.pins (lookups_by (answers_to told)) (state_with told.known.nodes kept) ≡ Some (next_of it)
    → list_any (same_place it.place) kept.loads ≡ true
    → decided (state_with told.known.nodes kept) (next_of it) ≡ Went (state_with told.known.nodes kept_after)
    → after_next (rules_by told) (state_with told.known.nodes kept)
    (next_in told.pins (lookups_by (answers_to told)) (state_with told.known.nodes kept)) ≡ Went (state_with told.known.nodes kept_after)
next_decides told kept kept_after it at done went =
    let state = state_with told.known.nodes kept in
    ap (after_next (rules_by told) state) at
    ∙ cond-true (list_any (same_place it.place) kept.loads) (decided state (next_of it)) (after_load state it.place ((rules_by told).load state it.place)) done
    ∙ went

-- and loaded, where it isn't
pub next_loads : (told : Told) (kept : Kept) (it : NextNode)
    → next_in told.pins (lookups_by (answers_to told)) (state_with told.known.nodes kept) ≡ Some (next_of it)
    → list_any (same_place it.place) kept.loads ≡ false
    → after_load (state_with told.known.nodes kept) it.place ((rules_by told).load (state_with told.known.nodes kept) it.place)
    ≡ after_next (rules_by told) (state_with told.known.nodes kept)
    (next_in told.pins (lookups_by (answers_to told)) (state_with told.known.nodes kept))
next_loads told kept it at done =
    let state = state_with told.known.nodes kept in
    sym (ap (after_next (rules_by told) state) at
    ∙ cond-false (list_any (same_place it.place) kept.loads) (decided state (next_of it)) (after_load state it.place ((rules_by told).load state it.place)) done)

-- what is left serves all incompatibilities
pub all_can_hold : (told : Told) (kept : Kept) (left known : List ChoiceSet) (incompats : List Incompat) → IsTurning told kept
    → AreLeft kept.sizes (reverse kept.trail) left → known ≡ left → incompats ≡ kept.incompats
    → All (λ (incompat : Incompat). CanHold known incompat) incompats
all_can_hold told kept left known incompats is are known_is incompats_are =
    subst (λ k. All (λ (incompat : Incompat). CanHold k incompat) incompats) (sym known_is)
    (subst (All (λ (incompat : Incompat). CanHold left incompat)) (sym incompats_are)
    (can_hold kept.sizes (reverse kept.trail) left kept.incompats are is.solver.is.formed))
