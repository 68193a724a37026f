-- Decisions that are made step by step and violate no fact are a valid selection, and its parts are the decisions of packages.
use Rattle.std.proofs.Common.{◌≡◌, ◌≢◌, ℕ, true, List, [], ◌∷◌, Contains, Option, Some, None, sym, ap, ◌∙◌, subst, inl, inr, arith}
use Rattle.std.specs.Str.{bytes_eq}
use Rattle.std.specs.Cmp.Lexicographic.{bytes_decides, slice_cmp}
use Rattle.std.specs.Ordering.{is_le, nat_cmp}
use Rattle.std.proofs.lemmas.Bool.{and_from, cases_Bool, cond-false, cond-true, false≢true}
use Rattle.pub_facts.specs.Assigns.{Agrees, IsOn, IsOwn, selection_of}
use Rattle.pub_facts.specs.Catalogue.{Catalogue, Job, Owner, release_at}
use Rattle.pub_facts.specs.Enabled.{Held, IsIn, Selection, world_of}
use Rattle.pub_facts.specs.Facts.{Load, behind, clauses_of, owner_node, subject_terms, trait_node, violates}
use Rattle.pub_facts.specs.First.{IsNext, IsPart, at_first, at_step, with_one}
use Rattle.pub_facts.specs.Valid.{IsValid}
use Rattle.pub_facts.specs.declared.fact.Fact.{Fact}
use Rattle.pub_facts.proofs.FactLemmas.{node_same}
use Rattle.pub_facts.proofs.Members.{contains_map}
use Rattle.pub_facts.proofs.SecondLaw.{second_law}
use Rattle.pub_facts.proofs.Sets.{holds_subject, violates-append}
use Rattle.pub_facts.proofs.Worlds.{moved}
use Rattle.pub_term.specs.NodeLaws.{node_eq, node_equiv}
use Rattle.pub_term.specs.declared.node.NodeName.{NodeName}
use Rattle.pub_term.specs.declared.node.NodeName.TheVariants.{Root, Package}
use Rattle.spm_version.specs.Release.{Parts}
use Rattle.pub_plain.proofs.Decisions.{AreSteps, Decision, IsStep, IsTail, chosen_at, chosen_behind, chosen_here, package_decision}
use Rattle.pub_plain.proofs.GrownLemmas.{some_chosen, steps_reached, steps_sized}
use Rattle.pub_plain.proofs.OwnerLemmas.{choice_some}
use Rattle.pub_plain.proofs.ReachedLemmas.{asked_in}
use Rattle.pub_plain.proofs.TailLemmas.{Ahead, advance, begins, keeps_tail, none_zero, tail_steps, ties}
use Rattle.pub_plain.proofs.TakenLemmas.{told}

module _ (job : Job) (c : Catalogue) (steps : List Decision) (are : AreSteps job c steps) (agrees : Agrees job c (chosen_at steps))
    (whole : Selection) (same_whole : (identity : List ℕ) → whole identity ≡ selection_of c (chosen_at steps) identity) where
  -- the decided choices
  abbrev pub at_end : NodeName → ℕ
  at_end = chosen_at steps

  -- ---- what is decided is valid

  -- what is selected is a valid selection
  pub whole_valid : IsValid job c whole
  whole_valid = second_law job c at_end agrees whole (record {
    reached = λ identity release selected.
        (steps_reached job c steps are).nodes (Package identity)
        (some_chosen (c.lookups.list identity) (at_end (Package identity)) release (sym (same_whole identity) ∙ selected));
    same = λ identity held. same_whole identity;
  })

  -- ---- the package that is next

  module _ (one : Decision) (before : List Decision) (tail : IsTail steps (one ∷ before)) where
    -- the choices that were decided then
    abbrev pub at_then : NodeName → ℕ
    at_then = chosen_at (one ∷ before)

    -- they were decided step by step
    were : AreSteps job c (one ∷ before)
    were = tail_steps job c steps are one before tail

    -- and stay so
    kept : (node : NodeName) → at_then node ≢ 0 → at_end node ≡ at_then node
    kept = keeps_tail job c steps are one before tail

    -- a trait that was on is on
    on_still : (owner : Owner) (under : Option (List ℕ)) → IsOn at_then owner under → IsOn at_end owner under
    on_still owner None is = tt
    on_still owner (Some name) is = kept (trait_node owner name) (λ none. absurd (omega (arith, is, none))) ∙ is

    -- a load of those choices is one of the choices at the end
    own_still : (load : Load) → IsOwn c at_then load → IsOwn c at_end load
    own_still load own = record {
      there = own.there;
      chosen = kept (owner_node load.owner) (λ none. choice_some c load.owner load.choice own.there (sym own.chosen ∙ none)) ∙ own.chosen;
      on = on_still load.owner load.under own.on;
    }

    -- so no fact of it is its subject alone
    clean : (load : Load) → IsOwn c at_then load → (clause : Fact) → Contains (clauses_of job c load) clause → clause.terms ≡ [] → ⊥
    clean load own clause here none =
        let still = own_still load own in
        let unviolated
        = agrees.none load still (behind c.lookups load clause) (contains_map (behind c.lookups load) (clauses_of job c load) clause here) in
        let subject = holds_subject c at_end load agrees.sized still.chosen still.on in
        false≢true (sym unviolated ∙ violates-append at_end (subject_terms c.lookups load) clause.terms
        ∙ and_from (violates at_end (subject_terms c.lookups load)) (violates at_end clause.terms) subject (ap (violates at_end) none))

    -- a package that is next in a part is the one that is decided next
    pub same_next : (part : Selection) → ((other : List ℕ) → part other ≡ selection_of c at_then other) → (identity : List ℕ)
        → IsNext job c part identity
        → (j : List ℕ) (choice : ℕ) → IsStep job c at_then (package_decision j choice) → j ≡ identity
    same_next part equal identity next j choice step =
        let reached = steps_reached job c (one ∷ before) were in
        let sized = steps_sized job c (one ∷ before) were in
        let j_held : IsIn (world_of job c (selection_of c at_then)) (Held (Some j)) = asked_in job c at_then reached (Package j) step.asked in
        let j_in = moved job c (selection_of c at_then) part (λ other held. sym (equal other)) (Held (Some j)) j_held in
        let j_absent : part j ≡ None = equal j ∙ ap (release_at (c.lookups.list j)) step.fresh in
        let first = next.least j j_in j_absent in
        let i_in = moved job c part (selection_of c at_then) (λ other held. equal other) (Held (Some identity)) next.reached in
        let i_zero : at_then (Package identity) ≡ 0
        = none_zero (c.lookups.list identity) (at_then (Package identity)) (sized (Package identity)) (sym (equal identity) ∙ next.absent) in
        let second : is_le (slice_cmp nat_cmp j identity) ≡ true
        = elim (told job c at_then sized reached.root clean step.least.no_trait (Held (Some identity)) i_in) [
          | inl some ↦ absurd (some i_zero)
          | inr asked ↦ step.least.least identity asked i_zero
        ] in
        ties j identity second first

  -- ---- the parts are the decisions of packages

  -- a part selects what some first decisions do, with what comes next
  pub record Synced (part : Selection) : Type 0 where
    pub first_part : List Decision
    pub ahead : Ahead job c steps first_part
    pub equal : (other : List ℕ) → part other ≡ selection_of c (chosen_at first_part) other

  -- the root's decision selects nothing
  nothing_there : (one : Decision) → one.node ≡ Root → (identity : List ℕ) → None ≡ selection_of c (chosen_at (one ∷ [])) identity
  nothing_there one root identity = elim (cases_Bool (node_eq one.node (Package identity))) [
    | inl is ↦ (let e : Root ≡ Package identity = sym root ∙ node_same one.node (Package identity) is in cc)
    | inr isnt ↦ ap (release_at (c.lookups.list identity)) (sym (chosen_behind one [] (Package identity) isnt))
  ]

  -- where all is decided no package is next
  ended : (part : Selection) (identity : List ℕ) (release : Parts) → IsNext job c part identity → whole identity ≡ Some release
      → ((other : List ℕ) → part other ≡ selection_of c at_end other) → ⊥
  ended part identity release next selected equal =
      (let e : None ≡ Some release = sym next.absent ∙ equal identity ∙ sym (same_whole identity) ∙ selected in cc)

  -- the step that decides the next package
  pub record NextStep (part : Selection) (identity : List ℕ) : Type 0 where
    pub one : Decision
    pub before : List Decision
    pub choice : ℕ
    pub tail : IsTail steps (one ∷ before)
    pub tail_after : IsTail steps (package_decision identity choice ∷ one ∷ before)
    pub equal : (other : List ℕ) → part other ≡ selection_of c (chosen_at (one ∷ before)) other

  -- is there
  pub next_step : (part : Selection) (identity : List ℕ) (release : Parts) → IsNext job c part identity → whole identity ≡ Some release → Synced part
      → NextStep part identity
  next_step part identity release next selected synced =
      let a = synced.ahead in
      let equal : (other : List ℕ) → part other ≡ selection_of c (chosen_at (a.one ∷ a.before)) other
      = λ other. synced.equal other ∙ a.selects other in
      elim a.ahead [
        | inl end ↦
            absurd (ended part identity release next selected (λ other. equal other ∙ ap (λ all. selection_of c (chosen_at all) other) (sym end)))
        | inr found ↦
            (let all = tail_steps job c steps are (package_decision found.0 found.1) (a.one ∷ a.before) found.2 in
            let e : found.0 ≡ identity = same_next a.one a.before a.tail part equal identity next found.0 found.1 all.0 in
            record {
              one = a.one;
              before = a.before;
              choice = found.1;
              tail = a.tail;
              tail_after = subst (λ i. IsTail steps (package_decision i found.1 ∷ a.one ∷ a.before)) e found.2;
              equal = equal;
            })
      ]

  -- the choice of the next package is that at the end
  pub next_choice : (part : Selection) (identity : List ℕ) (found : NextStep part identity) → at_end (Package identity) ≡ found.choice
  next_choice part identity found =
      let decision = package_decision identity found.choice in
      let rest = found.one ∷ found.before in
      let here : chosen_at (decision ∷ rest) (Package identity) ≡ found.choice
      = chosen_here decision rest (Package identity) (node_equiv.refl (Package identity)) in
      let all = tail_steps job c steps are decision rest found.tail_after in
      keeps_tail job c steps are decision rest found.tail_after (Package identity) (λ none. all.0.some (sym here ∙ none)) ∙ here

  -- with the next package, a part selects what the decisions with it do
  stepped : (part : Selection) (identity : List ℕ) (release : Parts) → whole identity ≡ Some release → (found : NextStep part identity)
      → (other : List ℕ) → with_one part identity release other
      ≡ selection_of c (chosen_at (package_decision identity found.choice ∷ found.one ∷ found.before)) other
  stepped part identity release selected found other =
      let decision = package_decision identity found.choice in
      let rest = found.one ∷ found.before in
      elim (cases_Bool (bytes_eq other identity)) [
        | inl is ↦
            (let e : other ≡ identity = (bytes_decides other identity).0 is in
            let here : chosen_at (decision ∷ rest) (Package identity) ≡ found.choice
            = chosen_here decision rest (Package identity) (node_equiv.refl (Package identity)) in
            let k : at_end (Package identity) ≡ chosen_at (decision ∷ rest) (Package identity) = next_choice part identity found ∙ sym here in
            cond-true (bytes_eq other identity) (Some release) (part other) is
            ∙ sym selected ∙ same_whole identity ∙ ap (release_at (c.lookups.list identity)) k
            ∙ ap (selection_of c (chosen_at (decision ∷ rest))) (sym e))
        | inr isnt ↦
            cond-false (bytes_eq other identity) (Some release) (part other) isnt
            ∙ found.equal other
            ∙ elim (cases_Bool (node_eq (Package identity) (Package other))) [
              | inl is ↦
                  absurd (false≢true (sym isnt ∙ (bytes_decides other identity).1 (package_same (node_same (Package identity) (Package other) is))))
              | inr differs ↦ ap (release_at (c.lookups.list other)) (sym (chosen_behind decision rest (Package other) differs))
            ]
      ]
    where
      package_same : Package identity ≡ Package other → other ≡ identity
      package_same e = cc

  -- each part is so
  pub synced : (part : Selection) → IsPart job c whole part → Synced part
  synced part at_first =
      let start = begins job c steps are in
      record {
        first_part = start.one ∷ [];
        ahead = advance job c steps are start.one [] start.tail;
        equal = λ other. nothing_there start.one start.root other;
      }
  synced part (at_step earlier identity release is next selected) =
      let found = next_step earlier identity release next selected (synced earlier is) in
      let decision = package_decision identity found.choice in
      record {
        first_part = decision ∷ found.one ∷ found.before;
        ahead = advance job c steps are decision (found.one ∷ found.before) found.tail_after;
        equal = stepped earlier identity release selected found;
      }
