-- What a solver is from call to call.
use Rattle.std.proofs.Common.{◌≡◌, ℕ, ◌≤◌, ◌==◌, Bool, true, false, cond, List, [], ◌∷◌, length, Option, Some, None, Result, Ok, Err, option_map, refl, sym, ap, ap₂, ◌∙◌, subst, arith, All, IfOk, filter_map, inl, inr, nat_lt, reverse, suc}
use Rattle.std.proofs.lemmas.Bool.{cases_Bool, cond-false, cond_both, ltb-false}
use Rattle.std.proofs.lemmas.List.Elements.{All-head, All-nil, All-tail}
use Rattle.std.specs.List.{list_any}
use Rattle.std.specs.Ordering.{is_le}
use Rattle.std.specs.Str.{bytes_eq}
use Rattle.pub_trail.specs.Turn.{Refuted, State, Step, Turn, Went, or_some, turn_of, when_true}
use Rattle.pub_proof.specs.declared.derivation.Derivation.{Derivation}
use Rattle.pub_term.specs.declared.cause.Cause.{Cause}
use Rattle.pub_term.specs.declared.term.Term.{Term}
use Rattle.pub_term.specs.declared.node.NodeName.{NodeName}
use Rattle.pub_term.specs.declared.node.NodeName.TheVariants.{Root}
use Rattle.pub_trail.specs.declared.turned.Turned.{Turned}
use Rattle.pub_trail.specs.declared.turned.Turned.TheVariants as turned
use Rattle.spm_api.specs.Bodies.{all_some, identifiers_of, releases_of}
use Rattle.spm_api.specs.Guess.{bytes_in}
use Rattle.spm_api.specs.Refused.{Refusal, reply_refusal}
use Rattle.spm_api.specs.Said.{absent, ascending, list_said, package_said, present, put_release, releases_said, reply_said, said_of, unless_refused}
use Rattle.spm_api.specs.declared.replies.Said.{Said}
use Rattle.spm_api.specs.declared.replies.Said.TheVariants as said
use Rattle.spm_json.specs.Reading.{Reading}
use Rattle.spm_key.proofs.KeyLemmas.{same_key}
use Rattle.spm_key.specs.KeyLaws.{key_eq, key_ties}
use Rattle.spm_key.specs.declared.key.Key.{Key}
use Rattle.spm_key.specs.declared.key.Key.TheVariants as key
use Rattle.spm_key.specs.declared.reply.Reply.{Reply}
use Rattle.spm_version.specs.Release.{Parts}
use Rattle.spm_version.specs.ReleaseLaws.{release_cmp}
use Rattle.pub_trail.specs.declared.trail.Assigned.{Assigned}
use Rattle.pub_plain.specs.Answers.{Answers, AreShort, Carries, lookups_by}
use Rattle.pub_plain.specs.Derivation.{derivation_in, pin_at}
use Rattle.pub_plain.specs.Given.{list_given, with_said}
use Rattle.pub_plain.specs.Gives.{IsKeptMore, IsSaidOf, IsShort}
use Rattle.pub_plain.specs.Stops.{IsRead}
use Rattle.pub_plain.specs.Invariant.{IsSolver}
use Rattle.pub_plain.specs.Kept.{Kept, state_with}
use Rattle.pub_plain.specs.Solver.{Solver, Turns, answers_now, counted, turn_now}
use Rattle.pub_plain.specs.Told.{answers_to, given_of, job_of}
use Rattle.pub_plain.specs.Turning.{IsTurning, TurnsTo, opening_kept, rules_by, solver_of, with_nodes}
use Rattle.pub_plain.specs.declared.told.Told.{Told}
use Rattle.pub_plain.proofs.KeptLemmas.{solver_kept}
use Rattle.pub_plain.proofs.MoreLemmas.{still_solver}
use Rattle.pub_plain.proofs.OpeningLemmas.{opening_solver}

-- ---- what a reply can say of its key

length-put : (release : Parts) (releases : List Parts) → length (put_release release releases) ≡ length (release ∷ releases)
length-put release [] = refl
length-put release (other ∷ releases) =
    cond_both (is_le (release_cmp release other)) (release ∷ other ∷ releases) (other ∷ put_release release releases)
    (λ all. length all ≡ length (release ∷ other ∷ releases)) (λ _. refl) (λ _. ap (λ n. suc n) (length-put release releases))

length-ascending : (releases : List Parts) → length (ascending releases) ≡ length releases
length-ascending [] = refl
length-ascending (release ∷ releases) = length-put release (ascending releases) ∙ ap (λ n. suc n) (length-ascending releases)

releases_kind : (identity : List ℕ) (usable : List Parts) → IsSaidOf (key.List identity) (releases_said usable)
releases_kind identity usable = go (nat_lt 4096 (length usable)) refl
  where
    go : (many : Bool) → nat_lt 4096 (length usable) ≡ many → IsSaidOf (key.List identity) (cond many said.TooMany (said.Releases (ascending usable)))
    go true at = tt
    go false at = let few = ltb-false 4096 (length usable) at in omega (arith, few, length-ascending usable)

list_kind : (identity : List ℕ) (listed : Reading (List (Option Parts))) → IsSaidOf (key.List identity) (list_said listed)
list_kind identity (Ok listed) = releases_kind identity (all_some listed)
list_kind identity (Err first) = omega arith

package_kind : (url : List ℕ) (reading : Reading (List (List ℕ))) → IsSaidOf (key.Identifiers url) (package_said reading)
package_kind url (Ok texts) = tt
package_kind url (Err first) = tt

said_kind : (asked : Key) (reply : Reply) → IsRead asked → IsSaidOf asked (said_of asked reply)
said_kind (key.List identity) reply read =
    cond_both (reply.status == 200) (present (key.List identity) (bytes_in reply.body)) (absent (key.List identity)) (IsSaidOf (key.List identity))
    (λ _. there (bytes_in reply.body)) (λ _. omega arith)
  where
    there : (bytes : Option (List ℕ)) → IsSaidOf (key.List identity) (present (key.List identity) bytes)
    there None = omega arith
    there (Some bytes) = list_kind identity (releases_of bytes)
said_kind (key.Manifest identity release) reply read = tt
said_kind (key.Release identity release) reply read = elim read [ ]
said_kind (key.Archive identity release) reply read = elim read [ ]
said_kind (key.Identifiers url) reply read =
    cond_both (reply.status == 200) (present (key.Identifiers url) (bytes_in reply.body)) (absent (key.Identifiers url)) (IsSaidOf (key.Identifiers url))
    (λ _. there (bytes_in reply.body)) (λ _. tt)
  where
    there : (bytes : Option (List ℕ)) → IsSaidOf (key.Identifiers url) (present (key.Identifiers url) bytes)
    there None = tt
    there (Some bytes) = package_kind url (identifiers_of bytes)

-- what a reply says is of its key's kind
pub says_kind : (asked : Key) (reply : Reply) (it : Said) → IsRead asked → reply_said asked reply ≡ Ok it → IsSaidOf asked it
says_kind asked reply it read says = go (reply_refusal asked reply) says
  where
    go : (refusal : Option Refusal) → unless_refused refusal (said_of asked reply) ≡ Ok it → IsSaidOf asked it
    go None is = let e : said_of asked reply ≡ it = cc in subst (IsSaidOf asked) e (said_kind asked reply read)
    go (Some refusal) is = cc

-- ---- short lists

-- no list in the tables is too long, so none is given that is
given_short : (lists : List (List ℕ × List Parts)) (identity : List ℕ) (list : List Parts) → All IsShort lists → list_given lists identity ≡ Some list
    → length list ≤ 4096
given_short [] identity list all is = cc
given_short (one ∷ others) identity list all is = go (given_short others identity list (All-tail IsShort one others all)) (bytes_eq one.0 identity) is
  where
    go : (list_given others identity ≡ Some list → length list ≤ 4096) → (same : Bool) → cond same (Some one.1) (list_given others identity) ≡ Some list
        → length list ≤ 4096
    go later true is = let e : one.1 ≡ list = cc in subst (λ l. length l ≤ 4096) e (All-head IsShort one others all)
    go later false is = later is

pub told_short : (told : Told) → All IsShort told.known.lists → AreShort (answers_to told)
told_short told all identity list is =
    go (list_given told.known.lists identity) refl (list_any (bytes_eq identity) told.long) is
  where
    go : (found : Option (List Parts)) → list_given told.known.lists identity ≡ found → (long : Bool)
        → or_some (option_map said.Releases found) (when_true long said.TooMany) ≡ Some (said.Releases list) → length list ≤ 4096
    go None at true is = cc
    go None at false is = cc
    go (Some one) at long is =
        let e : one ≡ list = cc in
        given_short told.known.lists identity list all (at ∙ ap (λ (l : List Parts). Some l) e)

-- ---- the calls

-- what is said of one key more, of which nothing was said, leaves all else said
pub carries_more : (given : Key) (it : Said) (answers more : Answers) → answers given ≡ None
    → ((asked : Key) → more asked ≡ with_said given it answers asked) → Carries answers more
carries_more given it answers more fresh are asked old is =
    elim (cases_Bool (key_eq given asked)) [
      | inl same ↦
          (let e : given ≡ asked = same_key given asked (sym (key_ties given asked) ∙ same) in
          let none : answers asked ≡ None = subst (λ k. answers k ≡ None) e fresh in
          cc)
      | inr differs ↦ are asked ∙ cond-false (key_eq given asked) (Some it) (answers asked) differs ∙ is
    ]

-- a solver that was told more is one
pub told_more : (told new : Told) (kept : Kept) (given : Key) (it : Said) → IsTurning told kept → answers_to told given ≡ None
    → IsKeptMore given it told new → IsTurning new kept
told_more told new kept given it is fresh more =
    let all = more.short is.short in
    record {
      solver = subst (λ nodes. IsSolver (answers_to new) (state_with nodes kept)) (sym more.nodes)
          (still_solver (answers_to told) (answers_to new) (carries_more given it (answers_to told) (answers_to new) fresh more.answers)
          (state_with told.known.nodes kept) is.solver (told_short new all));
      short = all;
    }

-- a solver is one at its opening
pub opens_turning : (told : Told) (kept : Kept) → told.known.nodes ≡ Root ∷ [] → told.known.lists ≡ [] → opening_kept ≡ kept → IsTurning told kept
opens_turning told kept nodes lists is =
    let short : All IsShort told.known.lists = subst (All IsShort) (sym lists) (All-nil IsShort) in
    record {
      solver = subst (λ ns. IsSolver (answers_to told) (state_with ns kept)) (sym nodes)
          (subst (λ k. IsSolver (answers_to told) (state_with (Root ∷ []) k)) is (opening_solver (answers_to told) (told_short told short)));
      short = short;
    }

-- a turn keeps it
pub turns_turning : (told new : Told) (kept kept_after : Kept) (turn : Turn) → IsTurning told kept
    → turn_of (rules_by told) (state_with told.known.nodes kept) ≡ Went (state_with new.known.nodes kept_after)
    → new ≡ with_nodes told new.known.nodes → IsTurning new kept_after
turns_turning told new kept kept_after turn is went same =
    subst (λ t. IsTurning t kept_after) (sym same) (record {
      solver = solver_kept (job_of told) told.pins (answers_to told) (state_with told.known.nodes kept) (state_with new.known.nodes kept_after) is.solver went;
      short = is.short;
    })

-- ---- what a turn answers, of the solver

-- a solver by its nodes
abbrev solver_with : Told → List NodeName → Kept → ℕ → Solver
solver_with told nodes kept turns = record {
  job = job_of told;
  pins = told.pins;
  given = given_of told;
  state = state_with nodes kept;
  turns = turns;
}

-- it went on
pub turned_went : (told new : Told) (kept kept_after : Kept) (turns count : ℕ) (turned_by : Turned) (self after : Solver)
    → solver_of told kept turns ≡ self → after ≡ solver_of new kept_after count → count ≡ counted turns → turned_by ≡ turned.Went
    → TurnsTo turned_by (turn_of (rules_by told) (state_with told.known.nodes kept)) told kept new kept_after → Turns turned_by self after
turned_went told new kept kept_after turns count turned_by self after view is counts went comes =
    subst (λ t. Turns t self after) (sym went)
    (go (subst (λ t. TurnsTo t (turn_of (rules_by told) (state_with told.known.nodes kept)) told kept new kept_after) went comes))
  where
    go : TurnsTo turned.Went (turn_of (rules_by told) (state_with told.known.nodes kept)) told kept new kept_after → Turns turned.Went self after
    go it =
        subst (λ old. Turns turned.Went old after) view (
          state_with new.known.nodes kept_after,
          it.0,
          is ∙ ap₂ (λ t n. solver_with t new.known.nodes kept_after n) it.1 counts,
        )

-- or it didn't
pub turned_other : (told new : Told) (kept kept_after : Kept) (turns : ℕ) (turned_by : Turned) (self after : Solver)
    → solver_of told kept turns ≡ self → after ≡ solver_of new kept_after turns → (turned_by ≡ turned.Went → ⊥)
    → TurnsTo turned_by (turn_of (rules_by told) (state_with told.known.nodes kept)) told kept new kept_after → Turns turned_by self after
turned_other told new kept kept_after turns (turned.Need asked) self after view is other comes =
    subst (λ old. Turns (turned.Need asked) old after) view
    (comes.0, is ∙ ap₂ (λ t k. solver_of t k turns) comes.1.told_same comes.1.kept_same)
turned_other told new kept kept_after turns turned.Went self after view is other comes = absurd (other refl)
turned_other told new kept kept_after turns turned.Selected self after view is other comes =
    subst (λ old. Turns turned.Selected old after) view
    (comes.0, is ∙ ap₂ (λ t k. solver_of t k turns) comes.1.told_same comes.1.kept_same)
turned_other told new kept kept_after turns turned.Refuted self after view is other comes =
    subst (λ old. Turns turned.Refuted old after) view
    (comes.0.0, comes.0.1, comes.0.2, comes.0.3, is ∙ ap₂ (λ t k. solver_of t k turns) comes.1.told_same comes.1.kept_same)
turned_other told new kept kept_after turns (turned.TooWide wide) self after view is other comes =
    subst (λ old. Turns (turned.TooWide wide) old after) view
    (comes.0, is ∙ ap₂ (λ t k. solver_of t k turns) comes.1.told_same comes.1.kept_same)

-- ---- the pins, by what stands for the same trail

pub pins_same : {E : Type 0} (answer : Result (List (List ℕ × Parts)) E) (told : Told) (kept : Kept) (nodes : List NodeName) (state : State)
    (trail : List Assigned) → state.names ≡ told.known.nodes → state.trail ≡ reverse trail
    → IfOk answer (λ pins. (other : State) → other.names ≡ told.known.nodes → other.trail ≡ reverse trail
    → pins ≡ filter_map (pin_at (lookups_by (answers_to told)) other) nodes)
    → IfOk answer (λ pins. pins ≡ filter_map (pin_at (lookups_by (answers_to told)) state) nodes)
pins_same (Ok pins) told kept nodes state own names trail is = is state names trail
pins_same (Err fault) told kept nodes state own names trail is = is

-- ---- the derivation, of the solver as its callers see it

abbrev pub IsBehind : (Cause → Cause → Bool) → Solver → Derivation → Type 0
IsBehind same solver derivation = (terms : List Term) (first : ℕ) (steps : List Step) → turn_now solver ≡ Refuted terms first steps
    → derivation ≡ derivation_in same (lookups_by (answers_now solver)) solver.state first steps

pub behind_view : {E : Type 0} (same : Cause → Cause → Bool) (answer : Result Derivation E) (inside seen : Solver) → inside ≡ seen
    → IfOk answer (IsBehind same inside) → IfOk answer (IsBehind same seen)
behind_view same answer inside seen view is = subst (λ solver. IfOk answer (IsBehind same solver)) view is
