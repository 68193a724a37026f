-- How many calls there are for a key.
use Rattle.std.proofs.Common.{◌≡◌, ℕ, zero, suc, ◌+◌, ◌<◌, ◌≤◌, ◌==◌, ◌&&◌, ◌||◌, Bool, true, false, true≢false, cond, List, [], ◌∷◌, ◌++◌, Option, Some, None, refl, sym, ap, ap₂, ◌∙◌, subst, inl, inr, arith, eq-eqb, eqb-true}
use Rattle.std.proofs.lemmas.List.Sums.{sum_by-append}
use Rattle.std.specs.Cmp.Lexicographic.{bytes_decides, nat_list_eq_equiv}
use Rattle.std.specs.List.{count_by, sum_by}
use Rattle.std.specs.Prelude.{◌⊎◌, IsSome, is_some, if◌then◌else◌}
use Rattle.std.specs.Str.{bytes_eq}
use Rattle.spm_api.specs.Endpoint.{request_for}
use Rattle.spm_api.specs.declared.base.Base.{Base}
use Rattle.spm_api.proofs.RequestLaws.{same_request}
use Rattle.spm_cache_core.specs.History.{breaks, lacks, lands}
use Rattle.spm_cache_core.specs.declared.event.Act.{Act}
use Rattle.spm_cache_core.specs.declared.event.Act.TheVariants.{Ask, Cancel, Claim, End, Fail, Hint, Land}
use Rattle.spm_cache_core.specs.declared.event.Event.{Event}
use Rattle.spm_cache_core.specs.declared.event.Why.TheVariants as why
use Rattle.spm_cache_core.proofs.KeyLemmas.{key_itself, one_key}
use Rattle.spm_flight.specs.Work.{Leaves, Works}
use Rattle.spm_key.specs.Key.{IsKey}
use Rattle.spm_key.specs.KeyLaws.{key_eq}
use Rattle.spm_key.specs.declared.key.Key.{Key}
use Rattle.spm_outside.specs.Book.{same_authority}
use Rattle.spm_outside.specs.Exchange.{with_call}
use Rattle.spm_outside.specs.Link.{LinkState, call_to}
use Rattle.spm_outside.specs.declared.book.Authority.{Authority}
use Rattle.spm_outside.specs.declared.link.Call.{Call}
use Rattle.spm_run.specs.Calls.{calls_for, failed_calls_for, is_call_for}
use Rattle.spm_run.specs.Run.{acts_of}

-- one or none
abbrev pub one_if : Bool → ℕ
one_if b = cond b 1 0

pub at_most_one : (b : Bool) → one_if b ≤ 1
at_most_one true = omega (arith)
at_most_one false = omega (arith)

-- a count of one more
count_snoc : {X : Type 0} (test : X → Bool) (xs : List X) (x : X) → count_by test (xs ++ x ∷ []) ≡ count_by test xs + one_if (test x)
count_snoc test xs x = let both = sum_by-append (λ y. cond (test y) 1 0) xs (x ∷ []) in omega (arith, both)

-- a sum and a count with one before
pub sum_cons : {X : Type 0} (f : X → ℕ) (x : X) (xs : List X) → sum_by f (x ∷ xs) ≡ f x + sum_by f xs
sum_cons f x xs = let both = sum_by-append f (x ∷ []) xs in omega (arith, both)

pub count_cons : {X : Type 0} (test : X → Bool) (x : X) (xs : List X) → count_by test (x ∷ xs) ≡ one_if (test x) + count_by test xs
count_cons test x xs = sum_cons (λ y. cond (test y) 1 0) x xs

same_place : (to : Authority) → same_authority to to ≡ true
same_place to = ap₂ (λ (a b : Bool). a && b) (nat_list_eq_equiv.refl to.host) (eq-eqb to.port to.port refl)

is_some_if : {X : Type 0} (b : Bool) (x : X) → is_some (if b then Some x else None) ≡ b
is_some_if true x = refl
is_some_if false x = refl

and_true : (b : Bool) → (b && true) ≡ b
and_true true = refl
and_true false = refl

and_false : (b : Bool) → (b && false) ≡ false
and_false true = refl
and_false false = refl

module _ (base : Base) (key : Key) (form : IsKey key) where
  -- a call for a key is one for this key exactly where the two are the same
  call_is : (other : Key) (failed : Bool) → IsKey other → is_call_for base key (call_to base.to (request_for base other) failed) ≡ key_eq other key
  call_is other failed form_other =
      ap (λ (b : Bool). b && bytes_eq (request_for base other) (request_for base key)) (same_place base.to) ∙ go (key_eq other key) refl
    where
      apart : (b : Bool) → bytes_eq (request_for base other) (request_for base key) ≡ b → key_eq other key ≡ false → b ≡ false
      apart true is differs =
          let one = same_request base other key form_other form ((bytes_decides (request_for base other) (request_for base key)).0 is) in
          sym (key_itself key) ∙ ap (λ (k : Key). key_eq k key) (sym one) ∙ differs
      apart false is differs = refl

      go : (same : Bool) → key_eq other key ≡ same → bytes_eq (request_for base other) (request_for base key) ≡ key_eq other key
      go true is =
          ap (λ (k : Key). bytes_eq (request_for base k) (request_for base key)) (one_key other key is)
          ∙ nat_list_eq_equiv.refl (request_for base key) ∙ sym is
      go false is = apart (bytes_eq (request_for base other) (request_for base key)) refl is ∙ sym is

  abbrev asked_in : List Call → ℕ
  asked_in calls = count_by (is_call_for base key) calls

  abbrev failed_in : List Call → ℕ
  failed_in calls = count_by (λ call. is_call_for base key call && call.failed) calls

  -- calls that came to be others, with so many landings, failures of the link and wants of memory
  record Grows (calls : List Call) (after : Option (List Call)) (landed broken lacked : ℕ) : Type 0 where
    now : List Call
    is : after ≡ Some now
    few : asked_in now ≤ asked_in calls + (landed + (broken + lacked))
    failed : failed_in now ≡ failed_in calls + broken

  one_more : (calls : List Call) (before after : Option (List Call)) (other : Key) (failed : Bool) → IsKey other → before ≡ Some calls
      → after ≡ with_call base.to (request_for base other) failed before
      → (now : List Call) × (after ≡ Some now) × (asked_in now ≡ asked_in calls + one_if (key_eq other key))
      × (failed_in now ≡ failed_in calls + one_if (key_eq other key && failed))
  one_more calls before after other failed form_other is made =
      let call = call_to base.to (request_for base other) failed in (
        calls ++ call ∷ [],
        made ∙ ap (with_call base.to (request_for base other) failed) is,
        count_snoc (is_call_for base key) calls call ∙ ap (λ (b : Bool). asked_in calls + one_if b) (call_is other failed form_other),
        count_snoc (λ (c : Call). is_call_for base key c && c.failed) calls call
            ∙ ap (λ (b : Bool). failed_in calls + one_if (b && failed)) (call_is other failed form_other),
      )

  -- a link that nothing was done with
  stays : (old new : LinkState) (calls : List Call) → old.calls ≡ Some calls → new ≡ old → Grows calls new.calls 0 0 0
  stays old new calls is same =
      record { now = calls; is = ap (λ (link : LinkState). link.calls) same ∙ is; few = omega (arith); failed = omega (arith) }

  leaves_calls : (act : Act) (old new : LinkState) (calls : List Call) → old.calls ≡ Some calls → Leaves base act old new
      → Grows calls new.calls (one_if (is_some (lands key act))) (one_if (breaks key act)) (one_if (lacks key act))
  leaves_calls (Land other reply) old new calls is leaves =
      let more = one_more calls old.calls new.calls other false leaves.0 is leaves.1.calls in
      let count = more.2 in
      let lands_one = ap (λ (b : Bool). one_if b) (is_some_if (key_eq other key) reply) in
      record {
        now = more.0;
        is = more.1;
        few = omega (arith, count, lands_one);
        failed = more.3 ∙ ap (λ (b : Bool). failed_in calls + one_if b) (and_false (key_eq other key));
      }
  leaves_calls (Fail other why.Link) old new calls is leaves =
      let more = one_more calls old.calls new.calls other true leaves.0 is leaves.1.calls in
      let count = more.2 in
      record {
        now = more.0;
        is = more.1;
        few = omega (arith, count);
        failed = more.3 ∙ ap (λ (b : Bool). failed_in calls + one_if b) (and_true (key_eq other key));
      }
  leaves_calls (Fail other why.Memory) old new calls is leaves = go leaves.1.calls
    where
      go : (new.calls ≡ old.calls) ⊎ (new.calls ≡ with_call base.to (request_for base other) false old.calls)
          → Grows calls new.calls 0 0 (one_if (key_eq other key))
      go (inl same) = record { now = calls; is = same ∙ is; few = omega (arith); failed = omega (arith) }
      go (inr made) =
          let more = one_more calls old.calls new.calls other false leaves.0 is made in
          let count = more.2 in
          record {
            now = more.0;
            is = more.1;
            few = omega (arith, count);
            failed = more.3 ∙ ap (λ (b : Bool). failed_in calls + one_if b) (and_false (key_eq other key));
          }
  leaves_calls (Ask asked note) old new calls is leaves = stays old new calls is leaves
  leaves_calls (Claim note) old new calls is leaves = stays old new calls is leaves
  leaves_calls (Hint keys) old new calls is leaves = stays old new calls is leaves
  leaves_calls Cancel old new calls is leaves = stays old new calls is leaves
  leaves_calls End old new calls is leaves = stays old new calls is leaves

  -- how many landings, failures of the link and wants of memory there are
  abbrev landings_in : List Event → ℕ
  landings_in events = count_by (λ (e : Event). is_some (lands key e.act)) events

  abbrev broken_in : List Event → ℕ
  broken_in events = count_by (λ (e : Event). breaks key e.act) events

  abbrev lacked_in : List Event → ℕ
  lacked_in events = count_by (λ (e : Event). lacks key e.act) events

  works_calls : (added : List Event) (old new : LinkState) (calls : List Call) → old.calls ≡ Some calls → Works base added old new
      → Grows calls new.calls (landings_in added) (broken_in added) (lacked_in added)
  works_calls [] old new calls is works = stays old new calls is works
  works_calls (e ∷ es) old new calls is works =
      let this = leaves_calls e.act old works.0 calls is works.1 in
      let rest = works_calls es works.0 new this.now this.is works.2 in
      let few_first = this.few in
      let few_rest = rest.few in
      let failed_first = this.failed in
      let failed_rest = rest.failed in
      let landed : landings_in (e ∷ es) ≡ one_if (is_some (lands key e.act)) + landings_in es = count_cons (λ (one : Event). is_some (lands key one.act)) e es in
      let broken : broken_in (e ∷ es) ≡ one_if (breaks key e.act) + broken_in es = count_cons (λ (one : Event). breaks key one.act) e es in
      let lacked : lacked_in (e ∷ es) ≡ one_if (lacks key e.act) + lacked_in es = count_cons (λ (one : Event). lacks key one.act) e es in
      record {
        now = rest.now;
        is = rest.is;
        few = omega (arith, few_first, few_rest, landed, broken, lacked);
        failed = omega (arith, failed_first, failed_rest, broken);
      }

  -- the same, of a link
  pub link_calls : (added : List Event) (old new : LinkState) → IsSome old.calls → Works base added old new
      → (calls_for base key new.calls ≤ calls_for base key old.calls + (landings_in added + (broken_in added + lacked_in added)))
      × (failed_calls_for base key new.calls ≡ failed_calls_for base key old.calls + broken_in added) × IsSome new.calls
  link_calls added old new told works = go old.calls refl told
    where
      go : (before : Option (List Call)) → old.calls ≡ before → IsSome before
          → (calls_for base key new.calls ≤ calls_for base key old.calls + (landings_in added + (broken_in added + lacked_in added)))
          × (failed_calls_for base key new.calls ≡ failed_calls_for base key old.calls + broken_in added) × IsSome new.calls
      go None is told = absurd (true≢false (sym told))
      go (Some calls) is told =
          let grown = works_calls added old new calls is works in
          let few = grown.few in
          let before = ap (calls_for base key) is in
          let after = ap (calls_for base key) grown.is in (
            omega (arith, few, before, after),
            ap (failed_calls_for base key) grown.is ∙ grown.failed ∙ ap (λ (n : ℕ). n + broken_in added) (sym (ap (failed_calls_for base key) is)),
            subst IsSome (sym grown.is) refl,
          )

-- ---- what the actors did together

module _ (test : Event → Bool) where
  -- how often so many actors, from this one on, did it
  abbrev pub tally : List Event → ℕ → ℕ → ℕ
  tally history actor zero = 0
  tally history actor (suc count) = count_by test (acts_of actor history) + tally history (suc actor) count

  -- two groups of actors, one behind the other
  pub tally_on : (history : List Event) (actor count more : ℕ) → tally history actor (count + more) ≡ tally history actor count + tally history (actor + count) more
  tally_on history actor zero more =
      let here : actor ≡ actor + 0 = omega (arith) in
      let as_many : 0 + more ≡ more = omega (arith) in
      ap (λ (n : ℕ). tally history actor n) as_many ∙ ap (λ (a : ℕ). tally history a more) here ∙ nothing (tally history (actor + 0) more)
    where
      nothing : (n : ℕ) → n ≡ 0 + n
      nothing n = omega (arith)
  tally_on history actor (suc count) more =
      let rest = tally_on history (suc actor) count more in
      let as_many : suc count + more ≡ suc (count + more) = omega (arith) in
      let next : suc actor + count ≡ actor + suc count = omega (arith) in
      let whole = ap (λ (n : ℕ). tally history actor n) as_many in
      let moved = ap (λ (a : ℕ). tally history a more) next in
      omega (arith, whole, rest, moved)

  -- an event of an actor before them doesn't count
  before_them : (e : Event) (es : List Event) (actor count : ℕ) → e.actor < actor → tally (e ∷ es) actor count ≡ tally es actor count
  before_them e es actor zero before = refl
  before_them e es actor (suc count) before =
      ap₂ (λ (m n : ℕ). m + n) (ap (count_by test) (ap (λ (b : Bool). cond b (e ∷ acts_of actor es) (acts_of actor es)) (is_other (actor == e.actor) refl)))
      (before_them e es (suc actor) count (omega (arith, before)))
    where
      is_other : (b : Bool) → (actor == e.actor) ≡ b → (b || false) ≡ false
      is_other true same = let one = eqb-true actor e.actor same in absurd (omega (arith, one, before))
      is_other false same = refl

  -- one event counts once
  one_event : (e : Event) (es : List Event) (actor count : ℕ) → tally (e ∷ es) actor count ≤ tally es actor count + one_if (test e)
  one_event e es actor zero = omega (arith)
  one_event e es actor (suc count) = go (one_event e es (suc actor) count) (actor == e.actor) refl
    where
      split : (b : Bool) → (actor == e.actor) ≡ b
          → count_by test (acts_of actor (e ∷ es)) ≡ count_by test (cond (b || false) (e ∷ acts_of actor es) (acts_of actor es))
      split b is = ap (λ (c : Bool). count_by test (cond (c || false) (e ∷ acts_of actor es) (acts_of actor es))) is

      go : tally (e ∷ es) (suc actor) count ≤ tally es (suc actor) count + one_if (test e) → (b : Bool) → (actor == e.actor) ≡ b
          → tally (e ∷ es) actor (suc count) ≤ tally es actor (suc count) + one_if (test e)
      go next true is =
          let one = eqb-true actor e.actor is in
          let here = split true is in
          let rest = before_them e es (suc actor) count (omega (arith, one)) in
          let first = count_cons test e (acts_of actor es) in
          omega (arith, here, rest, first)
      go next false is = let here = split false is in omega (arith, here, next)

  -- no more often than it was done
  pub tally_most : (history : List Event) (actor count : ℕ) → tally history actor count ≤ count_by test history
  tally_most [] actor zero = omega (arith)
  tally_most [] actor (suc count) = let rest = tally_most [] (suc actor) count in omega (arith, rest)
  tally_most (e ∷ es) actor count =
      let this = one_event e es actor count in
      let rest = tally_most es actor count in
      let all = count_cons test e es in
      omega (arith, this, rest, all)
