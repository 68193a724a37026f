-- What each kind of event does to the state.
use Rattle.std.proofs.Common.{◌≡◌, ℕ, zero, suc, ◌+◌, ◌-◌, ◌*◌, ◌<◌, ◌≤◌, Bool, true, false, cond, not, ◌||◌, ◌&&◌, ◌==◌, List, [], ◌∷◌, ◌++◌, length, take, Option, Some, None, sym, refl, ap, ap₂, ◌∙◌, subst, arith, ◌⊎◌, inl, inr, ⊎_elim, append-nil, length-append}
use Rattle.std.specs.FinMap as map
use Rattle.std.specs.List.{list_all, list_any}
use Rattle.std.specs.Prelude.{filter, unwrap_or}
use Rattle.spm_cell.specs.declared.cell.Cell.{Cell}
use Rattle.spm_cell.specs.declared.cell.Cell.TheVariants.{Flying, Idle, Ready}
use Rattle.spm_key.specs.KeyLaws.{key_cmp, key_eq}
use Rattle.spm_key.specs.declared.key.Key.{Key}
use Rattle.spm_key.specs.declared.reply.Reply.{Reply}
use Rattle.spm_cache_core.specs.Cache.{Cache}
use Rattle.spm_cache_core.specs.Calls.{Spends}
use Rattle.spm_cache_core.specs.Cells.{was_begun}
use Rattle.spm_cache_core.specs.Hints.{hints, is_among_keys, is_begun}
use Rattle.spm_cache_core.specs.History.{all_ended, canceller, event, has_cancelled, has_ended, is_cancel, is_end}
use Rattle.spm_cache_core.specs.Legal.{IsAllowed, IsLegal, IsSession}
use Rattle.spm_cache_core.specs.State.{IsBeginning, IsCell, IsOpen, IsQuiet, IsState, Parts, flights, flights_after, missing, owed, unbegun, without}
use Rattle.spm_cache_core.specs.declared.event.Act.{Act}
use Rattle.spm_cache_core.specs.declared.event.Act.TheVariants.{Ask, Claim, Land, Fail, Hint, Cancel, End}
use Rattle.spm_cache_core.specs.declared.event.AskNote.TheVariants as ask
use Rattle.spm_cache_core.specs.declared.event.ClaimNote.TheVariants as claim
use Rattle.spm_cache_core.specs.declared.event.Event.{Event}
use Rattle.spm_cache_core.specs.declared.event.Why.{Why}
use Rattle.spm_cache_core.proofs.CellLemmas.{begun_cell, cell_begun, cell_failed, cell_kept, cell_landed, passes_beginning, passes_cancel, passes_end, passes_fail, passes_hint, passes_land, passes_quiet}
use Rattle.spm_cache_core.proofs.HintLemmas.{filter_alike, passed_later, queued-snoc}
use Rattle.spm_cache_core.proofs.HistoryLemmas.{any-snoc, canceller-append, first, first_none, flights-snoc}
use Rattle.spm_cache_core.proofs.KeyLemmas.{not_both, one_key}

-- ---- legal histories

-- all events but the first
abbrev tail_of : List Event → List Event
tail_of [] = []
tail_of (x ∷ xs) = xs

-- the first event
abbrev head_of : Event → List Event → Event
head_of d [] = d
head_of d (x ∷ xs) = x

-- an event of a longer history is its last, or one of the shorter
snoc_split : (h before after : List Event) (x e : Event) → h ++ x ∷ [] ≡ before ++ e ∷ after
    → ((before ≡ h) × (e ≡ x)) ⊎ ((rest : List Event) × (h ≡ before ++ e ∷ rest))
snoc_split [] [] after x e q = inl (refl, sym (ap (head_of x) q))
snoc_split [] (b ∷ bs) after x e q =
    let n : 0 ≡ length (bs ++ e ∷ after) = ap
    (λ l. length (tail_of l)) q in absurd (omega (arith, n, length-append bs (e ∷ after)))
snoc_split (y ∷ ys) [] after x e q = inr (ys, ap (λ z. z ∷ ys) (ap (head_of y) q))
snoc_split (y ∷ ys) (b ∷ bs) after x e q =
    let same : y ≡ b = ap (head_of y) q in
    ⊎_elim (λ t. inl (ap₂ (λ z (zs : List Event). z ∷ zs) (sym same) t.0, t.1))
    (λ t. inr (t.0, ap₂ (λ z (zs : List Event). z ∷ zs) same t.1))
    (snoc_split ys bs after x e (ap tail_of q))

-- a legal history with an event that is allowed behind it is legal
pub legal_more : (sessions workers : ℕ) (history : List Event) (e : Event) → IsLegal sessions workers history
    → IsAllowed sessions workers history e.actor e.act → IsLegal sessions workers (history ++ e ∷ [])
legal_more sessions workers history x legal may before after e q =
    ⊎_elim
    (λ (t : (before ≡ history) × (e ≡ x)). subst (λ (p : List Event × Event). IsAllowed sessions workers p.0 p.1.actor p.1.act)
    (λ i. (sym t.0 i, sym t.1 i)) may)
    (λ (t : (rest : List Event) × (history ≡ before ++ e ∷ rest)). legal before t.0 e t.1)
    (snoc_split history before after x e q)

-- nothing has happened, and that is legal
pub legal_none : (sessions workers : ℕ) → IsLegal sessions workers []
legal_none sessions workers before after e q =
    let n : 0 ≡ length (before ++ e ∷ after) = ap (λ l. length l) q in absurd (omega (arith, n, length-append before (e ∷ after)))

-- ---- the sessions that have no event of a kind

-- a test or none
or_none : (b : Bool) → (b || false) ≡ b
or_none true = refl
or_none false = refl

-- a conjunction with what does not hold
and_none : (a b : Bool) → a ≡ false → (a && b) ≡ false
and_none true b is = not_both true refl is
and_none false b is = refl

-- an event that is no one's changes nothing of what is missing
missing_left : (test : Act → Bool) (sessions : ℕ) (history : List Event) (e : Event)
    → ((session : ℕ) → session < sessions → (test e.act && e.actor == session) ≡ false)
    → missing test sessions (history ++ e ∷ []) ≡ missing test sessions history
missing_left test zero history e other = refl
missing_left test (suc session) history e other =
    ap₂ (λ (b : Bool) (n : ℕ). cond b 0 1 + n)
    (any-snoc (λ x. test x.act && x.actor == session) history e
    ∙ ap (λ b. list_any (λ x. test x.act && x.actor == session) history || (b || false)) (other session (omega arith))
    ∙ or_none _)
    (missing_left test session history e (λ s below. other s (omega arith)))

-- what differs fails the test
differs : (a b : ℕ) → (a ≡ b → ⊥) → (a == b) ≡ false
differs a b apart = by (a == b) refl
  where
    by : (same : Bool) → (a == b) ≡ same → (a == b) ≡ false
    by true is = absurd (apart (grind (arith, is)))
    by false is = is

-- a conjunction with what does not hold
and_last : (a b : Bool) → b ≡ false → (a && b) ≡ false
and_last true b is = is
and_last false b is = refl

-- the same, for one session more
less_step : (test : Act → Bool) (session : ℕ) (history : List Event) (e : Event) (same : Bool) → (e.actor == session) ≡ same
    → test e.act ≡ true → e.actor < suc session → list_any (λ x. test x.act && x.actor == e.actor) history ≡ false
    → (e.actor < session → missing test session (history ++ e ∷ []) + 1 ≡ missing test session history)
    → missing test (suc session) (history ++ e ∷ []) + 1 ≡ missing test (suc session) history
less_step test session history e true is passes below none rest =
    let who : e.actor ≡ session = grind (arith, is) in
    let lower = missing_left test session history e
    (λ s less. and_last (test e.act) (e.actor == s) (differs e.actor s (λ q. omega (arith, q, who)))) in
    let before : list_any (λ x. test x.act && x.actor == session) history ≡ false =
    ap (λ s. list_any (λ x. test x.act && x.actor == s) history) (sym who) ∙ none in
    let now : list_any (λ x. test x.act && x.actor == session) (history ++ e ∷ []) ≡ true =
    any-snoc (λ x. test x.act && x.actor == session) history e
    ∙ ap₂ (λ (b c : Bool). b || (c || false)) before (ap₂ (λ (b c : Bool). b && c) passes is) in
    let p = ap {B = ℕ} (λ b. cond b 0 1) before in let q = ap {B = ℕ} (λ b. cond b 0 1) now in omega (arith, p, q, lower)
less_step test session history e false is passes below none rest =
    let other : e.actor < session = grind (arith, is, below) in
    let here : list_any (λ x. test x.act && x.actor == session) (history ++ e ∷ []) ≡ list_any
    (λ x. test x.act && x.actor == session) history =
    any-snoc (λ x. test x.act && x.actor == session) history e
    ∙ ap (λ b. list_any (λ x. test x.act && x.actor == session) history || (b || false)) (and_last (test e.act) (e.actor == session) is)
    ∙ or_none _ in
    let p = ap {B = ℕ} (λ b. cond b 0 1) here in let r = rest other in omega (arith, p, r)

-- a session's first event of a kind
missing_less : (test : Act → Bool) (sessions : ℕ) (history : List Event) (e : Event) → test e.act ≡ true → e.actor < sessions
    → list_any (λ x. test x.act && x.actor == e.actor) history ≡ false
    → missing test sessions (history ++ e ∷ []) + 1 ≡ missing test sessions history
missing_less test zero history e passes below none = absurd (omega arith)
missing_less test (suc session) history e passes below none =
    less_step test session history e (e.actor == session) refl passes below none
    (λ less. missing_less test session history e passes less none)

-- an event of another kind
missing_same : (test : Act → Bool) (sessions : ℕ) (history : List Event) (e : Event) → test e.act ≡ false
    → missing test sessions (history ++ e ∷ []) ≡ missing test sessions history
missing_same test sessions history e other = missing_left test sessions history e (λ session below. and_none (test e.act) _ other)

-- at first each session's is missing
pub missing-none : (test : Act → Bool) (sessions : ℕ) → missing test sessions [] ≡ sessions
missing-none test zero = refl
missing-none test (suc session) = let rest = missing-none test session in omega (arith, rest)

-- the same, for one session more
ended_step : (has rest : Bool) (n : ℕ) → (rest ≡ true → n ≡ 0) → (has && rest) ≡ true → cond has 0 1 + n ≡ 0
ended_step true rest n so h = let z = so h in omega (arith, z)
ended_step false rest n so h = not_both false h refl

-- the same, for one session more
running_step : (has rest : Bool) (n : ℕ) → (n ≡ 0 → rest ≡ true) → cond has 0 1 + n ≡ 0 → (has && rest) ≡ true
running_step true rest n so h = so (omega arith)
running_step false rest n so h = absurd (omega arith)

-- where every session has ended, no end is missing
pub ended_none : (sessions : ℕ) (history : List Event) → all_ended sessions history ≡ true → missing is_end sessions history ≡ 0
ended_none zero history all = refl
ended_none (suc session) history all =
    ended_step (has_ended session history) (all_ended session history) _ (ended_none session history) all

-- where no end is missing, every session has ended
pub none_running : (sessions : ℕ) (history : List Event) → missing is_end sessions history ≡ 0 → all_ended sessions history ≡ true
none_running zero history none = refl
none_running (suc session) history none =
    running_step (has_ended session history) (all_ended session history) _ (none_running session history) none

-- while somebody runs, not every session has ended
pub some_running : (sessions : ℕ) (history : List Event) → (missing is_end sessions history ≡ 0 → ⊥)
    → all_ended sessions history ≡ false
some_running sessions history some = by (all_ended sessions history) refl
  where
    by : (all : Bool) → all_ended sessions history ≡ all → all_ended sessions history ≡ false
    by true is = absurd (some (ended_none sessions history is))
    by false is = is

-- the same, for one session more
some_step : (test : Act → Bool) (session : ℕ) (history : List Event) (actor : ℕ) (same : Bool) → (actor == session) ≡ same
    → actor < suc session → list_any (λ x. test x.act && x.actor == actor) history ≡ false
    → (actor < session → 1 ≤ missing test session history) → 1 ≤ missing test (suc session) history
some_step test session history actor true is below none rest =
    let who : actor ≡ session = grind (arith, is) in
    let p = ap {B = ℕ} (λ b. cond b 0 1) (ap (λ s. list_any (λ x. test x.act && x.actor == s) history) (sym who)
    ∙ none) in omega (arith, p)
some_step test session history actor false is below none rest =
    let other : actor < session = grind (arith, is, below) in let r = rest other in omega (arith, r)

-- a session that hasn't ended is missing an end
missing_some : (test : Act → Bool) (sessions : ℕ) (history : List Event) (actor : ℕ) → actor < sessions
    → list_any (λ x. test x.act && x.actor == actor) history ≡ false → 1 ≤ missing test sessions history
missing_some test zero history actor below none = absurd (omega arith)
missing_some test (suc session) history actor below none =
    some_step test session history actor (actor == session) refl below none
    (λ less. missing_some test session history actor less none)

-- a session that hasn't ended runs
pub session_runs : (sessions : ℕ) (history : List Event) (actor : ℕ) → IsSession sessions history actor
    → 1 ≤ missing is_end sessions history
session_runs sessions history actor may = missing_some is_end sessions history actor may.0 may.1

-- ---- the keys that fly

-- the length of a choice
length-cond : (b : Bool) (m : Key) (ms : List Key) → length (cond b (m ∷ ms) ms) ≡ cond b (suc (length ms)) (length ms)
length-cond true m ms = refl
length-cond false m ms = refl

-- one key more at most
longer_by : (b : Bool) (x y z : ℕ) → x ≡ cond b (suc y) y → y ≤ z → x ≤ suc z
longer_by true x y z e l = omega arith
longer_by false x y z e l = omega arith

-- without a key, the keys are not more
not_longer : (key : Key) (keys : List Key) → length (without key keys) ≤ length keys
not_longer key [] = omega arith
not_longer key (m ∷ ms) =
    longer_by (not (key_eq m key)) _ _ _ (length-cond (not (key_eq m key)) m (without key ms)) (not_longer key ms)

-- the same, for one key more
shorter_step : (key m : Key) (ms : List Key) (same : Bool)
    → (is_among_keys ms key ≡ true → length (without key ms) + 1 ≤ length ms) → (same || is_among_keys ms key) ≡ true
    → length (without key ms) ≤ length ms → length (cond (not same) (m ∷ without key ms) (without key ms)) + 1 ≤ suc (length ms)
shorter_step key m ms true less among most = omega arith
shorter_step key m ms false less among most = let l = less among in omega arith

-- without a key that is among them, the keys are fewer
shorter : (key : Key) (keys : List Key) → is_among_keys keys key ≡ true → length (without key keys) + 1 ≤ length keys
shorter key [] among = not_both false among refl
shorter key (m ∷ ms) among = shorter_step key m ms (key_eq m key) (shorter key ms) among (not_longer key ms)

-- ---- what is owed to later events

-- what is owed where as many flights are open at most
owed_more : (sessions : ℕ) (history : List Event) (e : Event) (more : ℕ) → is_end e.act ≡ false → is_cancel e.act ≡ false
    → length (flights_after (flights history) e.act) ≤ length (flights history) + more
    → owed sessions (history ++ e ∷ []) ≤ owed sessions history + more
owed_more sessions history e more no_end no_cancel most =
    let ends = missing_same is_end sessions history e no_end in
    let cancels = missing_same is_cancel sessions history e no_cancel in
    let open_ = ap (λ (keys : List Key). length keys) (flights-snoc history e) in omega (arith, ends, cancels, open_)

-- what is owed where a flight ends
owed_less : (sessions : ℕ) (history : List Event) (e : Event) → is_end e.act ≡ false → is_cancel e.act ≡ false
    → length (flights_after (flights history) e.act) + 1 ≤ length (flights history)
    → owed sessions (history ++ e ∷ []) + 1 ≤ owed sessions history
owed_less sessions history e no_end no_cancel most =
    let ends = missing_same is_end sessions history e no_end in
    let cancels = missing_same is_cancel sessions history e no_cancel in
    let open_ = ap (λ (keys : List Key). length keys) (flights-snoc history e) in omega (arith, ends, cancels, open_)

-- what is owed after an end
owed_end : (sessions : ℕ) (history : List Event) (actor : ℕ) → IsSession sessions history actor
    → owed sessions (history ++ event actor End ∷ []) + 1 ≤ owed sessions history
owed_end sessions history actor may =
    let ends = missing_less is_end sessions history (event actor End) refl may.0 may.1 in
    let cancels = missing_same is_cancel sessions history (event actor End) refl in
    let open_ = ap (λ (keys : List Key). length keys) (flights-snoc history (event actor End)) in omega (arith, ends, cancels, open_)

-- what is owed after a cancel
owed_cancel : (sessions : ℕ) (history : List Event) (actor : ℕ) → actor < sessions → has_cancelled actor history ≡ false
    → owed sessions (history ++ event actor Cancel ∷ []) + 1 ≤ owed sessions history
owed_cancel sessions history actor below none =
    let ends = missing_same is_end sessions history (event actor Cancel) refl in
    let cancels = missing_less is_cancel sessions history (event actor Cancel) refl below none in
    let open_ = ap (λ (keys : List Key). length keys) (flights-snoc history (event actor Cancel)) in omega (arith, ends, cancels, open_)

-- ---- the state after an event

-- who was the first to cancel, after one event more
pub canceller-snoc : (history : List Event) (e : Event)
    → canceller (history ++ e ∷ []) ≡ first (canceller history) (cond (is_cancel e.act) (Some e.actor) None)
canceller-snoc history e = canceller-append history (e ∷ [])

-- the first keys of a longer list
take-append : (next : ℕ) (keys more : List Key) → next ≤ length keys → take next (keys ++ more) ≡ take next keys
take-append zero keys more within = refl
take-append (suc next) [] more within = absurd (omega arith)
take-append (suc next) (key ∷ keys) more within = ap (λ rest. key ∷ rest) (take-append next keys more (omega arith))

-- a cache with this history and so much spare room
abbrev pub after : Cache → List Event → ℕ → Cache
after cache items spare = record { history = items; sessions = cache.sessions; workers = cache.workers; spare = spare }

-- a state after an event, from what has to be seen of each part
grown : (cache : Cache) (parts new_parts : Parts) (items : List Event) (e : Event) (kept : ℕ) → IsState cache parts
    → items ≡ cache.history ++ e ∷ [] → IsAllowed cache.sessions cache.workers cache.history e.actor e.act
    → ((key : Key) → IsCell key (cache.history ++ e ∷ []) (new_parts.cells key))
    → new_parts.queue ≡ parts.queue ++ unbegun cache.history (hints e.act) → new_parts.next ≡ parts.next
    → new_parts.stopper ≡ first parts.stopper (cond (is_cancel e.act) (Some e.actor) None)
    → new_parts.running ≡ missing is_end cache.sessions (cache.history ++ e ∷ [])
    → owed cache.sessions (cache.history ++ e ∷ []) ≤ kept → length cache.history + (kept + 1) ≤ new_parts.capacity
    → IsState (after cache items kept) new_parts
grown cache parts new_parts items e kept is added may cells queue next stopper running owes room =
    subst (λ (h : List Event). IsState (after cache h kept) new_parts) (sym added)
    (record {
      legal = legal_more cache.sessions cache.workers cache.history e is.legal may;
      some_sessions = is.some_sessions;
      few_sessions = is.few_sessions;
      few_workers = is.few_workers;
      of_cells = cells;
      of_queue =
          queue ∙ ap (λ keys. keys ++ unbegun cache.history (hints e.act)) is.of_queue ∙ sym (queued-snoc cache.history e);
      of_next =
          (let more = unbegun cache.history (hints e.act) in
          let all : length new_parts.queue ≡ length parts.queue + length more =
          ap (λ (keys : List Key). length keys) queue ∙ length-append parts.queue more in
          let within = is.of_next in omega (arith, all, within, next));
      passed =
          ap₂ (λ n keys. list_all (λ key. is_begun key (cache.history ++ e ∷ [])) (take n keys)) next queue
          ∙ ap (list_all (λ key. is_begun key (cache.history ++ e ∷ [])))
          (take-append parts.next parts.queue (unbegun cache.history (hints e.act)) is.of_next)
          ∙ passed_later (take parts.next parts.queue) cache.history (e ∷ []) is.passed;
      of_stopper = stopper ∙ ap (λ who. first who (cond (is_cancel e.act) (Some e.actor) None)) is.of_stopper
          ∙ sym (canceller-snoc cache.history e);
      of_running = running;
      spares = owes;
      room = (let more = length-append cache.history (e ∷ []) in omega (arith, more, room));
    })

-- what an event that begins and ends nothing is
quiet_parts : (act : Act) → IsQuiet act
    → (hints act ≡ []) × (is_cancel act ≡ false) × (is_end act ≡ false) × ((keys : List Key) → flights_after keys act ≡ keys)
quiet_parts (Ask key (ask.Cancelled by)) is = (refl, refl, refl, λ keys. refl)
quiet_parts (Ask key (ask.Have reply)) is = (refl, refl, refl, λ keys. refl)
quiet_parts (Claim claim.Closed) is = (refl, refl, refl, λ keys. refl)
quiet_parts act is = absurd is

-- who was the first to cancel stays
not_cancelled : (parts : Option ℕ) (is : Bool) (actor : ℕ) → is ≡ false → parts ≡ first parts (cond is (Some actor) None)
not_cancelled parts is actor never = sym (ap (λ b. first parts (cond b (Some actor) None)) never ∙ first_none parts)

-- after an event that begins and ends nothing
pub state_noted : (cache : Cache) (parts : Parts) (items : List Event) (e : Event) (capacity' : ℕ) → IsState cache parts
    → items ≡ cache.history ++ e ∷ [] → IsAllowed cache.sessions cache.workers cache.history e.actor e.act → IsQuiet e.act
    → length cache.history + (cache.spare + 1) ≤ capacity'
    → IsState (after cache items cache.spare) (record parts { capacity = capacity' })
state_noted cache parts items e capacity' is added may quiet room =
    let q = quiet_parts e.act quiet in
    grown cache parts (record parts { capacity = capacity' }) items e cache.spare is added may
    (λ key. cell_kept key cache.history e (parts.cells key) (passes_quiet key e.act quiet) (is.of_cells key))
    (sym (ap (λ keys. parts.queue ++ unbegun cache.history keys) q.0
    ∙ append-nil parts.queue)) refl (not_cancelled parts.stopper (is_cancel e.act) e.actor q.1)
    (is.of_running ∙ sym (missing_same is_end cache.sessions cache.history e q.2))
    (let more = owed_more cache.sessions cache.history e 0 q.2 q.1 (let same = ap
    (λ (keys : List Key). length keys) (q.3 (flights cache.history)) in omega (arith, same)) in
    let s = is.spares in omega (arith, more, s)) room

-- after a hint
pub state_hinted : (cache : Cache) (parts : Parts) (items : List Event) (actor : ℕ) (keys queue' : List Key) (capacity' : ℕ)
    → IsState cache parts
    → items ≡ cache.history ++ event actor (Hint keys) ∷ [] → IsSession cache.sessions cache.history actor
    → queue' ≡ parts.queue ++ filter (λ key. not (was_begun (parts.cells key))) keys
    → length cache.history + (cache.spare + 1) ≤ capacity'
    → IsState (after cache items cache.spare) (record parts { queue = queue'; capacity = capacity' })
state_hinted cache parts items actor keys queue' capacity' is added may queued room =
    let e : Event = event actor (Hint keys) in
    let fewer = filter_alike (λ key. not (was_begun (parts.cells key))) (λ key. not (is_begun key cache.history)) keys
    (λ key. ap not (sym (begun_cell key cache.history (parts.cells key) (is.of_cells key)))) in
    grown cache parts (record parts { queue = queue'; capacity = capacity' }) items e cache.spare is added may
    (λ key. cell_kept key cache.history e (parts.cells key) (passes_hint key keys) (is.of_cells key)) (queued ∙ ap (λ more. parts.queue ++ more) fewer) refl
    (not_cancelled parts.stopper false actor refl) (is.of_running ∙ sym (missing_same is_end cache.sessions cache.history e refl))
    (let more = owed_more cache.sessions cache.history e 0 refl refl (omega arith) in
    let s = is.spares in omega (arith, more, s)) room

-- after a cancel
pub state_cancelled : (cache : Cache) (parts : Parts) (items : List Event) (actor : ℕ) (stopper' : Option ℕ) (capacity' : ℕ)
    → IsState cache parts
    → items ≡ cache.history ++ event actor Cancel ∷ [] → IsSession cache.sessions cache.history actor
    → has_cancelled actor cache.history ≡ false
    → stopper' ≡ first parts.stopper (Some actor) → capacity' ≡ parts.capacity
    → IsState (after cache items (cache.spare - 1)) (record parts { stopper = stopper'; capacity = capacity' })
state_cancelled cache parts items actor stopper' capacity' is added may none first_one same_room =
    let e : Event = event actor Cancel in let s = is.spares in let room = is.room in
    let less = owed_cancel cache.sessions cache.history actor may.0 none in
    grown cache parts (record parts { stopper = stopper'; capacity = capacity' }) items e (cache.spare - 1) is added (may, none)
    (λ key. cell_kept key cache.history e (parts.cells key) (passes_cancel key) (is.of_cells key)) (sym (append-nil parts.queue)) refl first_one
    (is.of_running ∙ sym (missing_same is_end cache.sessions cache.history e refl)) (omega (arith, less, s)) (omega (arith, less, s, room, same_room))

-- after an end
pub state_ended : (cache : Cache) (parts : Parts) (items : List Event) (actor capacity' : ℕ) → IsState cache parts
    → items ≡ cache.history ++ event actor End ∷ [] → IsSession cache.sessions cache.history actor → capacity' ≡ parts.capacity
    → IsState (after cache items (cache.spare - 1)) (record parts { running = parts.running - 1; capacity = capacity' })
state_ended cache parts items actor capacity' is added may same_room =
    let e : Event = event actor End in let s = is.spares in let room = is.room in
    let less = owed_end cache.sessions cache.history actor may in
    let fewer = missing_less is_end cache.sessions cache.history e refl may.0 may.1 in let r = is.of_running in
    grown cache parts (record parts { running = parts.running - 1; capacity = capacity' }) items e (cache.spare - 1) is added may
    (λ key. cell_kept key cache.history e (parts.cells key) (passes_end key) (is.of_cells key)) (sym (append-nil parts.queue)) refl
    (not_cancelled parts.stopper false actor refl) (omega (arith, fewer, r)) (omega (arith, less, s)) (omega (arith, less, s, room, same_room))

-- the cells after an event about one key
changed_cells : (key : Key) (history : List Event) (e : Event) (cells cells' : Key → Cell) (cell : Cell)
    → ((other : Key) → cells' other ≡ cond (key_eq key other) cell (cells other)) → IsCell key (history ++ e ∷ []) cell
    → ((other : Key) → key_eq key other ≡ false → IsCell other (history ++ e ∷ []) (cells other))
    → (other : Key) → IsCell other (history ++ e ∷ []) (cells' other)
changed_cells key history e cells cells' cell write now others other = by (key_eq key other) refl
  where
    by : (same : Bool) → key_eq key other ≡ same → IsCell other (history ++ e ∷ []) (cells' other)
    by true is = let there : cells' other ≡ cell = write other ∙ ap (λ b. cond b cell (cells other)) is in
        subst (λ (p : Key × Cell). IsCell p.0 (history ++ e ∷ []) p.1) (λ i. (one_key key other is i, sym there i)) now
    by false is = let there : cells' other ≡ cells other = write other ∙ ap (λ b. cond b cell (cells other)) is in
        subst (IsCell other (history ++ e ∷ [])) (sym there) (others other is)

-- what an event that begins a flight is
beginning_parts : (key : Key) (act : Act) → IsBeginning key act
    → (hints act ≡ []) × (is_cancel act ≡ false) × (is_end act ≡ false) × ((keys : List Key)
    → length (flights_after keys act) ≡ suc (length keys))
beginning_parts key (Ask other ask.Fetch) is = (refl, refl, refl, λ keys. refl)
beginning_parts key (Claim (claim.Fetch other)) is = (refl, refl, refl, λ keys. refl)
beginning_parts key act is = absurd is

-- after an event that begins a flight
pub state_begun : (cache : Cache) (parts : Parts) (items : List Event) (e : Event) (key : Key) (fails number : ℕ) (cells' : Key
    → Cell) (kept capacity' : ℕ)
    → IsState cache parts → items ≡ cache.history ++ e ∷ [] → IsAllowed cache.sessions cache.workers cache.history e.actor e.act
    → IsBeginning key e.act → number ≡ length cache.history → parts.cells key ≡ Idle fails
    → ((other : Key) → cells' other ≡ cond (key_eq key other) (Flying number e.actor fails) (parts.cells other))
    → kept ≡ cache.spare + 1 → length cache.history + (kept + 1) ≤ capacity'
    → IsState (after cache items kept) (record parts { cells = cells'; capacity = capacity' })
state_begun cache parts items e key fails number cells' kept capacity' is added may begin at idle write keeps room =
    let q = beginning_parts key e.act begin in
    grown cache parts (record parts { cells = cells'; capacity = capacity' }) items e kept is added may
    (changed_cells key cache.history e parts.cells cells' (Flying number e.actor fails) write
    (cell_begun key cache.history e fails number begin at (subst (IsCell key cache.history) idle (is.of_cells key)))
    (λ other apart. cell_kept other cache.history e (parts.cells other) (passes_beginning key other e.act begin apart) (is.of_cells other)))
    (sym (ap (λ keys. parts.queue ++ unbegun cache.history keys) q.0
    ∙ append-nil parts.queue)) refl (not_cancelled parts.stopper (is_cancel e.act) e.actor q.1)
    (is.of_running ∙ sym (missing_same is_end cache.sessions cache.history e q.2))
    (let one = q.3 (flights cache.history) in
    let more = owed_more cache.sessions cache.history e 1 q.2 q.1 (omega (arith, one)) in
    let s = is.spares in omega (arith, more, s, keeps)) room

-- after a landing
pub state_landed : (cache : Cache) (parts : Parts) (items : List Event) (key : Key) (reply : Reply) (actor number by fails place : ℕ) (cells' : Key → Cell) (capacity' : ℕ)
    → IsState cache parts → items ≡ cache.history ++ event actor (Land key reply) ∷ []
    → IsAllowed cache.sessions cache.workers cache.history actor (Land key reply)
    → place ≡ length cache.history → parts.cells key ≡ Flying number by fails
    → ((other : Key) → cells' other ≡ cond (key_eq key other) (Ready place) (parts.cells other)) → capacity' ≡ parts.capacity
    → IsState (after cache items (cache.spare - 1)) (record parts { cells = cells'; capacity = capacity' })
state_landed cache parts items key reply actor number by fails place cells' capacity' is added may at flying write same_room =
    let e : Event = event actor (Land key reply) in let s = is.spares in let room = is.room in
    let it : IsOpen key cache.history number by fails = subst (IsCell key cache.history) flying (is.of_cells key) in
    let less = owed_less cache.sessions cache.history e refl refl (shorter key (flights cache.history) it.is_open) in
    grown cache parts (record parts { cells = cells'; capacity = capacity' }) items e (cache.spare - 1) is added may
    (changed_cells key cache.history e parts.cells cells' (Ready place) write
    (cell_landed key cache.history actor number by fails place reply at it)
    (λ other apart. cell_kept other cache.history e (parts.cells other) (passes_land key other reply apart) (is.of_cells other)))
    (sym (append-nil parts.queue)) refl (not_cancelled parts.stopper false actor refl)
    (is.of_running ∙ sym (missing_same is_end cache.sessions cache.history e refl)) (omega (arith, less, s)) (omega (arith, less, s, room, same_room))

-- after a failure
pub state_failed : (cache : Cache) (parts : Parts) (items : List Event) (key : Key) (why : Why) (actor number by fails : ℕ) (cells' : Key → Cell) (capacity' : ℕ)
    → IsState cache parts → items ≡ cache.history ++ event actor (Fail key why) ∷ []
    → IsAllowed cache.sessions cache.workers cache.history actor (Fail key why) → parts.cells key ≡ Flying number by fails
    → ((other : Key) → cells' other ≡ cond (key_eq key other) (Idle (fails + 1)) (parts.cells other)) → capacity' ≡ parts.capacity
    → IsState (after cache items (cache.spare - 1)) (record parts { cells = cells'; capacity = capacity' })
state_failed cache parts items key why actor number by fails cells' capacity' is added may flying write same_room =
    let e : Event = event actor (Fail key why) in let s = is.spares in let room = is.room in
    let it : IsOpen key cache.history number by fails = subst (IsCell key cache.history) flying (is.of_cells key) in
    let less = owed_less cache.sessions cache.history e refl refl (shorter key (flights cache.history) it.is_open) in
    grown cache parts (record parts { cells = cells'; capacity = capacity' }) items e (cache.spare - 1) is added may
    (changed_cells key cache.history e parts.cells cells' (Idle (fails + 1)) write
    (cell_failed key cache.history actor number by fails why it)
    (λ other apart. cell_kept other cache.history e (parts.cells other) (passes_fail key other why apart) (is.of_cells other)))
    (sym (append-nil parts.queue)) refl (not_cancelled parts.stopper false actor refl)
    (is.of_running ∙ sym (missing_same is_end cache.sessions cache.history e refl)) (omega (arith, less, s)) (omega (arith, less, s, room, same_room))

-- where something is owed, there is room for it
pub kept_room : (cache : Cache) (parts : Parts) → IsState cache parts → 1 ≤ owed cache.sessions cache.history
    → (1 ≤ cache.spare) × (length cache.history < parts.capacity)
kept_room cache parts is owes = let s = is.spares in let r = is.room in (omega (arith, s, owes), omega (arith, s, owes, r))

-- the end of an open flight is owed
pub owes_open : (sessions : ℕ) (key : Key) (history : List Event) (number by fails : ℕ) → IsOpen key history number by fails
    → 1 ≤ owed sessions history
owes_open sessions key history number by fails is = let one = shorter key (flights history) is.is_open in omega (arith, one)

-- the end of a session is owed
pub owes_session : (sessions : ℕ) (history : List Event) (actor : ℕ) → IsSession sessions history actor
    → 1 ≤ owed sessions history
owes_session sessions history actor may = let one = session_runs sessions history actor may in omega (arith, one)

-- a session that has not ended has room for its end
pub session_room : (cache old : Cache) (parts : Parts) (actor : ℕ) → IsState cache parts → cache ≡ old
    → IsSession old.sessions old.history actor
    → (1 ≤ cache.spare) × (length cache.history < parts.capacity) × (1 ≤ parts.running)
session_room cache old parts actor is same may =
    let here : IsSession cache.sessions cache.history actor = subst
    (λ (s : Cache). IsSession s.sessions s.history actor) (sym same) may in
    let room = kept_room cache parts is (owes_session cache.sessions cache.history actor here) in
    let runs = session_runs cache.sessions cache.history actor here in
    let r = is.of_running in (room.0, room.1, omega (arith, runs, r))

-- an event was added into kept room
pub spent : (old seen : Cache) (e : Event) (items : List Event) → seen ≡ old → items ≡ seen.history ++ e ∷ [] → 1 ≤ seen.spare
    → Spends old e (record { history = items; sessions = seen.sessions; workers = seen.workers; spare = seen.spare - 1 })
spent old seen e items same added some = record {
  history = added ∙ ap (λ (s : Cache). s.history ++ e ∷ []) same;
  sessions = ap (λ (s : Cache). s.sessions) same;
  workers = ap (λ (s : Cache). s.workers) same;
  spare = (let kept = ap (λ (s : Cache). s.spare) same in omega (arith, kept, some));
}

-- the same history, with more room, the same cells in another tree, and another place in the queue
pub state_kept : (cache : Cache) (parts : Parts) (cells' : Key → Cell) (capacity' : ℕ) → IsState cache parts
    → ((key : Key) → cells' key ≡ parts.cells key) → parts.capacity ≤ capacity'
    → IsState cache (record parts { cells = cells'; capacity = capacity' })
state_kept cache parts cells' capacity' is same most = record {
  legal = is.legal;
  some_sessions = is.some_sessions;
  few_sessions = is.few_sessions;
  few_workers = is.few_workers;
  of_cells = λ key. subst (IsCell key cache.history) (sym (same key)) (is.of_cells key);
  of_queue = is.of_queue;
  of_next = is.of_next;
  passed = is.passed;
  of_stopper = is.of_stopper;
  of_running = is.of_running;
  spares = is.spares;
  room = (let r = is.room in omega (arith, r, most));
}

-- at first each cell is idle
pub new_cell : (key : Key) → IsCell key [] (Idle 0)
new_cell key = record { were_begun = refl; have_failed = refl; no_landings = refl; not_landed = map.get-empty key_cmp key; not_open = refl }

-- nothing has happened
pub state_new : (sessions workers spare capacity' : ℕ) (items : List Event) (queue' : List Key) (cells' : Key → Cell)
    → 1 ≤ sessions → sessions ≤ 64
    → workers ≤ 16 → spare ≡ 2 * sessions → spare ≤ capacity' → items ≡ [] → queue' ≡ [] → ((key : Key) → cells' key ≡ Idle 0)
    → IsState (record { history = items; sessions = sessions; workers = workers; spare = spare })
    (record { cells = cells'; queue = queue'; next = 0; stopper = None; running = sessions; capacity = capacity' })
state_new sessions workers spare capacity' items queue' cells' some few hands twice room none no_hints idle =
    subst
    (λ (p : List Event × List Key). IsState (record { history = p.0; sessions = sessions; workers = workers; spare = spare })
    (record { cells = cells'; queue = p.1; next = 0; stopper = None; running = sessions; capacity = capacity' }))
    (λ i. (sym none i, sym no_hints i))
    (record {
      legal = legal_none sessions workers;
      some_sessions = some;
      few_sessions = few;
      few_workers = hands;
      of_cells = λ key. subst (IsCell key []) (sym (idle key)) (new_cell key);
      of_queue = refl;
      of_next = omega arith;
      passed = refl;
      of_stopper = refl;
      of_running = sym (missing-none is_end sessions);
      spares = (let e = missing-none is_end sessions in let c = missing-none is_cancel sessions in omega (arith, e, c, twice));
      room = omega (arith, room);
    })

-- who was the first to cancel, or the actor
pub first_or : (who : Option ℕ) (actor by : ℕ) → by ≡ unwrap_or who actor → Some by ≡ first who (Some actor)
first_or None actor by is = ap Some is
first_or (Some other) actor by is = ap Some is
