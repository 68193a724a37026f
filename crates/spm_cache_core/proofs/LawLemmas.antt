-- What holds of legal histories.
use Rattle.std.proofs.Common.{◌≡◌, ℕ, ◌+◌, ◌≤◌, Bool, true, false, cond, ◌||◌, ◌&&◌, ◌==◌, List, [], ◌∷◌, ◌++◌, length, Option, Some, None, sym, refl, ap, ap₂, ◌∙◌, subst, arith, append_assoc, append-nil, eq-eqb}
use Rattle.std.proofs.lemmas.List.Folds.{list_any-append}
use Rattle.std.proofs.lemmas.List.Sums.{sum_by-append}
use Rattle.std.specs.FinMap as map
use Rattle.std.specs.List.{count_by, list_any}
use Rattle.std.specs.Prelude.{IfSome, is_some, option_map}
use Rattle.spm_cell.specs.declared.cell.Cell.{Cell}
use Rattle.spm_cell.specs.declared.cell.Cell.TheVariants.{Flying, Idle, Ready}
use Rattle.spm_key.specs.Catalogue.{Extends}
use Rattle.spm_key.specs.KeyLaws.{key_eq}
use Rattle.spm_key.specs.declared.key.Key.{Key}
use Rattle.spm_key.specs.declared.reply.Reply.{Reply}
use Rattle.spm_cache_core.specs.Answers.{ask_answer, claim_answer}
use Rattle.spm_cache_core.specs.Answers as answer
use Rattle.spm_cache_core.specs.Balance.{begun_by, broken_by, failed_by, has_acted, lacked_by}
use Rattle.spm_cache_core.specs.Cache.{Cache}
use Rattle.spm_cache_core.specs.Calls.{AskTells, ClaimTells}
use Rattle.spm_cache_core.specs.History.{begins, begun, breaks, broken, canceller, event, failed, fails, flies, flight, flyer, has_cancelled, is_cancel, is_end, lacked, lacks, landed, landings, last_begin}
use Rattle.spm_cache_core.specs.Legal.{IsAllowed, IsLegal, IsSession}
use Rattle.spm_cache_core.specs.State.{IsBeginning, IsCell, IsIdle}
use Rattle.spm_cache_core.specs.declared.answer.Asked.{Asked}
use Rattle.spm_cache_core.specs.declared.answer.Asked.TheVariants as asked
use Rattle.spm_cache_core.specs.declared.answer.Claimed.{Claimed}
use Rattle.spm_cache_core.specs.declared.answer.Claimed.TheVariants as claimed
use Rattle.spm_cache_core.specs.declared.event.Act.{Act}
use Rattle.spm_cache_core.specs.declared.event.Act.TheVariants.{Ask, Claim, Land, Fail, Hint, Cancel, End}
use Rattle.spm_cache_core.specs.declared.event.AskNote.TheVariants as ask
use Rattle.spm_cache_core.specs.declared.event.ClaimNote.TheVariants as claim
use Rattle.spm_cache_core.specs.declared.event.Event.{Event}
use Rattle.spm_cache_core.specs.declared.event.Why.{Why}
use Rattle.spm_cache_core.specs.declared.event.Why.TheVariants.{Link, Memory}
use Rattle.spm_cache_core.proofs.AnswerLemmas.{idle_before}
use Rattle.spm_cache_core.proofs.CellLemmas.{PassesOver, cell_begun, cell_failed, cell_kept, cell_landed, idle_rests, open_flies, passes_beginning, passes_cancel, passes_end, passes_fail, passes_hint, passes_land, passes_quiet, ready_rests}
use Rattle.spm_cache_core.proofs.HistoryLemmas.{canceller-append, count-snoc, first, landed-append}
use Rattle.spm_cache_core.proofs.KeyLemmas.{key_itself, not_both, one_key}
use Rattle.spm_cache_core.proofs.StateLemmas.{new_cell}

-- ---- who flies

-- an actor, if there is one
abbrev actor_in : Option ℕ → ℕ → ℕ
actor_in None other = other
actor_in (Some actor) other = actor

-- where somebody flies, the cell says who
flyer_cell : (key : Key) (history : List Event) (cell : Cell) (by : ℕ) → IsCell key history cell → flyer key history ≡ Some by
    → (number : ℕ) × (fails' : ℕ) × (cell ≡ Flying number by fails')
flyer_cell key history (Idle fails') by is who =
    let none : flyer key history ≡ None = ap
    (λ b. option_map (λ (found : ℕ × ℕ). found.1) (cond b (last_begin key history) None)) (idle_rests key history fails' is) in
    let wrong : Some by ≡ None = sym who ∙ none in absurd (cc)
flyer_cell key history (Flying number a fails') by is who =
    let this : flyer key history ≡ Some a =
    ap (λ b. option_map (λ (found : ℕ × ℕ). found.1) (cond b (last_begin key history) None)) (open_flies key history number a fails' is)
    ∙ ap (option_map (λ (found : ℕ × ℕ). found.1)) is.last in
    let same : a ≡ by = ap (λ o. actor_in o a) (sym this ∙ who) in
    (number, fails', ap (λ x. Flying number x fails') same)
flyer_cell key history (Ready place) by is who =
    let none : flyer key history ≡ None = ap
    (λ b. option_map (λ (found : ℕ × ℕ). found.1) (cond b (last_begin key history) None)) (ready_rests key history place is) in
    let wrong : Some by ≡ None = sym who ∙ none in absurd (cc)

-- ---- each key of a legal history has a cell

-- what some of the actors have begun and failed of a key, by its cell
abbrev Own : (ℕ → Bool) → Key → List Event → Cell → Type 0
Own test key history (Idle fails') = begun_by test key history ≡ failed_by test key history
Own test key history (Flying number by fails') = begun_by test key history ≡ failed_by test key history + cond (test by) 1 0
Own test key history (Ready place) = begun_by test key history ≤ failed_by test key history + 1

-- a conjunction with what does not hold
and_none : (a b : Bool) → b ≡ false → (a && b) ≡ false
and_none true b is = is
and_none false b is = refl

-- a conjunction with what holds
and_some : (a b : Bool) → b ≡ true → (a && b) ≡ a
and_some true b is = is
and_some false b is = refl

-- an event that isn't counted, and one that is where its actor passes the test
uncounted : (test : ℕ → Bool) (mark : Event → Bool) (history : List Event) (e : Event) → mark e ≡ false
    → count_by (λ x. test x.actor && mark x) (history ++ e ∷ []) ≡ count_by (λ x. test x.actor && mark x) history
uncounted test mark history e none =
    let more = count-snoc (λ x. test x.actor && mark x) history e in
    let zero_ = ap {B = ℕ} (λ b. cond b 1 0) (and_none (test e.actor) (mark e) none) in omega (arith, more, zero_)

-- an event that is counted where its actor passes the test
counted : (test : ℕ → Bool) (mark : Event → Bool) (history : List Event) (e : Event) → mark e ≡ true
    → count_by (λ x. test x.actor && mark x) (history ++ e ∷ []) ≡ count_by
    (λ x. test x.actor && mark x) history + cond (test e.actor) 1 0
counted test mark history e is =
    let more = count-snoc (λ x. test x.actor && mark x) history e in
    let one = ap {B = ℕ} (λ b. cond b 1 0) (and_some (test e.actor) (mark e) is) in omega (arith, more, one)

-- an event about other keys changes nothing of this one
own_kept : (test : ℕ → Bool) (key : Key) (history : List Event) (e : Event) (cell : Cell) → PassesOver key e.act
    → Own test key history cell
    → Own test key (history ++ e ∷ []) cell
own_kept test key history e (Idle fails') passes own =
    let b = uncounted test (λ x. begins key x.act) history e passes.no_begin in
    let f = uncounted test (λ x. fails key x.act) history e passes.no_fail in
    omega (arith, b, f, own)
own_kept test key history e (Flying number by fails') passes own =
    let b = uncounted test (λ x. begins key x.act) history e passes.no_begin in
    let f = uncounted test (λ x. fails key x.act) history e passes.no_fail in
    omega (arith, b, f, own)
own_kept test key history e (Ready place) passes own =
    let b = uncounted test (λ x. begins key x.act) history e passes.no_begin in
    let f = uncounted test (λ x. fails key x.act) history e passes.no_fail in
    omega (arith, b, f, own)

-- a cell that the history tells, and what it says of some of the actors
abbrev Told : (ℕ → Bool) → Key → List Event → Type 0
Told test key history = (cell : Cell) × IsCell key history cell × Own test key history cell

-- an event about other keys keeps what is told
passed : (test : ℕ → Bool) (key : Key) (history : List Event) (e : Event) → PassesOver key e.act → Told test key history
    → Told test key (history ++ e ∷ [])
passed test key history e passes told =
    (told.0, cell_kept key history e told.0 passes told.1, own_kept test key history e told.0 passes told.2)

-- one or none
at_most : (b : Bool) → cond b 1 0 ≤ 1
at_most true = omega arith
at_most false = omega arith

-- an idle key that is begun
begun_one : (test : ℕ → Bool) (key : Key) (history : List Event) (e : Event) (fails' : ℕ) → IsBeginning key e.act
    → begins key e.act ≡ true
    → fails key e.act ≡ false → IsIdle key history fails' → Own test key history (Idle fails') → Told test key (history ++ e ∷ [])
begun_one test key history e fails' begin is isnt idle own =
    let b = counted test (λ x. begins key x.act) history e is in let f = uncounted test (λ x. fails key x.act) history e isnt in
    (Flying (length history) e.actor fails', cell_begun key history e fails' (length history) begin refl idle, omega (arith, b, f, own))

-- the same, by what is told
begun_step : (test : ℕ → Bool) (sessions workers : ℕ) (key : Key) (history : List Event) (e : Event)
    → IsAllowed sessions workers history e.actor e.act
    → IsBeginning key e.act → begins key e.act ≡ true → fails key e.act ≡ false → Told test key history
    → Told test key (history ++ e ∷ [])
begun_step test sessions workers key history e may begin is isnt told =
    let idle = idle_before sessions workers history key told.0 e.actor e.act may begin told.1 in
    begun_one test key history e idle.0 begin is isnt (subst (IsCell key history) idle.1 told.1) (subst (Own test key history) idle.1 told.2)

-- a key that lands
landed_step : (test : ℕ → Bool) (key : Key) (history : List Event) (actor : ℕ) (reply : Reply) → flyer key history ≡ Some actor
    → Told test key history → Told test key (history ++ event actor (Land key reply) ∷ [])
landed_step test key history actor reply who told =
    let e : Event = event actor (Land key reply) in
    let at = flyer_cell key history told.0 actor told.1 who in
    let own : Own test key history (Flying at.0 actor at.1) = subst (Own test key history) at.2 told.2 in
    let b = uncounted test (λ x. begins key x.act) history e refl in
    let f = uncounted test (λ x. fails key x.act) history e refl in
    let most = at_most (test actor) in (
      Ready (length history),
      cell_landed key history actor at.0 actor at.1 (length history) reply refl (subst (IsCell key history) at.2 told.1),
      omega (arith, b, f, own, most),
    )

-- a key that fails
failed_step : (test : ℕ → Bool) (key : Key) (history : List Event) (actor : ℕ) (why : Why) → flyer key history ≡ Some actor
    → Told test key history → Told test key (history ++ event actor (Fail key why) ∷ [])
failed_step test key history actor why who told =
    let e : Event = event actor (Fail key why) in
    let at = flyer_cell key history told.0 actor told.1 who in
    let own : Own test key history (Flying at.0 actor at.1) = subst (Own test key history) at.2 told.2 in
    let b = uncounted test (λ x. begins key x.act) history e refl in
    let f = counted test (λ x. fails key x.act) history e (key_itself key) in
    (Idle (at.1 + 1), cell_failed key history actor at.0 actor at.1 why (subst (IsCell key history) at.2 told.1), omega (arith, b, f, own))

-- after an event about this key, or another
step_by : (test : ℕ → Bool) (sessions workers : ℕ) (key other : Key) (history : List Event) (actor : ℕ) (act : Act) (same : Bool)
    → key_eq other key ≡ same → IsAllowed sessions workers history actor act → IsBeginning other act
    → begins key act ≡ key_eq other key → fails key act ≡ false
    → Told test key history → Told test key (history ++ event actor act ∷ [])
step_by test sessions workers key other history actor act true is may begin begins_ isnt told =
    begun_step test sessions workers key history (event actor act) may (subst
    (λ k. IsBeginning k act) (one_key other key is) begin) (begins_ ∙ is) isnt told
step_by test sessions workers key other history actor act false is may begin begins_ isnt told =
    passed test key history (event actor act) (passes_beginning other key act begin is) told

-- after a landing of this key, or another
land_by : (test : ℕ → Bool) (key other : Key) (history : List Event) (actor : ℕ) (reply : Reply) (same : Bool)
    → key_eq other key ≡ same
    → flyer other history ≡ Some actor → Told test key history → Told test key (history ++ event actor (Land other reply) ∷ [])
land_by test key other history actor reply true is who told =
    let one = one_key other key is in
    subst (λ k. Told test key (history ++ event actor (Land k reply) ∷ [])) (sym one)
    (landed_step test key history actor reply (ap (λ k. flyer k history) (sym one) ∙ who) told)
land_by test key other history actor reply false is who told =
    passed test key history (event actor (Land other reply)) (passes_land other key reply is) told

-- after a failure of this key, or another
fail_by : (test : ℕ → Bool) (key other : Key) (history : List Event) (actor : ℕ) (why : Why) (same : Bool)
    → key_eq other key ≡ same
    → flyer other history ≡ Some actor → Told test key history → Told test key (history ++ event actor (Fail other why) ∷ [])
fail_by test key other history actor why true is who told =
    let one = one_key other key is in
    subst (λ k. Told test key (history ++ event actor (Fail k why) ∷ [])) (sym one)
    (failed_step test key history actor why (ap (λ k. flyer k history) (sym one) ∙ who) told)
fail_by test key other history actor why false is who told =
    passed test key history (event actor (Fail other why)) (passes_fail other key why is) told

-- after one event that is allowed
told_step : (test : ℕ → Bool) (sessions workers : ℕ) (key : Key) (history : List Event) (actor : ℕ) (act : Act)
    → IsAllowed sessions workers history actor act
    → Told test key history → Told test key (history ++ event actor act ∷ [])
told_step test sessions workers key history actor (Ask other (ask.Cancelled by)) may told =
    passed test key history _ (passes_quiet key (Ask other (ask.Cancelled by)) tt) told
told_step test sessions workers key history actor (Ask other (ask.Have reply)) may told =
    passed test key history _ (passes_quiet key (Ask other (ask.Have reply)) tt) told
told_step test sessions workers key history actor (Ask other ask.Fetch) may told =
    step_by test sessions workers key other history actor (Ask other ask.Fetch) (key_eq other key) refl may refl refl refl told
told_step test sessions workers key history actor (Claim claim.Closed) may told =
    passed test key history _ (passes_quiet key (Claim claim.Closed) tt) told
told_step test sessions workers key history actor (Claim (claim.Fetch other)) may told =
    step_by test sessions workers key other history actor (Claim (claim.Fetch other)) (key_eq other key) refl may refl refl refl told
told_step test sessions workers key history actor (Land other reply) may told =
    land_by test key other history actor reply (key_eq other key) refl may told
told_step test sessions workers key history actor (Fail other why) may told =
    fail_by test key other history actor why (key_eq other key) refl may told
told_step test sessions workers key history actor (Hint keys) may told = passed test key history _ (passes_hint key keys) told
told_step test sessions workers key history actor Cancel may told = passed test key history _ (passes_cancel key) told
told_step test sessions workers key history actor End may told = passed test key history _ (passes_end key) told

-- after all events of a legal history
told_from : (test : ℕ → Bool) (sessions workers : ℕ) (key : Key) (before more : List Event)
    → IsLegal sessions workers (before ++ more)
    → Told test key before → Told test key (before ++ more)
told_from test sessions workers key before [] legal told = subst (Told test key) (sym (append-nil before)) told
told_from test sessions workers key before (e ∷ es) legal told =
    let same = append_assoc before (e ∷ []) es in
    subst (Told test key) same
    (told_from test sessions workers key (before ++ e ∷ []) es (subst (IsLegal sessions workers) (sym same) legal)
    (told_step test sessions workers key before e.actor e.act (legal before es e refl) told))

-- each key of a legal history has a cell
pub told : (test : ℕ → Bool) (sessions workers : ℕ) (key : Key) (history : List Event) → IsLegal sessions workers history
    → Told test key history
told test sessions workers key history legal = told_from test sessions workers key [] history legal (Idle 0, new_cell key, refl)

-- all actors
abbrev pub anybody : ℕ → Bool
anybody actor = true

-- ---- the laws

-- the balance, by the key's cell
balance_by : (key : Key) (history : List Event) (cell : Cell) → IsCell key history cell
    → begun key history ≡ failed key history + cond (flies key history || is_some (map.get (landed history) key)) 1 0
balance_by key history (Idle fails') is =
    let none = ap {B = ℕ}
    (λ c. cond c 1 0) (ap₂ (λ (a b : Bool). a || b) (idle_rests key history fails' is) (ap is_some is.not_landed)) in
    let b = is.were_begun in let f = is.have_failed in omega (arith, none, b, f)
balance_by key history (Flying number by fails') is =
    let one = ap {B = ℕ}
    (λ c. cond c 1 0) (ap₂
    (λ (a b : Bool). a || b) (open_flies key history number by fails' is) (ap is_some is.not_landed)) in
    let b = is.were_begun in let f = is.have_failed in omega (arith, one, b, f)
balance_by key history (Ready place) is =
    let one = ap {B = ℕ}
    (λ c. cond c 1 0) (ap₂ (λ (a b : Bool). a || b) (ready_rests key history place is) (ap is_some is.has_landed)) in
    let b = is.were_begun in omega (arith, one, b)

-- a key was begun as often as it failed, and once more where it flies or has landed
pub balance : (sessions workers : ℕ) (history : List Event) (key : Key) → IsLegal sessions workers history
    → begun key history ≡ failed key history + cond (flies key history || is_some (map.get (landed history) key)) 1 0
balance sessions workers history key legal =
    let t = told anybody sessions workers key history legal in balance_by key history t.0 t.1

-- how often a key landed, by its cell
once_by : (key : Key) (history : List Event) (cell : Cell) → IsCell key history cell → landings key history ≤ 1
once_by key history (Idle fails') is = let l = is.no_landings in omega (arith, l)
once_by key history (Flying number by fails') is = let l = is.no_landings in omega (arith, l)
once_by key history (Ready place) is = let l = is.one_landing in omega (arith, l)

-- a key lands once at most
pub lands_once : (sessions workers : ℕ) (history : List Event) (key : Key) → IsLegal sessions workers history
    → landings key history ≤ 1
lands_once sessions workers history key legal =
    let t = told anybody sessions workers key history legal in once_by key history t.0 t.1

-- what flies has not landed, by its cell
new_by : (key : Key) (history : List Event) (cell : Cell) → IsCell key history cell → flies key history ≡ true
    → map.get (landed history) key ≡ None
new_by key history (Idle fails') is flying = is.not_landed
new_by key history (Flying number by fails') is flying = is.not_landed
new_by key history (Ready place) is flying = not_both (flies key history) flying (ready_rests key history place is)

-- what flies has not landed
pub flying_is_new : (sessions workers : ℕ) (history : List Event) (key : Key) → IsLegal sessions workers history
    → flies key history ≡ true
    → map.get (landed history) key ≡ None
flying_is_new sessions workers history key legal flying =
    let t = told anybody sessions workers key history legal in new_by key history t.0 t.1 flying

-- a failure is by the link or for want of memory
either_way : (test : Bool) (key : Key) (act : Act)
    → cond (test && fails key act) 1 0 ≡ cond (test && breaks key act) 1 0 + cond (test && lacks key act) 1 0
either_way true key (Fail other Link) = omega arith
either_way true key (Fail other Memory) = omega arith
either_way true key act = refl
either_way false key act = refl

-- a count, by its first event
count-cons : (mark : Event → Bool) (e : Event) (es : List Event) → count_by mark (e ∷ es) ≡ cond (mark e) 1 0 + count_by mark es
count-cons mark e es = let both = sum_by-append (λ x. cond (mark x) 1 0) (e ∷ []) es in omega (arith, both)

-- a flight fails by the link or for want of memory
pub failed_either : (test : ℕ → Bool) (key : Key) (history : List Event)
    → failed_by test key history ≡ broken_by test key history + lacked_by test key history
failed_either test key [] = refl
failed_either test key (e ∷ es) =
    let rest = failed_either test key es in let here = either_way (test e.actor) key e.act in
    let f = count-cons (λ x. test x.actor && fails key x.act) e es in
    let b = count-cons (λ x. test x.actor && breaks key x.act) e es in
    let l = count-cons (λ x. test x.actor && lacks key x.act) e es in omega (arith, rest, here, f, b, l)

-- how often some of the actors began a key, by its cell
own_most : (test : ℕ → Bool) (key : Key) (history : List Event) (cell : Cell) → Own test key history cell
    → begun_by test key history ≤ 1 + failed_by test key history
own_most test key history (Idle fails') own = omega (arith, own)
own_most test key history (Flying number by fails') own = let most = at_most (test by) in omega (arith, own, most)
own_most test key history (Ready place) own = omega (arith, own)

-- some of the actors begin a key at most once more than they fail it
pub begun_by_most : (test : ℕ → Bool) (sessions workers : ℕ) (history : List Event) (key : Key) → IsLegal sessions workers history
    → begun_by test key history ≤ 1 + failed_by test key history
begun_by_most test sessions workers history key legal =
    let t = told test sessions workers key history legal in own_most test key history t.0 t.2

-- the same, by the reasons of the failures
pub begun_by_reasons : (test : ℕ → Bool) (sessions workers : ℕ) (history : List Event) (key : Key)
    → IsLegal sessions workers history
    → begun_by test key history ≤ 1 + broken_by test key history + lacked_by test key history
begun_by_reasons test sessions workers history key legal =
    let most = begun_by_most test sessions workers history key legal in
    let both = failed_either test key history in omega (arith, most, both)

-- a key is begun at most once more than its flights failed
pub begun_most : (sessions workers : ℕ) (history : List Event) (key : Key) → IsLegal sessions workers history
    → begun key history ≤ 1 + broken key history + lacked key history
begun_most sessions workers history key legal = begun_by_reasons anybody sessions workers history key legal

-- what is found first stays
stays_by : (found later : Option Reply) (rest : Option Reply) → later ≡ first found rest
    → IfSome found (λ reply. later ≡ Some reply)
stays_by None later rest is = tt
stays_by (Some reply) later rest is = is

-- what has landed stays
pub landed_stays : (history more : List Event) → Extends (landed (history ++ more)) (landed history)
landed_stays history more key =
    stays_by (map.get (landed history) key) _ (map.get (landed more) key) (landed-append key history more)

-- who was the first to cancel stays the first
pub canceller_stays : (history more : List Event) (by : ℕ) → canceller history ≡ Some by → canceller (history ++ more) ≡ Some by
canceller_stays history more by is = canceller-append history more ∙ ap (λ found. first found (canceller more)) is

-- a beginning of a legal history is legal
pub legal_before : (sessions workers : ℕ) (history more : List Event) → IsLegal sessions workers (history ++ more)
    → IsLegal sessions workers history
legal_before sessions workers history more legal before after e is =
    legal before (after ++ more) e (ap (λ h. h ++ more) is ∙ append_assoc before (e ∷ after) more)

-- the first of two that fail
or_first : (a b : Bool) → (a || b) ≡ false → a ≡ false
or_first true b is = not_both true refl is
or_first false b is = refl

-- the second of two that fail
or_second : (a b : Bool) → (a || b) ≡ false → b ≡ false
or_second true b is = not_both true refl is
or_second false b is = is

-- a test or none
or_none : (b : Bool) → (b || false) ≡ b
or_none true = refl
or_none false = refl

-- who does nothing does nothing of a kind
quiet_any : (actor : ℕ) (test : Act → Bool) (more : List Event) → has_acted actor more ≡ false
    → list_any (λ e. test e.act && e.actor == actor) more ≡ false
quiet_any actor test [] quiet = refl
quiet_any actor test (e ∷ es) quiet =
    ap₂ (λ (a b : Bool). a || b) (and_none (test e.act) (e.actor == actor) (or_first (e.actor == actor) _ quiet))
    (quiet_any actor test es (or_second (e.actor == actor) _ quiet))

-- what an actor has done of a kind stays while it does nothing
done_follows : (actor : ℕ) (test : Act → Bool) (history more : List Event) → has_acted actor more ≡ false
    → list_any (λ e. test e.act && e.actor == actor) (history ++ more) ≡ list_any (λ e. test e.act && e.actor == actor) history
done_follows actor test history more quiet =
    list_any-append (λ e. test e.act && e.actor == actor) history more
    ∙ ap (λ b. list_any (λ e. test e.act && e.actor == actor) history || b) (quiet_any actor test more quiet) ∙ or_none _

-- a session that does nothing stays one
pub session_follows : (sessions : ℕ) (history more : List Event) (actor : ℕ) → IsSession sessions history actor
    → has_acted actor more ≡ false
    → IsSession sessions (history ++ more) actor
session_follows sessions history more actor is quiet = (is.0, done_follows actor is_end history more quiet ∙ is.1)

-- who does nothing doesn't cancel
pub cancelled_follows : (history more : List Event) (actor : ℕ) → has_cancelled actor history ≡ false
    → has_acted actor more ≡ false
    → has_cancelled actor (history ++ more) ≡ false
cancelled_follows history more actor is quiet = done_follows actor is_cancel history more quiet ∙ is

-- ---- a flight stays while its actor does nothing

-- no open cell is idle
open_idle : (number by fails' fails'' : ℕ) {A : Type 0} → Flying number by fails' ≡ Idle fails'' → A
open_idle number by fails' fails'' is = absurd (cc)

-- another does not begin a key that flies
other_begins : (sessions workers : ℕ) (key other : Key) (history : List Event) (actor number by fails' : ℕ) (act : Act) (same : Bool) → key_eq other key ≡ same
    → IsAllowed sessions workers history actor act → IsBeginning other act → IsCell key history (Flying number by fails')
    → PassesOver key act
other_begins sessions workers key other history actor number by fails' act true is may begin cell =
    let idle = idle_before sessions workers history key (Flying number by fails') actor act may (subst
    (λ k. IsBeginning k act) (one_key other key is) begin) cell in
    open_idle number by fails' idle.0 idle.1
other_begins sessions workers key other history actor number by fails' act false is may begin cell =
    passes_beginning other key act begin is

-- a key has one flyer
other_flyer : (key other : Key) (history : List Event) (actor number by fails' : ℕ) → key_eq other key ≡ true
    → flyer other history ≡ Some actor
    → IsCell key history (Flying number by fails') → (actor == by) ≡ false → {A : Type 0} → A
other_flyer key other history actor number by fails' is who cell apart =
    let this : flyer key history ≡ Some by =
    ap (λ b. option_map (λ (found : ℕ × ℕ). found.1) (cond b (last_begin key history) None)) (open_flies key history number by fails' cell)
    ∙ ap (option_map (λ (found : ℕ × ℕ). found.1)) cell.last in
    let same : actor ≡ by = ap (λ o. actor_in o actor) (sym who ∙ ap (λ k. flyer k history) (one_key other key is) ∙ this) in
    not_both (actor == by) (eq-eqb actor by same) apart

-- another does not land a key that flies
other_lands : (key other : Key) (history : List Event) (actor number by fails' : ℕ) (reply : Reply) (same : Bool)
    → key_eq other key ≡ same
    → flyer other history ≡ Some actor → IsCell key history (Flying number by fails') → (actor == by) ≡ false
    → PassesOver key (Land other reply)
other_lands key other history actor number by fails' reply true is who cell apart =
    other_flyer key other history actor number by fails' is who cell apart
other_lands key other history actor number by fails' reply false is who cell apart = passes_land other key reply is

-- another does not fail a key that flies
other_fails : (key other : Key) (history : List Event) (actor number by fails' : ℕ) (why : Why) (same : Bool)
    → key_eq other key ≡ same
    → flyer other history ≡ Some actor → IsCell key history (Flying number by fails') → (actor == by) ≡ false
    → PassesOver key (Fail other why)
other_fails key other history actor number by fails' why true is who cell apart =
    other_flyer key other history actor number by fails' is who cell apart
other_fails key other history actor number by fails' why false is who cell apart = passes_fail other key why is

-- what another does passes over an open flight
passes_other : (sessions workers : ℕ) (key : Key) (history : List Event) (actor number by fails' : ℕ) (act : Act)
    → IsAllowed sessions workers history actor act
    → IsCell key history (Flying number by fails') → (actor == by) ≡ false → PassesOver key act
passes_other sessions workers key history actor number by fails' (Ask other (ask.Cancelled who)) may cell apart =
    passes_quiet key (Ask other (ask.Cancelled who)) tt
passes_other sessions workers key history actor number by fails' (Ask other (ask.Have reply)) may cell apart =
    passes_quiet key (Ask other (ask.Have reply)) tt
passes_other sessions workers key history actor number by fails' (Ask other ask.Fetch) may cell apart =
    other_begins sessions workers key other history actor number by fails' (Ask other ask.Fetch) (key_eq other key) refl may refl cell
passes_other sessions workers key history actor number by fails' (Claim claim.Closed) may cell apart =
    passes_quiet key (Claim claim.Closed) tt
passes_other sessions workers key history actor number by fails' (Claim (claim.Fetch other)) may cell apart =
    other_begins sessions workers key other history actor number by fails' (Claim (claim.Fetch other)) (key_eq other key) refl may refl cell
passes_other sessions workers key history actor number by fails' (Land other reply) may cell apart =
    other_lands key other history actor number by fails' reply (key_eq other key) refl may cell apart
passes_other sessions workers key history actor number by fails' (Fail other why) may cell apart =
    other_fails key other history actor number by fails' why (key_eq other key) refl may cell apart
passes_other sessions workers key history actor number by fails' (Hint keys) may cell apart = passes_hint key keys
passes_other sessions workers key history actor number by fails' Cancel may cell apart = passes_cancel key
passes_other sessions workers key history actor number by fails' End may cell apart = passes_end key

-- an open flight stays while its actor does nothing
open_from : (sessions workers : ℕ) (key : Key) (before more : List Event) (number by fails' : ℕ)
    → IsLegal sessions workers (before ++ more)
    → IsCell key before (Flying number by fails') → has_acted by more ≡ false
    → IsCell key (before ++ more) (Flying number by fails')
open_from sessions workers key before [] number by fails' legal cell quiet =
    subst (λ h. IsCell key h (Flying number by fails')) (sym (append-nil before)) cell
open_from sessions workers key before (e ∷ es) number by fails' legal cell quiet =
    let same = append_assoc before (e ∷ []) es in
    subst (λ h. IsCell key h (Flying number by fails')) same
    (open_from sessions workers key (before ++ e ∷ []) es number by fails' (subst (IsLegal sessions workers) (sym same) legal)
    (cell_kept key before e (Flying number by fails')
    (passes_other sessions workers key before e.actor number by fails' e.act (legal before es e refl) cell (or_first (e.actor == by) _ quiet)) cell)
    (or_second (e.actor == by) _ quiet))

-- a number, if there is one
abbrev number_of : Option (ℕ × ℕ) → ℕ → ℕ
number_of None other = other
number_of (Some pair) other = pair.0

-- a flyer, if there is one
abbrev by_of : Option (ℕ × ℕ) → ℕ → ℕ
by_of None other = other
by_of (Some pair) other = pair.1

-- the flight of an open cell
open_flight : (key : Key) (history : List Event) (number by fails' : ℕ) → IsCell key history (Flying number by fails')
    → flight key history ≡ Some (number, by)
open_flight key history number by fails' cell =
    ap (λ b. cond b (last_begin key history) None) (open_flies key history number by fails' cell) ∙ cell.last

-- who has a flight flies
some_flight : (key : Key) (history : List Event) (number by : ℕ) → flight key history ≡ Some (number, by)
    → flyer key history ≡ Some by
some_flight key history number by is = ap (option_map (λ (found : ℕ × ℕ). found.1)) is

-- a flight stays while its actor does nothing
pub flight_follows : (sessions workers : ℕ) (history more : List Event) (key : Key) (number by : ℕ)
    → IsLegal sessions workers (history ++ more)
    → flight key history ≡ Some (number, by) → has_acted by more ≡ false → flight key (history ++ more) ≡ Some (number, by)
flight_follows sessions workers history more key number by legal is quiet =
    let t = told anybody sessions workers key history (legal_before sessions workers history more legal) in
    let at = flyer_cell key history t.0 by t.1 (some_flight key history number by is) in
    let cell = subst (IsCell key history) at.2 t.1 in
    let same : at.0 ≡ number = ap (λ o. number_of o at.0) (sym (open_flight key history at.0 by at.1 cell) ∙ is) in
    open_flight key (history ++ more) at.0 by at.1 (open_from sessions workers key history more at.0 by at.1 legal cell quiet)
    ∙ ap (λ n. Some (n, by)) same

-- ---- answers are the only ones

-- who cancelled, in an answer
abbrev by_in : answer.AskAnswer → ℕ → ℕ
by_in (answer.Cancelled by) other = by
by_in given other = other

-- the reply of an answer
abbrev reply_in_answer : answer.AskAnswer → Reply → Reply
reply_in_answer (answer.Have reply) other = reply
reply_in_answer given other = other

-- the key of an answer
abbrev key_in_answer : answer.ClaimAnswer → Key → Key
key_in_answer (answer.Fetch key) other = key
key_in_answer given other = other

-- two answers to one ask are one, and so is what they leave
pub one_asked : (first_one second_one : Asked) (actor : ℕ) (key : Key) (old new other : Cache)
    → AskTells first_one actor key old new → AskTells second_one actor key old other
    → (first_one ≡ second_one) × (new ≡ other)
one_asked (asked.Cancelled a) (asked.Cancelled b) actor key old new other x y =
    let same : a ≡ b = ap (λ z. by_in z a) (sym x.0 ∙ y.0) in (
      ap asked.Cancelled same,
      x.1
          ∙ ap (λ z. record old { history = old.history ++ event actor (Ask key (ask.Cancelled z)) ∷ []; spare = old.spare + 0 }) same ∙ sym y.1,
    )
one_asked (asked.Have a) (asked.Have b) actor key old new other x y =
    let same : a ≡ b = ap (λ z. reply_in_answer z a) (sym x.0 ∙ y.0) in (
      ap asked.Have same,
      x.1
          ∙ ap (λ z. record old { history = old.history ++ event actor (Ask key (ask.Have z)) ∷ []; spare = old.spare + 0 }) same
          ∙ sym y.1,
    )
one_asked asked.Waiting asked.Waiting actor key old new other x y = (refl, x.1 ∙ sym y.1)
one_asked (asked.Fetch a) (asked.Fetch b) actor key old new other x y = (ap asked.Fetch (x.2 ∙ sym y.2), x.1 ∙ sym y.1)
one_asked first_one second_one actor key old new other x y = let wrong = sym x.0 ∙ y.0 in absurd (cc)

-- two answers to one claim are one, and so is what they leave
pub one_claimed : (first_one second_one : Claimed) (actor : ℕ) (old new other : Cache) → ClaimTells first_one actor old new
    → ClaimTells second_one actor old other
    → (first_one ≡ second_one) × (new ≡ other)
one_claimed claimed.Closed claimed.Closed actor old new other x y = (refl, x.1 ∙ sym y.1)
one_claimed (claimed.Fetch a s) (claimed.Fetch b t) actor old new other x y =
    let same : a ≡ b = ap (λ z. key_in_answer z a) (sym x.0 ∙ y.0) in (
      ap₂ claimed.Fetch same (x.2 ∙ ap (λ z. record { key = z; number = length old.history; actor = actor }) same ∙ sym y.2),
      x.1 ∙ ap (λ z. record old { history = old.history ++ event actor (Claim (claim.Fetch z)) ∷ []; spare = old.spare + 1 }) same ∙ sym y.1,
    )
one_claimed claimed.Nothing claimed.Nothing actor old new other x y = (refl, x.1 ∙ sym y.1)
one_claimed first_one second_one actor old new other x y = let wrong = sym x.0 ∙ y.0 in absurd (cc)
