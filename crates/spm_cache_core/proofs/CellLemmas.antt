-- What an event does to a key's cell.
use Rattle.std.proofs.Common.{◌≡◌, ℕ, ◌+◌, ◌*◌, ◌<◌, ◌≤◌, Bool, true, false, cond, ◌||◌, List, [], ◌∷◌, ◌++◌, length, Option, Some, None, sym, refl, ap, ap₂, ◌∙◌, arith}
use Rattle.std.proofs.lemmas.List.Sums.{sum_by-append}
use Rattle.std.specs.FinMap as map
use Rattle.std.specs.List.{count_by, list_any, slice_get}
use Rattle.std.specs.Prelude.{is_some, nat_lt, option_map}
use Rattle.spm_cell.specs.declared.cell.Cell.{Cell}
use Rattle.spm_cell.specs.declared.cell.Cell.TheVariants.{Flying, Idle, Ready}
use Rattle.spm_key.specs.KeyLaws.{key_eq}
use Rattle.spm_key.specs.declared.key.Key.{Key}
use Rattle.spm_key.specs.declared.reply.Reply.{Reply}
use Rattle.spm_cache_core.specs.Cells.{was_begun}
use Rattle.spm_cache_core.specs.Hints.{is_among_keys, is_begun}
use Rattle.spm_cache_core.specs.History.{begins, event, failed, fails, flies, flight, flyer, landed, lands, last_begin}
use Rattle.spm_cache_core.specs.State.{IsBeginning, IsCell, IsIdle, IsOpen, IsQuiet, IsReady, flights, flights_after}
use Rattle.spm_cache_core.specs.declared.event.Act.{Act}
use Rattle.spm_cache_core.specs.declared.event.Act.TheVariants.{Ask, Claim, Land, Fail, Hint, Cancel, End}
use Rattle.spm_cache_core.specs.declared.event.AskNote.TheVariants as ask
use Rattle.spm_cache_core.specs.declared.event.ClaimNote.TheVariants as claim
use Rattle.spm_cache_core.specs.declared.event.Event.{Event}
use Rattle.spm_cache_core.specs.declared.event.Why.{Why}
use Rattle.spm_cache_core.proofs.HistoryLemmas.{count-snoc, first, first_none, flights-snoc, get-kept, get-snoc, landed-snoc, last_begin-snoc}
use Rattle.spm_cache_core.proofs.KeyLemmas.{key_itself, not_both, without_itself, without_other}

-- the act is about other keys
pub record PassesOver (key : Key) (act : Act) : Type 0 where
  pub no_begin : begins key act ≡ false
  pub no_fail : fails key act ≡ false
  pub no_land : lands key act ≡ None
  pub as_open : (keys : List Key) → is_among_keys (flights_after keys act) key ≡ is_among_keys keys key

-- an event that begins and ends nothing is about no key
pub passes_quiet : (key : Key) (act : Act) → IsQuiet act → PassesOver key act
passes_quiet key (Ask other (ask.Cancelled by)) is =
    record { no_begin = refl; no_fail = refl; no_land = refl; as_open = λ keys. refl }
passes_quiet key (Ask other (ask.Have reply)) is =
    record { no_begin = refl; no_fail = refl; no_land = refl; as_open = λ keys. refl }
passes_quiet key (Claim claim.Closed) is = record { no_begin = refl; no_fail = refl; no_land = refl; as_open = λ keys. refl }
passes_quiet key act is = absurd is

-- nor is a hint
pub passes_hint : (key : Key) (keys : List Key) → PassesOver key (Hint keys)
passes_hint key keys = record { no_begin = refl; no_fail = refl; no_land = refl; as_open = λ open_keys. refl }

-- nor is a cancel
pub passes_cancel : (key : Key) → PassesOver key Cancel
passes_cancel key = record { no_begin = refl; no_fail = refl; no_land = refl; as_open = λ keys. refl }

-- nor is an end
pub passes_end : (key : Key) → PassesOver key End
passes_end key = record { no_begin = refl; no_fail = refl; no_land = refl; as_open = λ keys. refl }

-- the begin of another key passes over this one
pub passes_beginning : (other key : Key) (act : Act) → IsBeginning other act → key_eq other key ≡ false → PassesOver key act
passes_beginning other key (Ask j ask.Fetch) is apart =
    let same : key_eq j key ≡ false = ap (λ k. key_eq k key) is ∙ apart in
    record { no_begin = same; no_fail = refl; no_land = refl; as_open = λ keys. ap (λ b. b || is_among_keys keys key) same }
passes_beginning other key (Claim (claim.Fetch j)) is apart =
    let same : key_eq j key ≡ false = ap (λ k. key_eq k key) is ∙ apart in
    record { no_begin = same; no_fail = refl; no_land = refl; as_open = λ keys. ap (λ b. b || is_among_keys keys key) same }
passes_beginning other key act is apart = absurd is

-- a reply for another key
no_landing : (b : Bool) (reply : Reply) → b ≡ false → cond b (Some reply) None ≡ None
no_landing b reply is = ap (λ c. cond c (Some reply) None) is

-- the landing of another key passes over this one
pub passes_land : (other key : Key) (reply : Reply) → key_eq other key ≡ false → PassesOver key (Land other reply)
passes_land other key reply apart =
    record { no_begin = refl; no_fail = refl; no_land = no_landing _ reply apart; as_open = λ keys. without_other other key keys apart }

-- the failure of another key passes over this one
pub passes_fail : (other key : Key) (why : Why) → key_eq other key ≡ false → PassesOver key (Fail other why)
passes_fail other key why apart =
    record { no_begin = refl; no_fail = apart; no_land = refl; as_open = λ keys. without_other other key keys apart }

-- a count that an event leaves
count_left : (test : Event → Bool) (history : List Event) (e : Event) (n : ℕ) → test e ≡ false → count_by test history ≡ n
    → count_by test (history ++ e ∷ []) ≡ n
count_left test history e n not_it is =
    let more = count-snoc test history e in let none = ap {B = ℕ} (λ b. cond b 1 0) not_it in omega (arith, more, none)

-- a count that an event raises
count_raised : (test : Event → Bool) (history : List Event) (e : Event) (n : ℕ) → test e ≡ true → count_by test history ≡ n
    → count_by test (history ++ e ∷ []) ≡ n + 1
count_raised test history e n is_it is =
    let more = count-snoc test history e in let one = ap {B = ℕ} (λ b. cond b 1 0) is_it in omega (arith, more, one)

-- what was found of a key where nothing lands for it
landed_left : (key : Key) (history : List Event) (e : Event) (found : Option Reply) → lands key e.act ≡ None
    → map.get (landed history) key ≡ found → map.get (landed (history ++ e ∷ [])) key ≡ found
landed_left key history e found none is =
    landed-snoc key history e ∙ ap (first (map.get (landed history) key)) none ∙ first_none (map.get (landed history) key) ∙ is

-- what was found of a key stays
landed_kept : (key : Key) (history : List Event) (e : Event) (reply : Reply) → map.get (landed history) key ≡ Some reply
    → map.get (landed (history ++ e ∷ [])) key ≡ Some reply
landed_kept key history e reply is = landed-snoc key history e ∙ ap (λ found. first found (lands key e.act)) is

-- whether a key is open where an event passes over it
open_left : (key : Key) (history : List Event) (e : Event) (is_open : Bool) → PassesOver key e.act
    → is_among_keys (flights history) key ≡ is_open → is_among_keys (flights (history ++ e ∷ [])) key ≡ is_open
open_left key history e is_open passes is =
    ap (λ keys. is_among_keys keys key) (flights-snoc history e) ∙ passes.as_open (flights history) ∙ is

-- the last begin where an event begins nothing for the key
last_left : (key : Key) (history : List Event) (e : Event) (last : Option (ℕ × ℕ)) → begins key e.act ≡ false
    → last_begin key history ≡ last
    → last_begin key (history ++ e ∷ []) ≡ last
last_left key history e last none is =
    last_begin-snoc key history e ∙ ap (λ b. cond b (Some (length history, e.actor)) (last_begin key history)) none ∙ is

-- an event about other keys leaves a cell what it was
pub cell_kept : (key : Key) (history : List Event) (e : Event) (cell : Cell) → PassesOver key e.act → IsCell key history cell
    → IsCell key (history ++ e ∷ []) cell
cell_kept key history e (Idle fails') passes is = record {
  were_begun = count_left _ history e _ passes.no_begin is.were_begun;
  have_failed = count_left _ history e _ passes.no_fail is.have_failed;
  no_landings = count_left _ history e _ (ap is_some passes.no_land) is.no_landings;
  not_landed = landed_left key history e None passes.no_land is.not_landed;
  not_open = open_left key history e false passes is.not_open;
}
cell_kept key history e (Flying number by fails') passes is = record {
  were_begun = count_left _ history e _ passes.no_begin is.were_begun;
  have_failed = count_left _ history e _ passes.no_fail is.have_failed;
  no_landings = count_left _ history e _ (ap is_some passes.no_land) is.no_landings;
  last = last_left key history e (Some (number, by)) passes.no_begin is.last;
  not_landed = landed_left key history e None passes.no_land is.not_landed;
  is_open = open_left key history e true passes is.is_open;
}
cell_kept key history e (Ready place) passes is = record {
  were_begun =
      count_left _ history e _ passes.no_begin is.were_begun
      ∙ ap (λ n. n + 1) (sym (count_left (λ x. fails key x.act) history e (failed key history) passes.no_fail refl));
  one_landing = count_left _ history e _ (ap is_some passes.no_land) is.one_landing;
  reply = is.reply;
  actor = is.actor;
  there = get-kept history (e ∷ []) place _ is.there;
  has_landed = landed_kept key history e is.reply is.has_landed;
  not_open = open_left key history e false passes is.not_open;
}

-- what an event that begins a flight of the key says
record Begins (key : Key) (act : Act) : Type 0 where
  begin : begins key act ≡ true
  no_fail : fails key act ≡ false
  no_land : lands key act ≡ None
  opens : (keys : List Key) → is_among_keys (flights_after keys act) key ≡ true

-- an event that begins a flight says so
beginning_begins : (key : Key) (act : Act) → IsBeginning key act → Begins key act
beginning_begins key (Ask j ask.Fetch) is =
    let same : key_eq j key ≡ true = ap (λ k. key_eq k key) is ∙ key_itself key in
    record { begin = same; no_fail = refl; no_land = refl; opens = λ keys. ap (λ b. b || is_among_keys keys key) same }
beginning_begins key (Claim (claim.Fetch j)) is =
    let same : key_eq j key ≡ true = ap (λ k. key_eq k key) is ∙ key_itself key in
    record { begin = same; no_fail = refl; no_land = refl; opens = λ keys. ap (λ b. b || is_among_keys keys key) same }
beginning_begins key act is = absurd is

-- an idle key flies after an event that begins a flight
pub cell_begun : (key : Key) (history : List Event) (e : Event) (fails' number : ℕ) → IsBeginning key e.act
    → number ≡ length history
    → IsIdle key history fails' → IsOpen key (history ++ e ∷ []) number e.actor fails'
cell_begun key history e fails' number begin at is = let it = beginning_begins key e.act begin in record {
  were_begun = count_raised _ history e _ it.begin is.were_begun;
  have_failed = count_left _ history e _ it.no_fail is.have_failed;
  no_landings = count_left _ history e _ (ap is_some it.no_land) is.no_landings;
  last =
      last_begin-snoc key history e
      ∙ ap (λ b. cond b (Some (length history, e.actor)) (last_begin key history)) it.begin
      ∙ ap (λ n. Some (n, e.actor)) (sym at);
  not_landed = landed_left key history e None it.no_land is.not_landed;
  is_open = ap (λ keys. is_among_keys keys key) (flights-snoc history e) ∙ it.opens (flights history);
}

-- a reply for this key
landing_of : (b : Bool) (reply : Reply) → b ≡ true → cond b (Some reply) None ≡ Some reply
landing_of b reply is = ap (λ c. cond c (Some reply) None) is

-- an open flight's reply has landed after the event that lands it
pub cell_landed : (key : Key) (history : List Event) (actor number by fails' place : ℕ) (reply : Reply) → place ≡ length history
    → IsOpen key history number by fails' → IsReady key (history ++ event actor (Land key reply) ∷ []) place
cell_landed key history actor number by fails' place reply at is =
    let e : Event = event actor (Land key reply) in
    let lands_it : lands key (Land key reply) ≡ Some reply = landing_of _ reply (key_itself key) in
    record {
      were_begun =
          count_left (λ x. begins key x.act) history e _ refl is.were_begun
          ∙ ap (λ n. n + 1) (sym (count_left (λ x. fails key x.act) history e _ refl is.have_failed));
      one_landing = count_raised (λ x. is_some (lands key x.act)) history e 0 (ap is_some lands_it) is.no_landings;
      reply = reply;
      actor = actor;
      there = ap (slice_get (history ++ e ∷ [])) at ∙ get-snoc history e;
      has_landed = landed-snoc key history e ∙ ap₂ first is.not_landed lands_it;
      not_open = ap (λ keys. is_among_keys keys key) (flights-snoc history e) ∙ without_itself key (flights history);
    }

-- a key is idle again after the event that says that its flight failed
pub cell_failed : (key : Key) (history : List Event) (actor number by fails' : ℕ) (why : Why)
    → IsOpen key history number by fails'
    → IsIdle key (history ++ event actor (Fail key why) ∷ []) (fails' + 1)
cell_failed key history actor number by fails' why is =
    let e : Event = event actor (Fail key why) in
    record {
      were_begun = count_left (λ x. begins key x.act) history e _ refl is.were_begun;
      have_failed = count_raised (λ x. fails key x.act) history e _ (key_itself key) is.have_failed;
      no_landings = count_left (λ x. is_some (lands key x.act)) history e _ refl is.no_landings;
      not_landed = landed_left key history e None refl is.not_landed;
      not_open = ap (λ keys. is_among_keys keys key) (flights-snoc history e) ∙ without_itself key (flights history);
    }

-- ---- what a cell tells

-- less, as a test
lt_true : (a b : ℕ) → a < b → nat_lt a b ≡ true
lt_true a b less = grind (arith, less)

-- not less, as a test
lt_false : (a b : ℕ) → b ≤ a → nat_lt a b ≡ false
lt_false a b most = grind (arith, most)

-- an idle key does not fly
pub idle_rests : (key : Key) (history : List Event) (fails' : ℕ) → IsIdle key history fails' → flies key history ≡ false
idle_rests key history fails' is = lt_false _ _ (let b = is.were_begun in let f = is.have_failed in omega (arith, b, f))

-- a key with an open flight flies
pub open_flies : (key : Key) (history : List Event) (number by fails' : ℕ) → IsOpen key history number by fails'
    → flies key history ≡ true
open_flies key history number by fails' is =
    lt_true _ _ (let b = is.were_begun in let f = is.have_failed in let l = is.no_landings in omega (arith, b, f, l))

-- a key that has landed does not fly
pub ready_rests : (key : Key) (history : List Event) (place : ℕ) → IsReady key history place → flies key history ≡ false
ready_rests key history place is = lt_false _ _ (let b = is.were_begun in let l = is.one_landing in omega (arith, b, l))

-- where a key flies, its cell says so, with the flight
pub flying_cell : (key : Key) (history : List Event) (cell : Cell) (number by : ℕ) → IsCell key history cell
    → flight key history ≡ Some (number, by) → (fails' : ℕ) × (cell ≡ Flying number by fails')
flying_cell key history (Idle fails') number by is at =
    let none : flight key history ≡ None = ap (λ b. cond b (last_begin key history) None) (idle_rests key history fails' is) in
    let wrong : Some (number, by) ≡ None = sym at ∙ none in absurd (cc)
flying_cell key history (Flying n a fails') number by is at =
    let this : flight key history ≡ Some (n, a) =
    ap (λ b. cond b (last_begin key history) None) (open_flies key history n a fails' is) ∙ is.last in
    let same : Some (n, a) ≡ Some (number, by) = sym this ∙ at in
    let numbers : n ≡ number = ap (λ o. number_in o n) same in
    let actors : a ≡ by = ap (λ o. actor_in o a) same in
    (fails', ap₂ (λ x y. Flying x y fails') numbers actors)
  where
    number_in : Option (ℕ × ℕ) → ℕ → ℕ
    number_in None other = other
    number_in (Some pair) other = pair.0

    actor_in : Option (ℕ × ℕ) → ℕ → ℕ
    actor_in None other = other
    actor_in (Some pair) other = pair.1
flying_cell key history (Ready place) number by is at =
    let none : flight key history ≡ None = ap (λ b. cond b (last_begin key history) None) (ready_rests key history place is) in
    let wrong : Some (number, by) ≡ None = sym at ∙ none in absurd (cc)

-- whoever flies has a flight
pub flyer-flight : (key : Key) (history : List Event) (number by : ℕ) → flight key history ≡ Some (number, by)
    → flyer key history ≡ Some by
flyer-flight key history number by at = ap (option_map (λ found. found.1)) at

-- ---- whether a key was begun

-- a count, by its first event
count-cons : (test : Event → Bool) (e : Event) (es : List Event) → count_by test (e ∷ es) ≡ cond (test e) 1 0 + count_by test es
count-cons test e es = let both = sum_by-append (λ x. cond (test x) 1 0) (e ∷ []) es in omega (arith, both)

-- a test and a count, by their first event
begun_step : (is rest : Bool) (n : ℕ) → rest ≡ nat_lt 0 n → (is || rest) ≡ nat_lt 0 (cond is 1 0 + n)
begun_step true rest n so = sym (lt_true 0 (1 + n) (omega arith))
begun_step false rest n so = so ∙ ap (nat_lt 0) (let same : n ≡ 0 + n = omega arith in same)

-- something passes a test exactly where the count is not 0
begun_any : (test : Event → Bool) (history : List Event) → list_any test history ≡ nat_lt 0 (count_by test history)
begun_any test [] = refl
begun_any test (e ∷ es) =
    begun_step (test e) (list_any test es) (count_by test es) (begun_any test es) ∙ ap (nat_lt 0) (sym (count-cons test e es))

-- a key's cell says whether it was begun
pub begun_cell : (key : Key) (history : List Event) (cell : Cell) → IsCell key history cell
    → is_begun key history ≡ was_begun cell
begun_cell key history (Idle fails') is = begun_any (λ e. begins key e.act) history ∙ ap (nat_lt 0) is.were_begun
begun_cell key history (Flying number by fails') is =
    begun_any (λ e. begins key e.act) history ∙ lt_true 0 _ (let b = is.were_begun in omega (arith, b))
begun_cell key history (Ready place) is =
    begun_any (λ e. begins key e.act) history ∙ lt_true 0 _ (let b = is.were_begun in omega (arith, b))

-- two marks that no event has both are at most as many as the events
two_tests : (p q : Event → Bool) (history : List Event) → ((e : Event) → cond (p e) 1 0 + cond (q e) 1 0 ≤ 1)
    → count_by p history + count_by q history ≤ length history
two_tests p q [] apart = omega arith
two_tests p q (e ∷ es) apart =
    let rest = two_tests p q es apart in let here = apart e in let one = count-cons p e es in let two = count-cons q e es in
    omega (arith, rest, here, one, two)

-- an act begins or fails a key, and not both
either_act : (key : Key) (act : Act) → cond (begins key act) 1 0 + cond (fails key act) 1 0 ≤ 1
either_act key act = elim_act (begins key act) (fails key act) (not_two key act)
  where
    elim_act : (b f : Bool) → (b ≡ true → f ≡ false) → cond b 1 0 + cond f 1 0 ≤ 1
    elim_act true true apart = not_both true refl (apart refl)
    elim_act true false apart = omega arith
    elim_act false true apart = omega arith
    elim_act false false apart = omega arith

    not_two : (k : Key) (act' : Act) → begins k act' ≡ true → fails k act' ≡ false
    not_two k (Fail j why) is = not_both false is refl
    not_two k act' is = refl

-- a flight's number of failures is below the length of the history
pub few_fails : (key : Key) (history : List Event) (number by fails' : ℕ) → IsOpen key history number by fails'
    → 2 * fails' + 1 ≤ length history
few_fails key history number by fails' is =
    let both = two_tests (λ e. begins key e.act) (λ e. fails key e.act) history (λ e. either_act key e.act) in
    let b = is.were_begun in let f = is.have_failed in omega (arith, both, b, f)
