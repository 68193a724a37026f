-- What lands is of the book, where the links tell it.
use Rattle.std.proofs.Common.{◌≡◌, ℕ, zero, suc, ◌+◌, ◌<◌, ◌≤◌, Bool, true, false, cond, List, [], ◌∷◌, drop, length, take, Option, Some, None, refl, sym, ap, ◌∙◌, subst, arith, ltb-true, ltb-false}
use Rattle.std.proofs.lemmas.List.Elements.{All-cons, All-drop, All-head, All-nil, All-tail, All-take}
use Rattle.std.specs.FinMap as map
use Rattle.std.specs.List.{All}
use Rattle.std.specs.Prelude.{nat_lt}
use Rattle.pub_term.specs.declared.cause.Cause.{Cause}
use Rattle.spm_api.specs.Endpoint.{IsBookReply}
use Rattle.spm_api.specs.declared.base.Base.{Base}
use Rattle.spm_cache_core.specs.Cache.{Cache}
use Rattle.spm_cache_core.specs.History.{landed, lands}
use Rattle.spm_cache_core.specs.declared.event.Act.{Act}
use Rattle.spm_cache_core.specs.declared.event.Act.TheVariants.{Ask, Cancel, Claim, End, Fail, Hint, Land}
use Rattle.spm_cache_core.specs.declared.event.Event.{Event}
use Rattle.spm_cache_core.specs.declared.event.Why.TheVariants as why
use Rattle.spm_cache_core.proofs.HistoryLemmas.{first, get-with_landing}
use Rattle.spm_cache_core.proofs.KeyLemmas.{one_key}
use Rattle.spm_flight.specs.Work.{Leaves, Works}
use Rattle.spm_key.specs.KeyLaws.{key_cmp, key_eq}
use Rattle.spm_key.specs.declared.key.Key.{Key}
use Rattle.spm_key.specs.declared.reply.Reply.{Reply}
use Rattle.spm_outside.specs.Book.{Pages}
use Rattle.spm_outside.specs.Link.{LinkState}
use Rattle.spm_session.specs.Archives.{Fingerprints}
use Rattle.spm_session.specs.declared.job.RootJob.{RootJob}
use Rattle.spm_session.specs.declared.outcome.Outcome.{Outcome}
use Rattle.spm_run.specs.Run.{AreSessions, AreWorkers, IsRunOf, Setting, acts_of, setting_of}
use Rattle.spm_run.proofs.PartLemmas.{this_or_next}
use Rattle.spm_run.proofs.QuietLemmas.{all_of}

-- one thing that is there
some_same : {X : Type 0} (x y : X) → Some x ≡ Some y → x ≡ y
some_same {X} x y same = ap (λ (o : Option X). found_or x o) same
  where
    found_or : X → Option X → X
    found_or other None = other
    found_or other (Some it) = it

module _ (base : Base) (book : Option Pages) where
  -- what the act lands is of the book
  abbrev pub LandsOf : Act → Type 0
  LandsOf (Land key reply) = IsBookReply base book key reply
  LandsOf act = Unit {0}

  abbrev pub lands_of : Event → Type 0
  lands_of e = LandsOf e.act

  -- an act leaves the book as it is, and what it lands is of that
  leaves_book : (act : Act) (old new : LinkState) → Leaves base act old new → old.book ≡ book → LandsOf act × (new.book ≡ book)
  leaves_book (Land key reply) old new leaves is =
      (subst (λ (b : Option Pages). IsBookReply base b key reply) is leaves.1.reply_is, leaves.1.book ∙ is)
  leaves_book (Fail key why.Link) old new leaves is = (tt, leaves.1.book ∙ is)
  leaves_book (Fail key why.Memory) old new leaves is = (tt, leaves.1.book ∙ is)
  leaves_book (Ask key note) old new leaves is = (tt, ap (λ (link : LinkState). link.book) leaves ∙ is)
  leaves_book (Claim note) old new leaves is = (tt, ap (λ (link : LinkState). link.book) leaves ∙ is)
  leaves_book (Hint keys) old new leaves is = (tt, ap (λ (link : LinkState). link.book) leaves ∙ is)
  leaves_book Cancel old new leaves is = (tt, ap (λ (link : LinkState). link.book) leaves ∙ is)
  leaves_book End old new leaves is = (tt, ap (λ (link : LinkState). link.book) leaves ∙ is)

  works_book : (added : List Event) (old new : LinkState) → Works base added old new → old.book ≡ book → All lands_of added × (new.book ≡ book)
  works_book [] old new works is = (All-nil lands_of, ap (λ (link : LinkState). link.book) works ∙ is)
  works_book (e ∷ es) old new works is =
      let first_ = leaves_book e.act old works.0 works.1 is in
      let rest = works_book es works.0 new works.2 first_.1 in
      (All-cons lands_of e es first_.0 rest.0, rest.1)

  -- what has landed is of the book
  pub landed_of : (history : List Event) → All lands_of history → (key : Key) (reply : Reply) → map.get (landed history) key ≡ Some reply
      → IsBookReply base book key reply
  landed_of [] all key reply has = let e = sym (map.get-empty key_cmp key) ∙ has in absurd (cc)
  landed_of (e ∷ es) all key reply has =
      go (landed_of es (All-tail lands_of e es all) key reply) e.act (All-head lands_of e es all) (sym (get-with_landing key e.act (landed es)) ∙ has)
    where
      Before : Type 0
      Before = map.get (landed es) key ≡ Some reply → IsBookReply base book key reply

      here : Before → (other : Key) (landing : Reply) (same : Bool) → key_eq other key ≡ same → IsBookReply base book other landing
          → first (cond same (Some landing) None) (map.get (landed es) key) ≡ Some reply → IsBookReply base book key reply
      here before other landing true is of found =
          subst (IsBookReply base book key) (some_same landing reply found) (subst (λ (k : Key). IsBookReply base book k landing) (one_key other key is) of)
      here before other landing false is of found = before found

      go : Before → (act : Act) → LandsOf act → first (lands key act) (map.get (landed es) key) ≡ Some reply → IsBookReply base book key reply
      go before (Land other landing) of found = here before other landing (key_eq other key) refl of found
      go before (Ask asked note) of found = before found
      go before (Claim note) of found = before found
      go before (Fail asked reason) of found = before found
      go before (Hint keys) of found = before found
      go before Cancel of found = before found
      go before End of found = before found

module _ {L : Type 0} (state : L → LinkState) (setting : Setting) (book : Option Pages) where
  -- the links tell this book
  abbrev pub AreBooks : List L → Type 0
  AreBooks links = All (λ (link : L). (state link).book ≡ book) links

  pub sessions_book : (actor : ℕ) (jobs : List RootJob) (its : List Outcome) (old new : List L) → AreSessions state setting actor jobs its old new
      → AreBooks old → ((other : ℕ) → actor ≤ other → other < actor + length jobs → All (lands_of setting.base book) (acts_of other setting.history)) × AreBooks new
  sessions_book actor [] [] old new are books =
      (λ other from below. absurd (omega (arith, from, below)), subst AreBooks (sym are) books)
  sessions_book actor [] (it ∷ its) old new are books = absurd are
  sessions_book actor (job ∷ jobs) [] old new are books = absurd are
  sessions_book actor (job ∷ jobs) (it ∷ its) [] new are books = absurd are
  sessions_book actor (job ∷ jobs) (it ∷ its) (link ∷ old) [] are books = absurd are
  sessions_book actor (job ∷ jobs) (it ∷ its) (link ∷ old) (then ∷ new) are books =
      let this = works_book setting.base book (acts_of actor setting.history) (state link) (state then) are.0.works
      (All-head (λ (l : L). (state l).book ≡ book) link old books) in
      let rest = sessions_book (suc actor) jobs its old new are.1 (All-tail (λ (l : L). (state l).book ≡ book) link old books) in (
        λ other from below.
            this_or_next actor other (All (lands_of setting.base book) (acts_of other setting.history)) from
            (λ same. subst (λ (a : ℕ). All (lands_of setting.base book) (acts_of a setting.history)) same this.0)
            (λ past. rest.0 other past (omega (arith, below))),
        All-cons (λ (l : L). (state l).book ≡ book) then new this.1 rest.1,
      )

  pub workers_book : (actor count : ℕ) (old new : List L) → AreWorkers state setting actor count old new
      → AreBooks old → ((other : ℕ) → actor ≤ other → other < actor + count → All (lands_of setting.base book) (acts_of other setting.history)) × AreBooks new
  workers_book actor zero old new are books =
      (λ other from below. absurd (omega (arith, from, below)), subst AreBooks (sym are) books)
  workers_book actor (suc count) [] new are books = absurd are
  workers_book actor (suc count) (link ∷ old) [] are books = absurd are
  workers_book actor (suc count) (link ∷ old) (then ∷ new) are books =
      let this = works_book setting.base book (acts_of actor setting.history) (state link) (state then) are.0.works
      (All-head (λ (l : L). (state l).book ≡ book) link old books) in
      let rest = workers_book (suc actor) count old new are.1 (All-tail (λ (l : L). (state l).book ≡ book) link old books) in (
        λ other from below.
            this_or_next actor other (All (lands_of setting.base book) (acts_of other setting.history)) from
            (λ same. subst (λ (a : ℕ). All (lands_of setting.base book) (acts_of a setting.history)) same this.0)
            (λ past. rest.0 other past (omega (arith, below))),
        All-cons (λ (l : L). (state l).book ≡ book) then new this.1 rest.1,
      )

-- what landed in a run is of the book
pub run_lands : {L : Type 0} (state : L → LinkState) (same : Cause → Cause → Bool) (base : Base) (fingerprints : Fingerprints) (workers : ℕ)
    (jobs : List RootJob) (old new : List L) (outcomes : List Outcome) (cache : Cache) (book : Option Pages)
    → IsRunOf state same base fingerprints workers jobs old new outcomes cache → All (λ (link : L). (state link).book ≡ book) old
    → (key : Key) (reply : Reply) → map.get (landed cache.history) key ≡ Some reply → IsBookReply base book key reply
run_lands {L} state same base fingerprints workers jobs old new outcomes cache book run books =
    landed_of base book cache.history (all_of (lands_of base book) (length jobs + workers) cache.history run.actors each)
  where
    sessions : (actor : ℕ) → 0 ≤ actor → actor < 0 + length jobs → All (lands_of base book) (acts_of actor cache.history)
    sessions = (sessions_book state (setting_of same base fingerprints workers cache.history) book 0 jobs outcomes (take 64 old) (take 64 new) run.sessions
        (All-take (λ (l : L). (state l).book ≡ book) 64 old books)).0

    crew : (actor : ℕ) → length jobs ≤ actor → actor < length jobs + workers → All (lands_of base book) (acts_of actor cache.history)
    crew = (workers_book state (setting_of same base fingerprints workers cache.history) book (length jobs) workers (drop 64 old) (drop 64 new) run.crew
        (All-drop (λ (l : L). (state l).book ≡ book) 64 old books)).0

    each : (actor : ℕ) → actor < length jobs + workers → All (lands_of base book) (acts_of actor cache.history)
    each actor few = go (nat_lt actor (length jobs)) refl
      where
        go : (b : Bool) → nat_lt actor (length jobs) ≡ b → All (lands_of base book) (acts_of actor cache.history)
        go true is = let l = ltb-true actor (length jobs) is in sessions actor (omega (arith)) (omega (arith, l))
        go false is = crew actor (ltb-false actor (length jobs) is) few
