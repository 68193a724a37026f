-- A run over all links, from that over those which it uses.
use Rattle.std.proofs.Common.{◌≡◌, ℕ, zero, suc, ◌+◌, ◌-◌, ◌≤◌, Bool, List, [], ◌∷◌, ◌++◌, drop, length, take, sym, ap, ap₂, ◌∙◌, subst, append_assoc, arith}
use Rattle.std.proofs.Math.Seq.{drop-append_seam, take-append_seam}
use Rattle.std.proofs.lemmas.List.{length-append, length-drop, length-take-le, take-append-drop}
use Rattle.pub_term.specs.declared.cause.Cause.{Cause}
use Rattle.spm_api.specs.declared.base.Base.{Base}
use Rattle.spm_cache_core.specs.Cache.{Cache}
use Rattle.spm_outside.specs.Link.{LinkState}
use Rattle.spm_session.specs.Archives.{Fingerprints}
use Rattle.spm_session.specs.declared.job.RootJob.{RootJob}
use Rattle.spm_session.specs.declared.outcome.Outcome.{Outcome}
use Rattle.spm_run.specs.Links.{turned}
use Rattle.spm_run.specs.Run.{AreSessions, AreWorkers, IsRunOf, IsUsedRun, Setting, setting_of}
use Rattle.spm_run.proofs.LinkLemmas.{AreParts, parts_of, turned_back, turned_is}

module _ {L : Type 0} (state : L → LinkState) (setting : Setting) where
  -- links behind those of the sessions
  sessions_behind : (actor : ℕ) (jobs : List RootJob) (its : List Outcome) (old new idle : List L) → AreSessions state setting actor jobs its old new
      → length old ≡ length jobs → length new ≡ length jobs → AreSessions state setting actor jobs its (old ++ idle) (new ++ idle)
  sessions_behind actor [] [] old new idle are as_many as_many_now = ap (λ (links : List L). links ++ idle) are
  sessions_behind actor [] (it ∷ its) old new idle are as_many as_many_now = absurd are
  sessions_behind actor (job ∷ jobs) [] old new idle are as_many as_many_now = absurd are
  sessions_behind actor (job ∷ jobs) (it ∷ its) [] new idle are as_many as_many_now = absurd are
  sessions_behind actor (job ∷ jobs) (it ∷ its) (link ∷ old) [] idle are as_many as_many_now = absurd are
  sessions_behind actor (job ∷ jobs) (it ∷ its) (link ∷ old) (then ∷ new) idle are as_many as_many_now =
      (are.0, sessions_behind (suc actor) jobs its old new idle are.1 (omega (arith, as_many)) (omega (arith, as_many_now)))

  workers_behind : (actor count : ℕ) (old new idle : List L) → AreWorkers state setting actor count old new → length old ≡ count → length new ≡ count
      → AreWorkers state setting actor count (old ++ idle) (new ++ idle)
  workers_behind actor zero old new idle are as_many as_many_now = ap (λ (links : List L). links ++ idle) are
  workers_behind actor (suc count) [] new idle are as_many as_many_now = absurd are
  workers_behind actor (suc count) (link ∷ old) [] idle are as_many as_many_now = absurd are
  workers_behind actor (suc count) (link ∷ old) (then ∷ new) idle are as_many as_many_now =
      (are.0, workers_behind (suc actor) count old new idle are.1 (omega (arith, as_many)) (omega (arith, as_many_now)))

-- two lists in one, of known lengths
apart : {X : Type 0} (xs ys zs ws : List X) → xs ++ ys ≡ zs ++ ws → length xs ≡ length zs → (xs ≡ zs) × (ys ≡ ws)
apart {X} xs ys zs ws same as_many = (
  sym (take-append_seam xs ys) ∙ ap₂ (λ (n : ℕ) (l : List X). take n l) as_many same ∙ take-append_seam zs ws,
  sym (drop-append_seam xs ys) ∙ ap₂ (λ (n : ℕ) (l : List X). drop n l) as_many same ∙ drop-append_seam zs ws,
)

take_of : {X : Type 0} (count : ℕ) (xs ys : List X) → length xs ≡ count → take count (xs ++ ys) ≡ xs
take_of {X} count xs ys is = ap (λ (n : ℕ). take n (xs ++ ys)) (sym is) ∙ take-append_seam xs ys

drop_of : {X : Type 0} (count : ℕ) (xs ys : List X) → length xs ≡ count → drop count (xs ++ ys) ≡ ys
drop_of {X} count xs ys is = ap (λ (n : ℕ). drop n (xs ++ ys)) (sym is) ∙ drop-append_seam xs ys

module _ {L : Type 0} (state : L → LinkState) (same : Cause → Cause → Bool) (base : Base) (fingerprints : Fingerprints) (workers : ℕ)
    (jobs : List RootJob) (outcomes : List Outcome) (cache : Cache) (old used idle links new : List L) (all : length old ≡ 80)
    (few : length jobs ≤ 64) (fewer : workers ≤ 16) (as_many : length used ≡ length jobs + workers) (as_many_now : length links ≡ length jobs + workers)
    (parted : turned (length jobs) 64 (64 + workers) old ≡ used ++ idle)
    (run : IsUsedRun state (setting_of same base fingerprints workers cache.history) workers jobs used links outcomes cache)
    (joined : new ≡ turned (length jobs) (length jobs + workers) (64 + workers) (links ++ idle)) where
  abbrev setting : Setting
  setting = setting_of same base fingerprints workers cache.history

  abbrev roots : ℕ
  roots = length jobs

  -- the four parts before
  abbrev first : List L
  first = take roots old

  abbrev behind : List L
  behind = take (64 - roots) (drop roots old)

  abbrev crew : List L
  crew = take workers (drop (64 - roots) (drop roots old))

  abbrev rest : List L
  rest = drop workers (drop (64 - roots) (drop roots old))

  parts : AreParts roots workers first behind crew rest old
  parts = parts_of roots workers old all few fewer

  regroup : first ++ ((crew ++ behind) ++ rest) ≡ (first ++ crew) ++ (behind ++ rest)
  regroup = ap (λ (l : List L). first ++ l) (append_assoc crew behind rest) ∙ sym (append_assoc first crew (behind ++ rest))

  split : (used ≡ first ++ crew) × (idle ≡ behind ++ rest)
  split =
      apart used idle (first ++ crew) (behind ++ rest)
      (sym parted ∙ turned_is roots workers first behind crew rest old parts ∙ regroup)
      (as_many ∙ sym (length-append first crew ∙ ap₂ (λ (m n : ℕ). m + n) parts.of_roots parts.of_workers))

  -- those that were used, afterwards
  abbrev first_now : List L
  first_now = take roots links

  abbrev crew_now : List L
  crew_now = drop roots links

  first_many : length first_now ≡ roots
  first_many = length-take-le roots links (omega (arith, as_many_now))

  crew_many : length crew_now ≡ workers
  crew_many = let l = length-drop roots links in omega (arith, l, as_many_now)

  now_is : new ≡ first_now ++ (behind ++ (crew_now ++ rest))
  now_is =
      joined
      ∙ ap (λ (l : List L). turned roots (roots + workers) (64 + workers) l)
      (ap₂ (λ (l m : List L). l ++ m) (sym (take-append-drop roots links)) split.1
      ∙ append_assoc first_now crew_now (behind ++ rest)
      ∙ ap (λ (l : List L). first_now ++ l) (sym (append_assoc crew_now behind rest)))
      ∙ turned_back roots workers first_now behind crew_now rest first_many parts.of_sessions crew_many

  sixty_four : (one : List L) → length one ≡ roots → length (one ++ behind) ≡ 64
  sixty_four one is =
      let both = length-append one behind in
      let whole = parts.of_sessions in
      omega (arith, both, is, whole)

  -- the links of the sessions, and those of the workers
  sessions_old : take 64 old ≡ first ++ behind
  sessions_old = ap (take 64) (parts.are ∙ sym (append_assoc first behind (crew ++ rest))) ∙ take_of 64 (first ++ behind) (crew ++ rest) (sixty_four first parts.of_roots)

  crew_old : drop 64 old ≡ crew ++ rest
  crew_old = ap (drop 64) (parts.are ∙ sym (append_assoc first behind (crew ++ rest))) ∙ drop_of 64 (first ++ behind) (crew ++ rest) (sixty_four first parts.of_roots)

  sessions_new : take 64 new ≡ first_now ++ behind
  sessions_new =
      ap (take 64) (now_is ∙ sym (append_assoc first_now behind (crew_now ++ rest)))
      ∙ take_of 64 (first_now ++ behind) (crew_now ++ rest) (sixty_four first_now first_many)

  crew_new : drop 64 new ≡ crew_now ++ rest
  crew_new =
      ap (drop 64) (now_is ∙ sym (append_assoc first_now behind (crew_now ++ rest)))
      ∙ drop_of 64 (first_now ++ behind) (crew_now ++ rest) (sixty_four first_now first_many)

  used_first : take roots used ≡ first
  used_first = ap (take roots) split.0 ∙ take_of roots first crew parts.of_roots

  used_crew : drop roots used ≡ crew
  used_crew = ap (drop roots) split.0 ∙ drop_of roots first crew parts.of_roots

  pub whole_run : IsRunOf state same base fingerprints workers jobs old new outcomes cache
  whole_run = record {
    roots = run.roots;
    helpers = run.helpers;
    legal = run.legal;
    actors = run.actors;
    sessions = subst (λ (l : List L). AreSessions state setting 0 jobs outcomes l (take 64 new)) (sym sessions_old)
        (subst (λ (l : List L). AreSessions state setting 0 jobs outcomes (first ++ behind) l) (sym sessions_new)
        (sessions_behind state setting 0 jobs outcomes first first_now behind
        (subst (λ (l : List L). AreSessions state setting 0 jobs outcomes l first_now) used_first run.sessions) parts.of_roots first_many));
    crew = subst (λ (l : List L). AreWorkers state setting roots workers l (drop 64 new)) (sym crew_old)
        (subst (λ (l : List L). AreWorkers state setting roots workers (crew ++ rest) l) (sym crew_new)
        (workers_behind state setting roots workers crew crew_now rest
        (subst (λ (l : List L). AreWorkers state setting roots workers l crew_now) used_crew run.crew) parts.of_workers crew_many));
  }
