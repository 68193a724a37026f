-- The passes of a cache that is opened.
use Rattle.std.proofs.Common.{◌≡◌, ℕ, zero, suc, ◌+◌, ◌≤◌, true, false, ◌||◌, List, [], ◌∷◌, ◌++◌, Some, refl, sym, ap, ap₂, ◌∙◌, subst, eq-eqb, arith}
use Rattle.std.specs.List.{All}
use Rattle.std.proofs.lemmas.List.Elements.{All-cons, All-map, All-nil, All-pop}
use Rattle.spm_turn.specs.Log.{below, has, numbers_from}
use Rattle.spm_turn.specs.Sitting.{TableId}
use Rattle.spm_cache.specs.Passing.{Passing, newcomer, newcomers}
use Rattle.bench.specs.Ready.{IsReady}

-- the one number is there
pub own_number : (numbers : List ℕ) (actor ticket : ℕ) → numbers ≡ actor ∷ [] → ticket ≡ actor → has numbers ticket ≡ true
own_number numbers actor ticket one own =
    ap₂ (λ (ns : List ℕ) (n : ℕ). has ns n) one own ∙ ap (λ b. b || false) (eq-eqb actor actor refl)

-- the passes of a row of sessions may ask
ready_from : (of : TableId) (sessions m k : ℕ) → k + m ≤ sessions → All (λ n. IsReady of (newcomer of sessions 0 n)) (numbers_from k m)
ready_from of sessions zero k most = All-nil (λ n. IsReady of (newcomer of sessions 0 n))
ready_from of sessions (suc m) k most =
    All-cons (λ n. IsReady of (newcomer of sessions 0 n)) k (numbers_from (suc k) m) (refl, refl, (omega arith, refl))
    (ready_from of sessions m (suc k) (omega arith))

-- so may all that were dealt
all_ready : (of : TableId) (passes : List Passing) (sessions : ℕ) → passes ≡ newcomers of sessions 0 → All (λ p. IsReady of p) passes
all_ready of passes sessions dealt =
    subst (λ (ps : List Passing). All (λ p. IsReady of p) ps) (sym dealt)
    (All-map (λ p. IsReady of p) (newcomer of sessions 0) (below (sessions + 0))
    (ready_from of sessions (sessions + 0) 0 (omega arith)))

-- so may the last of them, and those before it
pub popped_ready : (of : TableId) (sessions : ℕ) (dealt left : List Passing) (last : Passing) → dealt ≡ newcomers of sessions 0
    → dealt ≡ left ++ last ∷ [] → All (λ p. IsReady of p) left × IsReady of last
popped_ready of sessions dealt left last are is =
    All-pop (λ p. IsReady of p) dealt left (Some last) is (all_ready of dealt sessions are)
