-- What a pass knows of the state that it takes, and what it has seen when it gives it back.
use Rattle.std.proofs.Common.{◌≡◌, ℕ, Bool, true, false, ◌||◌, ◌==◌, List, [], ◌∷◌, refl, sym, ap, ap₂, ◌∙◌, subst, arith}
use Rattle.spm_turn.specs.Log.{has, of_numbers, OthersFollow}
use Rattle.spm_turn.proofs.Booleans.{not_both, not_false}
use Rattle.spm_turn.proofs.Follows.{quiet_parts}
use Rattle.spm_cache_core.specs.Balance.{has_acted}
use Rattle.spm_cache_core.specs.Cache.{Cache}
use Rattle.spm_cache_core.specs.Flight.{Flight}
use Rattle.spm_cache_core.specs.History.{flight, has_cancelled}
use Rattle.spm_cache_core.specs.Legal.{IsFlight, IsLegal, IsSession}
use Rattle.spm_cache_core.specs.declared.event.Event.{Event}
use Rattle.spm_cache_core.proofs.LawLemmas.{cancelled_follows, flight_follows, session_follows}
use Rattle.spm_cache.specs.Calls.{Moves}

-- who made an event
abbrev pub by : Event → ℕ
by e = e.actor

-- an event of others isn't the actor's
another : (numbers : List ℕ) (actor other : ℕ) → has numbers actor ≡ true → has numbers other ≡ false → (other == actor) ≡ false
another numbers actor other own no_one = not_false (other == actor)
    (λ is. let same : other ≡ actor = grind (arith, is) in not_both (has numbers actor) own (ap (has numbers) (sym same) ∙ no_one))

-- where only others acted the actor did nothing
pub acted : (numbers : List ℕ) (actor : ℕ) (more : List Event) → of_numbers by numbers more ≡ [] → has numbers actor ≡ true
    → has_acted actor more ≡ false
acted numbers actor [] quiet own = refl
acted numbers actor (e ∷ es) quiet own =
    let t = quiet_parts numbers by e es quiet in
    ap₂ (λ (a b : Bool). a || b) (another numbers actor e.actor own t.0) (acted numbers actor es t.1 own)

-- a session is one in the state too
pub session_at : (numbers : List ℕ) (seen log : List Event) (sessions actor : ℕ) → OthersFollow by numbers seen log → has numbers actor ≡ true
    → IsSession sessions seen actor → IsSession sessions log actor
session_at numbers seen log sessions actor others own is =
    subst (λ h. IsSession sessions h actor) (sym others.1)
    (session_follows sessions seen others.0 actor is (acted numbers actor others.0 others.2 own))

-- who has not cancelled has not in the state either
pub cancel_at : (numbers : List ℕ) (seen log : List Event) (actor : ℕ) → OthersFollow by numbers seen log → has numbers actor ≡ true
    → has_cancelled actor seen ≡ false → has_cancelled actor log ≡ false
cancel_at numbers seen log actor others own is =
    ap (has_cancelled actor) others.1 ∙ cancelled_follows seen others.0 actor is (acted numbers actor others.0 others.2 own)

-- an open flight is open in the state too
pub flight_at : (numbers : List ℕ) (seen log : List Event) (sessions workers : ℕ) (ticket : Flight) → OthersFollow by numbers seen log
    → has numbers ticket.actor ≡ true → IsLegal sessions workers log → IsFlight seen ticket → IsFlight log ticket
flight_at numbers seen log sessions workers ticket others own legal is =
    ap (flight ticket.key) others.1
    ∙ flight_follows sessions workers seen others.0 ticket.key ticket.number ticket.actor (subst (IsLegal sessions workers) others.1 legal) is
    (acted numbers ticket.actor others.0 others.2 own)

-- a state that has moved is legal under the terms that it had
pub legal_at : (actor sessions workers : ℕ) (old new : Cache) → old.sessions ≡ sessions → old.workers ≡ workers → Moves actor old new
    → IsLegal new.sessions new.workers new.history → IsLegal sessions workers new.history
legal_at actor sessions workers old new s w moves legal =
    subst (λ n. IsLegal n workers new.history) (moves.sessions ∙ s)
    (subst (λ n. IsLegal new.sessions n new.history) (moves.workers ∙ w) legal)
