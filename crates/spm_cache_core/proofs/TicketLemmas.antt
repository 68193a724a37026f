-- A ticket that is given is that of its key's open flight.
use Rattle.std.proofs.Common.{◌≡◌, ℕ, List, [], ◌∷◌, ◌++◌, length, None, Some, refl, sym, ◌∙◌, subst}
use Rattle.std.proofs.lemmas.Bool.{cond-true}
use Rattle.spm_cell.specs.declared.cell.Cell.{Cell}
use Rattle.spm_cell.specs.declared.cell.Cell.TheVariants.{Idle}
use Rattle.spm_key.specs.declared.key.Key.{Key}
use Rattle.spm_cache_core.specs.Answers.{ask_answer, claim_answer}
use Rattle.spm_cache_core.specs.Answers as answer
use Rattle.spm_cache_core.specs.History.{event, flies, flight, last_begin}
use Rattle.spm_cache_core.specs.Legal.{IsLegal}
use Rattle.spm_cache_core.specs.State.{IsBeginning, IsCell}
use Rattle.spm_cache_core.specs.declared.event.Act.{Act}
use Rattle.spm_cache_core.specs.declared.event.Act.TheVariants.{Ask, Claim}
use Rattle.spm_cache_core.specs.declared.event.AskNote.TheVariants as ask
use Rattle.spm_cache_core.specs.declared.event.ClaimNote.TheVariants as claim
use Rattle.spm_cache_core.specs.declared.event.Event.{Event}
use Rattle.spm_cache_core.proofs.AnswerLemmas.{fetch_asked, fetch_claimed, idle_asked, idle_claimed}
use Rattle.spm_cache_core.proofs.CellLemmas.{begun_cell, cell_begun, open_flies}
use Rattle.spm_cache_core.proofs.LawLemmas.{anybody, told}

-- an idle key flies after an event that begins a flight, with that event's place and actor
begun_flies : (key : Key) (history : List Event) (actor : ℕ) (act : Act) (cell : Cell) → IsCell key history cell
    → (fails : ℕ) × (cell ≡ Idle fails) → IsBeginning key act
    → flight key (history ++ event actor act ∷ []) ≡ Some (length history, actor)
begun_flies key history actor act cell is idle begins =
    let opened = cell_begun key history (event actor act) idle.0 (length history) begins refl (subst (IsCell key history) idle.1 is) in
    cond-true (flies key (history ++ event actor act ∷ [])) (last_begin key (history ++ event actor act ∷ [])) None
    (open_flies key (history ++ event actor act ∷ []) (length history) actor idle.0 opened) ∙ opened.last

-- the key of an ask that is answered Fetch flies
pub asked_flies : (sessions workers : ℕ) (history : List Event) (actor : ℕ) (key : Key) → IsLegal sessions workers history
    → ask_answer history actor key ≡ answer.Fetch
    → flight key (history ++ event actor (Ask key ask.Fetch) ∷ []) ≡ Some (length history, actor)
asked_flies sessions workers history actor key legal fetch =
    let t = told anybody sessions workers key history legal in
    let found = fetch_asked history actor key fetch in
    begun_flies key history actor (Ask key ask.Fetch) t.0 t.1 (idle_asked history key t.0 t.1 found.0 found.1) refl

-- the key of a claim that is answered Fetch flies
pub claimed_flies : (sessions workers : ℕ) (history : List Event) (actor : ℕ) (key : Key) → IsLegal sessions workers history
    → claim_answer sessions history ≡ answer.Fetch key
    → flight key (history ++ event actor (Claim (claim.Fetch key)) ∷ []) ≡ Some (length history, actor)
claimed_flies sessions workers history actor key legal fetch =
    let t = told anybody sessions workers key history legal in
    begun_flies key history actor (Claim (claim.Fetch key)) t.0 t.1
    (idle_claimed t.0 (sym (begun_cell key history t.0 t.1) ∙ fetch_claimed sessions history key fetch)) refl
