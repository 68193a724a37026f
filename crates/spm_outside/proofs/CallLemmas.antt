-- Marking the last call of a list.
use Rattle.std.proofs.Common.{◌≡◌, ℕ, zero, suc, ◌+◌, List, [], ◌∷◌, ◌++◌, length, set, get_or, true, false, Option, Some, None, option_map, Result, Ok, Err, refl, ap, ◌∙◌, inr, arith}
use Rattle.spm_outside.specs.Exchange.{CallsAfterExchange, with_call}
use Rattle.spm_outside.specs.Link.{call_to, calls_after_read, last_failed}
use Rattle.spm_outside.specs.declared.book.Authority.{Authority}
use Rattle.spm_outside.specs.declared.fault.CallFault.{CallFault}
use Rattle.spm_outside.specs.declared.fault.CallFault.TheVariants.{Failed, Memory}
use Rattle.spm_outside.specs.declared.link.Call.{Call}

-- the call at the last index is marked
pub last_failed-set : (calls : List Call) (index : ℕ) (call : Call) → length calls ≡ index + 1 → call ≡ get_or calls index call → set calls index (record call { failed = true }) ≡ last_failed calls
last_failed-set [] index call last is = absurd (omega arith)
last_failed-set (first ∷ []) zero call last is = ap (λ (marked : Call). record marked { failed = true } ∷ []) is
last_failed-set (first ∷ []) (suc index) call last is = absurd (omega arith)
last_failed-set (first ∷ second ∷ calls) zero call last is = absurd (omega arith)
last_failed-set (first ∷ second ∷ calls) (suc index) call last is =
    ap (λ marked. first ∷ marked) (last_failed-set (second ∷ calls) index call (omega arith) is)

-- ---- an exchange

-- the last call is marked as failed
marked : (calls : List Call) (call : Call) → last_failed (calls ++ call ∷ []) ≡ calls ++ record call { failed = true } ∷ []
marked [] call = refl
marked (first ∷ []) call = refl
marked (first ∷ second ∷ calls) call = ap (λ rest. first ∷ rest) (marked (second ∷ calls) call)

-- a call that was recorded, and then marked
with_marked : (to : Authority) (request : List ℕ) (calls : Option (List Call)) → option_map last_failed (with_call to request false calls) ≡ with_call to request true calls
with_marked to request None = refl
with_marked to request (Some calls) = ap Some (marked calls (call_to to request false))

-- an open that was answered, and then the reads
pub after_exchange : {T : Type 0} (result : Result T CallFault) (to : Authority) (request : List ℕ) (old middle new : Option (List Call))
    → middle ≡ with_call to request false old → new ≡ calls_after_read result middle → CallsAfterExchange result to request old new
after_exchange (Ok answer) to request old middle new opened read = read ∙ opened
after_exchange (Err Failed) to request old middle new opened read = read ∙ ap (option_map last_failed) opened ∙ with_marked to request old
after_exchange (Err Memory) to request old middle new opened read = inr (read ∙ opened)
