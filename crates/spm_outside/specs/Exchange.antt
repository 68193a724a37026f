-- What an exchange leaves of a link's calls, by its answer.
use Rattle.std.specs.Prelude.{◌≡◌, ◌+◌, ◌≤◌, ◌⊎◌, List, [], ◌∷◌, ◌++◌, Bool, true, false, ℕ, drop, Option, IfSome, Result, Ok, Err, option_map}
use Rattle.spm_outside.specs.Book.{Pages, response_of}
use Rattle.spm_outside.specs.Link.{call_to}
use Rattle.spm_outside.specs.declared.book.Authority.{Authority}
use Rattle.spm_outside.specs.declared.link.Call.{Call}
use Rattle.spm_outside.specs.declared.fault.CallFault.{CallFault}
use Rattle.spm_outside.specs.declared.fault.CallFault.TheVariants.{Failed, Memory}

-- one call more, that has failed or not
abbrev pub with_call : Authority → List ℕ → Bool → Option (List Call) → Option (List Call)
with_call to request failed calls = option_map (λ made. made ++ call_to to request failed ∷ []) calls

-- one call was made, which failed where the exchange did; where memory ran out, one or none
abbrev pub CallsAfterExchange : {T : Type 0} → Result T CallFault → Authority → List ℕ → Option (List Call) → Option (List Call) → Type 0
CallsAfterExchange (Ok answer) to request old new = new ≡ with_call to request false old
CallsAfterExchange (Err Failed) to request old new = new ≡ with_call to request true old
CallsAfterExchange (Err Memory) to request old new = (new ≡ old) ⊎ (new ≡ with_call to request false old)

-- of the response no more than so many bytes were read
abbrev pub ReadsAtMost : ℕ → List ℕ → List ℕ → Type 0
ReadsAtMost limit response rest = (count : ℕ) × (count ≤ limit) × (rest ≡ drop count response)

-- What is left to read, where the book is told: all of the response behind its first `limit` bytes; where the link failed, nothing,
-- or what stands behind as many bytes at most; where memory ran out, what was left before, or the latter.
abbrev pub RestAfterExchange : {T : Type 0} → Result T CallFault → Option Pages → Authority → List ℕ → ℕ → Option (List ℕ) → Option (List ℕ) → Type 0
RestAfterExchange (Ok answer) book to request limit old new =
    IfSome book (λ pages. IfSome new (λ rest. rest ≡ drop limit (response_of pages to request)))
RestAfterExchange (Err Failed) book to request limit old new =
    IfSome book (λ pages. IfSome new (λ rest. (rest ≡ []) ⊎ ReadsAtMost limit (response_of pages to request) rest))
RestAfterExchange (Err Memory) book to request limit old new =
    (new ≡ old) ⊎ IfSome book (λ pages. IfSome new (ReadsAtMost limit (response_of pages to request)))

-- what is left to read after the reads of an exchange: all behind the first `limit` bytes, or behind as many at most where a read failed
abbrev pub RestAfterReads : {T : Type 0} → Result T CallFault → ℕ → Option (List ℕ) → Option (List ℕ) → Type 0
RestAfterReads (Ok answer) limit old new = new ≡ option_map (λ rest. drop limit rest) old
RestAfterReads (Err fault) limit old new = (count : ℕ) × (count ≤ limit) × (new ≡ option_map (λ rest. drop count rest) old)

-- Of the response no more than so many bytes were read; where memory ran out, the link may not have been opened.
abbrev pub TakenAfterExchange : {T : Type 0} → Result T CallFault → ℕ → Option ℕ → Option ℕ → Type 0
TakenAfterExchange (Ok answer) limit old new = IfSome new (λ taken. taken ≤ limit)
TakenAfterExchange (Err Failed) limit old new = IfSome new (λ taken. taken ≤ limit)
TakenAfterExchange (Err Memory) limit old new = (new ≡ old) ⊎ IfSome new (λ taken. taken ≤ limit)

-- so many bytes more were read, and no more than the limit
abbrev pub TakesUpTo : ℕ → Option ℕ → Option ℕ → Type 0
TakesUpTo limit old new = (count : ℕ) × (count ≤ limit) × (new ≡ option_map (λ sum. sum + count) old)
