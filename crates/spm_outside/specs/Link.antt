-- What the calls of a link leave, by their answer.
use Rattle.std.specs.Prelude.{◌≡◌, ℕ, ◌+◌, ◌≤◌, List, [], ◌∷◌, ◌++◌, length, take, drop, Bool, true, false, Option, IfSome, Result, Ok, Err, is_some, option_map}
use Rattle.spm_outside.specs.Book.{Pages, response_of}
use Rattle.spm_outside.specs.declared.book.Authority.{Authority}
use Rattle.spm_outside.specs.declared.link.Call.{Call}
use Rattle.spm_outside.specs.declared.fault.CallFault.{CallFault}
use Rattle.spm_outside.specs.declared.fault.CallFault.TheVariants.{Failed, Memory}

-- what a link tells: its book, the calls made, how many bytes of the last response were read, those that are left to read, and the count
-- of faults
pub record LinkState : Type 0 where
  pub book : Option Pages
  pub calls : Option (List Call)
  pub taken : Option ℕ
  pub rest : Option (List ℕ)
  pub faults : ℕ

-- a call to this authority, with this request, that has failed or not yet
abbrev pub call_to : Authority → List ℕ → Bool → Call
call_to to request failed = record { to = to; request = request; failed = failed }

-- the last call has failed, if there is one
abbrev pub last_failed : List Call → List Call
last_failed [] = []
last_failed (call ∷ []) = record call { failed = true } ∷ []
last_failed (call ∷ next ∷ calls) = call ∷ last_failed (next ∷ calls)

abbrev pub calls_after_open : {T : Type 0} → Result T CallFault → Authority → List ℕ → Option (List Call) → Option (List Call)
calls_after_open (Ok answer) to request calls = option_map (λ made. made ++ call_to to request false ∷ []) calls
calls_after_open (Err Failed) to request calls = option_map (λ made. made ++ call_to to request true ∷ []) calls
calls_after_open (Err Memory) to request calls = calls

-- The unread bytes after an open: the book's response, where the book is told. None after a failure.
abbrev pub RestAfterOpen : {T : Type 0} → Result T CallFault → Option Pages → Authority → List ℕ → Option (List ℕ) → Option (List ℕ) → Type 0
RestAfterOpen (Ok answer) book to request old new =
    (is_some new ≡ is_some old) × IfSome book (λ pages. IfSome new (λ rest. rest ≡ response_of pages to request))
RestAfterOpen (Err Failed) book to request old new = new ≡ option_map (λ _. []) old
RestAfterOpen (Err Memory) book to request old new = new ≡ old

-- nothing is read of the response behind an open
abbrev pub taken_after_open : {T : Type 0} → Result T CallFault → Option ℕ → Option ℕ
taken_after_open (Ok answer) taken = option_map (λ _. 0) taken
taken_after_open (Err Failed) taken = option_map (λ _. 0) taken
taken_after_open (Err Memory) taken = taken

abbrev pub calls_after_read : {T : Type 0} → Result T CallFault → Option (List Call) → Option (List Call)
calls_after_read (Ok answer) calls = calls
calls_after_read (Err Failed) calls = option_map last_failed calls
calls_after_read (Err Memory) calls = calls

-- the first `count` bytes of the rest stand in the piece, none only at the end
pub record HandsOver (rest piece : List ℕ) (count : ℕ) : Type 0 where
  pub within : count ≤ length rest
  pub bytes : take count piece ≡ take count rest
  pub end : count ≡ 0 → rest ≡ []

-- a read: the piece as it is afterwards, and the unread bytes before and after
abbrev pub RestAfterRead : Result ℕ CallFault → List ℕ → Option (List ℕ) → Option (List ℕ) → Type 0
RestAfterRead (Ok count) piece old new =
    (new ≡ option_map (λ rest. drop count rest) old) × (count ≤ length piece) × IfSome old (λ rest. HandsOver rest piece count)
RestAfterRead (Err fault) piece old new = new ≡ old

-- as many bytes more as were handed over
abbrev pub taken_after_read : Result ℕ CallFault → Option ℕ → Option ℕ
taken_after_read (Ok count) taken = option_map (λ sum. sum + count) taken
taken_after_read (Err fault) taken = taken
