-- What contracts see of a link to a book that never fails.
use Rattle.std.specs.Prelude.{ℕ, List, Some, drop}
use Rattle.spm_outside.specs.Book.{Pages}
use Rattle.spm_outside.specs.Link.{LinkState}
use Rattle.spm_outside.specs.declared.book_link.BookLink.{BookLink}
use Rattle.spm_outside.specs.declared.link.Call.{Call}

-- its book, the calls made, how many bytes of the last response were read, and those that are left to read
pub record Faultless : Type 0 where
  pub book : Pages
  pub calls : List Call
  pub taken : ℕ
  pub rest : List ℕ

abbrev pub faultless : BookLink → Faultless
faultless link = record { book = link.book.now; calls = link.calls.items; taken = link.taken; rest = drop link.taken link.response.now }

-- what it tells as a link: it has no fault
abbrev pub state_of : Faultless → LinkState
state_of link = record { book = Some link.book; calls = Some link.calls; taken = Some link.taken; rest = Some link.rest; faults = 0 }
