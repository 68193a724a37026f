-- A book: what a registry answers to each request, as fixed replies.
use Rattle.std.specs.Str.{bytes_eq}
use Rattle.std.specs.Prelude.{ℕ, ◌==◌, ◌&&◌, List, [], ◌∷◌, Bool, if◌then◌else◌}
use Rattle.spm_outside.specs.declared.book.Authority.{Authority}
use Rattle.spm_outside.specs.declared.book.Entry.{Entry}

-- what a book has: its entries in order, and the response to every other request
pub record Pages : Type 0 where
  pub entries : List Entry
  pub other : List ℕ

abbrev pub same_authority : Authority → Authority → Bool
same_authority first second = bytes_eq first.host second.host && first.port == second.port

abbrev pub is_for : Authority → List ℕ → Entry → Bool
is_for to request entry = same_authority entry.to to && bytes_eq entry.request request

-- the response of the first entry with this authority and request, or else the other one
abbrev pub response_in : List Entry → List ℕ → Authority → List ℕ → List ℕ
response_in [] other to request = other
response_in (entry ∷ entries) other to request =
    if is_for to request entry then entry.response else response_in entries other to request

abbrev pub response_of : Pages → Authority → List ℕ → List ℕ
response_of pages to request = response_in pages.entries pages.other to request
