-- What a root comes to over the book of a shelf.
use Rattle.std.specs.Prelude.{◌≡◌, Bool, Some}
use Rattle.pub_term.specs.declared.cause.Cause.{Cause}
use Rattle.spm_api.specs.declared.base.Base.{Base}
use Rattle.spm_outside.specs.Book.{Pages}
use Rattle.spm_server.specs.Pages.{AnswersAskable, RefusesOthers, not_found}
use Rattle.spm_server.specs.RoundTrip.{IsPlainBase}
use Rattle.spm_session.specs.Archives.{Fingerprints}
use Rattle.spm_session.specs.Known.{in_book}
use Rattle.spm_session.specs.Run.{IsEnd}
use Rattle.spm_session.specs.declared.job.RootJob.{RootJob}
use Rattle.spm_session.specs.declared.outcome.Outcome.{Outcome}
use Rattle.spm_session.specs.declared.outcome.Outcome.TheVariants as outcome
use Rattle.spm_shelf.specs.declared.file.ShelfFile.{ShelfFile}

-- the fixed replies of a registry that has the shelf, at a plain base
pub record IsBookOf (shelf : ShelfFile) (base : Base) (pages : Pages) : Type 0 where
  pub plain : IsPlainBase base
  pub askable : AnswersAskable shelf base pages
  pub others : RefusesOthers base pages
  pub other : pages.other ≡ not_found

-- the outcome of a job over the shelf's book, beside fingerprints that are kept; `same` says which causes are equal
pub record IsOnShelf (same : Cause → Cause → Bool) (shelf : ShelfFile) (fingerprints : Fingerprints) (job : RootJob) (it : Outcome) : Type 0 where
  pub base : Base
  pub pages : Pages
  pub book : IsBookOf shelf base pages
  pub end : IsEnd same (in_book (Some pages) base) fingerprints job it

-- or want of memory
abbrev pub IsShelfOutcome : (Cause → Cause → Bool) → ShelfFile → Fingerprints → RootJob → Outcome → Type 0
IsShelfOutcome same shelf fingerprints job outcome.Memory = Unit {0}
IsShelfOutcome same shelf fingerprints job it = IsOnShelf same shelf fingerprints job it
