-- A source that fetches each reply over a link of its own.
use Rattle.std.specs.Prelude.{◌≡◌, ℕ}
use Rattle.spm_key.specs.declared.key.Key.{Key}
use Rattle.spm_outside.specs.Faults.{Rises}
use Rattle.spm_outside.specs.Link.{LinkState}
use Rattle.spm_session.specs.declared.alone.Alone.{Alone}
use Rattle.spm_session.specs.declared.source.Missed.{Missed}
use Rattle.spm_session.specs.declared.source.Missed.TheVariants as missed

-- the same base and the same link, with the book that it had
pub record IsOn {L : Type 0} (state : L → LinkState) (old new : Alone L) : Type 0 where
  pub base : new.base ≡ old.base
  pub link : new.link ≡ record old.link { now = new.link.now }
  pub book : (state new.link.now).book ≡ (state old.link.now).book

-- the count of faults stays
pub record GoesAlone {L : Type 0} (state : L → LinkState) (old new : Alone L) : Type 0 where
  pub on : IsOn state old new
  pub faults : (state new.link.now).faults ≡ (state old.link.now).faults

-- it rises where the link failed
abbrev pub FaultsWithout : Missed → ℕ → ℕ → Type 0
FaultsWithout missed.Failed old new = Rises old new
FaultsWithout (missed.Cancelled by) old new = ⊥
FaultsWithout missed.Memory old new = new ≡ old

pub record MissesAlone {L : Type 0} (state : L → LinkState) (old new : Alone L) (asked : Key) (why : Missed) : Type 0 where
  pub on : IsOn state old new
  pub faults : FaultsWithout why (state old.link.now).faults (state new.link.now).faults
