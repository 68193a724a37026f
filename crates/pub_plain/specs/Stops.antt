-- Where a solver stops for what is said of keys.
use Rattle.std.specs.Prelude.{◌≡◌, Some, None}
use Rattle.pub_trail.specs.Turn.{Loading, Lacks, Passes, Brings, Turn, Went, Needs, TooWide, Selected, Refuted}
use Rattle.pub_trail.specs.declared.turned.Wide.{Wide}
use Rattle.pub_trail.specs.declared.turned.Wide.TheVariants.{Nodes, Packages, Versions}
use Rattle.spm_api.specs.declared.replies.Said.TheVariants.{TooMany}
use Rattle.spm_key.specs.declared.key.Key.{Key}
use Rattle.spm_key.specs.declared.key.Key.TheVariants as key
use Rattle.pub_plain.specs.Answers.{Answers}

-- the versions of a package are too many where its list says so
abbrev pub IsWide : Answers → Wide → Type 0
IsWide answers Packages = Unit {0}
IsWide answers Nodes = Unit {0}
IsWide answers (Versions identity) = answers (key.List identity) ≡ Some TooMany

-- what a solver reads: lists, look-ups and manifests
abbrev pub IsRead : Key → Type 0
IsRead (key.List identity) = Unit {0}
IsRead (key.Manifest identity release) = Unit {0}
IsRead (key.Release identity release) = ⊥
IsRead (key.Archive identity release) = ⊥
IsRead (key.Identifiers url) = Unit {0}

-- a load lacks what isn't given
abbrev pub LoadStops : Answers → Loading → Type 0
LoadStops answers (Lacks asked) = (answers asked ≡ None) × IsRead asked
LoadStops answers (Passes wide) = IsWide answers wide
LoadStops answers (Brings loaded) = Unit {0}

-- a turn needs what isn't given
abbrev pub TurnStops : Answers → Turn → Type 0
TurnStops answers (Went state) = Unit {0}
TurnStops answers (Needs asked) = (answers asked ≡ None) × IsRead asked
TurnStops answers (TooWide wide) = IsWide answers wide
TurnStops answers Selected = Unit {0}
TurnStops answers (Refuted terms first steps) = Unit {0}

-- a turn that needs nothing more, or a key of which nothing is said by these answers either
abbrev pub IsStill : Answers → Turn → Type 0
IsStill more (Went state) = Unit {0}
IsStill more (Needs asked) = more asked ≡ None
IsStill more (TooWide wide) = Unit {0}
IsStill more Selected = Unit {0}
IsStill more (Refuted terms first steps) = Unit {0}
