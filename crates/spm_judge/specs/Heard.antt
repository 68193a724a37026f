-- What is heard of the pins, one by one. No public contract speaks of it.
use Rattle.std.specs.Str.{bytes_eq}
use Rattle.std.specs.Prelude.{ℕ, List, [], ◌∷◌, map, Bool, Option, Some, None, Result, Ok, Err, if◌then◌else◌}
use Rattle.std.specs.List.{list_any}
use Rattle.spm_version.specs.Release.{Parts}
use Rattle.spm_version.specs.ReleaseLaws.{release_eq}
use Rattle.spm_version.specs.declared.tools_version.ToolsVersion.{ToolsVersion}
use Rattle.spm_manifest.specs.declared.dump.Contents.{Contents}
use Rattle.spm_key.specs.declared.key.Key.TheVariants as key
use Rattle.pub_term.specs.declared.cause.Cause.{Cause}
use Rattle.pub_term.specs.declared.cause.Cause.TheVariants.{NoManifest, Unreadable, Tools}
use Rattle.pub_term.specs.declared.cause.Subject.{Subject}
use Rattle.pub_facts.specs.Catalogue.{Faulty, Found, Gone, Owner, Read, is_above}
use Rattle.pub_plain.specs.Answers.{Answers, found_in, releases_in}
use Rattle.pub_plain.specs.Choosing.{Pins}
use Rattle.spm_judge.specs.declared.pinned.Pinned.{Pinned}

-- the list of the package has the release
abbrev pub is_listed : Answers → List ℕ × Parts → Bool
is_listed answers pin = list_any (release_eq pin.1) (releases_in (answers (key.List pin.0)))

-- a pin itself, with no trait
abbrev pub pin_subject : List ℕ × Parts → Subject
pin_subject pin = record { owner = Some (pin.0, pin.1); under = [] }

-- the contents that can be used, or why they can't
abbrev pub usable_or : ToolsVersion → Subject → Found → Result Contents Cause
usable_or tools subject Gone = Err (NoManifest subject)
usable_or tools subject (Faulty place kind) = Err (Unreadable subject place kind)
usable_or tools subject (Read contents) = if is_above contents.tools tools then Err (Tools subject contents.tools) else Ok contents

-- those of a pin
abbrev pub contents_or : ToolsVersion → Answers → List ℕ × Parts → Result Contents Cause
contents_or tools answers pin = usable_or tools (pin_subject pin) (found_in (answers (key.Manifest pin.0 pin.1)))

-- what is heard of a pin
abbrev pub heard_of : ToolsVersion → Answers → List ℕ × Parts → Pinned
heard_of tools answers pin = record {
  identity = pin.0;
  release = pin.1;
  listed = is_listed answers pin;
  contents = contents_or tools answers pin;
}

abbrev pub heard : ToolsVersion → Answers → Pins → List Pinned
heard tools answers pins = map (heard_of tools answers) pins

-- the contents, if they can be used
abbrev pub usable_in : Result Contents Cause → Option Contents
usable_in (Ok contents) = Some contents
usable_in (Err cause) = None

-- those of the first that is heard of a package
abbrev pub contents_heard : List Pinned → List ℕ → Option Contents
contents_heard [] identity = None
contents_heard (pin ∷ pins) identity = if bytes_eq pin.identity identity then usable_in pin.contents else contents_heard pins identity

-- those of the root, where there is no package, or of a package
abbrev pub contents_in : Contents → List Pinned → Owner → Option Contents
contents_in root pins None = Some root
contents_in root pins (Some identity) = contents_heard pins identity
