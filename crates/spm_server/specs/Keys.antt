-- The keys that the server answers as what they are: their versions don't end in `.zip`.
use Rattle.std.specs.Prelude.{◌≡◌, false}
use Rattle.spm_key.specs.declared.key.Key.{Key}
use Rattle.spm_key.specs.declared.key.Key.TheVariants as key
use Rattle.spm_version.specs.Release.{ends_in_zip, parts_text}

-- the version of a key, if it has one, doesn't end in `.zip`, which would make the path of a release that of an archive
abbrev pub HasPlainVersion : Key → Type 0
HasPlainVersion (key.List identity) = Unit {0}
HasPlainVersion (key.Manifest identity release) = ends_in_zip (parts_text release) ≡ false
HasPlainVersion (key.Release identity release) = ends_in_zip (parts_text release) ≡ false
HasPlainVersion (key.Archive identity release) = ends_in_zip (parts_text release) ≡ false
HasPlainVersion (key.Identifiers url) = Unit {0}
