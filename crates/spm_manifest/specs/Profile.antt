-- The profile of manifest dumps (after `swift package dump-package`): what a dump says, or its first fault in the
-- reading order: the name, the tools version, the traits, the dependencies, the targets.
use Rattle.std.specs.Prelude.{ℕ, List, [], codes, map, Option, Some, None, Ok}
use Rattle.serde_json.specs.Data.{Data}
use Rattle.spm_json.specs.Field.{field_of, optional_field_of}
use Rattle.spm_json.specs.Reading.{Reading, ◌>>=◌}
use Rattle.spm_json.specs.Sequence.{items_of}
use Rattle.spm_json.specs.Shape.{object_of, text_of, whole_of}
use Rattle.spm_json.specs.Value.{tools_reading}
use Rattle.spm_trait.specs.declared.traits.Traits.{Traits}
use Rattle.spm_manifest.specs.Dependency.{dependencies_reading}
use Rattle.spm_manifest.specs.Guard.{need_of}
use Rattle.spm_manifest.specs.Traits.{declared_reading, or_nothing}
use Rattle.spm_manifest.specs.Uses.{target_reading}
use Rattle.spm_manifest.specs.declared.dump.Contents.{Contents}
use Rattle.spm_manifest.specs.declared.dump.Dump.{Dump}
use Rattle.spm_manifest.specs.declared.dump.ToolsObject.{ToolsObject}
use Rattle.spm_manifest.specs.declared.traits.Declared.{Declared}

-- `{"_version":TOOLS}`
abbrev pub tools_object_reading : Data → Reading ToolsObject
tools_object_reading d = object_of d >>= λ o.
    field_of tools_reading (codes "_version") o >>= λ tools.
    Ok (record { tools = tools })

abbrev pub no_traits : Traits
no_traits = record { entries = [] }

abbrev pub traits_in : Option Declared → Traits
traits_in (Some declared) = declared.traits
traits_in None = no_traits

-- what a dump says, in its own parts
abbrev pub dump_reading : Data → Reading Dump
dump_reading d = object_of d >>= λ o.
    field_of text_of (codes "name") o >>= λ name.
    field_of tools_object_reading (codes "toolsVersion") o >>= λ tools.
    optional_field_of declared_reading (codes "traits") o >>= λ declared.
    optional_field_of dependencies_reading (codes "dependencies") o >>= λ dependencies.
    optional_field_of (items_of target_reading) (codes "targets") o >>= λ targets.
    Ok (record {
      name = name;
      tools = tools.tools;
      traits = traits_in declared;
      dependencies = or_nothing dependencies;
      targets = or_nothing targets;
    })

-- what it says of the package
abbrev pub contents_of : Dump → Contents
contents_of dump = record {
  name = dump.name;
  tools = dump.tools;
  traits = dump.traits;
  needs = map (need_of dump.targets dump.dependencies) dump.dependencies;
}

-- what the bytes say, or the first fault (shut, so that the proofs of callers that need no part of it stay small)
unfoldable pub manifest_of : List ℕ → Reading Contents
manifest_of bytes = whole_of dump_reading bytes >>= λ dump. Ok (contents_of dump)
