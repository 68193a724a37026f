-- The base of a registry: a URL as the URL Standard reads it, with the scheme `http`, a host, and neither user information, query nor
-- fragment.
use Rattle.std.specs.Str.{bytes_eq}
use Rattle.std.specs.Prelude.{◌≡◌, ℕ, ◌==◌, ◌&&◌, List, [], ◌∷◌, codes, Bool, not, is_some, Option, Some, None, unwrap_or, Result, Ok, Err, if◌then◌else◌}
use Rattle.std.proofs.Common.{reverse}
use Rattle.url.specs.Host.{host_text}
use Rattle.url.specs.Parser.{Parsed, parse_url}
use Rattle.url.specs.Parts.{Parts, has_credentials, has_host, host_or_empty}
use Rattle.spm_api.specs.declared.base.Base.{Base}
use Rattle.spm_api.specs.declared.base.BaseFault.{BaseFault}
use Rattle.spm_api.specs.declared.base.BaseFault.TheVariants.{BadUrl, Memory}

abbrev pub is_base : Parts → Bool
is_base url = bytes_eq url.scheme (codes "http") && has_host url && not (has_credentials url) && not (is_some url.query) && not (is_some url.fragment)

-- the bytes from the first that is no slash
abbrev pub behind_slashes : List ℕ → List ℕ
behind_slashes [] = []
behind_slashes (byte ∷ bytes) = if byte == 47 then behind_slashes bytes else byte ∷ bytes

-- a path without the slashes at its end
abbrev pub without_slashes : List ℕ → List ℕ
without_slashes path = reverse (behind_slashes (reverse path))

-- the host, the port, which is 80 where none is said, and the path
abbrev pub base_of : Parts → Base
base_of url = record {
  to = record { host = host_text (host_or_empty url); port = unwrap_or url.port 80 };
  prefix = without_slashes url.path;
}

abbrev pub base_in : Parsed Parts → Option Base
base_in (Ok url) = if is_base url then Some (base_of url) else None
base_in (Err refusal) = None

-- what a text is as a base, if it is one
abbrev pub base_text : List ℕ → Option Base
base_text text = base_in (parse_url None text)

abbrev pub ReadsBase : Result Base BaseFault → Option Base → Type 0
ReadsBase (Ok base) found = found ≡ Some base
ReadsBase (Err BadUrl) found = found ≡ None
ReadsBase (Err Memory) found = Unit {0}
