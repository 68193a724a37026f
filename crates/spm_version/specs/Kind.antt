-- How the kinds of fault are printed.
use Rattle.std.specs.Prelude.{ℕ, List, codes}
use Rattle.spm_version.specs.declared.kind.Kind.{Kind}
use Rattle.spm_version.specs.declared.kind.Kind.TheVariants.{NotJson, Missing, WrongKind, BadIdentity, BadVersion, BadTrait, Doubled, TooMany, BadHex}

abbrev pub kind_text : Kind → List ℕ
kind_text NotJson = codes "not JSON"
kind_text Missing = codes "missing"
kind_text WrongKind = codes "wrong kind"
kind_text BadIdentity = codes "bad identity"
kind_text BadVersion = codes "bad version"
kind_text BadTrait = codes "bad trait"
kind_text Doubled = codes "doubled"
kind_text TooMany = codes "too many"
kind_text BadHex = codes "bad hex"
