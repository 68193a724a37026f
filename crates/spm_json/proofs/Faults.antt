-- A fault of a whole document.
use Rattle.std.proofs.Common.{◌≡◌, ℕ, List, [], true, None, refl, inl, inr}
use Rattle.std.proofs.lemmas.Bool.{cases_Bool}
use Rattle.std.specs.Str.{is_utf8}
use Rattle.serde_json.specs.Read.{read}
use Rattle.spm_version.specs.declared.kind.Kind.TheVariants.{NotJson}
use Rattle.spm_json.specs.Reading.{Fails}
use Rattle.spm_json.specs.Shape.{document_of}
use Rattle.spm_json.specs.declared.fault.ReadFault.{ReadFault}
use Rattle.spm_json.specs.declared.fault.ReadFault.TheVariants.{At}

-- bytes that are no text, or that spell nothing as a text, are no document
pub Fails-document_of : (bytes : List ℕ) (fault : ReadFault) → fault ≡ At [] NotJson → (is_utf8 bytes ≡ true → read bytes ≡ None) → Fails fault (document_of bytes)
Fails-document_of bytes fault is refused = rw is (elim (cases_Bool (is_utf8 bytes)) [
  | inl text ↦ rw (text, refused text) refl
  | inr other ↦ rw other refl
])
