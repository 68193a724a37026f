-- Catalogues: finite maps from keys to replies.
use Rattle.std.specs.Prelude.{◌≡◌, Some, IfSome}
use Rattle.std.specs.FinMap as map
use Rattle.spm_key.specs.KeyLaws.{key_cmp}
use Rattle.spm_key.specs.declared.key.Key.{Key}
use Rattle.spm_key.specs.declared.reply.Reply.{Reply}

abbrev pub Catalogue : Type 0
Catalogue = map.FinMap key_cmp Reply

-- the second catalogue holds all that the first holds, unchanged
abbrev pub Extends : Catalogue → Catalogue → Type 0
Extends second first = (key : Key) → IfSome (map.get first key) (λ reply. map.get second key ≡ Some reply)
