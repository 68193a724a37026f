-- What holds of catalogues that extend one another.
use Rattle.std.proofs.Common.{◌≡◌, Option, Some, None, IfSome, refl}
use Rattle.std.specs.FinMap as map
use Rattle.spm_key.specs.Catalogue.{Catalogue, Extends}
use Rattle.spm_key.specs.declared.key.Key.{Key}
use Rattle.spm_key.specs.declared.reply.Reply.{Reply}

-- what is found is what is found
found_is : (found : Option Reply) → IfSome found (λ reply. found ≡ Some reply)
found_is None = tt
found_is (Some reply) = refl

-- a catalogue holds all that it holds
pub itself : (one : Catalogue) → Extends one one
itself one key = found_is (map.get one key)

-- what is found stays found
pub stays : (first second : Catalogue) (key : Key) (reply : Reply) → map.get first key ≡ Some reply → Extends second first
    → map.get second key ≡ Some reply
stays first second key reply is more = rw is at (more key)

-- what the third holds of the second, it holds of the first
pub onward : (first second third : Catalogue) → Extends second first → Extends third second → Extends third first
onward first second third more most key = from (map.get first key) refl
  where
    from : (found : Option Reply) → map.get first key ≡ found → IfSome found (λ reply. map.get third key ≡ Some reply)
    from None is = tt
    from (Some reply) is = stays second third key reply (stays first second key reply is more) most
