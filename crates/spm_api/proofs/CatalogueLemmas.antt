-- A catalogue that comes from a book still does with one more reply of the book.
use Rattle.std.proofs.Common.{◌≡◌, cond, Bool, true, false, Option, Some, None, IfSome, refl, sym, subst}
use Rattle.std.specs.FinMap as map
use Rattle.std.specs.Ordering.{eq_by_cmp}
use Rattle.spm_key.specs.Catalogue.{Catalogue}
use Rattle.spm_key.specs.KeyLaws.{key_cmp, key_total}
use Rattle.spm_key.specs.declared.key.Key.{Key}
use Rattle.spm_key.specs.declared.reply.Reply.{Reply}
use Rattle.spm_outside.specs.Book.{Pages, response_of}
use Rattle.spm_api.specs.Endpoint.{IsReply, request_for}
use Rattle.spm_api.specs.Refused.{ComesFrom}
use Rattle.spm_api.specs.declared.base.Base.{Base}
use Rattle.spm_key.proofs.KeyLemmas.{same_key}

-- what the book says of a key
abbrev IsTold : Pages → Base → Key → Reply → Type 0
IsTold pages base asked reply = IsReply asked (response_of pages base.to (request_for base asked)) reply

-- what is found at a key, where it may be the one that was inserted
found : (pages : Pages) (base : Base) (asked key : Key) (reply : Reply) (had : Option Reply) (same : Bool) → eq_by_cmp key_cmp asked key ≡ same
    → IsTold pages base key reply → IfSome had (IsTold pages base asked) → IfSome (cond same (Some reply) had) (IsTold pages base asked)
found pages base asked key reply had true same told earlier =
    subst (λ (k : Key). IsTold pages base k reply) (sym (same_key asked key same)) told
found pages base asked key reply had false other told earlier = earlier

-- with one more reply of the book a catalogue still comes from it
pub ComesFrom-insert : (catalogue : Catalogue) (pages : Pages) (base : Base) (key : Key) (reply : Reply) → IsTold pages base key reply
    → ComesFrom catalogue pages base → ComesFrom (map.insert catalogue key reply) pages base
ComesFrom-insert catalogue pages base key reply told comes asked =
    subst (λ (answer : Option Reply). IfSome answer (IsTold pages base asked)) (sym (map.get-insert key_total catalogue key reply asked))
    (found pages base asked key reply (map.get catalogue asked) (eq_by_cmp key_cmp asked key) refl told (comes asked))

-- the same where the book is told
pub catalogue_told : (book : Option Pages) (base : Base) (key : Key) (reply : Reply) → IfSome book (λ pages. IsTold pages base key reply)
    → IfSome book (λ pages. (catalogue : Catalogue) → ComesFrom catalogue pages base → ComesFrom (map.insert catalogue key reply) pages base)
catalogue_told None base key reply told = tt
catalogue_told (Some pages) base key reply told = λ catalogue comes. ComesFrom-insert catalogue pages base key reply told comes
