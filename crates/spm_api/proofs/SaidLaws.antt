-- What a catalogue says of a key: something exactly where it answers the key, but for a list that is too long.
use Rattle.std.proofs.Common.{◌≡◌, ◌≢◌, ℕ, ◌==◌, Bool, true, false, nat_lt, List, length, Option, Some, None, IfSome, Result, Ok, Err, refl, sym, ap, ◌∙◌, subst, inl, inr}
use Rattle.std.specs.Prelude.{◌&&◌, if◌then◌else◌}
use Rattle.std.specs.FinMap as map
use Rattle.std.specs.Option.{option_map}
use Rattle.std.proofs.lemmas.Bool.{cases_Bool}
use Rattle.spm_json.specs.Reading.{Reading}
use Rattle.spm_key.specs.Catalogue.{Catalogue, Extends}
use Rattle.spm_key.specs.declared.key.Key.{Key}
use Rattle.spm_key.specs.declared.key.Key.TheVariants as key
use Rattle.spm_key.specs.declared.reply.Body.{Body}
use Rattle.spm_key.specs.declared.reply.Body.TheVariants as body
use Rattle.spm_key.specs.declared.reply.Reply.{Reply}
use Rattle.spm_manifest.specs.Profile.{manifest_of}
use Rattle.spm_manifest.specs.declared.dump.Contents.{Contents}
use Rattle.spm_version.specs.Release.{Parts}
use Rattle.spm_api.specs.Bodies.{all_some, identifiers_of, releases_of}
use Rattle.spm_api.specs.Refused.{Answers, Refusal, has_too_many, is_long_list, reply_refusal}
use Rattle.spm_api.specs.Said.{absent, list_said, manifest_said, package_said, present, releases_said, reply_said, said_in, said_of, unless_refused}
use Rattle.spm_api.specs.declared.replies.Said.{Said}
use Rattle.spm_api.specs.declared.replies.Said.TheVariants.{FaultyManifest, Manifest, NoManifest, Nothing, Package, Releases, TooMany}

-- ---- which replies say that there are too many releases

-- something else than that
abbrev IsOther : Said → Type 0
IsOther (Releases releases) = Unit {0}
IsOther TooMany = ⊥
IsOther (Package identity) = Unit {0}
IsOther (Manifest contents) = Unit {0}
IsOther (FaultyManifest place kind) = Unit {0}
IsOther NoManifest = Unit {0}
IsOther Nothing = Unit {0}

-- so it isn't that
other_isnt : (said : Said) → IsOther said → said ≢ TooMany
other_isnt said is same = subst IsOther same is

-- whether a list says so
abbrev long_or_other : Bool → Said → Type 0
long_or_other true said = said ≡ TooMany
long_or_other false said = IsOther said

-- releases say so where they are too many
releases_long : (usable : List Parts) → long_or_other (nat_lt 4096 (length usable)) (releases_said usable)
releases_long usable = elim (cases_Bool (nat_lt 4096 (length usable))) [ inl long ↦ rw long refl | inr short ↦ rw short tt ]

-- and so does a list that is read
list_long : (reading : Reading (List (Option Parts))) → long_or_other (has_too_many reading) (list_said reading)
list_long (Ok listed) = releases_long (all_some listed)
list_long (Err first) = tt

-- a manifest says something else
manifest_other : (reading : Reading Contents) → IsOther (manifest_said reading)
manifest_other (Ok contents) = tt
manifest_other (Err first) = tt

-- and so does a look-up
package_other : (reading : Reading (List (List ℕ))) → IsOther (package_said reading)
package_other (Ok texts) = tt
package_other (Err first) = tt

-- what isn't there says something else
absent_other : (asked : Key) → IsOther (absent asked)
absent_other (key.List identity) = tt
absent_other (key.Manifest identity release) = tt
absent_other (key.Release identity release) = tt
absent_other (key.Archive identity release) = tt
absent_other (key.Identifiers url) = tt

-- and so do bytes that aren't kept
bare_other : (asked : Key) → IsOther (present asked None)
bare_other (key.List identity) = tt
bare_other (key.Manifest identity release) = tt
bare_other (key.Release identity release) = tt
bare_other (key.Archive identity release) = tt
bare_other (key.Identifiers url) = tt

-- with any status: nothing is too long where nothing is there
any_status : (ok long : Bool) (there gone : Said) → long_or_other long there → IsOther gone
    → long_or_other (ok && long) (if ok then there else gone)
any_status true long there gone is other = is
any_status false long there gone is other = other

-- and only lists are
other_status : (ok : Bool) (there gone : Said) → IsOther there → IsOther gone → IsOther (if ok then there else gone)
other_status true there gone is other = is
other_status false there gone is other = other

-- a reply says so where it is a list that is too long
said_long : (asked : Key) (status : ℕ) (content : Body) → long_or_other (is_long_list asked status content) (said_of asked (record { status = status; body = content }))
said_long (key.List identity) status (body.Whole bytes) =
    any_status (status == 200) (has_too_many (releases_of bytes)) _ _ (list_long (releases_of bytes)) tt
said_long (key.List identity) status (body.Sum sum length) = other_status (status == 200) _ _ tt tt
said_long (key.List identity) status body.Garbled = other_status (status == 200) _ _ tt tt
said_long (key.List identity) status body.TooLong = other_status (status == 200) _ _ tt tt
said_long (key.Manifest identity release) status (body.Whole bytes) = other_status (status == 200) _ _ (manifest_other (manifest_of bytes)) tt
said_long (key.Manifest identity release) status (body.Sum sum length) = other_status (status == 200) _ _ tt tt
said_long (key.Manifest identity release) status body.Garbled = other_status (status == 200) _ _ tt tt
said_long (key.Manifest identity release) status body.TooLong = other_status (status == 200) _ _ tt tt
said_long (key.Release identity release) status content = other_status (status == 200) _ _ tt tt
said_long (key.Archive identity release) status content = other_status (status == 200) _ _ tt tt
said_long (key.Identifiers url) status (body.Whole bytes) = other_status (status == 200) _ _ (package_other (identifiers_of bytes)) tt
said_long (key.Identifiers url) status (body.Sum sum length) = other_status (status == 200) _ _ tt tt
said_long (key.Identifiers url) status body.Garbled = other_status (status == 200) _ _ tt tt
said_long (key.Identifiers url) status body.TooLong = other_status (status == 200) _ _ tt tt

-- one that isn't too long says something else
isnt_long : (long : Bool) (said : Said) → long_or_other long said → long ≡ false → said ≢ TooMany
isnt_long true said is short = absurd (cc short)
isnt_long false said is short = other_isnt said is

-- and one that says something else isn't too long
isnt_too_many : (long : Bool) (said : Said) → long_or_other long said → said ≢ TooMany → long ≡ false
isnt_too_many true said is other = absurd (other is)
isnt_too_many false said is other = refl

-- ---- what a catalogue says

-- what it says of a key is what its reply does
said_there : (catalogue : Catalogue) (asked : Key) (reply : Reply) → map.get catalogue asked ≡ Some reply
    → said_in catalogue asked ≡ Some (reply_said asked reply)
said_there catalogue asked reply has = ap (option_map (reply_said asked)) has

-- a catalogue that answers a key says something of it
pub answered_said : (catalogue : Catalogue) (asked : Key) → Answers catalogue asked
    → (said : Said) × (said_in catalogue asked ≡ Some (Ok said)) × (said ≢ TooMany)
answered_said catalogue asked a = (
  said_of asked a.reply,
  said_there catalogue asked a.reply a.has ∙ ap (λ (refusal : Option Refusal). Some (unless_refused refusal (said_of asked a.reply))) a.isnt_refused,
  isnt_long _ _ (said_long asked a.reply.status a.reply.body) a.isnt_long,
)

-- a reply that says something isn't refused
not_refused : (refusal : Option Refusal) (there said : Said) → unless_refused refusal there ≡ Ok said → (refusal ≡ None) × (there ≡ said)
not_refused None there said is = (refl, cc is)
not_refused (Some refusal) there said is = absurd (cc is)

-- a catalogue that says something of a key, if not that its list is too long, answers it
pub said_answered : (catalogue : Catalogue) (asked : Key) (said : Said) → said_in catalogue asked ≡ Some (Ok said) → said ≢ TooMany
    → Answers catalogue asked
said_answered catalogue asked said is other = found (map.get catalogue asked) refl
  where
    found : (reply : Option Reply) → map.get catalogue asked ≡ reply → Answers catalogue asked
    found None has = absurd (cc (sym (ap (option_map (reply_said asked)) has) ∙ is))
    found (Some reply) has =
        let same : reply_said asked reply ≡ Ok said = cc (sym (said_there catalogue asked reply has) ∙ is) in
        let apart = not_refused (reply_refusal asked reply) (said_of asked reply) said same in
        record {
          reply = reply;
          has = has;
          isnt_refused = apart.0;
          isnt_long = isnt_too_many _ _ (said_long asked reply.status reply.body) (λ too_many. other (sym apart.1 ∙ too_many));
        }

-- what a catalogue says, one that extends it says too
pub said_onward : (first second : Catalogue) (asked : Key) (said : Result Said Refusal) → Extends second first
    → said_in first asked ≡ Some said → said_in second asked ≡ Some said
said_onward first second asked said extends is = found (map.get first asked) refl
  where
    found : (reply : Option Reply) → map.get first asked ≡ reply → said_in second asked ≡ Some said
    found None has = absurd (cc (sym (ap (option_map (reply_said asked)) has) ∙ is))
    found (Some reply) has =
        said_there second asked reply (subst (λ (reply : Option Reply). IfSome reply (λ reply. map.get second asked ≡ Some reply)) has (extends asked))
        ∙ sym (said_there first asked reply has) ∙ is
