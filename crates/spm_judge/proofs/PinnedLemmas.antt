-- Replies by their keys, and releases in lists.
use Rattle.std.proofs.Common.{◌≡◌, ◌||◌, Bool, cond, List, [], ◌∷◌, Some, refl, sym, ap, ap₂, ◌∙◌}
use Rattle.std.specs.BTreeMap.{BTreeMap, UpdatesBy, get}
use Rattle.std.specs.List.{list_any}
use Rattle.spm_key.specs.KeyLaws.{key_cmp, key_eq, key_ties}
use Rattle.spm_key.specs.declared.key.Key.{Key}
use Rattle.spm_key.specs.declared.reply.Reply.{Reply}
use Rattle.spm_version.specs.Release.{Parts}
use Rattle.spm_version.specs.ReleaseLaws.{release_eq, release_equiv}

-- a reply is found where it was put
pub reply_put : (old new : BTreeMap Key Reply) (asked : Key) (reply : Reply) → UpdatesBy key_cmp (key_cmp asked) old new (Some reply)
    → (other : Key) → get key_cmp new other ≡ cond (key_eq asked other) (Some reply) (get key_cmp old other)
reply_put old new asked reply updates other =
    updates.0 other ∙ ap (λ (same : Bool). cond same (Some reply) (get key_cmp old other)) (sym (key_ties asked other))

-- a list has a release, whichever stands first
pub release_turned : (release : Parts) (releases : List Parts) → list_any (λ one. release_eq one release) releases ≡ list_any (release_eq release) releases
release_turned release [] = refl
release_turned release (one ∷ releases) = ap₂ (λ a b. a || b) (release_equiv.symm one release) (release_turned release releases)
