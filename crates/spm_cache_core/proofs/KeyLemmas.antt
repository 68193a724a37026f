-- Keys are told apart by `key_eq`.
use Rattle.std.proofs.Common.{◌≡◌, Bool, true, false, not, cond, List, [], ◌∷◌, ◌||◌, sym, refl, ap, ◌∙◌, true≢false}
use Rattle.std.specs.Ordering.{eq_by_cmp}
use Rattle.spm_key.proofs.KeyLemmas.{same_key}
use Rattle.spm_key.specs.KeyLaws.{key_cmp, key_eq, key_equiv, key_ties}
use Rattle.spm_key.specs.declared.key.Key.{Key}
use Rattle.spm_cache_core.specs.Hints.{is_among_keys}
use Rattle.spm_cache_core.specs.State.{without}

-- keys that the test finds the same are one
pub one_key : (first second : Key) → key_eq first second ≡ true → first ≡ second
one_key first second same = same_key first second (sym (key_ties first second) ∙ same)

-- each key is the same as itself
pub key_itself : (key : Key) → key_eq key key ≡ true
key_itself = key_equiv.refl

-- the test goes both ways
pub key_turned : (first second : Key) → key_eq first second ≡ key_eq second first
key_turned = key_equiv.symm

-- the order's test is this test
pub key_order : (first second : Key) → eq_by_cmp key_cmp first second ≡ key_eq second first
key_order first second = sym (key_ties first second) ∙ key_turned first second

-- nothing is true and false
pub not_both : {A : Type 0} (b : Bool) → b ≡ true → b ≡ false → A
not_both b is none = absurd (true≢false (sym is ∙ none))

-- the same, for one key more
without_step : (j k m : Key) (ms : List Key) (same : Bool) → key_eq m j ≡ same → key_eq j k ≡ false
    → is_among_keys (without j ms) k ≡ is_among_keys ms k
    → is_among_keys (cond (not same) (m ∷ without j ms) (without j ms)) k ≡ (key_eq m k || is_among_keys ms k)
without_step j k m ms true is apart rest =
    rest ∙ ap (λ b. b || is_among_keys ms k) (sym (ap (λ z. key_eq z k) (one_key m j is) ∙ apart))
without_step j k m ms false is apart rest = ap (λ b. key_eq m k || b) rest

-- another key stays among the keys without this one
pub without_other : (j k : Key) (keys : List Key) → key_eq j k ≡ false → is_among_keys (without j keys) k ≡ is_among_keys keys k
without_other j k [] apart = refl
without_other j k (m ∷ ms) apart = without_step j k m ms (key_eq m j) refl apart (without_other j k ms apart)

-- the same, for one key more
gone_step : (j m : Key) (ms : List Key) (same : Bool) → key_eq m j ≡ same → is_among_keys (without j ms) j ≡ false
    → is_among_keys (cond (not same) (m ∷ without j ms) (without j ms)) j ≡ false
gone_step j m ms true is rest = rest
gone_step j m ms false is rest = ap (λ b. b || is_among_keys (without j ms) j) is ∙ rest

-- a key isn't among the keys without it
pub without_itself : (j : Key) (keys : List Key) → is_among_keys (without j keys) j ≡ false
without_itself j [] = refl
without_itself j (m ∷ ms) = gone_step j m ms (key_eq m j) refl (without_itself j ms)
