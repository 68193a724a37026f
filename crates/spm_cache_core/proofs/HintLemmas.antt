-- What was hinted, and the first of it that was never begun.
use Rattle.std.proofs.Common.{◌≡◌, ℕ, zero, suc, Bool, true, false, cond, ◌||◌, ◌&&◌, List, [], ◌∷◌, ◌++◌, Option, Some, None, sym, refl, ap, ap₂, ◌∙◌, take, append_assoc, append-nil}
use Rattle.std.specs.List.{list_all, slice_get}
use Rattle.std.specs.Prelude.{filter, not}
use Rattle.std.proofs.lemmas.List.Folds.{list_any-append}
use Rattle.spm_key.specs.KeyLaws.{key_eq}
use Rattle.spm_key.specs.declared.key.Key.{Key}
use Rattle.spm_cache_core.specs.Answers.{ClaimAnswer, first_unbegun}
use Rattle.spm_cache_core.specs.Answers as answer
use Rattle.spm_cache_core.specs.Hints.{hinted, hinted_after, hints, is_among_keys, is_begun, with_hints}
use Rattle.spm_cache_core.specs.History.{begins}
use Rattle.spm_cache_core.specs.State.{queued, queued_after, unbegun}
use Rattle.spm_cache_core.specs.declared.event.Event.{Event}
use Rattle.spm_cache_core.proofs.KeyLemmas.{not_both, one_key}

-- the first answer, or where it is nothing the other
abbrev or_else : ClaimAnswer → ClaimAnswer → ClaimAnswer
or_else answer.Nothing other = other
or_else answer.Closed other = answer.Closed
or_else (answer.Fetch key) other = answer.Fetch key

-- nothing else is to be found
or_nothing : (one : ClaimAnswer) → or_else one answer.Nothing ≡ one
or_nothing answer.Nothing = refl
or_nothing answer.Closed = refl
or_nothing (answer.Fetch key) = refl

-- the same, for one key more
append_step : (was : Bool) (key : Key) (here there both : ClaimAnswer) → both ≡ or_else here there
    → cond was both (answer.Fetch key) ≡ or_else (cond was here (answer.Fetch key)) there
append_step true key here there both rest = rest
append_step false key here there both rest = refl

-- the first of two lists, one behind the other
first-append : (history : List Event) (keys more : List Key)
    → first_unbegun history (keys ++ more) ≡ or_else (first_unbegun history keys) (first_unbegun history more)
first-append history [] more = refl
first-append history (key ∷ keys) more =
    append_step (is_begun key history) key (first_unbegun history keys) (first_unbegun history more) _ (first-append history keys more)

-- of two of which one holds, the second where the first does not
same_or : (a b : Bool) → (a || b) ≡ true → a ≡ false → b ≡ true
same_or true b h none = not_both true refl none
same_or false b h none = h

-- the same, for one key more
among_step : (history : List Event) (key m : Key) (ms : List Key) (was same : Bool) (other : ClaimAnswer)
    → is_begun m history ≡ was → key_eq m key ≡ same → (same || is_among_keys ms key) ≡ true → is_begun key history ≡ false
    → (is_among_keys ms key ≡ true → or_else (first_unbegun history ms) other ≡ first_unbegun history ms)
    → or_else (cond was (first_unbegun history ms) (answer.Fetch m)) other ≡ cond was (first_unbegun history ms) (answer.Fetch m)
among_step history key m ms false same other was_is same_is among none rest = refl
among_step history key m ms true true other was_is same_is among none rest =
    not_both (is_begun key history) (ap (λ k. is_begun k history) (sym (one_key m key same_is)) ∙ was_is) none
among_step history key m ms true false other was_is same_is among none rest = rest among

-- behind a key that was never begun nothing is found
first_among : (history : List Event) (key : Key) (keys : List Key) (other : ClaimAnswer) → is_among_keys keys key ≡ true
    → is_begun key history ≡ false → or_else (first_unbegun history keys) other ≡ first_unbegun history keys
first_among history key [] other among none = not_both false among refl
first_among history key (m ∷ ms) other among none =
    among_step history key m ms (is_begun m history) (key_eq m key) other refl refl among none
    (λ later. first_among history key ms other later none)

-- the same, by whether the key was begun
skip_step : (history : List Event) (keys rest : List Key) (key : Key) (was : Bool) → is_begun key history ≡ was
    → (was ≡ false → is_among_keys keys key ≡ true)
    → or_else (first_unbegun history keys) (first_unbegun history rest)
    ≡ or_else (first_unbegun history keys) (cond was (first_unbegun history rest) (answer.Fetch key))
skip_step history keys rest key true is among = refl
skip_step history keys rest key false is among =
    first_among history key keys (first_unbegun history rest) (among refl) is
    ∙ sym (first_among history key keys (answer.Fetch key) (among refl) is)

-- a key that is among those before it, or was begun, can be left out
first_skips : (history : List Event) (keys rest : List Key) (key : Key)
    → (is_begun key history ≡ false → is_among_keys keys key ≡ true)
    → first_unbegun history (keys ++ rest) ≡ first_unbegun history (keys ++ key ∷ rest)
first_skips history keys rest key among =
    first-append history keys rest ∙ skip_step history keys rest key (is_begun key history) refl among
    ∙ sym (first-append history keys (key ∷ rest))

-- a test or none
or_none : (b : Bool) → (b || false) ≡ b
or_none true = refl
or_none false = refl

-- what was begun is begun in a longer history
begun_later : (key : Key) (before more : List Event) → is_begun key before ≡ true → is_begun key (before ++ more) ≡ true
begun_later key before more was =
    list_any-append (λ e. begins key e.act) before more ∙ ap (λ b. b || is_begun key more) was

-- what was never begun was not begun earlier
begun_earlier : (key : Key) (before more : List Event) (was : Bool) → is_begun key before ≡ was
    → is_begun key (before ++ more) ≡ false
    → was ≡ false
begun_earlier key before more true is none = not_both (is_begun key (before ++ more)) (begun_later key before more is) none
begun_earlier key before more false is none = refl

-- the same, for one key more
hints_step : (before more : List Event) (keys others : List Key) (key : Key) (test : Bool)
    → (is_among_keys keys key || is_begun key before) ≡ test
    → ((some : List Key)
    → first_unbegun (before ++ more) (with_hints before some others) ≡ first_unbegun (before ++ more) (some ++ others))
    → first_unbegun (before ++ more) (with_hints before (cond test keys (keys ++ key ∷ [])) others)
    ≡ first_unbegun (before ++ more) (keys ++ key ∷ others)
hints_step before more keys others key true is rest =
    rest keys
    ∙ first_skips (before ++ more) keys others key
    (λ none. let early = begun_earlier key before more (is_begun key before) refl none in
    sym (or_none (is_among_keys keys key)) ∙ ap (λ b. is_among_keys keys key || b) (sym early) ∙ is)
hints_step before more keys others key false is rest =
    rest (keys ++ key ∷ []) ∙ ap (first_unbegun (before ++ more)) (append_assoc keys (key ∷ []) others)

-- the keys of a hint, each at its first place, have the same first
first-with_hints : (before more : List Event) (keys others : List Key)
    → first_unbegun (before ++ more) (with_hints before keys others) ≡ first_unbegun (before ++ more) (keys ++ others)
first-with_hints before more keys [] = ap (first_unbegun (before ++ more)) (sym (append-nil keys))
first-with_hints before more keys (key ∷ others) =
    hints_step before more keys others key (is_among_keys keys key || is_begun key before) refl
    (λ some. first-with_hints before more some others)

-- the same, for one key more
unbegun_step : (before more : List Event) (key : Key) (was : Bool) (here : ClaimAnswer) (rest : List Key) → is_begun key before ≡ was
    → first_unbegun (before ++ more) rest ≡ here
    → first_unbegun (before ++ more) (cond (not was) (key ∷ rest) rest) ≡ cond (is_begun key (before ++ more)) here (answer.Fetch key)
unbegun_step before more key true here rest is same =
    same ∙ sym (ap (λ b. cond b here (answer.Fetch key)) (begun_later key before more is))
unbegun_step before more key false here rest is same =
    ap (λ found. cond (is_begun key (before ++ more)) found (answer.Fetch key)) same

-- the keys that were begun earlier can be left out
first-unbegun : (before more : List Event) (keys : List Key)
    → first_unbegun (before ++ more) (unbegun before keys) ≡ first_unbegun (before ++ more) keys
first-unbegun before more [] = refl
first-unbegun before more (key ∷ keys) =
    unbegun_step before more key (is_begun key before) (first_unbegun (before ++ more) keys) (unbegun before keys) refl
    (first-unbegun before more keys)

-- hinted and queued keys have the same first, if they had before
first_both : (before more history : List Event) (keys others : List Key) → history ≡ before ++ more
    → first_unbegun history keys ≡ first_unbegun history others
    → first_unbegun history (hinted_after before keys more) ≡ first_unbegun history (queued_after before others more)
first_both before [] history keys others is same = same
first_both before (e ∷ es) history keys others is same =
    let each = hints e.act in
    let shorter : first_unbegun history (with_hints before keys each) ≡ first_unbegun history (keys ++ each) =
    ap (λ h. first_unbegun h (with_hints before keys each)) is ∙ first-with_hints before (e ∷ es) keys each
    ∙ ap (λ h. first_unbegun h (keys ++ each)) (sym is) in
    let fewer : first_unbegun history (unbegun before each) ≡ first_unbegun history each =
    ap (λ h. first_unbegun h (unbegun before each)) is ∙ first-unbegun before (e ∷ es) each ∙ ap (λ h. first_unbegun h each) (sym is) in
    first_both (before ++ e ∷ []) es history (with_hints before keys each) (others ++ unbegun before each)
    (is ∙ sym (append_assoc before (e ∷ []) es))
    (shorter ∙ first-append history keys each ∙ ap₂ or_else same (sym fewer) ∙ sym (first-append history others (unbegun before each)))

-- the first of the hinted keys that was never begun is the first of the queued ones
pub first-hinted : (history : List Event) → first_unbegun history (hinted history) ≡ first_unbegun history (queued history)
first-hinted history = first_both [] history history [] [] refl refl

-- what is queued by two histories, one behind the other
queued-append : (before : List Event) (keys : List Key) (history more : List Event)
    → queued_after before keys (history ++ more) ≡ queued_after (before ++ history) (queued_after before keys history) more
queued-append before keys [] more = ap (λ b. queued_after b keys more) (sym (append-nil before))
queued-append before keys (e ∷ es) more =
    queued-append (before ++ e ∷ []) (keys ++ unbegun before (hints e.act)) es more
    ∙ ap (λ b. queued_after b (queued_after before keys (e ∷ es)) more) (append_assoc before (e ∷ []) es)

-- what an event adds to the queue
pub queued-snoc : (history : List Event) (e : Event) → queued (history ++ e ∷ []) ≡ queued history ++ unbegun history (hints e.act)
queued-snoc history e = queued-append [] [] history (e ∷ [])

-- the same, for one key more
filter_step : (p q : Bool) (key : Key) (here there : List Key) → p ≡ q → here ≡ there → cond p (key ∷ here) here ≡ cond q (key ∷ there) there
filter_step p q key here there same rest = ap₂ (λ (b : Bool) keys. cond b (key ∷ keys) keys) same rest

-- two tests that agree keep the same keys
pub filter_alike : (p q : Key → Bool) (keys : List Key) → ((key : Key) → p key ≡ q key) → filter p keys ≡ filter q keys
filter_alike p q [] alike = refl
filter_alike p q (key ∷ keys) alike = filter_step (p key) (q key) key _ _ (alike key) (filter_alike p q keys alike)

-- the first of two that hold
both_first : (a b : Bool) → (a && b) ≡ true → a ≡ true
both_first true b h = refl
both_first false b h = not_both false h refl

-- the second of two that hold
both_second : (a b : Bool) → (a && b) ≡ true → b ≡ true
both_second true b h = h
both_second false b h = not_both false h refl

-- the first that was never begun stands behind those that were begun
pub first_at : (history : List Event) (keys : List Key) (next : ℕ) (key : Key)
    → list_all (λ k. is_begun k history) (take next keys) ≡ true → slice_get keys next ≡ Some key → is_begun key history ≡ false
    → first_unbegun history keys ≡ answer.Fetch key
first_at history [] next key all at none = let wrong : None ≡ Some key = at in absurd (cc)
first_at history (k ∷ ks) zero key all at none =
    let same : k ≡ key = ap (λ o. or_this o k) at in
    ap (λ b. cond b (first_unbegun history ks) (answer.Fetch k)) (ap (λ z. is_begun z history) same ∙ none) ∙ ap answer.Fetch same
  where
    or_this : Option Key → Key → Key
    or_this None other = other
    or_this (Some x) other = x
first_at history (k ∷ ks) (suc next) key all at none =
    ap (λ b. cond b (first_unbegun history ks) (answer.Fetch k)) (both_first (is_begun k history) _ all)
    ∙ first_at history ks next key (both_second (is_begun k history) _ all) at none

-- where all were begun, there is none
pub first_none_at : (history : List Event) (keys : List Key) (next : ℕ)
    → list_all (λ k. is_begun k history) (take next keys) ≡ true → slice_get keys next ≡ None
    → first_unbegun history keys ≡ answer.Nothing
first_none_at history [] next all at = refl
first_none_at history (k ∷ ks) zero all at = let wrong : Some k ≡ None = at in absurd (cc)
first_none_at history (k ∷ ks) (suc next) all at =
    ap (λ b. cond b (first_unbegun history ks) (answer.Fetch k)) (both_first (is_begun k history) _ all)
    ∙ first_none_at history ks next (both_second (is_begun k history) _ all) at

-- a test that is true wherever another is
pub all_weaker : (p q : Key → Bool) (keys : List Key) → ((key : Key) → p key ≡ true → q key ≡ true) → list_all p keys ≡ true
    → list_all q keys ≡ true
all_weaker p q [] weaker all = refl
all_weaker p q (key ∷ keys) weaker all =
    ap₂ (λ (a b : Bool). a && b) (weaker key (both_first (p key) _ all)) (all_weaker p q keys weaker (both_second (p key) _ all))

-- keys that were begun are begun in a longer history
pub passed_later : (keys : List Key) (history more : List Event) → list_all (λ key. is_begun key history) keys ≡ true
    → list_all (λ key. is_begun key (history ++ more)) keys ≡ true
passed_later keys history more all = all_weaker _ _ keys (λ key was. begun_later key history more was) all
