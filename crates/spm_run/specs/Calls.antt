-- The calls of links for a key.
use Rattle.std.specs.Prelude.{ℕ, ◌&&◌, Bool, true, false, List, Option, Some, None, count_by, sum_by}
use Rattle.std.specs.Str.{bytes_eq}
use Rattle.spm_api.specs.Endpoint.{request_for}
use Rattle.spm_api.specs.declared.base.Base.{Base}
use Rattle.spm_key.specs.declared.key.Key.{Key}
use Rattle.spm_outside.specs.Book.{same_authority}
use Rattle.spm_outside.specs.Link.{LinkState}
use Rattle.spm_outside.specs.declared.link.Call.{Call}
use Rattle.spm_session.specs.declared.outcome.Outcome.{Outcome}
use Rattle.spm_session.specs.declared.outcome.Outcome.TheVariants as outcome

-- the registry was asked for the key
abbrev pub is_call_for : Base → Key → Call → Bool
is_call_for base key call = same_authority call.to base.to && bytes_eq call.request (request_for base key)

-- how many calls there are for the key
abbrev pub calls_for : Base → Key → Option (List Call) → ℕ
calls_for base key None = 0
calls_for base key (Some calls) = count_by (is_call_for base key) calls

-- how many of them failed
abbrev pub failed_calls_for : Base → Key → Option (List Call) → ℕ
failed_calls_for base key None = 0
failed_calls_for base key (Some calls) = count_by (λ call. is_call_for base key call && call.failed) calls

module _ {L : Type 0} (state : L → LinkState) (base : Base) (key : Key) where
  -- of several links
  abbrev pub all_calls_for : List L → ℕ
  all_calls_for links = sum_by (λ (link : L). calls_for base key (state link).calls) links

  abbrev pub all_failed_calls_for : List L → ℕ
  all_failed_calls_for links = sum_by (λ (link : L). failed_calls_for base key (state link).calls) links

-- the root found no memory
abbrev pub is_memory : Outcome → Bool
is_memory outcome.Memory = true
is_memory other = false

-- how many roots found no memory
abbrev pub memories : List Outcome → ℕ
memories outcomes = count_by is_memory outcomes
