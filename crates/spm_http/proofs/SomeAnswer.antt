-- Each response is heard as something.
use Rattle.std.proofs.Common.{ℕ, ◌+◌, ◌*◌, ◌≤◌, Bool, true, false, List, length, nat_lt, refl, arith, inl, inr}
use Rattle.std.specs.Prelude.{◌⊎◌}
use Rattle.std.proofs.lemmas.Bool.{cases_Bool}
use Rattle.std.proofs.lemmas.Bool.Decides.{nat_tests}
use Rattle.httparse.proofs.GrammarLemmas.{response_unique}
use Rattle.httparse.specs.Grammar.{ReadsResponse, ResponseHead, print_response}
use Rattle.std.specs.Prelude.{Ok}
use Rattle.spm_http.specs.Response.{HasNoResponse, HasResponse, Hears, IsHeardIn, heard_of}
use Rattle.spm_http.specs.declared.response_head.Heard.{Heard}
use Rattle.spm_http.specs.declared.response_head.Heard.TheVariants.{Garbled, TooLong}
use Rattle.spm_http.proofs.Told.{response_told}

-- a number is within a bound, or isn't
within_or_not : (number bound : ℕ) → (number ≤ bound) ⊎ ¬ (number ≤ bound)
within_or_not number bound = elim (cases_Bool (nat_lt bound number)) [
  | inl above ↦ inr (λ within. grind (arith, nat_tests))
  | inr not ↦ inl (grind (arith, nat_tests))
]

-- the one head that bytes begin with is within the bounds, or they have none
has_or_not : (bytes : List ℕ) (head : ResponseHead) (rest : List ℕ) → ReadsResponse bytes head rest
    → HasResponse bytes head rest ⊎ HasNoResponse bytes
has_or_not bytes head rest reads = either (within_or_not (length head.fields) 64) (within_or_not (length (print_response head)) 65536)
  where
    either : (length head.fields ≤ 64) ⊎ ¬ (length head.fields ≤ 64)
        → (length (print_response head) ≤ 65536) ⊎ ¬ (length (print_response head) ≤ 65536) → HasResponse bytes head rest ⊎ HasNoResponse bytes
    either (inl few) (inl fits) = inl (record { reads = reads; fields = few; fits = fits })
    either (inr many) fits = inr (λ other left has.
        let same = response_unique bytes other head left rest has.reads reads in many (rw (← same.0) has.fields))
    either few (inr longer) = inr (λ other left has.
        let same = response_unique bytes other head left rest has.reads reads in longer (rw (← same.0) has.fits))

-- what is heard of bytes, be they too long or not
heard_in : (long : Bool) (limit : ℕ) (bytes : List ℕ) → (what : Heard) × IsHeardIn long limit bytes what
heard_in true limit bytes = (TooLong, refl)
heard_in false limit bytes = elim (response_told bytes) [
  | inl read ↦ elim (has_or_not bytes read.0 read.1 read.2) [
    | inl has ↦ (heard_of limit read.0 read.1, inl (record { head = read.0; rest = read.1; has = has; is = refl }))
    | inr none ↦ (Garbled, inr (none, refl))
  ]
  | inr none ↦ (Garbled, inr (λ head rest has. none head rest has.reads, refl))
]

-- each response is heard as something
pub heard_somehow : (limit : ℕ) (response : List ℕ) → (what : Heard) × Hears (Ok what) limit response
heard_somehow limit response = heard_in (nat_lt (2 * limit + 65536) (length response)) limit response
