-- One step over the chunks.
use Rattle.std.proofs.Common.{◌≡◌, ℕ, zero, suc, ◌+◌, ◌<◌, ◌≤◌, ◌==◌, true, false, List, ◌++◌, length, take, drop, Some, None, sym, arith, nat_lt, inl, inr, if◌then◌else◌, length-drop}
use Rattle.std.proofs.lemmas.Bool.{cases_Bool}
use Rattle.spm_http.specs.Chunked.{behind_chunk, chunks_within, go_on, size_line}
use Rattle.spm_http.specs.declared.response_head.Heard.{Heard}
use Rattle.spm_http.specs.declared.response_head.Heard.TheVariants.{Whole, Garbled, TooLong}
use Rattle.spm_http.proofs.SizeLines.{end_length, line_length}

-- the chunks in these bytes, behind those of this body, are heard so; as many steps are left as there are bytes, or more
pub record Goes (status limit : ℕ) (body bytes : List ℕ) (heard : Heard) : Type 0 where
  pub steps : ℕ
  pub enough : length bytes ≤ steps
  pub same : chunks_within steps status limit body bytes ≡ heard

module _ (status limit : ℕ) (body bytes : List ℕ) (heard : Heard) where
  -- with no line left the chunks are garbled, whatever the steps
  no_step : (steps : ℕ) → chunks_within steps status limit body bytes ≡ heard → size_line bytes ≡ None → heard ≡ Garbled
  no_step zero same none = sym same
  no_step (suc steps) same none = sym (rw none at same)

  -- with no line there is no chunk
  pub no_chunk : Goes status limit body bytes heard → size_line bytes ≡ None → heard ≡ Garbled
  no_chunk goes none = no_step goes.steps goes.same none

-- what is heard where there is a line, with the steps that are left behind it
pub record Opened (status limit : ℕ) (body bytes : List ℕ) (heard : Heard) (size : ℕ) (behind : List ℕ) : Type 0 where
  pub steps : ℕ
  pub enough : length bytes ≤ suc steps
  pub same : (if nat_lt limit (length body + size) then TooLong
      else if size == 0 then Whole status body
      else go_on (chunks_within steps status limit) body size behind (behind_chunk size behind)) ≡ heard

-- behind a chunk fewer bytes are left
chunk_length : (size : ℕ) (behind rest : List ℕ) → behind_chunk size behind ≡ Some rest → length rest < length behind
chunk_length size behind rest h = elim (cases_Bool (nat_lt (length behind) size)) [
  | inl short ↦ let none = rw short at h in cc
  | inr whole ↦ omega (arith, length-drop size behind, end_length (drop size behind) rest (rw whole at h))
]

module _ (status limit : ℕ) (body bytes : List ℕ) (heard : Heard) (size : ℕ) (behind : List ℕ) (line : size_line bytes ≡ Some (size, behind)) where
  -- what a line opens, with these steps left
  opened_at : (steps : ℕ) → length bytes ≤ steps → chunks_within steps status limit body bytes ≡ heard
      → Opened status limit body bytes heard size behind
  opened_at zero enough same = absurd (omega (arith, enough, line_length bytes size behind line))
  opened_at (suc steps) enough same = record { steps = steps; enough = enough; same = rw line at same }

  -- what a line opens
  opened : Goes status limit body bytes heard → Opened status limit body bytes heard size behind
  opened goes = opened_at goes.steps goes.enough goes.same

  -- a chunk that exceeds the limit
  pub too_long_chunk : Goes status limit body bytes heard → nat_lt limit (length body + size) ≡ true → heard ≡ TooLong
  too_long_chunk goes long = sym (rw long at (opened goes).same)

  -- the last chunk ends the body
  pub last_chunk : Goes status limit body bytes heard → nat_lt limit (length body + size) ≡ false → (size == 0) ≡ true → heard ≡ Whole status body
  last_chunk goes fits last = sym (rw (fits, last) at (opened goes).same)

  -- a chunk without its end is garbled
  pub cut_chunk : Goes status limit body bytes heard → nat_lt limit (length body + size) ≡ false → (size == 0) ≡ false
      → behind_chunk size behind ≡ None → heard ≡ Garbled
  cut_chunk goes fits more none = sym (rw (fits, more, none) at (opened goes).same)

  -- behind a chunk
  pub goes_on : Goes status limit body bytes heard → nat_lt limit (length body + size) ≡ false → (size == 0) ≡ false
      → (rest : List ℕ) → behind_chunk size behind ≡ Some rest
      → Goes status limit (body ++ take size behind) rest heard × (length rest < length bytes)
  goes_on goes fits more rest next =
      let on = opened goes in
      let shorter = chunk_length size behind rest next in
      let line_shorter = line_length bytes size behind line in (
        record { steps = on.steps; enough = omega (arith, shorter, line_shorter, on.enough); same = rw (fits, more, next) at on.same },
        omega (arith, shorter, line_shorter),
      )
