-- A number that is no status has no phrase; a response is its lines and its body.
use Rattle.std.proofs.Common.{◌≡◌, ℕ, length, codes, ◌++◌, append_assoc, List, Option, Some, None, refl, ap, ◌∙◌, sym, subst, arith}
use Rattle.std.proofs.lemmas.Bool.{ne_eqb}
use Rattle.std.specs.Prelude.{if◌then◌else◌, ◌==◌}
use Rattle.std.specs.Fmt.{decimal}
use Rattle.http.specs.StatusCode.{IsStatusCode, reason_phrase}
use Rattle.spm_http.specs.Parts.{response_lines}
use Rattle.spm_http.specs.Writing.{phrase_or_none, response_text}

module _ (n : ℕ) (other : IsStatusCode n → ⊥) where
  -- the number is not this status, and the rest has no phrase for it
  skip : (k : ℕ) (phrase : List ℕ) (rest : Option (List ℕ)) → IsStatusCode k → rest ≡ None
      → (if n == k then Some phrase else rest) ≡ None
  skip k phrase rest is none =
      ap (λ b. if b then Some phrase else rest) (ne_eqb n k (λ e. other (subst IsStatusCode (sym e) is))) ∙ none

  pub no_phrase : reason_phrase n ≡ None
  no_phrase =
      skip 100 _ _ (omega arith, omega arith) (skip 101 _ _ (omega arith, omega arith) (skip 102 _ _ (omega arith, omega arith) (
      skip 103 _ _ (omega arith, omega arith) (skip 200 _ _ (omega arith, omega arith) (skip 201 _ _ (omega arith, omega arith) (
      skip 202 _ _ (omega arith, omega arith) (skip 203 _ _ (omega arith, omega arith) (skip 204 _ _ (omega arith, omega arith) (
      skip 205 _ _ (omega arith, omega arith) (skip 206 _ _ (omega arith, omega arith) (skip 207 _ _ (omega arith, omega arith) (
      skip 208 _ _ (omega arith, omega arith) (skip 226 _ _ (omega arith, omega arith) (skip 300 _ _ (omega arith, omega arith) (
      skip 301 _ _ (omega arith, omega arith) (skip 302 _ _ (omega arith, omega arith) (skip 303 _ _ (omega arith, omega arith) (
      skip 304 _ _ (omega arith, omega arith) (skip 305 _ _ (omega arith, omega arith) (skip 307 _ _ (omega arith, omega arith) (
      skip 308 _ _ (omega arith, omega arith) (skip 400 _ _ (omega arith, omega arith) (skip 401 _ _ (omega arith, omega arith) (
      skip 402 _ _ (omega arith, omega arith) (skip 403 _ _ (omega arith, omega arith) (skip 404 _ _ (omega arith, omega arith) (
      skip 405 _ _ (omega arith, omega arith) (skip 406 _ _ (omega arith, omega arith) (skip 407 _ _ (omega arith, omega arith) (
      skip 408 _ _ (omega arith, omega arith) (skip 409 _ _ (omega arith, omega arith) (skip 410 _ _ (omega arith, omega arith) (
      skip 411 _ _ (omega arith, omega arith) (skip 412 _ _ (omega arith, omega arith) (skip 413 _ _ (omega arith, omega arith) (
      skip 414 _ _ (omega arith, omega arith) (skip 415 _ _ (omega arith, omega arith) (skip 416 _ _ (omega arith, omega arith) (
      skip 417 _ _ (omega arith, omega arith) (skip 418 _ _ (omega arith, omega arith) (skip 421 _ _ (omega arith, omega arith) (
      skip 422 _ _ (omega arith, omega arith) (skip 423 _ _ (omega arith, omega arith) (skip 424 _ _ (omega arith, omega arith) (
      skip 425 _ _ (omega arith, omega arith) (skip 426 _ _ (omega arith, omega arith) (skip 428 _ _ (omega arith, omega arith) (
      skip 429 _ _ (omega arith, omega arith) (skip 431 _ _ (omega arith, omega arith) (skip 451 _ _ (omega arith, omega arith) (
      skip 500 _ _ (omega arith, omega arith) (skip 501 _ _ (omega arith, omega arith) (skip 502 _ _ (omega arith, omega arith) (
      skip 503 _ _ (omega arith, omega arith) (skip 504 _ _ (omega arith, omega arith) (skip 505 _ _ (omega arith, omega arith) (
      skip 506 _ _ (omega arith, omega arith) (skip 507 _ _ (omega arith, omega arith) (skip 508 _ _ (omega arith, omega arith) (
      skip 510 _ _ (omega arith, omega arith) (skip 511 _ _ (omega arith, omega arith) (refl))))))))))))))))))))))))))))))))))))))))))))))))))))))))))))))

-- the lines and the body, with any phrase
abbrev whole : List ℕ → List ℕ → List ℕ → List ℕ → List ℕ → List ℕ
whole status kind count body phrase = codes "HTTP/1.1 " ++ (status ++ (codes " " ++ (phrase
    ++ (codes "\r\nContent-Version: 1\r\nContent-Type: " ++ (kind ++ (codes "\r\nContent-Length: " ++ (count
    ++ (codes "\r\nConnection: close\r\n\r\n" ++ body))))))))

-- the lines and the body are grouped to the right
regroup : (status phrase kind count body : List ℕ)
    → (codes "HTTP/1.1 " ++ (status ++ (codes " " ++ (phrase ++ (codes "\r\nContent-Version: 1\r\nContent-Type: "
    ++ (kind ++ (codes "\r\nContent-Length: " ++ (count ++ codes "\r\nConnection: close\r\n\r\n")))))))) ++ body
    ≡ whole status kind count body phrase
regroup status phrase kind count body = simp append_assoc

-- the lines and the body are the response
pub lines_and_body : (status : ℕ) (phrase kind body : List ℕ) → phrase ≡ phrase_or_none (reason_phrase status)
    → response_lines status phrase kind (length body) ++ body ≡ response_text status kind body
lines_and_body status phrase kind body e =
    regroup (decimal status) phrase kind (decimal (length body)) body
    ∙ ap (whole (decimal status) kind (decimal (length body)) body) e
