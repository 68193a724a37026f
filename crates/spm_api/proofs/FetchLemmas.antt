-- A response of which no more was read than tells that it is too long.
use Rattle.std.proofs.Common.{◌≡◌, ℕ, ◌+◌, ◌*◌, List, length, take, Bool, true, nat_lt, Option, Some, None, IfSome, Ok, sym, ap, ◌∙◌, subst, inl, inr, arith}
use Rattle.std.proofs.lemmas.Bool.{cases_lt, lt-ltb}
use Rattle.std.proofs.lemmas.List.{length-take-le, take_all}
use Rattle.spm_http.specs.Response.{Hears, IsHeardIn}
use Rattle.spm_http.specs.declared.response_head.Heard.{Heard}
use Rattle.spm_key.specs.declared.key.Key.{Key}
use Rattle.spm_key.specs.declared.reply.Reply.{Reply}
use Rattle.spm_outside.specs.Book.{Pages, response_of}
use Rattle.spm_outside.specs.declared.book.Authority.{Authority}
use Rattle.spm_api.specs.Endpoint.{IsReply, limit_for}

-- what is heard of the front is heard of all
hears_cut : (limit : ℕ) (response : List ℕ) (heard : Heard) → Hears (Ok heard) limit (take (2 * limit + 65536 + 1) response) → Hears (Ok heard) limit response
hears_cut limit response heard hears =
    let n = 2 * limit + 65536 + 1 in
    elim (cases_lt n (length response)) [
      | inl longer ↦
          (let cut : nat_lt (2 * limit + 65536) (length (take n response)) ≡ true =
          lt-ltb (2 * limit + 65536) (length (take n response)) (let long = length-take-le n response (omega (arith, longer)) in omega (arith, long)) in
          let whole : nat_lt (2 * limit + 65536) (length response) ≡ true = lt-ltb (2 * limit + 65536) (length response) (omega (arith, longer)) in
          subst (λ (long : Bool). IsHeardIn long limit response heard) (sym whole)
          (subst (λ (long : Bool). IsHeardIn long limit (take n response) heard) cut hears))
      | inr within ↦ subst (Hears (Ok heard) limit) (take_all n response within) hears
    ]

-- the reply of the front is that of all
pub reply_cut : (key : Key) (response bytes : List ℕ) (reply : Reply) → bytes ≡ take (2 * limit_for key + 65536 + 1) response → IsReply key bytes reply
    → IsReply key response reply
reply_cut key response bytes reply cut is = record {
  what = is.what;
  hears = hears_cut (limit_for key) response is.what (subst (Hears (Ok is.what) (limit_for key)) cut is.hears);
  is = is.is;
}

-- the reply to what was sent, where the book is told
pub reply_told : (book : Option Pages) (key : Key) (to : Authority) (sent request bytes : List ℕ) (limit : ℕ) (reply : Reply) → sent ≡ request
    → limit ≡ 2 * limit_for key + 65536 + 1 → IfSome book (λ pages. bytes ≡ take limit (response_of pages to sent)) → IsReply key bytes reply
    → IfSome book (λ pages. IsReply key (response_of pages to request) reply)
reply_told None key to sent request bytes limit reply same limits told is = tt
reply_told (Some pages) key to sent request bytes limit reply same limits told is =
    reply_cut key (response_of pages to request) bytes reply
    (told ∙ ap (λ (n : ℕ). take n (response_of pages to sent)) limits ∙ ap (λ r. take (2 * limit_for key + 65536 + 1) (response_of pages to r)) same) is
