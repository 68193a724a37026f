-- Reading the head of a request: what `httparse`'s grammar of RFC 9112 says a head is, with at most 64 fields, within the first
-- 65,536 bytes.
use Rattle.std.specs.Prelude.{◌≡◌, ℕ, ◌<◌, ◌≤◌, ◌⊎◌, List, [], ◌∷◌, ◌++◌, length, codes, Option, Some, None, Result, Ok, Err, if◌then◌else◌}
use Rattle.std.specs.Str.{str_eq_ignore_ascii_case}
use Rattle.httparse.specs.Grammar.{EndsInTarget, Field, ReadsRequest, RequestHead as Head, field_value, print_request}
use Rattle.spm_http.specs.declared.request_head.HttpFault.{HttpFault}
use Rattle.spm_http.specs.declared.request_head.HttpFault.TheVariants.{Partial, Bad, Memory}
use Rattle.spm_http.specs.declared.request_head.RequestHead.{RequestHead}

-- a head, with what follows it, stands at the front of the bytes, within the limits
pub record HasHead (bytes : List ℕ) (head : Head) (rest : List ℕ) : Type 0 where
  pub reads : ReadsRequest bytes head rest
  pub fields : length head.fields ≤ 64
  pub fits : length (print_request head) ≤ 65536

-- no head does
abbrev pub HasNoHead : List ℕ → Type 0
HasNoHead bytes = (head : Head) (rest : List ℕ) → ¬ (HasHead bytes head rest)

-- more bytes, at least one, make them a head of at most 64 fields
pub record IsProperPrefix (bytes : List ℕ) : Type 0 where
  pub next : ℕ
  pub more : List ℕ
  pub head : Head
  pub reads : ReadsRequest (bytes ++ next ∷ more) head []
  pub fields : length head.fields ≤ 64

-- the value of the first field whose name is Accept in any case
abbrev pub accept_in : List Field → Option (List ℕ)
accept_in [] = None
accept_in (field ∷ fields) = if str_eq_ignore_ascii_case field.name (codes "accept") then Some (field_value field) else accept_in fields

-- what is read of a head
abbrev pub head_view : Head → RequestHead
head_view head = record {
  method = head.method;
  target = head.target;
  accept = accept_in head.fields;
  length = length (print_request head);
}

pub record IsRead (bytes : List ℕ) (found : RequestHead) : Type 0 where
  pub head : Head
  pub rest : List ℕ
  pub has : HasHead bytes head rest
  pub is : found ≡ head_view head

-- what the reader answers: a head; that it may still come; or that none does. Bytes that end inside the target, whose test for
-- UTF-8 waits for its end, may be told as unfinished though nothing completes them.
abbrev pub ReadsHead : Result RequestHead HttpFault → List ℕ → Type 0
ReadsHead (Ok found) bytes = IsRead bytes found
ReadsHead (Err Partial) bytes = HasNoHead bytes × (length bytes < 65536) × (IsProperPrefix bytes ⊎ EndsInTarget bytes)
ReadsHead (Err Bad) bytes = HasNoHead bytes × (length bytes < 65536 → ¬ (IsProperPrefix bytes))
ReadsHead (Err Memory) bytes = Unit {0}
