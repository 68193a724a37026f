-- Words for the parts of reading and writing.
use Rattle.std.specs.Prelude.{ℕ, ◌≤◌, List, [], ◌∷◌, ◌++◌, length, codes, Option, Some, None, if◌then◌else◌}
use Rattle.std.specs.Fmt.{decimal}
use Rattle.std.specs.Str.{str_eq_ignore_ascii_case}
use Rattle.httparse.specs.declared.spans.HeaderSpan.{HeaderSpan}
use Rattle.httparse.specs.Grammar.{ReadsRequest, RequestHead as Head}
use Rattle.httparse.specs.Spans.{span_bytes}

-- the value of the first of these fields whose name is Accept in any case
abbrev pub accept_at : List ℕ → List HeaderSpan → Option (List ℕ)
accept_at buf [] = None
accept_at buf (span ∷ spans) =
    if str_eq_ignore_ascii_case (span_bytes buf span.name) (codes "accept") then Some (span_bytes buf span.value) else accept_at buf spans

-- a head at the front of the text has at most 64 fields
abbrev pub HasFewFields : List ℕ → Type 0
HasFewFields text = (head : Head) (rest : List ℕ) → ReadsRequest text head rest → length head.fields ≤ 64

-- the lines of a response before its body, which has this many bytes
abbrev pub response_lines : ℕ → List ℕ → List ℕ → ℕ → List ℕ
response_lines status phrase kind count = codes "HTTP/1.1 " ++ (decimal status ++ (codes " " ++ (phrase
    ++ (codes "\r\nContent-Version: 1\r\nContent-Type: " ++ (kind ++ (codes "\r\nContent-Length: " ++ (decimal count
    ++ codes "\r\nConnection: close\r\n\r\n")))))))
