-- Messages as they are written (HTTP/1.1, RFC 9112): a request for a key, and a server's response.
use Rattle.std.specs.Prelude.{ℕ, List, [], ◌++◌, length, codes, Option, Some, None}
use Rattle.std.specs.Fmt.{decimal}
use Rattle.http.specs.StatusCode.{reason_phrase}

-- the lines of a request: its target, the host, what is accepted
abbrev pub request_text : List ℕ → List ℕ → List ℕ → List ℕ
request_text target host accept = codes "GET " ++ (target ++ (codes " HTTP/1.1\r\nHost: " ++ (host
    ++ (codes "\r\nAccept: " ++ (accept ++ codes "\r\nConnection: close\r\n\r\n")))))

-- the standard phrase of a status, or none
abbrev pub phrase_or_none : Option (List ℕ) → List ℕ
phrase_or_none (Some phrase) = phrase
phrase_or_none None = []

-- the lines of a response: its status, the kind of its body, and the body
abbrev pub response_text : ℕ → List ℕ → List ℕ → List ℕ
response_text status kind body = codes "HTTP/1.1 " ++ (decimal status ++ (codes " " ++ (phrase_or_none (reason_phrase status)
    ++ (codes "\r\nContent-Version: 1\r\nContent-Type: " ++ (kind ++ (codes "\r\nContent-Length: " ++ (decimal (length body)
    ++ (codes "\r\nConnection: close\r\n\r\n" ++ body))))))))
