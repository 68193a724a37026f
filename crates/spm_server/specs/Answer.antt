-- What a server answers to a request: a table, whose first line that applies decides.
use Rattle.std.specs.Str.{bytes_eq}
use Rattle.std.specs.Prelude.{◌≡◌, ◌≢◌, ℕ, ◌&&◌, ◌||◌, List, drop, codes, Bool, false, not, nat_eq, Option, Some, None, option_and_then, Result, Ok, Err, if◌then◌else◌}
use Rattle.std.specs.List.{starts_with}
use Rattle.serde_json.specs.Written.{compact_text}
use Rattle.spm_http.specs.Request.{ReadsHead}
use Rattle.spm_http.specs.Writing.{response_text}
use Rattle.spm_http.specs.declared.request_head.HttpFault.{HttpFault}
use Rattle.spm_http.specs.declared.request_head.HttpFault.TheVariants.{Memory}
use Rattle.spm_http.specs.declared.request_head.RequestHead.{RequestHead}
use Rattle.spm_shelf.specs.declared.file.ShelfFile.{ShelfFile}
use Rattle.spm_server.specs.Content.{content_of, media_text}
use Rattle.spm_server.specs.Problem.{problem_data, status_of}
use Rattle.spm_server.specs.Target.{key_of_target}
use Rattle.spm_server.specs.declared.answering.AnswerParts.{AnswerParts}
use Rattle.spm_server.specs.declared.content.Content.{Content}
use Rattle.spm_server.specs.declared.media.Media.TheVariants.{ProblemJson}
use Rattle.spm_server.specs.declared.problem.Problem.{Problem}
use Rattle.spm_server.specs.declared.problem.Problem.TheVariants.{UnreadableRequest, NotGet, OtherVersion, NoResource}

abbrev pub problem_answer : Problem → AnswerParts
problem_answer problem =
    record { status = status_of problem; media = ProblemJson; body = compact_text (problem_data problem) }

abbrev pub content_answer : Option Content → AnswerParts
content_answer (Some content) = record { status = 200; media = content.media; body = content.body }
content_answer None = problem_answer NoResource

-- what is accepted is of the registry's API (the test is this project's own), in another version than its first
abbrev pub is_known : List ℕ → Bool
is_known rest = bytes_eq rest (codes ".v1") || bytes_eq rest (codes ".v1+json") || bytes_eq rest (codes ".v1+zip")

abbrev pub asks_other_version : Option (List ℕ) → Bool
asks_other_version (Some accept) = starts_with nat_eq accept (codes "application/vnd.swift.registry") && not (is_known (drop 30 accept))
asks_other_version None = false

-- a head is answered by its method, by what it accepts, and by its target, in this order
abbrev pub head_answer : ShelfFile → RequestHead → AnswerParts
head_answer shelf head =
    if not (bytes_eq head.method (codes "GET")) then problem_answer NotGet
    else if asks_other_version head.accept then problem_answer OtherVersion
    else content_answer (option_and_then (content_of shelf) (key_of_target head.target))

abbrev pub read_answer : ShelfFile → Result RequestHead HttpFault → AnswerParts
read_answer shelf (Ok head) = head_answer shelf head
read_answer shelf (Err fault) = problem_answer UnreadableRequest

-- by what the bytes of the request are read as
pub record IsAnswer (shelf : ShelfFile) (request : List ℕ) (answer : AnswerParts) : Type 0 where
  pub read : Result RequestHead HttpFault
  pub reads : ReadsHead read request
  pub is_read : read ≢ Err Memory
  pub is : answer ≡ read_answer shelf read

-- the bytes of an answer
abbrev pub answer_text : AnswerParts → List ℕ
answer_text answer = response_text answer.status (media_text answer.media) answer.body

abbrev pub IsAnswerText : ShelfFile → List ℕ → List ℕ → Type 0
IsAnswerText shelf request text = (answer : AnswerParts) × IsAnswer shelf request answer × (text ≡ answer_text answer)
