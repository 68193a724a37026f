-- A request has one answer; that to the request for a key is what the shelf has behind it.
use Rattle.std.proofs.Common.{◌≡◌, ◌≢◌, ℕ, ◌<◌, ◌≤◌, Bool, true, false, List, [], ◌∷◌, ◌++◌, length, Option, Some, Result, Ok, Err, refl, sym, ap, ◌∙◌, subst, arith, append-nil, inl, inr}
use Rattle.std.specs.Prelude.{◌==◌, codes, is_err, option_and_then, if◌then◌else◌}
use Rattle.std.specs.Fmt.{decimal}
use Rattle.std.proofs.lemmas.Bool.{cases_Bool, false≢true}
use Rattle.std.proofs.lemmas.Bool.Decides.{nat_tests}
use Rattle.std.proofs.lemmas.List.Elements.{All-append, All-cons, All-weaker}
use Rattle.std.proofs.lemmas.List.Sums.{AllPass-from_list_all}
use Rattle.httparse.proofs.GrammarLemmas.{request_unique}
use Rattle.httparse.specs.Grammar.{AllPass, ReadsRequest, RequestHead as Head, is_uri_byte, is_value_byte, print_request}
use Rattle.spm_api.specs.Endpoint.{accept_for, host_field, request_for}
use Rattle.spm_api.specs.declared.base.Base.{Base}
use Rattle.spm_http.specs.Request.{ReadsHead, accept_in, head_view}
use Rattle.spm_http.specs.Writing.{request_text}
use Rattle.spm_http.specs.declared.request_head.HttpFault.{HttpFault}
use Rattle.spm_http.specs.declared.request_head.HttpFault.TheVariants.{Partial, Bad, Memory}
use Rattle.spm_http.specs.declared.request_head.RequestHead.{RequestHead}
use Rattle.spm_key.specs.Key.{key_text}
use Rattle.spm_key.specs.declared.key.Key.{Key}
use Rattle.spm_key.specs.declared.key.Key.TheVariants as key
use Rattle.spm_shelf.specs.declared.file.ShelfFile.{ShelfFile}
use Rattle.spm_server.specs.Answer.{IsAnswer, asks_other_version, content_answer, head_answer, problem_answer, read_answer}
use Rattle.spm_server.specs.Content.{content_of}
use Rattle.spm_server.specs.declared.answering.AnswerParts.{AnswerParts}
use Rattle.spm_server.specs.RoundTrip.{IsAskable, IsPlainBase, is_printable}
use Rattle.spm_server.specs.Target.{key_of_target}
use Rattle.spm_server.specs.declared.problem.Problem.TheVariants.{OtherVersion}
use Rattle.spm_key.proofs.Classes.{classes, decimal_class}
use Rattle.spm_key.proofs.PathParts.{is_path_byte, path_low}
use Rattle.spm_server.proofs.Paths.{AsksFor, path_asks, path_is_text, target_asks}
use Rattle.spm_server.proofs.WrittenRequests.{accepts_json, accepts_zip, is_written_request, request_prints, written_request}

-- ---- one answer

-- two readings of a request have one answer
one_read : (shelf : ShelfFile) (request : List ℕ) (first second : Result RequestHead HttpFault) → ReadsHead first request → ReadsHead second request
    → first ≢ Err Memory → second ≢ Err Memory → read_answer shelf first ≡ read_answer shelf second
one_read shelf request (Ok first) (Ok second) a b _ _ =
    let same = request_unique request a.head b.head a.rest b.rest a.has.reads b.has.reads in
    ap (head_answer shelf) (a.is ∙ ap head_view same.0 ∙ sym b.is)
one_read shelf request (Ok first) (Err Partial) a b _ _ = absurd (b.0 a.head a.rest a.has)
one_read shelf request (Ok first) (Err Bad) a b _ _ = absurd (b.0 a.head a.rest a.has)
one_read shelf request (Ok first) (Err Memory) a b _ read = absurd (read refl)
one_read shelf request (Err Partial) (Ok second) a b _ _ = absurd (a.0 b.head b.rest b.has)
one_read shelf request (Err Bad) (Ok second) a b _ _ = absurd (a.0 b.head b.rest b.has)
one_read shelf request (Err Memory) (Ok second) a b read _ = absurd (read refl)
one_read shelf request (Err first) (Err second) a b _ _ = refl

-- a request has one answer
pub one_answer : (shelf : ShelfFile) (request : List ℕ) (first second : AnswerParts) → IsAnswer shelf request first → IsAnswer shelf request second → first ≡ second
one_answer shelf request first second a b = a.is ∙ one_read shelf request a.read b.read a.reads b.reads a.is_read b.is_read ∙ sym b.is

-- ---- the head of a request for a key

-- the head that the request for a key has
abbrev pub sent_head : Base → Key → Head
sent_head base asked = written_request (key_text asked) (host_field base.to) (accept_for asked)

-- a request is the head that it says
pub request_is : (base : Base) (asked : Key) → base.prefix ≡ [] → request_for base asked ≡ print_request (sent_head base asked)
request_is base asked plain =
    ap (λ (prefix : List ℕ). request_text (prefix ++ key_text asked) (host_field base.to) (accept_for asked)) plain
    ∙ request_prints (key_text asked) (host_field base.to) (accept_for asked)

-- a printable character is of ASCII
printable_low : (byte : ℕ) → is_printable byte ≡ true → byte < 128
printable_low byte is = grind (arith, nat_tests)

-- a plain host may stand in a field
host_bytes : (base : Base) → IsPlainBase base → AllPass is_value_byte base.to.host
host_bytes base plain =
    classes is_printable is_value_byte refl base.to.host
    (All-weaker (λ b. is_printable b ≡ true) (λ b. b < 128) printable_low base.to.host plain.host) plain.host

-- and so it may with its port
field_bytes : (base : Base) → IsPlainBase base → AllPass is_value_byte (host_field base.to)
field_bytes base plain =
    let host = host_bytes base plain in
    let ported = All-append (λ b. is_value_byte b ≡ true) base.to.host (58 ∷ decimal base.to.port) host
    (All-cons (λ b. is_value_byte b ≡ true) 58 (decimal base.to.port) refl (decimal_class is_value_byte refl base.to.port (omega (arith, plain.port)))) in
    elim (cases_Bool (base.to.port == 80)) [
      | inl usual ↦ subst (λ (b : Bool). AllPass is_value_byte (if b then base.to.host else base.to.host ++ (codes ":" ++ decimal base.to.port))) (sym usual) host
      | inr other ↦ subst (λ (b : Bool). AllPass is_value_byte (if b then base.to.host else base.to.host ++ (codes ":" ++ decimal base.to.port))) (sym other) ported
    ]

-- and what is accepted of a key
accept_bytes : (asked : Key) → AllPass is_value_byte (accept_for asked)
accept_bytes (key.List identity) = AllPass-from_list_all is_value_byte (accept_for (key.List identity)) refl
accept_bytes (key.Manifest identity release) = AllPass-from_list_all is_value_byte (accept_for (key.Manifest identity release)) refl
accept_bytes (key.Release identity release) = AllPass-from_list_all is_value_byte (accept_for (key.Release identity release)) refl
accept_bytes (key.Archive identity release) = AllPass-from_list_all is_value_byte (accept_for (key.Archive identity release)) refl
accept_bytes (key.Identifiers url) = AllPass-from_list_all is_value_byte (accept_for (key.Identifiers url)) refl

-- a request is read as its head
pub sent_reads : (base : Base) (asked : Key) (found : Option Key) → IsPlainBase base → AsksFor (key_text asked) found
    → ReadsRequest (request_for base asked) (sent_head base asked) []
sent_reads base asked found plain asks = (
  is_written_request (key_text asked) (host_field base.to) (accept_for asked) asks.some
      (classes is_path_byte is_uri_byte refl (key_text asked) (All-weaker (λ b. is_path_byte b ≡ true) (λ b. b < 128) path_low (key_text asked) asks.visible) asks.visible)
      (path_is_text (key_text asked) asks.visible) (field_bytes base plain) (accept_bytes asked),
  request_is base asked plain.prefix ∙ sym (append-nil (print_request (sent_head base asked))),
)

-- and what it accepts is found
pub accepted : (base : Base) (asked : Key) → accept_in (sent_head base asked).fields ≡ Some (accept_for asked)
accepted base (key.List identity) = accepts_json (host_field base.to)
accepted base (key.Manifest identity release) = accepts_json (host_field base.to)
accepted base (key.Release identity release) = accepts_json (host_field base.to)
accepted base (key.Archive identity release) = accepts_zip (host_field base.to)
accepted base (key.Identifiers url) = accepts_json (host_field base.to)

-- no key is asked for in another version
no_other_version : (asked : Key) → asks_other_version (Some (accept_for asked)) ≡ false
no_other_version (key.List identity) = refl
no_other_version (key.Manifest identity release) = refl
no_other_version (key.Release identity release) = refl
no_other_version (key.Archive identity release) = refl
no_other_version (key.Identifiers url) = refl

-- what the head is answered
head_is_answered : (shelf : ShelfFile) (base : Base) (asked : Key) (found : Option Key) → AsksFor (key_text asked) found
    → head_answer shelf (head_view (sent_head base asked)) ≡ content_answer (option_and_then (content_of shelf) found)
head_is_answered shelf base asked found asks =
    ap (λ (accept : Option (List ℕ)). if asks_other_version accept then problem_answer OtherVersion else content_answer (option_and_then (content_of shelf) (key_of_target (key_text asked))))
    (accepted base asked)
    ∙ ap (λ (other : Bool). if other then problem_answer OtherVersion else content_answer (option_and_then (content_of shelf) (key_of_target (key_text asked)))) (no_other_version asked)
    ∙ ap (λ (target : Option Key). content_answer (option_and_then (content_of shelf) target)) (target_asks (key_text asked) found asks)

-- the answer to the request for a key whose path asks for one
pub sent_is_answered : (shelf : ShelfFile) (base : Base) (asked : Key) (found : Option Key) → IsPlainBase base → AsksFor (key_text asked) found
    → length (request_for base asked) ≤ 65536 → IsAnswer shelf (request_for base asked) (content_answer (option_and_then (content_of shelf) found))
sent_is_answered shelf base asked found plain asks fits = record {
  read = Ok (head_view (sent_head base asked));
  reads = record {
    head = sent_head base asked;
    rest = [];
    has = record {
      reads = sent_reads base asked found plain asks;
      fields = omega arith;
      fits = omega (arith, fits, ap length (request_is base asked plain.prefix));
    };
    is = refl;
  };
  is_read = λ same. absurd (false≢true (ap is_err same));
  is = sym (head_is_answered shelf base asked found asks);
}

-- any answer to the request for a key is what the shelf has
pub key_is_answered : (shelf : ShelfFile) (base : Base) (asked : Key) → IsPlainBase base → IsAskable base asked → (answer : AnswerParts)
    → IsAnswer shelf (request_for base asked) answer → answer ≡ content_answer (content_of shelf asked)
key_is_answered shelf base asked plain askable answer is =
    one_answer shelf (request_for base asked) answer (content_answer (content_of shelf asked)) is
    (sent_is_answered shelf base asked (Some asked) plain (path_asks asked askable.key askable.version) askable.fits)
