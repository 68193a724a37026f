-- The reply that an answer is.
use Rattle.std.proofs.Common.{◌≡◌, ℕ, ◌≤◌, List, true, length, Option, Some, None, IfSome, refl, arith}
use Rattle.std.specs.Prelude.{codes, option_and_then, option_map}
use Rattle.std.specs.Fmt.{digits}
use Rattle.std.specs.List.{list_all}
use Rattle.serde_json.proofs.OnLiterals.{serde_json_on_literals}
use Rattle.std.proofs.lemmas.List.Sums.{AllPass-from_list_all}
use Rattle.serde_json.specs.Written.{compact_text}
use Rattle.httparse.specs.Grammar.{is_value_byte}
use Rattle.spm_api.specs.Endpoint.{IsReply, content_reply, heard_reply, limit_for}
use Rattle.spm_http.specs.declared.response_head.Heard.TheVariants.{Whole}
use Rattle.spm_key.specs.declared.key.Key.{Key}
use Rattle.spm_key.specs.declared.key.Key.TheVariants as key
use Rattle.spm_shelf.specs.Shelf.{package_of}
use Rattle.spm_shelf.specs.declared.file.ShelfFile.{ShelfFile}
use Rattle.spm_shelf.specs.declared.file.ShelfPackage.{ShelfPackage}
use Rattle.spm_shelf.specs.declared.file.ShelfRelease.{ShelfRelease}
use Rattle.spm_shelf.specs.declared.file.ShelfUrl.{ShelfUrl}
use Rattle.spm_server.specs.Answer.{answer_text, content_answer}
use Rattle.spm_server.specs.Content.{archive_content, content_of, found_release, identifiers_data, json_content, list_data, manifest_content, media_text, metadata_content, url_of}
use Rattle.spm_server.specs.declared.content.Content.{Content}
use Rattle.spm_server.specs.Problem.{problem_data}
use Rattle.spm_server.specs.RoundTrip.{reply_for}
use Rattle.spm_server.specs.declared.problem.Problem.TheVariants.{NoResource}
use Rattle.spm_server.proofs.WrittenResponses.{IsSent, heard}

-- a media type whose bytes may stand in a field
ok_sent : (media : List ℕ) → list_all is_value_byte media ≡ true → length media ≤ 64 → IsSent 200 media
unfolding digits
ok_sent media bytes short = record {
  answered = refl;
  has_body = refl;
  word = omega arith;
  digits = refl;
  phrase = AllPass-from_list_all is_value_byte (codes "OK") refl;
  phrase_length = omega arith;
  media_bytes = AllPass-from_list_all is_value_byte media bytes;
  media_length = omega (arith, short);
}

-- JSON
json_sent : IsSent 200 (codes "application/json")
json_sent = ok_sent (codes "application/json") refl (omega arith)

-- an archive
zip_sent : IsSent 200 (codes "application/zip")
zip_sent = ok_sent (codes "application/zip") refl (omega arith)

-- a problem
none_sent : IsSent 404 (codes "application/problem+json")
unfolding digits
none_sent = record {
  answered = refl;
  has_body = refl;
  word = omega arith;
  digits = refl;
  phrase = AllPass-from_list_all is_value_byte (codes "Not Found") refl;
  phrase_length = omega arith;
  media_bytes = AllPass-from_list_all is_value_byte (codes "application/problem+json") refl;
  media_length = omega arith;
}

-- ---- the media types

-- the media type of a resource may be sent
IsMedia : Content → Type 0
IsMedia content = IsSent 200 (media_text content.media)

-- what is made of anything that is found may
mapped : {A : Type 0} (make : A → Content) → ((x : A) → IsMedia (make x)) → (found : Option A) → IfSome (option_map make found) IsMedia
mapped make is None = tt
mapped make is (Some x) = is x

-- and what is made of it, if anything is
chained : {A : Type 0} (make : A → Option Content) → ((x : A) → IfSome (make x) IsMedia) → (found : Option A) → IfSome (option_and_then make found) IsMedia
chained make is None = tt
chained make is (Some x) = is x

-- so may all that a shelf has
media_is : (shelf : ShelfFile) (asked : Key) → IfSome (content_of shelf asked) IsMedia
unfolding IsMedia
media_is shelf (key.List identity) = mapped (λ (entry : ShelfPackage). json_content (list_data entry)) (λ entry. json_sent) (package_of identity shelf.packages)
media_is shelf (key.Manifest identity release) = chained manifest_content (λ (entry : ShelfRelease). mapped _ (λ text. json_sent) entry.manifest) (found_release shelf identity release)
media_is shelf (key.Release identity release) = chained (metadata_content identity) (λ (entry : ShelfRelease). mapped _ (λ archive. json_sent) entry.archive) (found_release shelf identity release)
media_is shelf (key.Archive identity release) = chained archive_content (λ (entry : ShelfRelease). mapped _ (λ bytes. zip_sent) entry.archive) (found_release shelf identity release)
media_is shelf (key.Identifiers url) = mapped (λ (entry : ShelfUrl). json_content (identifiers_data entry)) (λ entry. json_sent) (url_of url shelf.urls)

-- ---- the reply

-- the limits of bodies
limit_small : (asked : Key) → (300 ≤ limit_for asked) × (limit_for asked ≤ 67108864)
limit_small (key.List identity) = (omega arith, omega arith)
limit_small (key.Manifest identity release) = (omega arith, omega arith)
limit_small (key.Release identity release) = (omega arith, omega arith)
limit_small (key.Archive identity release) = (omega arith, omega arith)
limit_small (key.Identifiers url) = (omega arith, omega arith)

-- that there is none is told alike of each key
none_reply : (asked : Key) → content_reply asked 404 (compact_text (problem_data NoResource)) ≡ heard_reply asked (Whole 404 (compact_text (problem_data NoResource)))
none_reply asked = refl

-- and is short
none_length : length (compact_text (problem_data NoResource)) ≤ 300
unfolding digits serde_json_on_literals
none_length = omega arith

-- an answer is the reply that it says
reply_is : (asked : Key) (found : Option Content) → IfSome found IsMedia → IfSome found (λ content. length content.body ≤ limit_for asked)
    → IsReply asked (answer_text (content_answer found)) (reply_for asked found)
unfolding IsMedia
reply_is asked None media fits = record {
  what = Whole 404 (compact_text (problem_data NoResource));
  hears = heard 404 (codes "application/problem+json") none_sent (limit_for asked) (compact_text (problem_data NoResource)) (omega (arith, none_length, limit_small asked)) (omega (arith, none_length));
  is = refl;
}
reply_is asked (Some content) media fits = record {
  what = Whole 200 content.body;
  hears = heard 200 (media_text content.media) media (limit_for asked) content.body fits (omega (arith, fits, limit_small asked));
  is = refl;
}

-- the answer with the shelf's contents is that reply
pub shelf_reply : (shelf : ShelfFile) (asked : Key) → IfSome (content_of shelf asked) (λ content. length content.body ≤ limit_for asked)
    → IsReply asked (answer_text (content_answer (content_of shelf asked))) (reply_for asked (content_of shelf asked))
shelf_reply shelf asked fits = reply_is asked (content_of shelf asked) (media_is shelf asked) fits
