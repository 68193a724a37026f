-- The book of a shelf: what a server with it answers to the request for each key, as fixed replies.
use Rattle.std.specs.Prelude.{◌≡◌, ℕ, ◌&&◌, List, [], ◌∷◌, ◌++◌, length, map, Bool, true, not, nat_le, if◌then◌else◌}
use Rattle.std.specs.List.{flat_map}
use Rattle.spm_api.specs.Endpoint.{request_for}
use Rattle.spm_api.specs.declared.base.Base.{Base}
use Rattle.spm_key.specs.Key.{IsKey}
use Rattle.spm_key.specs.declared.key.Key.{Key}
use Rattle.spm_key.specs.declared.key.Key.TheVariants as key
use Rattle.spm_outside.specs.Book.{Pages, response_of}
use Rattle.spm_outside.specs.declared.book.Entry.{Entry}
use Rattle.spm_shelf.specs.declared.file.ShelfFile.{ShelfFile}
use Rattle.spm_shelf.specs.declared.file.ShelfPackage.{ShelfPackage}
use Rattle.spm_shelf.specs.declared.file.ShelfRelease.{ShelfRelease}
use Rattle.spm_shelf.specs.declared.file.ShelfUrl.{ShelfUrl}
use Rattle.spm_version.specs.Release.{Parts, ends_in_zip, parts_text}
use Rattle.spm_server.specs.Answer.{IsAnswerText, answer_text, content_answer, problem_answer}
use Rattle.spm_server.specs.Content.{content_of}
use Rattle.spm_server.specs.RoundTrip.{IsAskable}
use Rattle.spm_server.specs.declared.problem.Problem.TheVariants.{NoResource}

-- the 404 response
abbrev pub not_found : List ℕ
not_found = answer_text (problem_answer NoResource)

-- the request for a key that fits, and whose version doesn't end in `.zip`, is answered as the server answers it
abbrev pub AnswersAskable : ShelfFile → Base → Pages → Type 0
AnswersAskable shelf base pages = (asked : Key) → IsAskable base asked
    → IsAnswerText shelf (request_for base asked) (response_of pages base.to (request_for base asked))

-- the request for every other key isn't found
abbrev pub RefusesOthers : Base → Pages → Type 0
RefusesOthers base pages = (asked : Key) → IsKey asked → ¬ (IsAskable base asked) → response_of pages base.to (request_for base asked) ≡ not_found

-- ---- the entries, for private clauses

abbrev pub is_plain_version : Parts → Bool
is_plain_version release = not (ends_in_zip (parts_text release))

abbrev pub has_plain_version : Key → Bool
has_plain_version (key.List identity) = true
has_plain_version (key.Manifest identity release) = is_plain_version release
has_plain_version (key.Release identity release) = is_plain_version release
has_plain_version (key.Archive identity release) = is_plain_version release
has_plain_version (key.Identifiers url) = true

abbrev pub is_served : Base → Key → Bool
is_served base asked = nat_le (length (request_for base asked)) 65536 && has_plain_version asked

abbrev pub entry_of : ShelfFile → Base → Key → Entry
entry_of shelf base asked =
    record { to = base.to; request = request_for base asked; response = answer_text (content_answer (content_of shelf asked)) }

abbrev pub entries_for : ShelfFile → Base → Key → List Entry
entries_for shelf base asked = if is_served base asked then entry_of shelf base asked ∷ [] else []

abbrev pub release_keys : List ℕ → ShelfRelease → List Key
release_keys identity entry = key.Manifest identity entry.release ∷ key.Release identity entry.release ∷ key.Archive identity entry.release ∷ []

abbrev pub package_keys : ShelfPackage → List Key
package_keys entry = key.List entry.identity ∷ flat_map (release_keys entry.identity) entry.releases

abbrev pub url_key : ShelfUrl → Key
url_key entry = key.Identifiers entry.url

-- the keys of all that is on the shelf
abbrev pub keys_on : ShelfFile → List Key
keys_on shelf = flat_map package_keys shelf.packages ++ map url_key shelf.urls

abbrev pub entries_on : ShelfFile → Base → List Entry
entries_on shelf base = flat_map (entries_for shelf base) (keys_on shelf)
