-- The problems that a server tells (RFC 7807).
use Rattle.std.specs.Prelude.{ℕ, List, codes}
use Rattle.serde_json.specs.Data.{Data, member, no_members, number, object, string, unsigned}
use Rattle.spm_server.specs.declared.problem.Problem.{Problem}
use Rattle.spm_server.specs.declared.problem.Problem.TheVariants.{UnreadableRequest, NotGet, OtherVersion, NoResource}

abbrev pub status_of : Problem → ℕ
status_of UnreadableRequest = 400
status_of NotGet = 405
status_of OtherVersion = 415
status_of NoResource = 404

abbrev pub title_of : Problem → List ℕ
title_of UnreadableRequest = codes "Bad Request"
title_of NotGet = codes "Method Not Allowed"
title_of OtherVersion = codes "Unsupported Media Type"
title_of NoResource = codes "Not Found"

abbrev pub detail_of : Problem → List ℕ
detail_of UnreadableRequest = codes "unreadable request"
detail_of NotGet = codes "only GET is served"
detail_of OtherVersion = codes "unsupported API version"
detail_of NoResource = codes "no such resource"

abbrev pub details_data : ℕ → List ℕ → List ℕ → Data
details_data status title detail = object (member (codes "detail") (string detail) (member (codes "status") (number (unsigned status))
    (member (codes "title") (string title) no_members)))

abbrev pub problem_data : Problem → Data
problem_data problem = details_data (status_of problem) (title_of problem) (detail_of problem)
