-- Different keys have different requests.
use Rattle.std.specs.Str.{bytes_eq}
use Rattle.std.proofs.Common.{[], ◌≡◌, ℕ, Bool, true, false, List, ◌++◌, get_or, refl, sym, ap, ◌∙◌, subst, arith, append_assoc}
use Rattle.std.specs.Prelude.{◌==◌, codes}
use Rattle.std.specs.List.{slice_split}
use Rattle.std.proofs.lemmas.Bool.{true≢false}
use Rattle.std.proofs.lemmas.Bool.Decides.{nat_tests}
use Rattle.std.proofs.lemmas.List.{append_cancel_left, append_cancel_right}
use Rattle.std.proofs.lemmas.List.Elements.{All-weaker}
use Rattle.std.proofs.lemmas.List.Splits.{slice_split_at}
use Rattle.spm_http.specs.Writing.{request_text}
use Rattle.spm_key.specs.Key.{IsKey, key_text}
use Rattle.spm_key.specs.declared.key.Key.{Key}
use Rattle.spm_key.specs.declared.key.Key.TheVariants as key
use Rattle.spm_key.proofs.PathLaws.{is_archive, same_path, visible_path}
use Rattle.spm_key.proofs.PathParts.{is_path_byte}
use Rattle.spm_api.specs.Endpoint.{accept_for, host_field, request_for}
use Rattle.spm_api.specs.declared.base.Base.{Base}

-- the media type of archives, and that of all else
abbrev media : Bool → List ℕ
media true = codes "application/vnd.swift.registry.v1+zip"
media false = codes "application/vnd.swift.registry.v1+json"

-- what is accepted for a key
accept_is : (asked : Key) → accept_for asked ≡ media (is_archive asked)
accept_is (key.List identity) = refl
accept_is (key.Manifest identity release) = refl
accept_is (key.Release identity release) = refl
accept_is (key.Archive identity release) = refl
accept_is (key.Identifiers url) = refl

-- the media type tells whether it is that of archives
same_media : (first second : Bool) → media first ≡ media second → first ≡ second
same_media true true same = refl
same_media false false same = refl
same_media true false same = absurd (true≢false (ap (λ (text : List ℕ). bytes_eq text (media true)) same))
same_media false true same = absurd (true≢false (ap (λ (text : List ℕ). bytes_eq text (media false)) same))

-- the lines of a request behind its path: the host, and what is accepted
abbrev closing : List ℕ
closing = codes "\r\nConnection: close\r\n\r\n"

abbrev accepts : Bool → List ℕ
accepts archive = media archive ++ closing

abbrev behind : Base → Bool → List ℕ
behind base archive = codes " HTTP/1.1\r\nHost: " ++ (host_field base.to ++ (codes "\r\nAccept: " ++ accepts archive))

-- a request: its method, what stands before each path, the path, and the lines behind it
request_is : (base : Base) (asked : Key) → request_for base asked ≡ codes "GET " ++ (base.prefix ++ (key_text asked ++ behind base (is_archive asked)))
request_is base asked =
    ap (request_text (base.prefix ++ key_text asked) (host_field base.to)) (accept_is asked)
    ∙ ap (λ (bytes : List ℕ). codes "GET " ++ bytes) (append_assoc base.prefix (key_text asked) (behind base (is_archive asked)))

-- ---- the path

abbrev is_space : ℕ → Bool
is_space byte = byte == 32

no_space : (byte : ℕ) → is_path_byte byte ≡ true → is_space byte ≡ false
no_space byte is = grind (arith, nat_tests)

-- the path of a key is what stands before the first space
path_is : (base : Base) (asked : Key) → IsKey asked → get_or (slice_split is_space (key_text asked ++ behind base (is_archive asked))) 0 [] ≡ key_text asked
path_is base asked is =
    ap (λ (parts : List (List ℕ)). get_or parts 0 [])
    (slice_split_at is_space (key_text asked) 32 _ (All-weaker (λ b. is_path_byte b ≡ true) (λ b. is_space b ≡ false) no_space (key_text asked) (visible_path asked is)) refl)

-- two keys with one request, from their paths on, have one path
same_target : (base : Base) (first second : Key) → IsKey first → IsKey second
    → key_text first ++ behind base (is_archive first) ≡ key_text second ++ behind base (is_archive second) → key_text first ≡ key_text second
same_target base first second is other same =
    sym (path_is base first is) ∙ ap (λ (bytes : List ℕ). get_or (slice_split is_space bytes) 0 []) same ∙ path_is base second other

-- and one media type
same_accept : (base : Base) (first second : Key) → key_text first ++ behind base (is_archive first) ≡ key_text second ++ behind base (is_archive second)
    → key_text first ≡ key_text second → is_archive first ≡ is_archive second
same_accept base first second same paths =
    let lines : behind base (is_archive first) ≡ behind base (is_archive second) =
    append_cancel_left (key_text second) (behind base (is_archive first)) (behind base (is_archive second))
    (subst (λ (path : List ℕ). path ++ behind base (is_archive first) ≡ key_text second ++ behind base (is_archive second)) paths same) in
    same_media (is_archive first) (is_archive second)
    (append_cancel_right (media (is_archive first)) (media (is_archive second)) closing
    (append_cancel_left (codes "\r\nAccept: ") (accepts (is_archive first)) (accepts (is_archive second))
    (append_cancel_left (host_field base.to) (codes "\r\nAccept: " ++ accepts (is_archive first)) (codes "\r\nAccept: " ++ accepts (is_archive second))
    (append_cancel_left (codes " HTTP/1.1\r\nHost: ") _ _ lines))))

-- ---- the key

-- two keys with one request are one
pub same_request : (base : Base) (first second : Key) → IsKey first → IsKey second → request_for base first ≡ request_for base second → first ≡ second
same_request base first second is other same =
    let paths : key_text first ++ behind base (is_archive first) ≡ key_text second ++ behind base (is_archive second) =
    append_cancel_left base.prefix _ _ (append_cancel_left (codes "GET ") _ _ (sym (request_is base first) ∙ same ∙ request_is base second)) in
    let target = same_target base first second is other paths in
    same_path first second is other (same_accept base first second paths target) target
