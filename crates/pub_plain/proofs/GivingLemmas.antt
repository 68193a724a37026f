-- What is kept of a reply is what is said of its key, and nothing else.
use Rattle.std.proofs.Common.{◌≡◌, ℕ, ◌≤◌, ◌&&◌, ◌||◌, Bool, true, false, cond, List, [], ◌∷◌, ◌++◌, length, Option, Some, None, Result, Ok, Err, option_map, refl, sym, ap, ap₂, ◌∙◌, subst, All}
use Rattle.std.proofs.lemmas.Bool.{and_parts}
use Rattle.std.proofs.lemmas.List.Elements.{All-append, All-cons, All-nil}
use Rattle.std.proofs.lemmas.Slice.Eq.{bytes_eq-Decides}
use Rattle.std.specs.Cmp.Lexicographic.{nat_list_eq_equiv}
use Rattle.std.specs.List.{list_any}
use Rattle.std.specs.Prelude.{OnOk, ⊤}
use Rattle.std.specs.Str.{bytes_eq}
use Rattle.pub_trail.specs.Turn.{or_some, when_true}
use Rattle.spm_api.specs.declared.replies.Said.{Said}
use Rattle.spm_api.specs.declared.replies.Said.TheVariants as said
use Rattle.spm_key.specs.declared.key.Key.{Key}
use Rattle.spm_key.specs.declared.key.Key.TheVariants as key
use Rattle.spm_version.proofs.ReleaseLemmas.{same_release}
use Rattle.spm_version.specs.Release.{Parts}
use Rattle.spm_version.specs.ReleaseLaws.{release_eq}
use Rattle.pub_plain.specs.Given.{is_of, list_given, manifest_given, package_given, with_said}
use Rattle.pub_plain.specs.Gives.{IsKeptMore, IsSaidOf, IsShort}
use Rattle.pub_plain.specs.Told.{answers_to}
use Rattle.pub_plain.specs.declared.told.GivenManifest.{GivenManifest}
use Rattle.pub_plain.specs.declared.told.Told.{Told}

-- what follows from an answer that came
pub on_ok : {T E P Q : Type 0} (answer : Result T E) → (P → Q) → OnOk answer P → OnOk answer Q
on_ok (Ok it) f p = f p
on_ok (Err fault) f p = p

-- ---- tables: one more stands behind the others

list_more : (lists : List (List ℕ × List Parts)) (identity : List ℕ) (list : List Parts) (other : List ℕ)
    → list_given (lists ++ (identity, list) ∷ []) other ≡ or_some (list_given lists other) (when_true (bytes_eq identity other) list)
list_more [] identity list other = go (bytes_eq identity other)
  where
    go : (same : Bool) → cond same (Some list) None ≡ when_true same list
    go true = refl
    go false = refl
list_more (one ∷ lists) identity list other = go (list_more lists identity list other) (bytes_eq one.0 other)
  where
    go : list_given (lists ++ (identity, list) ∷ []) other ≡ or_some (list_given lists other) (when_true (bytes_eq identity other) list) → (same : Bool)
        → cond same (Some one.1) (list_given (lists ++ (identity, list) ∷ []) other)
        ≡ or_some (cond same (Some one.1) (list_given lists other)) (when_true (bytes_eq identity other) list)
    go rest true = refl
    go rest false = rest

package_more : (urls : List (List ℕ × Option (List ℕ))) (url : List ℕ) (found : Option (List ℕ)) (other : List ℕ)
    → package_given (urls ++ (url, found) ∷ []) other ≡ or_some (package_given urls other) (when_true (bytes_eq url other) found)
package_more [] url found other = go (bytes_eq url other)
  where
    go : (same : Bool) → cond same (Some found) None ≡ when_true same found
    go true = refl
    go false = refl
package_more (one ∷ urls) url found other = go (package_more urls url found other) (bytes_eq one.0 other)
  where
    go : package_given (urls ++ (url, found) ∷ []) other ≡ or_some (package_given urls other) (when_true (bytes_eq url other) found) → (same : Bool)
        → cond same (Some one.1) (package_given (urls ++ (url, found) ∷ []) other)
        ≡ or_some (cond same (Some one.1) (package_given urls other)) (when_true (bytes_eq url other) found)
    go rest true = refl
    go rest false = rest

manifest_more : (manifests : List GivenManifest) (one : GivenManifest) (identity : List ℕ) (release : Parts)
    → manifest_given (manifests ++ one ∷ []) identity release
    ≡ or_some (manifest_given manifests identity release) (when_true (is_of identity release one) one.said)
manifest_more [] one identity release = go (is_of identity release one)
  where
    go : (same : Bool) → cond same (Some one.said) None ≡ when_true same one.said
    go true = refl
    go false = refl
manifest_more (first ∷ manifests) one identity release = go (manifest_more manifests one identity release) (is_of identity release first)
  where
    go : manifest_given (manifests ++ one ∷ []) identity release
        ≡ or_some (manifest_given manifests identity release) (when_true (is_of identity release one) one.said) → (same : Bool)
        → cond same (Some first.said) (manifest_given (manifests ++ one ∷ []) identity release)
        ≡ or_some (cond same (Some first.said) (manifest_given manifests identity release)) (when_true (is_of identity release one) one.said)
    go rest true = refl
    go rest false = rest

long_more : (long : List (List ℕ)) (identity other : List ℕ)
    → list_any (bytes_eq other) (long ++ identity ∷ []) ≡ (list_any (bytes_eq other) long || bytes_eq other identity)
long_more [] identity other = go (bytes_eq other identity)
  where
    go : (b : Bool) → (b || false) ≡ (false || b)
    go true = refl
    go false = refl
long_more (one ∷ long) identity other = go (long_more long identity other) (bytes_eq other one)
  where
    go : list_any (bytes_eq other) (long ++ identity ∷ []) ≡ (list_any (bytes_eq other) long || bytes_eq other identity) → (b : Bool)
        → (b || list_any (bytes_eq other) (long ++ identity ∷ [])) ≡ ((b || list_any (bytes_eq other) long) || bytes_eq other identity)
    go rest true = refl
    go rest false = rest

-- ---- keys

-- a key of one part is told by it
one_part : (b : Bool) → (((true && b) && true) && true) ≡ b
one_part true = refl
one_part false = refl

two_parts : (a b : Bool) → (((true && a) && b) && true) ≡ (a && b)
two_parts true true = refl
two_parts true false = refl
two_parts false b = refl

-- where nothing was said of it, the last one is found
pub last_found : {A : Type 0} (before : Option A) (same : Bool) (here : A) → (same ≡ true → before ≡ None)
    → or_some before (when_true same here) ≡ cond same (Some here) before
last_found before true here fresh = ap (λ b. or_some b (Some here)) (fresh refl)
last_found None false here fresh = refl
last_found (Some it) false here fresh = refl

-- nothing is there on either side
none_left : {A : Type 0} (first second : Option A) → or_some first second ≡ None → first ≡ None
none_left None second none = refl
none_left (Some it) second none = cc

unmapped : {A B : Type 0} (f : A → B) (it : Option A) → option_map f it ≡ None → it ≡ None
unmapped f None none = refl
unmapped f (Some it) none = cc

-- of two tables the first, after one more there
first_table : (before : Option (List Parts)) (same : Bool) (list : List Parts) (long : Option Said) → (same ≡ true → before ≡ None)
    → or_some (option_map said.Releases (or_some before (when_true same list))) long
    ≡ cond same (Some (said.Releases list)) (or_some (option_map said.Releases before) long)
first_table before true list long fresh = ap (λ b. or_some (option_map said.Releases (or_some b (Some list))) long) (fresh refl)
first_table None false list long fresh = refl
first_table (Some it) false list long fresh = refl

-- and the second
second_table : (before : Option (List Parts)) (long same : Bool) → (same ≡ true → before ≡ None)
    → or_some (option_map said.Releases before) (when_true (long || same) said.TooMany)
    ≡ cond same (Some said.TooMany) (or_some (option_map said.Releases before) (when_true long said.TooMany))
second_table before true true fresh = ap (λ b. or_some (option_map said.Releases b) (Some said.TooMany)) (fresh refl)
second_table before false true fresh = ap (λ b. or_some (option_map said.Releases b) (Some said.TooMany)) (fresh refl)
second_table before true false fresh = refl
second_table before false false fresh = refl

-- one more short list
short_more : (lists : List (List ℕ × List Parts)) (one : List ℕ × List Parts) → length one.1 ≤ 4096 → All IsShort lists → All IsShort (lists ++ one ∷ [])
short_more lists one short all = All-append IsShort lists (one ∷ []) all (All-cons IsShort one [] short (All-nil IsShort))

-- two texts with the same bytes are one
text_same : (first second : List ℕ) → bytes_eq first second ≡ true → first ≡ second
text_same first second h = (bytes_eq-Decides first second).0 h

-- ---- what is kept

abbrev with_lists : Told → List (List ℕ × List Parts) → Told
with_lists told lists = record {
  root = told.root;
  tools = told.tools;
  pins = told.pins;
  known = record { asked = told.known.asked; lists = lists; urls = told.known.urls; nodes = told.known.nodes };
  long = told.long;
  manifests = told.manifests;
}

abbrev with_long : Told → List (List ℕ) → Told
with_long told long = record { root = told.root; tools = told.tools; pins = told.pins; known = told.known; long = long; manifests = told.manifests }

abbrev with_urls : Told → List (List ℕ × Option (List ℕ)) → Told
with_urls told urls = record {
  root = told.root;
  tools = told.tools;
  pins = told.pins;
  known = record { asked = told.known.asked; lists = told.known.lists; urls = urls; nodes = told.known.nodes };
  long = told.long;
  manifests = told.manifests;
}

abbrev with_manifests : Told → List GivenManifest → Told
with_manifests told manifests = record {
  root = told.root;
  tools = told.tools;
  pins = told.pins;
  known = told.known;
  long = told.long;
  manifests = manifests;
}

-- a list
pub list_kept : (told : Told) (identity : List ℕ) (list : List Parts) → length list ≤ 4096 → answers_to told (key.List identity) ≡ None
    → IsKeptMore (key.List identity) (said.Releases list) told (with_lists told (told.known.lists ++ (identity, list) ∷ []))
list_kept told identity list short fresh = record {
  answers = go;
  job = refl;
  pins = refl;
  nodes = refl;
  short = short_more told.known.lists (identity, list) short;
}
  where
    go : (asked : Key) → answers_to (with_lists told (told.known.lists ++ (identity, list) ∷ [])) asked
        ≡ with_said (key.List identity) (said.Releases list) (answers_to told) asked
    go (key.List x) =
        let long = when_true (list_any (bytes_eq x) told.long) said.TooMany in
        ap (λ g. or_some (option_map said.Releases g) long) (list_more told.known.lists identity list x)
        ∙ first_table (list_given told.known.lists x) (bytes_eq identity x) list long
        (λ same. subst (λ y. list_given told.known.lists y ≡ None) (text_same identity x same)
        (unmapped said.Releases (list_given told.known.lists identity) (none_left _ _ fresh)))
        ∙ sym (ap (λ b. cond b (Some (said.Releases list)) (answers_to told (key.List x))) (one_part (bytes_eq identity x)))
    go (key.Manifest x v) = refl
    go (key.Release x v) = refl
    go (key.Archive x v) = refl
    go (key.Identifiers x) = refl

-- a list that is too long
pub long_kept : (told : Told) (identity : List ℕ) → answers_to told (key.List identity) ≡ None
    → IsKeptMore (key.List identity) said.TooMany told (with_long told (told.long ++ identity ∷ []))
long_kept told identity fresh = record { answers = go; job = refl; pins = refl; nodes = refl; short = λ all. all }
  where
    go : (asked : Key) → answers_to (with_long told (told.long ++ identity ∷ [])) asked ≡ with_said (key.List identity) said.TooMany (answers_to told) asked
    go (key.List x) =
        ap (λ b. or_some (option_map said.Releases (list_given told.known.lists x)) (when_true b said.TooMany)) (long_more told.long identity x)
        ∙ second_table (list_given told.known.lists x) (list_any (bytes_eq x) told.long) (bytes_eq x identity)
        (λ same. subst (λ y. list_given told.known.lists y ≡ None) (sym (text_same x identity same))
        (unmapped said.Releases (list_given told.known.lists identity) (none_left _ _ fresh)))
        ∙ sym (ap (λ b. cond b (Some said.TooMany) (answers_to told (key.List x))) (one_part (bytes_eq identity x) ∙ nat_list_eq_equiv.symm identity x))
    go (key.Manifest x v) = refl
    go (key.Release x v) = refl
    go (key.Archive x v) = refl
    go (key.Identifiers x) = refl

-- of what is found or was before
mapped : (found : Option (List ℕ)) (b : Bool) (before : Option (Option (List ℕ)))
    → option_map said.Package (cond b (Some found) before) ≡ cond b (Some (said.Package found)) (option_map said.Package before)
mapped found true before = refl
mapped found false before = refl

-- a look-up
pub package_kept : (told : Told) (url : List ℕ) (found : Option (List ℕ)) → answers_to told (key.Identifiers url) ≡ None
    → IsKeptMore (key.Identifiers url) (said.Package found) told (with_urls told (told.known.urls ++ (url, found) ∷ []))
package_kept told url found fresh = record { answers = go; job = refl; pins = refl; nodes = refl; short = λ all. all }
  where
    go : (asked : Key) → answers_to (with_urls told (told.known.urls ++ (url, found) ∷ [])) asked
        ≡ with_said (key.Identifiers url) (said.Package found) (answers_to told) asked
    go (key.List x) = refl
    go (key.Manifest x v) = refl
    go (key.Release x v) = refl
    go (key.Archive x v) = refl
    go (key.Identifiers x) =
        ap (option_map said.Package) (package_more told.known.urls url found x
        ∙ last_found (package_given told.known.urls x) (bytes_eq url x) found
        (λ same. subst (λ y. package_given told.known.urls y ≡ None) (text_same url x same)
        (unmapped said.Package (package_given told.known.urls url) fresh)))
        ∙ mapped found (bytes_eq url x) (package_given told.known.urls x)

-- a manifest
pub manifest_kept : (told : Told) (identity : List ℕ) (release : Parts) (it : Said) → answers_to told (key.Manifest identity release) ≡ None
    → IsKeptMore (key.Manifest identity release) it told
    (with_manifests told (told.manifests ++ record { identity = identity; release = release; said = it } ∷ []))
manifest_kept told identity release it fresh = record { answers = go; job = refl; pins = refl; nodes = refl; short = λ all. all }
  where
    go : (asked : Key) → answers_to (with_manifests told (told.manifests ++ record { identity = identity; release = release; said = it } ∷ [])) asked
        ≡ with_said (key.Manifest identity release) it (answers_to told) asked
    go (key.List x) = refl
    go (key.Manifest x v) =
        manifest_more told.manifests (record { identity = identity; release = release; said = it }) x v
        ∙ last_found (manifest_given told.manifests x v) (bytes_eq identity x && release_eq release v) it
        (λ same.
        let parts = and_parts (bytes_eq identity x) (release_eq release v) same in
        subst (λ y. manifest_given told.manifests y v ≡ None) (text_same identity x parts.0)
        (subst (λ w. manifest_given told.manifests identity w ≡ None) (same_release release v parts.1) fresh))
        ∙ sym (ap (λ b. cond b (Some it) (answers_to told (key.Manifest x v))) (two_parts (bytes_eq identity x) (release_eq release v)))
    go (key.Release x v) = refl
    go (key.Archive x v) = refl
    go (key.Identifiers x) = refl

-- ---- by what a push answers

pub kept_list : {E : Type 0} (told : Told) (identity copy : List ℕ) (list : List Parts) (it : Said) (new : List (List ℕ × List Parts)) (answer : Result ⊤ E)
    → it ≡ said.Releases list → copy ≡ identity → IsSaidOf (key.List identity) it → answers_to told (key.List identity) ≡ None
    → OnOk answer (new ≡ told.known.lists ++ (copy, list) ∷ []) → OnOk answer (IsKeptMore (key.List identity) it told (with_lists told new))
kept_list told identity copy list it new answer is same short fresh pushed =
    on_ok answer (λ at.
    subst (λ s. IsKeptMore (key.List identity) s told (with_lists told new)) (sym is)
    (subst (λ lists. IsKeptMore (key.List identity) (said.Releases list) told (with_lists told lists))
    (sym (at ∙ ap (λ y. told.known.lists ++ (y, list) ∷ []) same))
    (list_kept told identity list (subst (IsSaidOf (key.List identity)) is short) fresh))) pushed

pub kept_long : {E : Type 0} (told : Told) (identity copy : List ℕ) (it : Said) (new : List (List ℕ)) (answer : Result ⊤ E) → it ≡ said.TooMany
    → copy ≡ identity → answers_to told (key.List identity) ≡ None → OnOk answer (new ≡ told.long ++ copy ∷ [])
    → OnOk answer (IsKeptMore (key.List identity) it told (with_long told new))
kept_long told identity copy it new answer is same fresh pushed =
    on_ok answer (λ at.
    subst (λ s. IsKeptMore (key.List identity) s told (with_long told new)) (sym is)
    (subst (λ long. IsKeptMore (key.List identity) said.TooMany told (with_long told long)) (sym (at ∙ ap (λ y. told.long ++ y ∷ []) same))
    (long_kept told identity fresh))) pushed

pub kept_package : {E : Type 0} (told : Told) (url copy : List ℕ) (found : Option (List ℕ)) (it : Said) (new : List (List ℕ × Option (List ℕ)))
    (answer : Result ⊤ E) → it ≡ said.Package found → copy ≡ url → answers_to told (key.Identifiers url) ≡ None
    → OnOk answer (new ≡ told.known.urls ++ (copy, found) ∷ []) → OnOk answer (IsKeptMore (key.Identifiers url) it told (with_urls told new))
kept_package told url copy found it new answer is same fresh pushed =
    on_ok answer (λ at.
    subst (λ s. IsKeptMore (key.Identifiers url) s told (with_urls told new)) (sym is)
    (subst (λ urls. IsKeptMore (key.Identifiers url) (said.Package found) told (with_urls told urls))
    (sym (at ∙ ap (λ y. told.known.urls ++ (y, found) ∷ []) same)) (package_kept told url found fresh))) pushed

pub kept_manifest : {E : Type 0} (told : Told) (identity copy : List ℕ) (release other : Parts) (it : Said) (new : List GivenManifest) (answer : Result ⊤ E)
    → copy ≡ identity → other ≡ release → answers_to told (key.Manifest identity release) ≡ None
    → OnOk answer (new ≡ told.manifests ++ record { identity = copy; release = other; said = it } ∷ [])
    → OnOk answer (IsKeptMore (key.Manifest identity release) it told (with_manifests told new))
kept_manifest told identity copy release other it new answer same also fresh pushed =
    on_ok answer (λ at.
    subst (λ manifests. IsKeptMore (key.Manifest identity release) it told (with_manifests told manifests))
    (sym (at ∙ ap₂ (λ (i : List ℕ) (r : Parts). told.manifests ++ record { identity = i; release = r; said = it } ∷ []) same also)) (manifest_kept told identity release it fresh)) pushed
