-- What is told and what is answered: the lists and look-ups are the same; and what stops a load.
use Rattle.std.proofs.Common.{◌≡◌, ℕ, ◌+◌, ◌<◌, Bool, true, false, cond, List, [], ◌∷◌, length, drop, get_or, Option, Some, None, option_map, refl, sym, ap, ap₂, ◌∙◌, arith, suc, ◌≤◌}
use Rattle.std.proofs.Math.ListN.{drop_of_length-le}
use Rattle.std.proofs.Math.Path.{fun_ext}
use Rattle.std.proofs.Math.Seq.{drop-cons}
use Rattle.std.proofs.lemmas.Bool.{cond-false, cond-true}
use Rattle.std.specs.List.{filter, list_any}
use Rattle.std.specs.Str.{bytes_eq}
use Rattle.pub_facts.specs.Catalogue.{Lookups, Owner, release_at, version_in}
use Rattle.pub_facts.specs.Facts.{found_at}
use Rattle.pub_facts.specs.Known as known
use Rattle.pub_facts.specs.Known.{list_in, lookups_of}
use Rattle.pub_trail.specs.Turn.{Loading, or_some, when_true}
use Rattle.spm_api.specs.declared.replies.Said.TheVariants as said
use Rattle.spm_manifest.specs.declared.need.Need.{Need}
use Rattle.spm_version.specs.Release.{Parts}
use Rattle.pub_plain.specs.Answers.{Answers, catalogue_by, found_in, lookups_by, package_in, releases_in}
use Rattle.pub_plain.specs.Given.{list_given, package_given}
use Rattle.pub_plain.specs.Loading.{read_need, read_needs}
use Rattle.pub_plain.specs.Told.{answers_to, said_at, stopped}
use Rattle.pub_plain.specs.declared.reading.Stop.{Stop}
use Rattle.pub_plain.specs.declared.reading.Stop.TheVariants as stop
use Rattle.pub_plain.specs.declared.told.Told.{Told}

-- the list that is given, or else none
list_same : (lists : List (List ℕ × List Parts)) (identity : List ℕ) (long : Bool)
    → releases_in (or_some (option_map said.Releases (list_given lists identity)) (when_true long said.TooMany)) ≡ list_in lists identity
list_same [] identity true = refl
list_same [] identity false = refl
list_same (one ∷ others) identity long = go (list_same others identity long) (bytes_eq one.0 identity)
  where
    go : releases_in (or_some (option_map said.Releases (list_given others identity)) (when_true long said.TooMany)) ≡ list_in others identity → (same : Bool)
        → releases_in (or_some (option_map said.Releases (cond same (Some one.1) (list_given others identity))) (when_true long said.TooMany))
        ≡ cond same one.1 (list_in others identity)
    go rest true = refl
    go rest false = rest

-- the package that is given, or else none
package_same : (urls : List (List ℕ × Option (List ℕ))) (url : List ℕ)
    → package_in (option_map said.Package (package_given urls url)) ≡ known.package_in urls url
package_same [] url = refl
package_same (one ∷ others) url = go (package_same others url) (bytes_eq one.0 url)
  where
    go : package_in (option_map said.Package (package_given others url)) ≡ known.package_in others url → (same : Bool)
        → package_in (option_map said.Package (cond same (Some one.1) (package_given others url))) ≡ cond same one.1 (known.package_in others url)
    go rest true = refl
    go rest false = rest

abbrev made : (List ℕ → List Parts) → (List ℕ → Option (List ℕ)) → Lookups
made list package_at = record { list = list; package_at = package_at }

-- what the answers say of lists and look-ups is what is known
pub lookups_told : (told : Told) → lookups_by (answers_to told) ≡ lookups_of told.known
lookups_told told =
    ap₂ made (fun_ext (λ identity. list_same told.known.lists identity (list_any (bytes_eq identity) told.long)))
    (fun_ext (λ url. package_same told.known.urls url))

-- ---- the owner of a load

-- the version of an owner that has a package
pub version_is : (told : Told) (owner : Owner) (identity : List ℕ) (choice : ℕ) (found : Option Parts) → owner ≡ Some identity
    → found ≡ release_at (list_in told.known.lists identity) choice → found ≡ version_in (lookups_by (answers_to told)) owner choice
version_is told owner identity choice found is at =
    at ∙ ap (λ o. version_in (lookups_of told.known) o choice) (sym is) ∙ ap (λ l. version_in l owner choice) (sym (lookups_told told))

-- what is said of the owner is what is found of it
pub found_is : (answers : Answers) (owner : Owner) (version : Option Parts) → found_in (said_at answers owner version) ≡ found_at (catalogue_by answers) owner version
found_is answers None version = refl
found_is answers (Some identity) None = refl
found_is answers (Some identity) (Some release) = refl

-- ---- what stops a load

-- what stops comes whatever stands behind it
pub stopped_any : (found : Stop) (more other : Loading) → stopped (Some found) more ≡ stopped (Some found) other
stopped_any (stop.Lacks asked) more other = refl
stopped_any (stop.Passes wide) more other = refl

-- the needs from a place on begin with the need there
drop_need : (needs : List Need) (i : ℕ) (need : Need) → i < length needs → need ≡ get_or needs i need → drop i needs ≡ need ∷ drop (i + 1) needs
drop_need needs i need below is =
    let next : suc i ≡ i + 1 = omega arith in
    drop-cons needs i need below ∙ ap₂ (λ (n : Need) (ns : List Need). n ∷ ns) (sym is) (ap (λ k. drop k needs) next)

-- a need that the load has is read first
pub needs_first : (answers : Answers) (test : Need → Bool) (needs : List Need) (i : ℕ) (need : Need) (more : Loading) → i < length needs
    → need ≡ get_or needs i need → test need ≡ true
    → read_needs answers (filter test (drop i needs)) more ≡ read_need answers need (read_needs answers (filter test (drop (i + 1) needs)) more)
needs_first answers test needs i need more below is has =
    ap (λ ns. read_needs answers (filter test ns) more) (drop_need needs i need below is)
    ∙ ap (λ ns. read_needs answers ns more) (cond-true (test need) (need ∷ filter test (drop (i + 1) needs)) (filter test (drop (i + 1) needs)) has)

-- one that it hasn't is passed over
pub needs_other : (answers : Answers) (test : Need → Bool) (needs : List Need) (i : ℕ) (need : Need) (more : Loading) → i < length needs
    → need ≡ get_or needs i need → test need ≡ false
    → read_needs answers (filter test (drop i needs)) more ≡ read_needs answers (filter test (drop (i + 1) needs)) more
needs_other answers test needs i need more below is hasnt =
    ap (λ ns. read_needs answers (filter test ns) more) (drop_need needs i need below is)
    ∙ ap (λ ns. read_needs answers ns more) (cond-false (test need) (need ∷ filter test (drop (i + 1) needs)) (filter test (drop (i + 1) needs)) hasnt)

-- behind the last there is nothing
pub needs_end : (answers : Answers) (test : Need → Bool) (needs : List Need) (i : ℕ) (more : Loading) → length needs ≤ i
    → read_needs answers (filter test (drop i needs)) more ≡ more
needs_end answers test needs i more past = ap (λ ns. read_needs answers (filter test ns) more) (drop_of_length-le needs past)
