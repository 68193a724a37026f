-- One package more, whose identity is looked up in the set of those before it.
use Rattle.std.proofs.Common.{◌≡◌, ℕ, ◌||◌, Bool, true, false, List, [], ◌∷◌, ◌++◌, Ok, refl, sym, ap, ◌∙◌}
use Rattle.std.specs.List.{list_any}
use Rattle.std.proofs.lemmas.List.Folds.{list_any-append}
use Rattle.serde_json.specs.Data.{Data}
use Rattle.spm_json.specs.Reading.{at_foreign_key, ◌>>=◌}
use Rattle.spm_json.specs.Sequence.{members_after}
use Rattle.spm_trust.specs.NewPackage.{package_unless}
use Rattle.spm_trust.specs.File.{is_package, package_member}
use Rattle.spm_trust.specs.declared.file.KeptPackage.{KeptPackage}

-- a truth stands before another as behind it
or_behind : (first second : Bool) → (first || second) ≡ (second || (first || false))
or_behind true true = refl
or_behind true false = refl
or_behind false true = refl
or_behind false false = refl

-- the identities that were met with one package more
pub met_more : (packages : List KeptPackage) (entry : KeptPackage) (identity : List ℕ) (before after : Bool) → before ≡ list_any (is_package identity) packages
    → after ≡ (is_package identity entry || before) → after ≡ list_any (is_package identity) (packages ++ entry ∷ [])
met_more packages entry identity before after is more =
    more ∙ ap (λ met. is_package identity entry || met) is ∙ or_behind (is_package identity entry) (list_any (is_package identity) packages)
    ∙ sym (list_any-append (is_package identity) packages (entry ∷ []))

-- the members behind a package that was read
pub members_more : (is_met : List ℕ → Bool) (packages : List KeptPackage) (key : List ℕ) (d : Data) (entry : KeptPackage) (members : List (List ℕ × Data))
    → ((identity : List ℕ) → is_met identity ≡ list_any (is_package identity) packages) → package_unless is_met key d ≡ Ok entry
    → members_after package_member packages ((key, d) ∷ members) ≡ members_after package_member (packages ++ entry ∷ []) members
members_more is_met packages key d entry members same is =
    ap (λ read. at_foreign_key read >>= λ x. members_after package_member (packages ++ x ∷ []) members)
    (sym (ap (λ (test : List ℕ → Bool). package_unless test key d) (λ i identity. same identity i)) ∙ is)
