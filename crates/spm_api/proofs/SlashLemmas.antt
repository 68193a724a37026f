-- Dropping the slashes at the end of a path, one by one.
use Rattle.std.proofs.Common.{◌≡◌, ◌≢◌, ℕ, ◌==◌, Bool, List, [], ◌∷◌, ◌++◌, if◌then◌else◌, refl, sym, ap, ◌∙◌, inl, inr, reverse}
use Rattle.std.proofs.lemmas.Bool.{cases_Bool, eqb-true}
use Rattle.std.proofs.lemmas.List.{reverse-append, reverse-reverse}
use Rattle.spm_api.specs.Base.{behind_slashes, without_slashes}

-- a slash at the end is dropped
pub one_slash : (path shorter : List ℕ) → path ≡ shorter ++ 47 ∷ [] → without_slashes path ≡ without_slashes shorter
one_slash path shorter is = ap (λ bytes. reverse (behind_slashes bytes)) (ap reverse is ∙ reverse-append shorter (47 ∷ []))

-- from the back, what begins with no slash stays
unchanged : (back : List ℕ) → ((front : List ℕ) → reverse back ≢ front ++ 47 ∷ []) → behind_slashes back ≡ back
unchanged [] none = refl
unchanged (byte ∷ back) none =
    elim (cases_Bool (byte == 47)) [
      | inl slash ↦ absurd (none (reverse back) (reverse-append (byte ∷ []) back ∙ ap (λ (b : ℕ). reverse back ++ b ∷ []) (eqb-true byte 47 slash)))
      | inr other ↦ ap (λ (is : Bool). if is then behind_slashes back else byte ∷ back) other
    ]

-- a path that ends in no slash stays
pub no_slash : (path : List ℕ) → ((front : List ℕ) → path ≢ front ++ 47 ∷ []) → without_slashes path ≡ path
no_slash path none =
    ap reverse (unchanged (reverse path) (λ front is. none front (sym (reverse-reverse path) ∙ is))) ∙ reverse-reverse path
