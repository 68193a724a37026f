use Rattle.std.proofs.Common.{◌≡◌, ◌≢◌, ◌∙◌, ◌++◌, ◌∷◌, [], ℕ, List, arith, subst, sym}
use Rattle.std.specs.Prelude.{MatchOption}
use Rattle.std.proofs.lemmas.Str.Pattern.{strip_suffix_char}
use Rattle.spm_api.proofs.SlashLemmas.{no_slash}
use Rattle.spm_api.proofs.base.without_slashes.Goals as goal

pub returns : goal.returns
returns c =
    let rest = c.loop-shorter.rest.now in
    let none = subst (λ found. MatchOption found ((front : List ℕ) → rest ≢ front ++ 47 ∷ []) (λ x. rest ≡ x.now ++ 47 ∷ [])) c.in_default.is
    (strip_suffix_char 47 rest c.strip_suffix.result c.strip_suffix.ensures.cases (omega arith)) in
    sym (no_slash rest none) ∙ c.loop-shorter.invariant.same
