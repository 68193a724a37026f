-- The law of equality of subjects: the same owner, and the same traits.
use Rattle.std.specs.Str.{bytes_eq}
use Rattle.std.specs.Prelude.{◌&&◌, ℕ, List, Bool}
use Rattle.std.specs.Cmp.{IsEquivalence, and_equiv, on_equiv}
use Rattle.std.specs.Cmp.Lexicographic.{lists_equiv, nat_list_eq_equiv, options_equiv, pointwise}
use Rattle.std.specs.Option.{option_eq}
use Rattle.spm_version.specs.Release.{Parts}
use Rattle.spm_version.specs.ReleaseLaws.{release_eq, release_equiv}
use Rattle.pub_term.specs.declared.cause.Subject.{Subject}

-- the same package at the same release
abbrev pub same_owner : List ℕ × Parts → List ℕ × Parts → Bool
same_owner first second = bytes_eq first.0 second.0 && release_eq first.1 second.1

abbrev pub same_subject : Subject → Subject → Bool
same_subject first second = option_eq same_owner first.owner second.owner && pointwise bytes_eq first.under second.under

same_owner_equiv : IsEquivalence same_owner
same_owner_equiv = and_equiv (on_equiv (λ (owner : List ℕ × Parts). owner.0) nat_list_eq_equiv)
    (on_equiv (λ (owner : List ℕ × Parts). owner.1) release_equiv)

pub same_subject_equiv : IsEquivalence same_subject
same_subject_equiv = and_equiv (on_equiv (λ (subject : Subject). subject.owner) (options_equiv same_owner_equiv))
    (on_equiv (λ (subject : Subject). subject.under) (lists_equiv nat_list_eq_equiv))
