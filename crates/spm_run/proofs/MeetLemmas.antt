-- Passes that met.
use Rattle.std.proofs.Common.{◌≡◌, ℕ, true, List, [], ◌∷◌, ◌++◌, length, sym, ap, ◌∙◌, subst, append_assoc, append-nil}
use Rattle.std.proofs.lemmas.List.Concat.{flat_map-append}
use Rattle.std.proofs.Math.Seq.{take-append_seam}
use Rattle.std.proofs.lemmas.List.Elements.{All-head, All-take, filter-append}
use Rattle.std.specs.List.{All, flat_map}
use Rattle.spm_cache.specs.Passing.{Passing}
use Rattle.spm_cache_core.specs.declared.event.Event.{Event}
use Rattle.spm_turn.specs.Log.{OthersFollow, has, longer, of_numbers}
use Rattle.spm_turn.proofs.Follows.{others_here, others_less}
use Rattle.spm_turn.proofs.Numbers.{has_left, has_right}
use Rattle.spm_run.specs.Actors.{AreFollowed, AreMet}

abbrev by : Event → ℕ
by e = e.actor

-- the numbers of passes
abbrev pub numbers_of : List Passing → List ℕ
numbers_of passes = flat_map (λ (pass : Passing). pass.numbers) passes

-- others follow, and then others again
others_on : (numbers : List ℕ) (first second third : List Event) → OthersFollow by numbers first second → OthersFollow by numbers second third
    → OthersFollow by numbers first third
others_on numbers first second third early late = (
  early.0 ++ late.0,
  late.1 ∙ ap (λ (events : List Event). events ++ late.0) early.1 ∙ append_assoc first early.0 late.0,
  filter-append (λ (e : Event). has numbers (by e)) early.0 late.0
      ∙ ap (λ (events : List Event). events ++ of_numbers by numbers late.0) early.2 ∙ late.2,
)

-- what follows for all numbers follows behind each pass
followed_on : (numbers : List ℕ) (before after : List Event) (passes : List Passing) → ((n : ℕ) → has (numbers_of passes) n ≡ true → has numbers n ≡ true)
    → OthersFollow by numbers before after → AreFollowed passes before → AreFollowed passes after
followed_on numbers before after [] among follow followed = tt
followed_on numbers before after (pass ∷ passes) among follow followed = (
  others_on pass.numbers pass.seen before after followed.0
      (others_less by pass.numbers numbers before after (λ n there. among n (has_left pass.numbers (numbers_of passes) n there)) follow),
  followed_on numbers before after passes (λ n there. among n (has_right pass.numbers (numbers_of passes) n there)) follow followed.1,
)

followed_more : (passes : List Passing) (pass : Passing) (history : List Event) → AreFollowed passes history
    → OthersFollow by pass.numbers pass.seen history → AreFollowed (passes ++ pass ∷ []) history
followed_more [] pass history followed follow = (follow, tt)
followed_more (one ∷ passes) pass history followed follow = (followed.0, followed_more passes pass history followed.1 follow)

-- one pass alone
pub met_first : (pass : Passing) → AreMet (pass ∷ []) pass
met_first pass = record {
  numbers = sym (append-nil pass.numbers);
  followed = (others_here by pass.numbers pass.seen, tt);
  terms = λ sessions workers all. All-head (λ (one : Passing). (one.sessions ≡ sessions) × (one.workers ≡ workers)) pass [] all;
}

-- the terms of the first of passes
terms_first : (sessions workers : ℕ) (passes : List Passing) (pass : Passing)
    → All (λ (one : Passing). (one.sessions ≡ sessions) × (one.workers ≡ workers)) (passes ++ pass ∷ [])
    → All (λ (one : Passing). (one.sessions ≡ sessions) × (one.workers ≡ workers)) passes
terms_first sessions workers passes pass all =
    subst (All (λ (one : Passing). (one.sessions ≡ sessions) × (one.workers ≡ workers))) (take-append_seam passes (pass ∷ []))
    (All-take (λ (one : Passing). (one.sessions ≡ sessions) × (one.workers ≡ workers)) (length passes) (passes ++ pass ∷ []) all)

-- one more
pub met_next : (passes : List Passing) (whole pass both : Passing) (told : ℕ)
    → both ≡ record whole { seen = longer whole.seen pass.seen; numbers = whole.numbers ++ pass.numbers; told = told }
    → OthersFollow by whole.numbers whole.seen both.seen → OthersFollow by pass.numbers pass.seen both.seen → AreMet passes whole
    → AreMet (passes ++ pass ∷ []) both
met_next passes whole pass both told is first second met = record {
  numbers = ap (λ (p : Passing). p.numbers) is ∙ ap (λ (ns : List ℕ). ns ++ pass.numbers) met.numbers
      ∙ ap (λ (ns : List ℕ). numbers_of passes ++ ns) (sym (append-nil pass.numbers))
      ∙ sym (flat_map-append (λ (p : Passing). p.numbers) passes (pass ∷ []));
  followed = followed_more passes pass both.seen
      (followed_on whole.numbers whole.seen both.seen passes (λ n there. ap (λ (ns : List ℕ). has ns n) met.numbers ∙ there) first met.followed)
      second;
  terms = λ sessions workers all.
      let of_whole = met.terms sessions workers (terms_first sessions workers passes pass all) in
      (ap (λ (p : Passing). p.sessions) is ∙ of_whole.0, ap (λ (p : Passing). p.workers) is ∙ of_whole.1);
}
