-- Rounds of fetching, and a key that isn't answered, as the code goes through them.
use Rattle.std.proofs.Common.{◌≡◌, ◌<◌, ◌≤◌, ◌+◌, ◌==◌, ℕ, true, false, List, [], ◌∷◌, ◌++◌, Contains, Option, Some, Ok, refl, sym, ap, ◌∙◌, subst, inl, inr, ◌⊎◌, arith, drop, get_or, length, length-drop}
use Rattle.std.specs.Prelude.{option_map}
use Rattle.std.proofs.lemmas.Bool.{eqb-true, false≢true}
use Rattle.std.proofs.lemmas.List.Elements.{Contains-append_cases, Contains-append_left, Contains-append_right}
use Rattle.std.specs.List.{flat_map}
use Rattle.spm_key.specs.declared.key.Key.{Key}
use Rattle.spm_key.specs.declared.reply.Reply.{Reply}
use Rattle.spm_outside.specs.Book.{Pages}
use Rattle.spm_api.specs.Said.{reply_said}
use Rattle.spm_api.specs.declared.base.Base.{Base}
use Rattle.spm_api.specs.declared.replies.Said.{Said}
use Rattle.spm_api.specs.declared.replies.Said.TheVariants as said
use Rattle.pub_facts.specs.Catalogue.{Job}
use Rattle.pub_facts.proofs.ListSteps.{drop_next}
use Rattle.pub_facts.proofs.Members.{contains_cases}
use Rattle.pub_plain.specs.Answers.{unless_refused}
use Rattle.pub_plain.specs.Choosing.{Pins}
use Rattle.spm_judge.specs.Fetching.{AreHeld, ArePinsHeld, IsHoldEnd, IsListKey, IsMore, IsSettled, IsUnanswered, IsWide, keys_left}
use Rattle.spm_judge.specs.Held.{Held, is_answer, is_held, says_of}
use Rattle.spm_judge.specs.Judged.{AreWanted, list_keys, lookup_keys, manifest_keys}
use Rattle.spm_judge.specs.Over.{AreFrom, IsUnfetched}
use Rattle.spm_judge.specs.declared.over.Judged.{Judged}
use Rattle.spm_judge.proofs.FetchLemmas.{held_still, round_falls, wanted_read}
use Rattle.spm_judge.proofs.OverLemmas.{hold_other, many_list, many_said}

-- ---- one key after another

-- each of the keys is held, or is still to come
abbrev pub AreHeldBut : List Key → List Key → Held → Type 0
AreHeldBut rest keys held = (asked : Key) → Contains keys asked → (is_held held asked ≡ true) ⊎ Contains rest asked

-- one key more
pub but_step : (keys : List Key) (i : ℕ) (x : Key) (old new : Held) → i < length keys → x ≡ get_or keys i x → IsMore old new → is_held new x ≡ true
    → AreHeldBut (drop i keys) keys old → AreHeldBut (drop (i + 1) keys) keys new
but_step keys i x old new below is more there so_far = λ asked here. elim (so_far asked here) [
  | inl held ↦ inl (held_still old new asked more held)
  | inr later ↦
      elim
      (contains_cases x asked (drop (i + 1) keys) (subst (λ l. Contains l asked) (drop_next keys i x below (sym is)) later)) [
        | inl same ↦ inl (subst (λ k. is_held new k ≡ true) same there)
        | inr behind ↦ inr behind
      ]
]

-- all keys
pub but_end : (keys : List Key) (i : ℕ) (held : Held) → length keys ≤ i → AreHeldBut (drop i keys) keys held → AreHeld keys held
but_end keys i held all so_far = λ asked here. elim (so_far asked here) [
  | inl there ↦ there
  | inr later ↦ absurd (let short = length-drop i keys in omega (arith, later.1, short, all))
]

-- ---- rounds

-- where each key that is read is held, those of the pins are
pub settled_pins : (job : Job) (pins : Pins) (held : Held) → IsSettled job pins held → ArePinsHeld pins held
settled_pins job pins held settled = λ asked here.
    settled.all asked
    (elim (Contains-append_cases (list_keys pins) (manifest_keys pins) asked here) [
      | inl listed ↦
          Contains-append_left (list_keys pins) (manifest_keys pins ++ flat_map (lookup_keys job (says_of held) pins) settled.on) asked listed
      | inr manifest ↦
          Contains-append_right (list_keys pins) (manifest_keys pins ++ flat_map (lookup_keys job (says_of held) pins) settled.on) asked
          (Contains-append_left (manifest_keys pins) (flat_map (lookup_keys job (says_of held) pins) settled.on) asked manifest)
    ])

-- a round with a key leaves fewer look-ups
pub some_falls : (job : Job) (old new : Held) (pins : Pins) (keys : List Key) → (keys ≡ [] → ⊥) → AreWanted job old pins keys → IsMore old new
    → AreHeld keys new → ArePinsHeld pins old → keys_left job pins new < keys_left job pins old
some_falls job old new pins [] some w more there held = absurd (some refl)
some_falls job old new pins (first ∷ keys) some w more there held = round_falls job old new pins first keys w more there held

-- a fetch that ends is at a key that is read
pub round_end : (book : Option Pages) (base : Base) (job : Job) (held : Held) (pins : Pins) (keys given : List Key) (it : Judged) → given ≡ keys
    → AreWanted job held pins keys → AreFrom book base held → IsHoldEnd (Contains given) it → IsHoldEnd (IsUnfetched book base job pins) it
round_end book base job held pins keys given it is w from end =
    hold_other (Contains given) (IsUnfetched book base job pins) it
    (λ asked here. record {
      held = held;
      from = from;
      on = w.on;
      are = w.are;
      read = (wanted_read job held pins keys w asked (subst (λ l. Contains l asked) is here)).0;
    })
    end

-- a list with no item
pub empty_is : {X : Type 0} (xs : List X) → (length xs == 0) ≡ true → xs ≡ []
empty_is [] is = refl
empty_is (x ∷ xs) is = absurd (let none = eqb-true (length (x ∷ xs)) 0 is in omega (arith, none))

-- a list with an item
pub some_is : {X : Type 0} (xs : List X) → (length xs == 0) ≡ false → xs ≡ [] → ⊥
some_is xs is none = false≢true (sym is ∙ ap (λ l. length l == 0) none)

-- ---- a key that isn't answered

-- what a reply says that is held
says_held : (held : Held) (asked : Key) (reply : Reply) (found : Said) → held asked ≡ Some reply → reply_said asked reply ≡ Ok found
    → says_of held asked ≡ Some found
says_held held asked reply found there is =
    ap (λ r. unless_refused (option_map (reply_said asked) r)) there ∙ ap (λ r. unless_refused (Some r)) is

-- of what is said and is no answer
pub many_there : (held : Held) (asked : Key) (reply : Reply) (found : Said) → held asked ≡ Some reply → reply_said asked reply ≡ Ok found
    → is_answer (says_of held asked) ≡ false → IsListKey asked × (says_of held asked ≡ Some said.TooMany)
many_there held asked reply found there is lacks =
    let says = says_held held asked reply found there is in
    let many : found ≡ said.TooMany = many_said found (ap is_answer (sym says) ∙ lacks) in
    (many_list asked reply (is ∙ ap (λ s. Ok s) many), says ∙ ap (λ s. Some s) many)

-- a list that is too long isn't answered
pub wide_unanswered : (held : Held) (asked : Key) (it : Judged) → IsWide asked it → says_of held asked ≡ Some said.TooMany → IsUnanswered held asked it
wide_unanswered held asked it wide many = subst (IsUnanswered held asked) (sym wide.2) (wide.1, many)
