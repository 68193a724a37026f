-- The uses that count for a dependency's number are the uses of the dependency.
use Rattle.std.proofs.Common.{◌≡◌, ◌⊎◌, ℕ, ◌+◌, ◌<◌, ◌||◌, cond, zero, suc, List, [], ◌∷◌, ◌++◌, length, get_or, map, drop, Bool, true, false, Option, Some, None, refl, sym, ap, ◌∙◌, inl, inr, arith, append_assoc}
use Rattle.std.specs.List.{filter, list_any}
use Rattle.std.specs.Prelude.{is_some, unwrap_or}
use Rattle.std.specs.Str.{bytes_eq, str_to_ascii_lowercase}
use Rattle.std.proofs.Math.Bool.{or-true}
use Rattle.std.proofs.lemmas.Bool.{both_ways, cases_Bool, eq-eqb, false≢true, ne_eqb}
use Rattle.std.proofs.lemmas.Option.{none-some, same_Some}
use Rattle.std.proofs.lemmas.List.{drop_more}
use Rattle.std.proofs.lemmas.Slice.Eq.{bytes_eq-Decides}
use Rattle.spm_manifest.specs.Counted.{by_number, counted_of, counts_at, need_at, number_after, number_of, uses_at, with_counted}
use Rattle.spm_manifest.specs.Guard.{all_uses, counts_by_name, counts_for, distinct_after, guard_by, is_named, is_target, need_of}
use Rattle.spm_manifest.specs.declared.dependency.Dependency.{Dependency}
use Rattle.spm_manifest.specs.declared.guard.Counted.{Counted}
use Rattle.spm_manifest.specs.declared.need.Need.{Need}
use Rattle.spm_manifest.specs.declared.uses.Named.{Named}
use Rattle.spm_manifest.specs.declared.uses.Named.TheVariants.{Everything, Name, Package}
use Rattle.spm_manifest.specs.declared.uses.Use.{Use}
use Rattle.spm_manifest.specs.declared.uses.UsingTarget.{UsingTarget}

-- ---- names without repeats

-- functions with the same answers are one
same_answers : {A B : Type 0} (p q : A → B) → ((x : A) → p x ≡ q x) → p ≡ q
same_answers p q same = λ i x. same x i

-- a name that was met is passed over, another is taken
pub distinct_met : (has : List ℕ → Bool) (list names rest : List (List ℕ)) (i : ℕ) (name : List ℕ) → i < length names → name ≡ get_or names i name → has name ≡ true
    → list ++ distinct_after has (drop (i + 1) names ++ rest) ≡ list ++ distinct_after has (drop i names ++ rest)
distinct_met has list names rest i name below is met =
    let split : drop i names ≡ name ∷ drop (i + 1) names = drop_more names i name below ∙ ap (λ n. n ∷ drop (i + 1) names) (sym is) in
    rw (split, met) refl

-- a name that was not met is listed, and then met
pub distinct_new : (has after : List ℕ → Bool) (list longer names rest : List (List ℕ)) (i : ℕ) (name : List ℕ) → i < length names → name ≡ get_or names i name → has name ≡ false
    → ((other : List ℕ) → after other ≡ (bytes_eq name other || has other)) → longer ≡ list ++ name ∷ []
    → longer ++ distinct_after after (drop (i + 1) names ++ rest) ≡ list ++ distinct_after has (drop i names ++ rest)
distinct_new has after list longer names rest i name below is new same long =
    let split : drop i names ≡ name ∷ drop (i + 1) names = drop_more names i name below ∙ ap (λ n. n ∷ drop (i + 1) names) (sym is) in
    let test : after ≡ (λ other. bytes_eq name other || has other) = same_answers after (λ other. bytes_eq name other || has other) same in
    rw (split, new, long, test) (append_assoc list (name ∷ []) (distinct_after (λ other. bytes_eq name other || has other) (drop (i + 1) names ++ rest)))

-- ---- numbers

-- one dependency more
pub number_more : (identity : List ℕ) (dependencies : List Dependency) (i : ℕ) (dependency : Dependency) (found after : Option ℕ)
    → i < length dependencies → dependency ≡ get_or dependencies i dependency
    → after ≡ cond (bytes_eq (str_to_ascii_lowercase dependency.identity) identity) (Some i) found
    → number_after after (i + 1) identity (drop (i + 1) dependencies) ≡ number_after found i identity (drop i dependencies)
number_more identity dependencies i dependency found after below is new =
    let split : drop i dependencies ≡ dependency ∷ drop (i + 1) dependencies =
    drop_more dependencies i dependency below ∙ ap (λ d. d ∷ drop (i + 1) dependencies) (sym is) in
    rw (split, new) refl

-- the dependency has this identity, in lower case
abbrev has_identity : List ℕ → Dependency → Bool
has_identity identity dependency = bytes_eq (str_to_ascii_lowercase dependency.identity) identity

-- there is a number exactly where there is a dependency
number_is_some : (found : Option ℕ) (i : ℕ) (identity : List ℕ) (dependencies : List Dependency)
    → is_some (number_after found i identity dependencies) ≡ (is_some found || list_any (has_identity identity) dependencies)
number_is_some None i identity [] = refl
number_is_some (Some n) i identity [] = refl
number_is_some found i identity (dependency ∷ others) = elim (cases_Bool (bytes_eq (str_to_ascii_lowercase dependency.identity) identity)) [
  | inl is ↦ rw is (number_is_some (Some i) (i + 1) identity others ∙ sym (or-true (is_some found)))
  | inr other ↦ rw other (number_is_some found (i + 1) identity others)
]

-- what was found is below this number
abbrev Below : ℕ → Option ℕ → Type 0
Below i found = (n : ℕ) → found ≡ Some n → n < i

-- what is below a number is below the next
below_next : (i : ℕ) (found : Option ℕ) → Below i found → Below (i + 1) found
below_next i found below = λ n is. let lt : n < i = below n is in omega arith

-- a number is below the next
below_some : (i : ℕ) → Below (i + 1) (Some i)
below_some i = λ n is. let same : i ≡ n = same_Some i n is in omega arith

-- one number is not both new and below the new one
not_itself : {P : Type 0} (i : ℕ) (found : Option ℕ) (j : ℕ) → Below i found → Some i ≡ Some j → found ≡ Some j → P
not_itself i found j below first second =
    let same : i ≡ j = same_Some i j first in
    let lt : j < i = below j second in
    absurd (omega arith)

-- texts that are equal by the test are one
same_text : (first second : List ℕ) → bytes_eq first second ≡ true → first ≡ second
same_text first second is = (bytes_eq-Decides first second).0 is

-- one number is of one identity
one_identity : (found other : Option ℕ) (i : ℕ) (first second : List ℕ) (dependencies : List Dependency) (j : ℕ) → Below i found → Below i other
    → number_after found i first dependencies ≡ Some j → number_after other i second dependencies ≡ Some j
    → (first ≡ second) ⊎ ((found ≡ Some j) × (other ≡ Some j))
one_identity found other i first second [] j below_found below_other is also = inr (is, also)
one_identity found other i first second (dependency ∷ others) j below_found below_other is also =
    elim (cases_Bool (has_identity first dependency)) [
      | inl has ↦ elim (cases_Bool (has_identity second dependency)) [
        | inl has_too ↦ elim (one_identity (Some i) (Some i) (i + 1) first second others j (below_some i) (below_some i) (rw has at is) (rw has_too at also)) [
          | inl same ↦ inl same
          | inr both ↦ inl (sym (same_text _ _ has) ∙ same_text _ _ has_too)
        ]
        | inr has_not ↦ elim (one_identity (Some i) other (i + 1) first second others j (below_some i) (below_next i other below_other) (rw has at is) (rw has_not at also)) [
          | inl same ↦ inl same
          | inr both ↦ not_itself i other j below_other both.0 both.1
        ]
      ]
      | inr has_not ↦ elim (cases_Bool (has_identity second dependency)) [
        | inl has ↦ elim (one_identity found (Some i) (i + 1) first second others j (below_next i found below_found) (below_some i) (rw has_not at is) (rw has at also)) [
          | inl same ↦ inl same
          | inr both ↦ not_itself i found j below_found both.1 both.0
        ]
        | inr has_neither ↦ elim (one_identity found other (i + 1) first second others j (below_next i found below_found) (below_next i other below_other) (rw has_not at is) (rw has_neither at also)) [
          | inl same ↦ inl same
          | inr both ↦ inr both
        ]
      ]
    ]

-- ---- what a use counts for

module _ (targets : List UsingTarget) (dependencies : List Dependency) (dependency : Dependency) (number : ℕ)
    (numbered : number_of dependencies (str_to_ascii_lowercase dependency.identity) ≡ Some number) where
  -- a name counts for a dependency by its number as by its identity
  counts_by : (name : List ℕ) (found : Option ℕ) → number_of dependencies (str_to_ascii_lowercase name) ≡ found
      → counts_at number (by_number found) ≡ counts_by_name dependencies name dependency
  counts_by name None is =
      let none : list_any (is_named name) dependencies ≡ false = sym (number_is_some None 0 (str_to_ascii_lowercase name) dependencies) ∙ ap is_some is in
      rw none refl
  counts_by name (Some other) is =
      let some : list_any (is_named name) dependencies ≡ true = sym (number_is_some None 0 (str_to_ascii_lowercase name) dependencies) ∙ ap is_some is in
      rw some (elim (cases_Bool (is_named name dependency)) [
        | inl named ↦
            let same : str_to_ascii_lowercase dependency.identity ≡ str_to_ascii_lowercase name = same_text _ _ named in
            rw named (eq-eqb other number (same_Some other number (sym is ∙ ap (number_of dependencies) (sym same) ∙ numbered)))
        | inr unnamed ↦ rw unnamed (ne_eqb other number (λ (same : other ≡ number).
            elim (one_identity None None 0 (str_to_ascii_lowercase name) (str_to_ascii_lowercase dependency.identity) dependencies number
            (λ n no. absurd (none-some n no)) (λ n no. absurd (none-some n no)) (is ∙ ap Some same) numbered) [
              | inl text ↦ both_ways (is_named name dependency) unnamed ((bytes_eq-Decides _ _).1 (sym text))
              | inr both ↦ none-some number both.0
            ]))
      ])

  -- so does what a target names
  counts_named : (named : Named) → counts_at number (counted_of (number_of dependencies) (is_target targets) named) ≡ counts_for targets dependencies dependency named
  counts_named (Package name) = counts_by name (number_of dependencies (str_to_ascii_lowercase name)) refl
  counts_named (Name name) = elim (cases_Bool (is_target targets name)) [
    | inl is ↦ rw is refl
    | inr other ↦ rw other (counts_by name (number_of dependencies (str_to_ascii_lowercase name)) refl)
  ]
  counts_named Everything = refl

  -- so do all uses
  uses_counted : (uses : List Use) → uses_at number (with_counted (number_of dependencies) (is_target targets) uses)
      ≡ filter (λ found. counts_for targets dependencies dependency found.named) uses
  uses_counted [] = refl
  uses_counted (found ∷ others) = rw (counts_named found.named, uses_counted others) refl

-- ---- the needs

-- a test that holds at a place holds of some item
any_at : {A : Type 0} (p : A → Bool) (xs : List A) (i : ℕ) (x : A) → i < length xs → x ≡ get_or xs i x → p x ≡ true → list_any p xs ≡ true
any_at p [] i x below is passes = absurd (omega arith)
any_at p (y ∷ ys) zero x below is passes = rw (← is, passes) refl
any_at p (y ∷ ys) (suc i) x below is passes = rw (any_at p ys i x (omega arith) is passes) (or-true (p y))

-- a dependency of the manifest has a number
pub is_numbered : (dependencies : List Dependency) (i : ℕ) (dependency : Dependency) → i < length dependencies → dependency ≡ get_or dependencies i dependency
    → is_some (number_of dependencies (str_to_ascii_lowercase dependency.identity)) ≡ true
is_numbered dependencies i dependency below is =
    number_is_some None 0 (str_to_ascii_lowercase dependency.identity) dependencies
    ∙ any_at (has_identity (str_to_ascii_lowercase dependency.identity)) dependencies i dependency below is
    ((bytes_eq-Decides (str_to_ascii_lowercase dependency.identity) (str_to_ascii_lowercase dependency.identity)).1 refl)

-- a number that is there is itself
the_number : (found : Option ℕ) → is_some found ≡ true → found ≡ Some (unwrap_or found 0)
the_number (Some n) is = refl
the_number None is = absurd (false≢true is)

-- the need that the code makes is that of the definition
pub need_at-need_of : (targets : List UsingTarget) (dependencies : List Dependency) (i : ℕ) (dependency : Dependency)
    → i < length dependencies → dependency ≡ get_or dependencies i dependency
    → (number : List ℕ → Option ℕ) (is_name : List ℕ → Bool) (counted : List (Counted × Use))
    → ((identity : List ℕ) → number identity ≡ number_of dependencies identity) → ((name : List ℕ) → is_name name ≡ is_target targets name)
    → counted ≡ with_counted number is_name (all_uses targets)
    → need_at (unwrap_or (number (str_to_ascii_lowercase dependency.identity)) 0) counted dependency ≡ need_of targets dependencies dependency
need_at-need_of targets dependencies i dependency below is number is_name counted numbers names counts =
    let same_number : number ≡ number_of dependencies = same_answers number (number_of dependencies) numbers in
    let same_names : is_name ≡ is_target targets = same_answers is_name (is_target targets) names in
    rw (counts, same_number, same_names) (ap
    (λ (uses : List Use). record { target = dependency.target; requirement = dependency.requirement; guard = guard_by uses; asked = dependency.asked })
    (uses_counted targets dependencies dependency (unwrap_or (number_of dependencies (str_to_ascii_lowercase dependency.identity)) 0)
    (the_number _ (is_numbered dependencies i dependency below is)) (all_uses targets)))

-- one dependency more
pub needs_more : (make : Dependency → Need) (dependencies : List Dependency) (i : ℕ) (dependency : Dependency) (old new : List Need) (need : Need)
    → i < length dependencies → dependency ≡ get_or dependencies i dependency → need ≡ make dependency → new ≡ old ++ need ∷ []
    → new ++ map make (drop (i + 1) dependencies) ≡ old ++ map make (drop i dependencies)
needs_more make dependencies i dependency old new need below is made longer =
    let split : drop i dependencies ≡ dependency ∷ drop (i + 1) dependencies =
    drop_more dependencies i dependency below ∙ ap (λ d. d ∷ drop (i + 1) dependencies) (sym is) in
    rw (split, longer, made) (append_assoc old (make dependency ∷ []) (map make (drop (i + 1) dependencies)))

-- needs with the same parts
pub same_need : (first second : Need) → first.target ≡ second.target → first.requirement ≡ second.requirement → first.guard ≡ second.guard → first.asked ≡ second.asked → first ≡ second
same_need first second target requirement guard asked =
    λ i. record { target = target i; requirement = requirement i; guard = guard i; asked = asked i }
