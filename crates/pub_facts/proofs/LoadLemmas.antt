-- The clauses of a load, as they are put behind each other.
use Rattle.std.proofs.Common.{◌≡◌, ◌≢◌, ℕ, true, false, List, [], ◌∷◌, ◌++◌, map, flat_map, Option, Some, None, refl, sym, ap, ◌∙◌, append_assoc}
use Rattle.std.specs.List.{filter}
use Rattle.std.proofs.lemmas.Bool.{cond-false, cond-true}
use Rattle.spm_manifest.specs.declared.dump.Contents.{Contents}
use Rattle.spm_manifest.specs.declared.need.Ask.{Ask}
use Rattle.spm_manifest.specs.declared.need.Need.{Need}
use Rattle.pub_term.specs.declared.cause.Cause.TheVariants.{NoTrait}
use Rattle.spm_trait.specs.Closure.{enabled_by, is_declared}
use Rattle.pub_facts.specs.Catalogue.{Lookups, target_of}
use Rattle.pub_facts.specs.Facts.{Load, asked_always, asked_under, asks_of, clauses_in, clauses_under, enables, fact, is_of, need_clauses, need_clauses_on, required, subject_of, under_names, unmet_cause, words_clauses}
use Rattle.pub_facts.specs.declared.fact.Fact.{Fact}

-- what is asked under conditions
pub asks_are : (l : Lookups) (load : Load) (target name : List ℕ) (under : List (List ℕ)) → under ≢ []
    → asks_of l load target name under ≡ map (asked_under l load target name) under
asks_are l load target name [] some = absurd (some refl)
asks_are l load target name (condition ∷ conditions) some = refl

-- what is asked always
pub asked_alone : (l : Lookups) (load : Load) (target name : List ℕ) (under : List (List ℕ)) (one : Fact) → under ≡ []
    → one ≡ asked_always l load target name → one ∷ [] ≡ asks_of l load target name under
asked_alone l load target name under one none is = ap (λ f. f ∷ []) is ∙ ap (asks_of l load target name) (sym none)

-- what is said of a need on a known package, put behind others
pub need_put : (l : Lookups) (load : Load) (need : Need) (target : List ℕ) (one : Fact) (asks : List Ask) (clauses first last : List Fact)
    → target_of l need ≡ Some target → one ≡ required l load target need.requirement → first ≡ clauses ++ one ∷ [] → asks ≡ need.asked
    → last ≡ first ++ flat_map (λ (ask : Ask). asks_of l load target ask.name ask.under) asks → last ≡ clauses ++ need_clauses l load need
need_put l load need target one asks clauses first last known is_one is_first is_asks is_last =
    is_last ∙ (ap (λ ks. first ++ flat_map (λ (ask : Ask). asks_of l load target ask.name ask.under) ks) is_asks
    ∙ (ap (λ all. all ++ flat_map (λ (ask : Ask). asks_of l load target ask.name ask.under) need.asked) (is_first ∙ ap (λ f. clauses ++ f ∷ []) is_one)
    ∙ (append_assoc clauses (required l load target need.requirement ∷ []) (flat_map (λ (ask : Ask). asks_of l load target ask.name ask.under) need.asked)
    ∙ ap (λ t. clauses ++ need_clauses_on l load need t) (sym known))))

-- what is said of a need on no known package
pub need_unmet : (l : Lookups) (load : Load) (need : Need) (one : Fact) → target_of l need ≡ None
    → one ≡ fact [] (unmet_cause (subject_of l load (under_names load.under)) need.requirement need.target) → one ∷ [] ≡ need_clauses l load need
need_unmet l load need one unknown is = ap (λ f. f ∷ []) is ∙ ap (need_clauses_on l load need) (sym unknown)

-- what the words ask, and the needs that are always in force
pub owner_put : (asked : List (List ℕ)) (l : Lookups) (load : Load) (contents : Contents) (needs : List Need) (first last : List Fact)
    → load.under ≡ None → needs ≡ contents.needs → first ≡ words_clauses asked load.owner
    → last ≡ first ++ flat_map (need_clauses l load) (filter (is_of load.under) needs) → last ≡ clauses_in asked l load contents
owner_put asked l load contents needs first last owner is_needs is_first is_last =
    is_last ∙ (ap (λ ns. first ++ flat_map (need_clauses l load) (filter (is_of load.under) ns)) is_needs
    ∙ (ap (λ all. all ++ flat_map (need_clauses l load) (filter (is_of load.under) contents.needs)) is_first
    ∙ (ap (λ under. words_clauses asked load.owner ++ flat_map (need_clauses l load) (filter (is_of under) contents.needs)) owner
    ∙ ap (clauses_under asked l load contents) (sym owner))))

-- what a declared trait enables, and the needs that it guards
pub trait_put : (asked : List (List ℕ)) (l : Lookups) (load : Load) (contents : Contents) (name : List ℕ) (needs : List Need) (first last : List Fact)
    → load.under ≡ Some name → is_declared contents.traits.entries name ≡ true → needs ≡ contents.needs
    → first ≡ map (enables l load) (enabled_by contents.traits.entries name)
    → last ≡ first ++ flat_map (need_clauses l load) (filter (is_of load.under) needs) → last ≡ clauses_in asked l load contents
trait_put asked l load contents name needs first last is_name declared is_needs is_first is_last =
    is_last ∙ (ap (λ ns. first ++ flat_map (need_clauses l load) (filter (is_of load.under) ns)) is_needs
    ∙ (ap (λ all. all ++ flat_map (need_clauses l load) (filter (is_of load.under) contents.needs)) is_first
    ∙ (ap (λ under. map (enables l load) (enabled_by contents.traits.entries name) ++ flat_map (need_clauses l load) (filter (is_of under) contents.needs)) is_name
    ∙ (sym (cond-true (is_declared contents.traits.entries name) _ _ declared) ∙ ap (clauses_under asked l load contents) (sym is_name)))))

-- a trait that isn't declared
pub undeclared_is : (asked : List (List ℕ)) (l : Lookups) (load : Load) (contents : Contents) (name : List ℕ) (last : List Fact)
    → load.under ≡ Some name → is_declared contents.traits.entries name ≡ false
    → last ≡ fact [] (NoTrait (subject_of l load (under_names load.under))) ∷ [] → last ≡ clauses_in asked l load contents
undeclared_is asked l load contents name last is_name undeclared is =
    is ∙ (sym (cond-false (is_declared contents.traits.entries name) _ _ undeclared) ∙ ap (clauses_under asked l load contents) (sym is_name))
