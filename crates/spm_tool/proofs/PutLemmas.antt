-- Puts, one after the other.
use Rattle.std.proofs.Common.{◌≡◌, ℕ, suc, ◌+◌, ◌<◌, List, [], ◌∷◌, ◌++◌, length, take, get_or, set, map, Bool, Option, Some, None, is_some, refl, sym, ap, ◌∙◌, subst}
use Rattle.std.proofs.lemmas.List.{get_or-map, length-map, take_more, take_more_set}
use Rattle.spm_outside.specs.Names.{FileMap}
use Rattle.spm_tool.specs.Ending.{ArePuts}
use Rattle.spm_tool.specs.Puts.{FilePut, IsPut, PutsLeave, failed_name, failed_puts, fingerprints_put, root_put, root_puts, with_put}
use Rattle.spm_tool.specs.declared.ending.PutEnding.{PutEnding}
use Rattle.spm_tool.specs.declared.ending.PutEnding.TheVariants as put
use Rattle.spm_tool.specs.declared.ending.RootRun.{RootRun}

pub puts_on : (puts more : List FilePut) (old between new : Option FileMap) → PutsLeave puts old between → PutsLeave more between new
    → PutsLeave (puts ++ more) old new
puts_on [] more old between new first second = subst (λ files. PutsLeave more files new) first second
puts_on (one ∷ puts) more old between new first second = (first.0, first.1, puts_on puts more first.0 between new first.2 second)

failed_name_on : (it : PutEnding) (name : List ℕ) (names more : List (List ℕ)) → failed_name it name (names ++ more) ≡ failed_name it name names ++ more
failed_name_on put.Failed name names more = refl
failed_name_on put.Done name names more = refl
failed_name_on put.Memory name names more = refl
failed_name_on put.Nothing name names more = refl

pub failed_puts_on : (puts more : List FilePut) → failed_puts (puts ++ more) ≡ failed_puts puts ++ failed_puts more
failed_puts_on [] more = refl
failed_puts_on (one ∷ puts) more =
    ap (failed_name one.ended one.name) (failed_puts_on puts more) ∙ failed_name_on one.ended one.name (failed_puts puts) (failed_puts more)

pub with_put_on : (one : Option FilePut) (puts more : List FilePut) → with_put one (puts ++ more) ≡ with_put one puts ++ more
with_put_on (Some it) puts more = refl
with_put_on None puts more = refl

-- the puts of roots, and then of one more
root_puts_more : (proofs : Bool) (roots : List (List ℕ)) (runs : List RootRun) (puts : List PutEnding) (root : List ℕ) (run : RootRun) (it : PutEnding)
    → ArePuts proofs roots runs puts
    → root_puts proofs (roots ++ root ∷ []) (runs ++ run ∷ []) (puts ++ it ∷ []) ≡ root_puts proofs roots runs puts ++ with_put (root_put proofs root run it) []
root_puts_more proofs [] [] [] root run it are = refl
root_puts_more proofs (first ∷ roots) (one ∷ runs) (ended ∷ puts) root run it are =
    ap (with_put (root_put proofs first one ended)) (root_puts_more proofs roots runs puts root run it are.1)
    ∙ with_put_on (root_put proofs first one ended) (root_puts proofs roots runs puts) (with_put (root_put proofs root run it) [])
root_puts_more proofs [] [] (ended ∷ puts) root run it are = absurd are
root_puts_more proofs [] (one ∷ runs) puts root run it are = absurd are
root_puts_more proofs (first ∷ roots) [] puts root run it are = absurd are
root_puts_more proofs (first ∷ roots) (one ∷ runs) [] root run it are = absurd are

are_puts_more : (proofs : Bool) (roots : List (List ℕ)) (runs : List RootRun) (puts : List PutEnding) (root : List ℕ) (run : RootRun) (it : PutEnding)
    → ArePuts proofs roots runs puts → IsPut (is_some (root_put proofs root run it)) it
    → ArePuts proofs (roots ++ root ∷ []) (runs ++ run ∷ []) (puts ++ it ∷ [])
are_puts_more proofs [] [] [] root run it are is = (is, tt)
are_puts_more proofs (first ∷ roots) (one ∷ runs) (ended ∷ puts) root run it are is =
    (are.0, are_puts_more proofs roots runs puts root run it are.1 is)
are_puts_more proofs [] [] (ended ∷ puts) root run it are is = absurd are
are_puts_more proofs [] (one ∷ runs) puts root run it are is = absurd are
are_puts_more proofs (first ∷ roots) [] puts root run it are is = absurd are
are_puts_more proofs (first ∷ roots) (one ∷ runs) [] root run it are is = absurd are

-- ---- a loop over the roots, which has a place for how each put ended

module _ (proofs : Bool) (roots : List (List ℕ)) (runs : List RootRun) (puts : List PutEnding) (place : ℕ) (root : List ℕ) (run : RootRun) (it : PutEnding)
    (in_roots : place < length roots) (in_runs : place < length runs) (in_puts : place < length puts) (root_is : get_or roots place root ≡ root)
    (run_is : get_or runs place run ≡ run) (are : ArePuts proofs (take place roots) (take place runs) (take place puts)) where
  roots_next : take (place + 1) roots ≡ take place roots ++ root ∷ []
  roots_next = take_more roots place root in_roots ∙ ap (λ one. take place roots ++ one ∷ []) root_is

  runs_next : take (place + 1) runs ≡ take place runs ++ run ∷ []
  runs_next = take_more runs place run in_runs ∙ ap (λ one. take place runs ++ one ∷ []) run_is

  puts_next : take (place + 1) (set puts place it) ≡ take place puts ++ it ∷ []
  puts_next = take_more_set puts place it in_puts

  pub are_puts_next : IsPut (is_some (root_put proofs root run it)) it
      → ArePuts proofs (take (place + 1) roots) (take (place + 1) runs) (take (place + 1) (set puts place it))
  are_puts_next is =
      subst (λ all. ArePuts proofs all (take (place + 1) runs) (take (place + 1) (set puts place it))) (sym roots_next)
      (subst (λ all. ArePuts proofs (take place roots ++ root ∷ []) all (take (place + 1) (set puts place it))) (sym runs_next)
      (subst (λ all. ArePuts proofs (take place roots ++ root ∷ []) (take place runs ++ run ∷ []) all) (sym puts_next)
      (are_puts_more proofs (take place roots) (take place runs) (take place puts) root run it are is)))

  pub root_puts_next : root_puts proofs (take (place + 1) roots) (take (place + 1) runs) (take (place + 1) (set puts place it))
      ≡ root_puts proofs (take place roots) (take place runs) (take place puts) ++ with_put (root_put proofs root run it) []
  root_puts_next =
      ap (λ all. root_puts proofs all (take (place + 1) runs) (take (place + 1) (set puts place it))) roots_next
      ∙ ap (λ all. root_puts proofs (take place roots ++ root ∷ []) all (take (place + 1) (set puts place it))) runs_next
      ∙ ap (λ all. root_puts proofs (take place roots ++ root ∷ []) (take place runs ++ run ∷ []) all) puts_next
      ∙ root_puts_more proofs (take place roots) (take place runs) (take place puts) root run it are

-- as many puts as roots
pub puts_each : (proofs : Bool) (roots : List (List ℕ)) (runs : List RootRun) (puts : List PutEnding) → ArePuts proofs roots runs puts
    → length puts ≡ length roots
puts_each proofs [] [] [] are = refl
puts_each proofs (root ∷ roots) (run ∷ runs) (it ∷ puts) are = ap (λ n. suc n) (puts_each proofs roots runs puts are.1)
puts_each proofs [] [] (it ∷ puts) are = absurd are
puts_each proofs [] (run ∷ runs) puts are = absurd are
puts_each proofs (root ∷ roots) [] puts are = absurd are
puts_each proofs (root ∷ roots) (run ∷ runs) [] are = absurd are

-- ---- the roots of a list of texts

module _ {S : Type 0} (text : S → List ℕ) (roots : List S) (place : ℕ) (root : S) (below : place < length roots) where
  pub below_map : place < length (map text roots)
  below_map = subst (λ n. place < n) (sym (length-map roots text)) below

  pub at_root : root ≡ get_or roots place root → get_or (map text roots) place (text root) ≡ text root
  at_root is = get_or-map text roots place root (text root) below ∙ ap text (sym is)

pub below_texts : {S : Type 0} (text : S → List ℕ) (roots : List S) (place : ℕ) → place < length roots → place < length (map text roots)
below_texts text roots place below = subst (λ n. place < n) (sym (length-map roots text)) below

-- a fingerprint file that gains nothing isn't put
pub none_put : (file : Option (List ℕ)) (it : PutEnding) → fingerprints_put file None it ≡ None
none_put None it = refl
none_put (Some name) it = refl
