-- From the steps of a closure to its definition: an index answers as the entries do, and the first name that isn't declared
-- is the least.
use Rattle.std.specs.Str.{bytes_eq}
use Rattle.std.proofs.Common.{◌≡◌, ℕ, Bool, true, false, ◌||◌, List, ◌∷◌, ◌++◌, codes, refl, sym, ap, ◌∙◌, arith}
use Rattle.std.specs.Prelude.{Contains}
use Rattle.std.proofs.lemmas.Bool.{true≢false, false_from_ne_true}
use Rattle.std.proofs.lemmas.List.Elements.{All-contains, Contains-append_right}
use Rattle.spm_trait.specs.Closure.{IsClosed, IsClosure, IsInLeast, IsLeastUnknown, is_declared}
use Rattle.spm_trait.specs.ClosureFault.{IsClosureFault}
use Rattle.spm_trait.specs.Reached.{AreDeclared, Index, IsClosedBy, IsUndeclaredFault, IsInLeastBy, IsIndex, IsReached, enabled_in, is_declared_in}
use Rattle.spm_trait.specs.declared.closures.ClosureFault.{ClosureFault}
use Rattle.spm_trait.specs.declared.closures.ClosureFault.TheVariants.{Unknown, Memory}
use Rattle.spm_trait.specs.declared.traits.TraitEntry.{TraitEntry}
use Rattle.spm_trait.proofs.Names.{has, Contains-from_has, le-from_place}

module _ (entries : List TraitEntry) (index : Index) (indexed : IsIndex entries index) where
  -- what is closed by the map is closed by the entries
  IsClosed-by : (asked : List (List ℕ)) (all : List ℕ → Bool) → IsClosedBy (enabled_in index) asked all → IsClosed entries asked all
  IsClosed-by asked all closed = record {
    asked_names = closed.asked_names;
    enabled_names = λ name other h e. closed.enabled_names name other h (rw (indexed.enabled name) e);
  }

  -- and the other way round
  by-IsClosed : (asked : List (List ℕ)) (all : List ℕ → Bool) → IsClosed entries asked all → IsClosedBy (enabled_in index) asked all
  by-IsClosed asked all closed = record {
    asked_names = closed.asked_names;
    enabled_names = λ name other h e. closed.enabled_names name other h (rw (indexed.enabled name) at e);
  }

  -- what is in the least set by the map is in that by the entries
  least-by : (asked : List (List ℕ)) (name : List ℕ) → IsInLeastBy (enabled_in index) asked name → IsInLeast entries asked name
  least-by asked name least = λ all closed. least all (by-IsClosed asked all closed)

  -- what is declared by the map is declared by the entries
  declared-by : (name : List ℕ) → is_declared_in index name ≡ is_declared entries name
  declared-by name = ap (λ b. bytes_eq name (codes "default") || b) (indexed.named name)

  -- the least set, where each of its names is declared
  pub IsClosure-reached : (asked names : List (List ℕ)) → IsReached (enabled_in index) asked names → AreDeclared index names → IsClosure entries asked names
  IsClosure-reached asked names reached declared = record {
    closed = IsClosed-by asked (λ name. has names name) reached.closed;
    least = λ name h. least-by asked name (reached.least name h);
    in_order = reached.in_order;
    declared = λ name h. sym (declared-by name) ∙ All-contains (λ n. is_declared_in index n ≡ true) names name declared h;
  }

  -- the first undeclared name of the reached ones is the least unknown one
  IsLeastUnknown-first : (asked names before behind : List (List ℕ)) (name : List ℕ) → IsReached (enabled_in index) asked names
      → names ≡ before ++ name ∷ behind → AreDeclared index before → is_declared_in index name ≡ false → IsLeastUnknown entries asked name
  IsLeastUnknown-first asked names before behind name reached place declared undeclared =
      let there : Contains names name = rw place (Contains-append_right before (name ∷ behind) name (0, omega arith, refl)) in
      record {
        member = least-by asked name (reached.least name there);
        undeclared = sym (declared-by name) ∙ undeclared;
        first = λ other least unknown.
            let has_other = least (λ n. has names n) (IsClosed-by asked (λ n. has names n) reached.closed) in
            let not_before = false_from_ne_true (has before other) (λ h.
            true≢false (sym (sym (declared-by other) ∙ All-contains (λ n. is_declared_in index n ≡ true) before other declared (Contains-from_has before other h)) ∙ unknown)) in
            le-from_place before behind name other (rw place at reached.in_order) (rw place at has_other) not_before;
      }

  -- why the copies of the names end early
  pub IsClosureFault-reached : (asked names : List (List ℕ)) (fault : ClosureFault) → IsReached (enabled_in index) asked names → IsUndeclaredFault index names fault → IsClosureFault entries asked fault
  IsClosureFault-reached asked names (Unknown name) reached first =
      IsLeastUnknown-first asked names first.before first.behind name reached first.place first.declared first.undeclared
  IsClosureFault-reached asked names Memory reached first = tt
