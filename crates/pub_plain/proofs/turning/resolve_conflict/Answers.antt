use Rattle.std.proofs.Common.{◌≡◌, ◌∙◌, All, ap, arith, length, refl, subst, sym}
use Rattle.pub_plain.specs.Kept.{Kept}
use Rattle.pub_trail.specs.KnownOf.{IsEntry}
use Rattle.pub_plain.proofs.NextKept.{trail_entries}
use Rattle.pub_plain.proofs.TurningLemmas.{conflict_comes, conflict_is_asked, first_within, index_is, learns_turn, refutes_turn}
use Rattle.pub_plain.proofs.turning.resolve_conflict.Goals as goal

pub index-requires : goal.index-requires
index-requires c =
    let below = first_within c.args.lists.now c.args.first c.requires.found in
    let long : length c.lists.inside.incompats.items ≡ length c.args.lists.now.incompats = ap (λ (k : Kept). length k.incompats) c.lists.view_is in
    omega (arith, below, long, c.deref-2.ensures.len, ap length c.deref-2.ensures.value)

pub walk_down-requires-clause-entries : goal.walk_down-requires-clause-entries
walk_down-requires-clause-entries c =
    subst (λ sizes. All (IsEntry sizes) c.deref-3.result.now) (sym (c.deref.ensures.value ∙ ap (λ (k : Kept). k.sizes) c.lists.view_is))
    (subst (All (IsEntry c.args.lists.now.sizes)) (sym (c.deref-3.ensures.value ∙ ap (λ (k : Kept). k.trail) c.lists.view_is))
    (trail_entries c.args.told.now c.args.lists.now c.requires.turning))

pub walk_down-requires-clause-asked : goal.walk_down-requires-clause-asked
walk_down-requires-clause-asked c =
    conflict_is_asked c.args.told.now c.args.lists.now c.args.first c.deref.result.now c.deref-2.result.now c.deref-3.result.now c.index.result.now
    c.requires.turning c.requires.found (c.deref.ensures.value ∙ ap (λ (k : Kept). k.sizes) c.lists.view_is)
    (c.deref-2.ensures.value ∙ ap (λ (k : Kept). k.incompats) c.lists.view_is) (c.deref-3.ensures.value ∙ ap (λ (k : Kept). k.trail) c.lists.view_is)
    (index_is c.lists.inside.incompats.items c.args.lists.now.incompats c.args.first c.index.result.now (ap (λ (k : Kept). k.incompats) c.lists.view_is) c.index.ensures)

pub returns-in-Refuted-clause-ok : goal.returns-in-Refuted-clause-ok
returns-in-Refuted-clause-ok c = (
  refutes_turn c.args.told.now c.args.lists.now c.args.first c.in-Refuted.field-0 c.in-Refuted.field-1
      (conflict_comes c.args.lists.now c.args.first c.deref.result.now c.deref-2.result.now c.deref-3.result.now c.index.result.now c.in_ok-ending.ending
      c.requires.found (c.deref.ensures.value ∙ ap (λ (k : Kept). k.sizes) c.lists.view_is)
      (c.deref-2.ensures.value ∙ ap (λ (k : Kept). k.incompats) c.lists.view_is) (c.deref-3.ensures.value ∙ ap (λ (k : Kept). k.trail) c.lists.view_is)
      (index_is c.lists.inside.incompats.items c.args.lists.now.incompats c.args.first c.index.result.now (ap (λ (k : Kept). k.incompats) c.lists.view_is) c.index.ensures)
      c.in_ok-ending.ensures) c.in-Refuted.is,
  record { told_same = refl; kept_same = refl },
)

pub returns-clause-ok : goal.returns-clause-ok
returns-clause-ok c = (
  learns_turn c.args.told.now c.args.lists.now c.go_back.new.self c.args.first c.in-Learned.incompat c.in-Learned.steps c.in-Learned.level
      (conflict_comes c.args.lists.now c.args.first c.deref.result.now c.deref-2.result.now c.deref-3.result.now c.index.result.now c.in_ok-ending.ending
      c.requires.found (c.deref.ensures.value ∙ ap (λ (k : Kept). k.sizes) c.lists.view_is)
      (c.deref-2.ensures.value ∙ ap (λ (k : Kept). k.incompats) c.lists.view_is) (c.deref-3.ensures.value ∙ ap (λ (k : Kept). k.trail) c.lists.view_is)
      (index_is c.lists.inside.incompats.items c.args.lists.now.incompats c.args.first c.index.result.now (ap (λ (k : Kept). k.incompats) c.lists.view_is) c.index.ensures)
      c.in_ok-ending.ensures) c.in-Learned.is (c.in_ok-go_back-in-Learned.ensures.ok c.args.told.now.known.nodes),
  refl,
)
