use Rattle.std.proofs.Common.{◌≡◌, ◌++◌, [], ap, sym, ◌∙◌, arith}
use Rattle.std.proofs.lemmas.Bool.{not-true, not-false, OnFalse_at}
use Rattle.std.proofs.lemmas.Grind.{common_steps}
use Rattle.std.proofs.lemmas.List.{map_push}
use Rattle.spm_trait.specs.Reached.{enabled_in, names_in, names_of}
use Rattle.spm_trait.proofs.Search.{IsSearch-old, IsSearch-new, IsReached-end, left-turn}
use Rattle.spm_trait.proofs.Names.{has-put, has-keys, IsInOrder-from_keys}
use Rattle.spm_trait.proofs.closures.reached.Goals as goal

pub loop-name-preserved-then-not-is_new : goal.loop-name-preserved-then-not-is_new
loop-name-preserved-then-not-is_new c =
    let rest = c.pop.new.self.items in
    let popped = ap names_of c.in-Some.ensures.items ∙ map_push _ rest c.in-Some.name in
    rw (OnFalse_at c.if-not-is_new.true c.in_ok-is_new.ensures.unchanged)
    (IsSearch-old (enabled_in c.args.index.now) c.args.asked.now (names_in c.loop-name.names) (names_of rest) c.in-Some.name.now
    (has-keys c.loop-name.names.keys c.in-Some.name.now ∙ not-false _ (sym c.in_ok-is_new.ensures.added ∙ c.if-not-is_new.true))
    (rw popped at c.loop-name.invariant))

pub loop-name-smaller : goal.loop-name-smaller
loop-name-smaller c =
    let rest = c.pop.new.self.items in
    left-turn (names_in c.loop-name.names) (names_in c.insert.new.self) c.in-Some.name.now
    (has-put c.in-Some.name c.loop-name.names.keys c.insert.new.self.keys c.in_ok-is_new.ensures.keys) c.args.index.now.entries
    (names_of c.loop-name.waiting.items) (names_of rest) (names_of c.push_all.new.waiting.items)
    (has-keys c.loop-name.names.keys c.in-Some.name.now ∙ not-true _ (sym c.in_ok-is_new.ensures.added ∙ c.if-not-is_new.false))
    (ap names_of c.in-Some.ensures.items ∙ map_push _ rest c.in-Some.name)
    (c.in_ok-push_all.ensures ∙ ap (λ names. names_of rest ++ names) c.enabled.ensures)

pub loop-name-preserved : goal.loop-name-preserved
loop-name-preserved c =
    let rest = c.pop.new.self.items in
    let popped = ap names_of c.in-Some.ensures.items ∙ map_push _ rest c.in-Some.name in
    rw (c.in_ok-push_all.ensures ∙ ap (λ names. names_of rest ++ names) c.enabled.ensures)
    (IsSearch-new (enabled_in c.args.index.now) c.args.asked.now (names_in c.loop-name.names) (names_in c.insert.new.self) (names_of rest) c.in-Some.name.now
    (has-put c.in-Some.name c.loop-name.names.keys c.insert.new.self.keys c.in_ok-is_new.ensures.keys)
    (IsInOrder-from_keys c.insert.new.self.keys c.in_ok-is_new.ensures.ordered)
    (rw popped at c.loop-name.invariant))

pub returns : goal.returns
returns c =
    let none : c.loop-name.waiting.items ≡ [] = grind (arith, common_steps) in
    IsReached-end (enabled_in c.args.index.now) c.args.asked.now (names_in c.loop-name.names) (rw none at c.loop-name.invariant)
