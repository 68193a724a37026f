use Rattle.std.proofs.Common.{rules, subst}
use Rattle.pub_plain.specs.Kept.{state_with}
use Rattle.pub_plain.specs.Turning.{TurnsTo, rules_by}
use Rattle.pub_trail.specs.Turn.{turn_of}
use Rattle.pub_plain.proofs.PlainLemmas.{turned_other, turned_went, turns_turning}
use Rattle.pub_plain.proofs.plain.Plain.turn.Goals.{in-Went, in_default}
use Rattle.pub_plain.proofs.plain.Plain.turn.Goals as goal

pub invariant_of-self-in-Went : goal.invariant_of-self-in-Went
invariant_of-self-in-Went c =
    let told = c.self.inside.told in
    let kept = c.self.inside.lists in
    let it = subst (λ t. TurnsTo t (turn_of (rules_by told) (state_with told.known.nodes kept)) told kept c.turn.new.told c.turn.new.lists) c.in-Went.is
    c.in_ok-turned.ensures.ok in
    turns_turning told c.turn.new.told kept c.turn.new.lists (turn_of (rules_by told) (state_with told.known.nodes kept)) c.self.invariant it.0 it.1

pub returns-clause-ok : goal.returns-clause-ok
returns-clause-ok c = elim c.match-turned.branch [
  | in-Went w ↦
      turned_went c.self.inside.told c.turn.new.told c.self.inside.lists c.turn.new.lists c.self.inside.turns w.saturating_add-self-inside.result
      c.in_ok-turned.turned c.args.self.now c.match-turned.self c.self.view_is w.self-is w.saturating_add-self-inside.ensures w.in-Went.is
      c.in_ok-turned.ensures.ok
  | in_default w ↦
      turned_other c.self.inside.told c.turn.new.told c.self.inside.lists c.turn.new.lists c.self.inside.turns c.in_ok-turned.turned c.args.self.now
      c.match-turned.self c.self.view_is w.self-is (search rules) c.in_ok-turned.ensures.ok
]
