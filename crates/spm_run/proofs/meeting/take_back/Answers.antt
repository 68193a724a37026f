use Rattle.std.proofs.Common.{[], ◌∷◌, ◌++◌, ap, append_assoc, arith, length-append, subst, sym, ◌∙◌}
use Rattle.std.proofs.lemmas.List.{map-append}
use Rattle.std.proofs.lemmas.List.Elements.{filter_map-append}
use Rattle.std.specs.List.{cons_option}
use Rattle.spm_run.specs.Actors.{AreMet, links_of, outcomes_of, passes_of}
use Rattle.spm_run.specs.declared.actor.Actor.{Actor}
use Rattle.spm_run.proofs.meeting.take_back.Goals as goal

-- src/meeting.rt
pub loop-actor-preserved : goal.loop-actor-preserved
loop-actor-preserved g c =
    let before = c.loop-actor.invariant in
    let done = c.loop-actor.yielded in
    let actor = c.in-Some.actor in
    let one_more = length-append done (actor ∷ []) in
    let of_links = c.push_reserved.ensures.len in
    let links_before = before.of_links in
    let of_outcomes = c.keep.ensures.len in
    let outcomes_before = before.of_outcomes in
    record {
      links = c.push_reserved.ensures.items ∙ ap (λ links. links ++ actor.link ∷ []) before.links
          ∙ append_assoc c.args.links.now.items (links_of done) (actor.link ∷ []) ∙ ap (λ links. c.args.links.now.items ++ links) (sym (map-append (λ (a : Actor g.row.L.Denot). a.link) done (actor ∷ [])));
      outcomes = c.keep.ensures.items ∙ ap (λ its. its ++ cons_option actor.outcome []) before.outcomes
          ∙ append_assoc c.args.outcomes.now.items (outcomes_of done) (cons_option actor.outcome [])
          ∙ ap (λ its. c.args.outcomes.now.items ++ its) (sym (filter_map-append (λ (a : Actor g.row.L.Denot). a.outcome) done (actor ∷ [])));
      met = subst (λ passes. AreMet passes c.meet_next.result) (sym (map-append (λ (a : Actor g.row.L.Denot). a.pass) done (actor ∷ [])))
          (c.meet_next.ensures.met (passes_of done) before.met);
      of = c.meet_next.ensures.of;
      room = c.push_reserved.ensures.capacity ∙ before.room;
      of_links = omega (arith, one_more, of_links, links_before);
      of_outcomes = omega (arith, one_more, of_outcomes, outcomes_before);
      few = c.keep.ensures.room ∙ before.few;
      next = (tt, tt);
    }

-- src/meeting.rt
pub loop-actor-preserved-in-Some : goal.loop-actor-preserved-in-Some
loop-actor-preserved-in-Some g c =
    let before = c.loop-actor.invariant in
    let done = c.loop-actor.yielded in
    let actor = c.in-Some.actor in
    let one_more = length-append done (actor ∷ []) in
    let of_links = c.push_reserved.ensures.len in
    let links_before = before.of_links in
    let of_outcomes = c.keep.ensures.len in
    let outcomes_before = before.of_outcomes in
    record {
      links = c.push_reserved.ensures.items ∙ ap (λ links. links ++ actor.link ∷ []) before.links
          ∙ append_assoc c.args.links.now.items (links_of done) (actor.link ∷ []) ∙ ap (λ links. c.args.links.now.items ++ links) (sym (map-append (λ (a : Actor g.row.L.Denot). a.link) done (actor ∷ [])));
      outcomes = c.keep.ensures.items ∙ ap (λ its. its ++ cons_option actor.outcome []) before.outcomes
          ∙ append_assoc c.args.outcomes.now.items (outcomes_of done) (cons_option actor.outcome [])
          ∙ ap (λ its. c.args.outcomes.now.items ++ its) (sym (filter_map-append (λ (a : Actor g.row.L.Denot). a.outcome) done (actor ∷ [])));
      met = subst (λ passes. AreMet passes c.meet_next.result) (sym (map-append (λ (a : Actor g.row.L.Denot). a.pass) done (actor ∷ [])))
          (c.meet_next.ensures.met (passes_of done) before.met);
      of = c.meet_next.ensures.of;
      room = c.push_reserved.ensures.capacity ∙ before.room;
      of_links = omega (arith, one_more, of_links, links_before);
      of_outcomes = omega (arith, one_more, of_outcomes, outcomes_before);
      few = c.keep.ensures.room ∙ before.few;
      next = (tt, tt);
    }
