-- What an actor does goes on.
use Rattle.std.proofs.Common.{◌≡◌, List, [], ◌∷◌, ◌++◌, refl, sym, ap, ◌∙◌, subst, append_assoc, append-nil}
use Rattle.spm_api.specs.declared.base.Base.{Base}
use Rattle.spm_cache.specs.Passing.{Passing}
use Rattle.spm_cache.specs.Work.{Steps, mine}
use Rattle.spm_cache_core.specs.declared.event.Event.{Event}
use Rattle.spm_outside.specs.Link.{LinkState}
use Rattle.spm_turn.specs.Log.{StartsWith}
use Rattle.spm_flight.specs.Work.{Does, Leaves, Works}

-- what events leave of a link, and then what more of them leave
pub works_on : (base : Base) (added more : List Event) (first second third : LinkState) → Works base added first second → Works base more second third
    → Works base (added ++ more) first third
works_on base [] more first second third none later = subst (λ (link : LinkState). Works base more link third) none later
works_on base (e ∷ es) more first second third works later = (works.0, works.1, works_on base es more works.0 second third works.2 later)

-- a beginning of a beginning is one
starts_on : (first second third : List Event) → StartsWith second first → StartsWith third second → StartsWith third first
starts_on first second third early late =
    (early.0 ++ late.0, late.1 ∙ ap (λ (events : List Event). events ++ late.0) early.1 ∙ append_assoc first early.0 late.0)

-- the steps of a pass go on
pub steps_on : (early middle late : Passing) (added more : List Event) → Steps early middle added → Steps middle late more → Steps early late (added ++ more)
steps_on early middle late added more first later = record {
  same = later.same ∙ ap (λ (pass : Passing). record pass { seen = late.seen; told = late.told }) first.same;
  own = later.own ∙ ap (λ (events : List Event). events ++ more) first.own ∙ append_assoc (mine early) added more;
  starts = starts_on early.seen middle.seen late.seen first.starts later.starts;
}

-- no step
pub no_steps : (pass : Passing) → Steps pass pass []
no_steps pass = record { same = refl; own = sym (append-nil (mine pass)); starts = ([], sym (append-nil pass.seen)) }

-- one event, which leaves the link as it is
pub one_step : (base : Base) (link : LinkState) (old new : Passing) (e : Event) → Leaves base e.act link link → Steps old new (e ∷ [])
    → Does base link link old new (e ∷ [])
one_step base link old new e leaves steps = record { steps = steps; works = (link, leaves, refl) }

-- no event
pub no_event : (base : Base) (link : LinkState) (old new : Passing) → Steps old new [] → Does base link link old new []
no_event base link old new steps = record { steps = steps; works = refl }

-- a wait, which is told how long the history is
pub waits : (base : Base) (link : LinkState) (old new : Passing) → new ≡ record old { told = new.told } → Does base link link old new []
waits base link old new same =
    subst (λ (pass : Passing). Does base link link old pass []) (sym same) (record {
      steps = record { same = refl; own = sym (append-nil (mine old)); starts = ([], sym (append-nil old.seen)) };
      works = refl;
    })

-- who has done nothing
pub does_nothing : (base : Base) (link : LinkState) (pass : Passing) → Does base link link pass pass []
does_nothing base link pass = record { steps = no_steps pass; works = refl }

-- what is done in two steps is done in one
pub does_then : (base : Base) (first second third : LinkState) (early middle late : Passing) (added more : List Event)
    → Does base first second early middle added → Does base second third middle late more → Does base first third early late (added ++ more)
does_then base first second third early middle late added more does later = record {
  steps = steps_on early middle late added more does.steps later.steps;
  works = works_on base added more first second third does.works later.works;
}
