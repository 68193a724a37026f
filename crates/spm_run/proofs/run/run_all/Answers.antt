use Rattle.std.proofs.Common.{◌+◌, ◌++◌, length, ap, subst, sym, ◌∙◌}
use Rattle.pub_term.specs.contracts.cause.CausePartialEq.TheImpl.{eq-value}
use Rattle.spm_run.specs.Links.{turned}
use Rattle.spm_run.specs.Stage.{IsStage}
use Rattle.spm_run.proofs.WholeLemmas.{whole_run}
use Rattle.spm_run.proofs.run.run_all.Goals as goal

-- src/run.rt
pub returns-clause-run : goal.returns-clause-run
returns-clause-run g c =
    let jobs = c.args.jobs in
    let workers = c.args.workers in
    let old = c.args.links.now.items in
    let used = c.replace-used.result.items in
    let idle = c.in_ok-idle.idle.items in
    let links = c.play-end.new.links.items in
    let same = c.as_slice-roots.ensures in
    let as_many = ap (λ v. length v.items) c.replace-used.ensures.value ∙ c.in_ok-idle.ensures.used ∙ ap (λ roots. length roots + workers) same in
    let parted = ap (λ roots. turned (length roots) 64 (64 + workers) old) (sym same) ∙ c.in_ok-idle.ensures.parts
    ∙ ap (λ v. v.items ++ idle) (sym c.replace-used.ensures.value) in
    let stage = subst (λ roots. IsStage (length roots) workers c.in_ok-stage.stage) same c.in_ok-stage.ensures in
    let joined = c.join_links.ensures ∙ ap (λ roots. turned (length roots) (length roots + workers) (64 + workers) (links ++ idle)) same in
    whole_run g.L.Link.state eq-value.it c.args.base.now c.args.trust.now workers jobs c.play-end.result.outcomes c.play-end.result.cache old used idle links
    c.join_links.new.links.items c.requires.links c.requires.roots.1 c.requires.workers as_many (c.play-end.ensures.as_many ∙ as_many) parted
    (c.play-end.ensures.run workers stage) joined
